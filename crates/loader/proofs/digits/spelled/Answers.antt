use Rattle.std.proofs.Common.{◌≡◌, ◌<◌, ◌%◌, length, refl, arith, ◌∙◌}
use Rattle.std.proofs.lemmas.Bool.Decides.{nat_tests}
use Rattle.loader.proofs.Decoded.{after_none, after_more, decoded_by_chunks, decoded_odd}
use Rattle.loader.proofs.digits.spelled.Goals as goal

pub returns-then-not-is_empty : goal.returns-then-not-is_empty
returns-then-not-is_empty c =
    let digits = c.args.digits.now in
    let odd : 0 < length digits % 2 = grind (arith, nat_tests) in
    (refl, decoded_odd digits odd)

pub loop-high-init : goal.loop-high-init
loop-high-init c =
    let digits = c.args.digits.now in
    let even : length digits % 2 ≡ 0 = grind (arith, nat_tests) in
    rw (c.new-bytes.ensures.items, c.as_chunks.ensures.front) (decoded_by_chunks digits even ∙ after_none _)

pub loop-high-preserved : goal.loop-high-preserved
loop-high-preserved c = rw c.in_ok-push.ensures.items (c.loop-high.invariant ∙ after_more _ _ _ c.loop-high-test.true _ _ c.in_ok-value.ensures c.in_ok-value-2.ensures)
