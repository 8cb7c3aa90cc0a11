use Rattle.std.proofs.Common.{rules, of_calls, ◌≡◌, ◌∷◌, eqb, sym, ◌∙◌}
use Rattle.std.specs.Slice.Iter.{split_inclusive_rest}
use Rattle.std.proofs.lemmas.List.Sorted.{answers_always}
use Rattle.std.proofs.lemmas.List.{nil_from_length}
use Rattle.std.proofs.lemmas.Result.{err_from_is_err_and}
use Rattle.dumps.specs.Spelling.{line_feed, lines}
use Rattle.loader.proofs.Cuts.{line_cut}
use Rattle.loader.proofs.Runs.{reached_start, reached_more, at_line, at_line-from_map_err, refusing, finishing}
use Rattle.loader.proofs.text.read.Goals.{In-Some, After-map_err}
use Rattle.loader.proofs.text.read.Goals as goal

cut : (c : In-Some) → lines (split_inclusive_rest c.loop-line.line-iterator) ≡ c.in-Some.line.now ∷ lines (split_inclusive_rest c.next.new.self)
cut c =
    let steps = c.in-Some.ensures.steps in
    line_cut _ _ _ steps.1.0 steps.0 steps.1.1 steps.2 (steps.1.2 (λ b. eqb b line_feed) (answers_always _ _ _ (λ f a r f' h. search rules))).1

mapped : (c : After-map_err) → c.map_err.result ≡ at_line c.take.result c.loop-line.number
mapped c = at_line-from_map_err _ _ _ _ c.map_err.ensures.cases (λ f e h. search rules)

pub loop-line-init : goal.loop-line-init
loop-line-init c = (search of_calls, tt, rw (c.into_iter-line-iterator.ensures.into_iter_gives, c.split_inclusive-line-items.ensures.rest, c.new-assembly.ensures) (reached_start c.args.text.now))

pub returns-in_err-map_err : goal.returns-in_err-map_err
returns-in_err-map_err c =
    let p = err_from_is_err_and c.from_residual.result c.from_residual.ensures.1 in
    let at = goal.at.returns-in_err-map_err c in
    let steps = c.in-Some.ensures.steps in
    rw (p.1, p.2) (refusing _ _ _ _ _ _ _ c.loop-line.invariant.2 steps.0 (cut at.In-Some) _ _ steps.2 c.take.ensures (sym c.in_err-map_err.was ∙ mapped at.After-map_err))

pub loop-line-preserved : goal.loop-line-preserved
loop-line-preserved c =
    let at = goal.at.loop-line-preserved c in
    (search rules, tt, reached_more _ _ _ _ _ _ _ c.loop-line.invariant.2 c.in-Some.ensures.steps.0 (cut at.In-Some) _ _ c.take.ensures (sym c.in_ok-map_err.was ∙ mapped at.After-map_err))

pub returns : goal.returns
returns c =
    let out : c.map_err-2.result ≡ at_line c.finish.result c.loop-line.number = at_line-from_map_err _ _ _ _ c.map_err-2.ensures.cases (λ f e h. search rules) in
    let none = nil_from_length _ c.in-None.ensures.steps.0 in
    rw out (finishing _ _ _ _ (rw none at c.loop-line.invariant.2) c.finish.ensures)
