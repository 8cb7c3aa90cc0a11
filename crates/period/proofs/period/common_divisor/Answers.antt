use Rattle.std.proofs.Common.{◌≡◌, arith}
use Rattle.fractions.proofs.Lowest.{greatest_zero, greatest_step}
use Rattle.period.proofs.period.common_divisor.Goals as goal

pub loop-smaller-preserved : goal.loop-smaller-preserved
loop-smaller-preserved c g w = c.loop-smaller.invariant g (greatest_step _ _ g w)

pub returns : goal.returns
returns c =
    let end : c.loop-smaller.smaller ≡ 0 = omega arith in
    c.loop-smaller.invariant c.loop-smaller.larger (rw end (greatest_zero c.loop-smaller.larger))
