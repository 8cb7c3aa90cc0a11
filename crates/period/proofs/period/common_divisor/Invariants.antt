use Rattle.std.proofs.Common.{ℕ}
use Rattle.fractions.specs.Fraction.{GreatestDivisor}
use Rattle.period.proofs.period.common_divisor.Given as goal

-- what is the greatest divisor of the two numbers left is that of the first two
abbrev pub invariant-loop-smaller : goal.invariant-loop-smaller
invariant-loop-smaller l = (g : ℕ) → GreatestDivisor l.larger l.smaller g → GreatestDivisor l.first l.second g

abbrev pub decreases-loop-smaller : goal.decreases-loop-smaller
decreases-loop-smaller l = l.smaller
