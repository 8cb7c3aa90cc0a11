-- What the type of a period keeps, and that a period is known by its length.
use Rattle.std.proofs.Common.{◌≡◌}
use Rattle.fractions.specs.Fraction.{AsLong, IsPeriod}
use Rattle.period.specs.declared.period.Period.{Period}
use Rattle.period.specs.Periods.{fraction}
use Rattle.period.specs.Lengths.{kept, one_period}
pub use Rattle.period.specs.Lengths.{same_period}

pub is_period : (p : Period) → IsPeriod (fraction p)
is_period = kept (λ p. p.lowest_terms)

pub one_per_length : (p q : Period) → AsLong (fraction p) (fraction q) → p ≡ q
one_per_length = one_period (λ p. p.lowest_terms)
