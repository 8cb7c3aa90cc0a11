-- Which fraction a period is, which two numbers name one, and how two periods compare.
use Rattle.std.specs.Prelude.{◌≡◌, ℕ, ◌*◌, Some, None, Ok, Err, Option, Result}
use Rattle.std.specs.declared.cmp.Ordering.TheVariants.{Less, Equal, Greater}
use Rattle.std.specs.declared.cmp.Ordering.{Ordering}
use Rattle.std.specs.Ordering.{nat_cmp}
use Rattle.fractions.specs.Fraction.{Fraction, Shorter, AsLong, Within}
use Rattle.period.specs.declared.period.Period.{Period}
use Rattle.period.specs.declared.faults.NotAPeriod.{NotAPeriod}

abbrev pub fraction : Period → Fraction
fraction p = record { num = p.numerator; den = p.denominator }

-- two numbers as they are written
abbrev pub written : ℕ → ℕ → Fraction
written n d = record { num = n; den = d }

-- refused exactly when the numbers as written are outside the limits; else a period as long
abbrev pub Named : ℕ → ℕ → Result Period NotAPeriod → Type 0
Named n d (Ok p) = Within (written n d) × AsLong (fraction p) (written n d)
Named n d (Err e) = Within (written n d) → ⊥

-- there is always an answer
abbrev pub Compared : Fraction → Fraction → Option Ordering → Type 0
Compared p q None = ⊥
Compared p q (Some Less) = Shorter p q
Compared p q (Some Equal) = AsLong p q
Compared p q (Some Greater) = Shorter q p

-- how two lengths compare, by cross multiplication
abbrev pub comparison : Fraction → Fraction → Ordering
comparison p q = nat_cmp (p.num * q.den) (q.num * p.den)

abbrev pub OnePeriodPerLength : Type 0
OnePeriodPerLength = (p q : Period) → AsLong (fraction p) (fraction q) → p ≡ q
