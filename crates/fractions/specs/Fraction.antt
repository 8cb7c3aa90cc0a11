-- A length of time as a fraction of two whole numbers. Two lengths compare by cross multiplication, so that nothing is divided.
use Rattle.std.specs.Prelude.{◌≡◌, ℕ, ◌*◌, ◌<◌, ◌≤◌}
use Rattle.std.specs.Int.{◌∣◌}
use Rattle.fractions.specs.Limits.{most_num, most_den}

pub record Fraction : Type 0 where
  pub num : ℕ
  pub den : ℕ

abbrev pub whole : ℕ → Fraction
whole n = record { num = n; den = 1 }

abbrev pub NotLonger : Fraction → Fraction → Type 0
NotLonger p q = p.num * q.den ≤ q.num * p.den

abbrev pub Shorter : Fraction → Fraction → Type 0
Shorter p q = p.num * q.den < q.num * p.den

abbrev pub AsLong : Fraction → Fraction → Type 0
AsLong p q = p.num * q.den ≡ q.num * p.den

-- a fraction within the limits of a period
pub record Within (p : Fraction) : Type 0 where
  pub few_units : p.num ≤ most_num
  pub parted : 0 < p.den
  pub coarse : p.den ≤ most_den

-- two numbers without a common divisor
abbrev pub Coprime : ℕ → ℕ → Type 0
Coprime a b = (d : ℕ) → d ∣ a → d ∣ b → d ≡ 1

-- a period: within the limits and in lowest terms
pub record IsPeriod (p : Fraction) : Type 0 where
  pub within : Within p
  pub lowest_terms : Coprime p.num p.den

-- the greatest common divisor: each common divisor divides it
pub record GreatestDivisor (a b g : ℕ) : Type 0 where
  pub divides_first : g ∣ a
  pub divides_second : g ∣ b
  pub greatest : (d : ℕ) → d ∣ a → d ∣ b → d ∣ g
