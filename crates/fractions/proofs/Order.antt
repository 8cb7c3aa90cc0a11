-- The order of lengths.
use Rattle.std.proofs.Common.{ℕ, ◌*◌, ◌<◌, ◌≤◌, ◌⊎◌, sym, refl, le_of_eq, le_refl, le_of_lt, mul-le-mul_right, le_antisymm, lt_of_mul-lt-mul_right, mul-lt-mul_of_pos_right, mul_right_comm, le_of_mul-le-mul_right, arith}
use Rattle.std.proofs.lemmas.Bool.{cases_lt}
use Rattle.fractions.specs.Fraction.{Fraction, NotLonger, Shorter, AsLong}

-- ---- products, with a / b, c / d and e / f for the three lengths

le_le : (a b c d e f : ℕ) → 0 < d → a * d ≤ c * b → c * f ≤ e * d → a * f ≤ e * b
le_le a b c d e f pos h k =
    le_of_mul-le-mul_right {k = d} (omega (arith, mul_right_comm a f d, mul-le-mul_right f h, mul_right_comm c b f, mul-le-mul_right b k, mul_right_comm e d b)) pos

lt_le : (a b c d e f : ℕ) → 0 < f → a * d < c * b → c * f ≤ e * d → a * f < e * b
lt_le a b c d e f pos h k =
    lt_of_mul-lt-mul_right d (omega (arith, mul_right_comm a f d, mul-lt-mul_of_pos_right {k = f} h pos, mul_right_comm c b f, mul-le-mul_right b k, mul_right_comm e d b))

le_lt : (a b c d e f : ℕ) → 0 < b → a * d ≤ c * b → c * f < e * d → a * f < e * b
le_lt a b c d e f pos h k =
    lt_of_mul-lt-mul_right d (omega (arith, mul_right_comm a f d, mul-le-mul_right f h, mul_right_comm c b f, mul-lt-mul_of_pos_right {k = b} k pos, mul_right_comm e d b))

-- ---- the order

pub not_longer_refl : (p : Fraction) → NotLonger p p
not_longer_refl p = le_refl (p.num * p.den)

pub not_longer_trans : (p q r : Fraction) → 0 < q.den → NotLonger p q → NotLonger q r → NotLonger p r
not_longer_trans p q r pos h k = le_le p.num p.den q.num q.den r.num r.den pos h k

pub shorter_not_longer_trans : (p q r : Fraction) → 0 < r.den → Shorter p q → NotLonger q r → Shorter p r
shorter_not_longer_trans p q r pos h k = lt_le p.num p.den q.num q.den r.num r.den pos h k

pub not_longer_shorter_trans : (p q r : Fraction) → 0 < p.den → NotLonger p q → Shorter q r → Shorter p r
not_longer_shorter_trans p q r pos h k = le_lt p.num p.den q.num q.den r.num r.den pos h k

pub shorter_or_not : (p q : Fraction) → Shorter p q ⊎ NotLonger q p
shorter_or_not p q = cases_lt (p.num * q.den) (q.num * p.den)

pub shorter_not : (p q : Fraction) → Shorter p q → NotLonger q p → ⊥
shorter_not p q h k = omega arith

pub shorter_is_not_longer : (p q : Fraction) → Shorter p q → NotLonger p q
shorter_is_not_longer p q h = le_of_lt h

pub not_longer_antisym : (p q : Fraction) → NotLonger p q → NotLonger q p → AsLong p q
not_longer_antisym p q h k = le_antisymm h k

-- ---- equal lengths

pub as_long_refl : (p : Fraction) → AsLong p p
as_long_refl p = refl

pub as_long_sym : (p q : Fraction) → AsLong p q → AsLong q p
as_long_sym p q e = sym e

pub as_long_not_longer : (p q : Fraction) → AsLong p q → NotLonger p q
as_long_not_longer p q e = le_of_eq e

pub as_long_trans : (p q r : Fraction) → 0 < q.den → AsLong p q → AsLong q r → AsLong p r
as_long_trans p q r pos e f =
    le_antisymm (not_longer_trans p q r pos (le_of_eq e) (le_of_eq f)) (not_longer_trans r q p pos (le_of_eq (sym f)) (le_of_eq (sym e)))

-- an equal length in the place of the first, and of the second
pub not_longer_left : (p q r : Fraction) → 0 < p.den → AsLong p q → NotLonger p r → NotLonger q r
not_longer_left p q r pos e h = not_longer_trans q p r pos (le_of_eq (sym e)) h

pub not_longer_right : (p q r : Fraction) → 0 < q.den → AsLong q r → NotLonger p q → NotLonger p r
not_longer_right p q r pos e h = not_longer_trans p q r pos h (le_of_eq e)

pub shorter_left : (p q r : Fraction) → 0 < q.den → AsLong p q → Shorter p r → Shorter q r
shorter_left p q r pos e h = not_longer_shorter_trans q p r pos (le_of_eq (sym e)) h

pub shorter_right : (p q r : Fraction) → 0 < r.den → AsLong q r → Shorter p q → Shorter p r
shorter_right p q r pos e h = shorter_not_longer_trans p q r pos h (le_of_eq e)
