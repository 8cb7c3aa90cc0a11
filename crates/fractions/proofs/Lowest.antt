-- Lowest terms: Euclid's remainders, and the one fraction in lowest terms of each length.
use Rattle.std.proofs.Common.{◌≡◌, ℕ, zero, suc, ◌+◌, ◌*◌, ◌/◌, ◌%◌, ◌<◌, ◌≤◌, sym, ap, ◌∙◌, subst, inl, inr, mod-lt, mul_assoc, mul_comm, add-mul, eq-zero-or-pos, one-mul, mul-one, div-le_self, mul_right_comm, arith}
use Prim.Native.Nat.{◌∣◌}
use native.Mathlib.Nat.{div-add-mod, eq_of_mul-eq-mul_right, dvd_refl, dvd-zero, dvd-mul_left, dvd-mul_right, dvd-mul_right_of_dvd, dvd-add_iff_right, dvd-mod_iff, dvd_antisymm, pos_of_dvd_of_pos, eq-one_of_dvd-one, mul-div_cancel', dvd_of_mul-dvd-mul_left, mul-dvd-mul_left}
use Rattle.fractions.specs.Fraction.{Fraction, AsLong, Within, Coprime, GreatestDivisor, IsPeriod}

pub greatest_zero : (a : ℕ) → GreatestDivisor a 0 a
greatest_zero a = record { divides_first = dvd_refl a; divides_second = dvd-zero a; greatest = λ d f s. f }

pub greatest_step : (a b g : ℕ) → GreatestDivisor b (a % b) g → GreatestDivisor a b g
greatest_step a b g w = record {
  divides_first = (dvd-mod_iff g {m = a} {n = b} w.divides_first).0 w.divides_second;
  divides_second = w.divides_first;
  greatest = λ d f s. w.greatest d s ((dvd-mod_iff d {m = a} {n = b} s).1 f);
}

pub greatest_positive : (a b g : ℕ) → 0 < b → GreatestDivisor a b g → 0 < g
greatest_positive a b g h w = pos_of_dvd_of_pos w.divides_second h

pub greatest_whole : (a b g : ℕ) → GreatestDivisor a b g → (g * (a / g) ≡ a) × (g * (b / g) ≡ b)
greatest_whole a b g w = (mul-div_cancel' g {m = a} w.divides_first, mul-div_cancel' g {m = b} w.divides_second)

scaled : (a g d : ℕ) → g ∣ a → d ∣ a / g → g * d ∣ a
scaled a g d h f = rw (sym (mul-div_cancel' g {m = a} h)) (mul-dvd-mul_left d g f)

-- what divides both quotients, times the greatest divisor, divides the greatest divisor
pub greatest_coprime : (a b g : ℕ) → 0 < b → GreatestDivisor a b g → Coprime (a / g) (b / g)
greatest_coprime a b g h w d f s =
    let all : g * d ∣ g = w.greatest (g * d) (scaled a g d w.divides_first f) (scaled b g d w.divides_second s) in
    let one : g * d ∣ g * 1 = rw (mul-one g) all in
    eq-one_of_dvd-one (dvd_of_mul-dvd-mul_left {k = g} d {n = 1} (greatest_positive a b g h w) one)

-- a fraction within the limits, divided by the greatest divisor of its two numbers, is a period as long
pub reduced : (n d g : ℕ) → Within (record { num = n; den = d }) → GreatestDivisor n d g → IsPeriod (record { num = n / g; den = d / g }) × AsLong (record { num = n / g; den = d / g }) (record { num = n; den = d })
reduced n d g v w =
    let top = (greatest_whole n d g w).0 in
    let low = (greatest_whole n d g w).1 in
    let less = div-le_self n g in
    let fewer = div-le_self d g in
    let divides : d / g ∣ d = subst (λ (x : ℕ). d / g ∣ x) low (dvd-mul_left (d / g) g) in (
      record {
        within = record {
          few_units = omega (arith, v.few_units);
          parted = pos_of_dvd_of_pos divides v.parted;
          coarse = omega (arith, v.coarse);
        };
        lowest_terms = greatest_coprime n d g v.parted w;
      },
      ap (λ (x : ℕ). n / g * x) (sym low) ∙ sym (mul_assoc (n / g) g (d / g)) ∙ ap (λ (x : ℕ). x * (d / g)) (mul_comm (n / g) g ∙ top),
    )

pub coprime_one : (n : ℕ) → Coprime n 1
coprime_one n d f s = eq-one_of_dvd-one s

-- a common divisor of a and b that takes over what divides both a * k and b * k
abbrev Common : ℕ → ℕ → Type 0
Common a b = (g : ℕ) × (g ∣ a) × (g ∣ b) × ((k x : ℕ) → x ∣ a * k → x ∣ b * k → x ∣ g * k)

common_zero : (a b : ℕ) → b ≡ 0 → Common a b
common_zero a b e = (a, dvd_refl a, rw e (dvd-zero a), λ k x f s. f)

rest_times : (a b k : ℕ) → a * k ≡ b * k * (a / b) + a % b * k
rest_times a b k = ap (λ n. n * k) (sym (div-add-mod a b)) ∙ add-mul (b * (a / b)) (a % b) k ∙ ap (λ n. n + a % b * k) (mul_right_comm b (a / b) k)

common_rest : (a b : ℕ) → Common b (a % b) → Common a b
common_rest a b (g, f, s, all) = (
  g,
  (dvd-mod_iff g {m = a} {n = b} f).0 s,
  f,
  λ k x l r. all k x r ((dvd-add_iff_right x {m = b * k * (a / b)} {n = a % b * k} (dvd-mul_right_of_dvd x {b = b * k} r (a / b))).1 (rw (sym (rest_times a b k)) l)),
)

common : (n a b : ℕ) → b ≤ n → Common a b
common zero a b h = common_zero a b (omega arith)
common (suc n) a b h =
    elim (eq-zero-or-pos b) [
      | inl e ↦ common_zero a b e
      | inr p ↦ let less = mod-lt a {m = b} p in common_rest a b (common n b (a % b) (omega arith))
    ]

pub coprime_divides : (a b k : ℕ) → Coprime a b → b ∣ a * k → b ∣ k
coprime_divides a b k w h =
    let c : Common a b = common b a b (omega arith) in
    let one : c.0 ≡ 1 = w c.0 c.1 c.2 in
    let times : b ∣ c.0 * k = c.3 k b h (dvd-mul_right b k) in
    rw (sym (one-mul k)) (rw (sym one) times)

-- the denominator of a period divides that of each fraction as long
den_divides : (p q : Fraction) → IsPeriod p → AsLong p q → p.den ∣ q.den
den_divides p q w e = coprime_divides p.num p.den q.den w.lowest_terms (rw e (dvd-mul_left p.den q.num))

pub lowest_once : (p q : Fraction) → IsPeriod p → IsPeriod q → AsLong p q → p ≡ q
lowest_once p q v w e =
    let d : p.den ≡ q.den = dvd_antisymm (den_divides p q v e) (den_divides q p w (sym e)) in
    let n : p.num ≡ q.num = eq_of_mul-eq-mul_right p.den v.within.parted p.num q.num (ap (λ x. p.num * x) d ∙ e) in
    let f : ℕ → ℕ → Fraction = λ x y. record { num = x; den = y } in
    ap (λ x. f x p.den) n ∙ ap (λ y. f q.num y) d
