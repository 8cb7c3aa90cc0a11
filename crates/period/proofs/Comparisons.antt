-- What the tests of two periods tell of their lengths: `lt`, `gt`, `le` and `ge` are `<`, `>`, `<=` and `>=`.
use Rattle.std.proofs.Common.{◌≡◌, Bool, true, false, Some, sym, ap, ◌∙◌, arith}
use Rattle.std.specs.declared.cmp.Ordering.{Ordering}
use Rattle.std.specs.Cmp.{Equal-is}
use Rattle.std.specs.Ordering.{is_eq, is_lt, is_gt, is_le, is_ge, is_some_and}
use Rattle.std.proofs.lemmas.Bool.Decides.{nat_tests}
use Rattle.fractions.specs.Fraction.{Fraction, Shorter, NotLonger, AsLong}
use Rattle.period.specs.declared.period.Period.{Period}
use Rattle.period.specs.contracts.period.PeriodPartialEq.TheImpl.{ghosts}
use Rattle.period.specs.Periods.{fraction, comparison}
use Rattle.period.proofs.Lengths.{one_per_length}
use Rattle.period.specs.Ordered.{equal_is, is_equal, level}

-- a test of the answer
abbrev Tests : Fraction → Fraction → (Ordering → Bool) → Bool → Type 0
Tests p q test r = r ≡ is_some_and test (Some (comparison p q))

pub lt_true : (p q : Fraction) (r : Bool) → Tests p q is_lt r → r ≡ true → Shorter p q
lt_true p q r h e = grind (arith, nat_tests)

pub lt_false : (p q : Fraction) (r : Bool) → Tests p q is_lt r → r ≡ false → NotLonger q p
lt_false p q r h e = grind (arith, nat_tests)

pub gt_true : (p q : Fraction) (r : Bool) → Tests p q is_gt r → r ≡ true → Shorter q p
gt_true p q r h e = grind (arith, nat_tests)

pub gt_false : (p q : Fraction) (r : Bool) → Tests p q is_gt r → r ≡ false → NotLonger p q
gt_false p q r h e = grind (arith, nat_tests)

pub le_true : (p q : Fraction) (r : Bool) → Tests p q is_le r → r ≡ true → NotLonger p q
le_true p q r h e = grind (arith, nat_tests)

pub le_false : (p q : Fraction) (r : Bool) → Tests p q is_le r → r ≡ false → Shorter q p
le_false p q r h e = grind (arith, nat_tests)

pub ge_true : (p q : Fraction) (r : Bool) → Tests p q is_ge r → r ≡ true → NotLonger q p
ge_true p q r h e = grind (arith, nat_tests)

pub ge_false : (p q : Fraction) (r : Bool) → Tests p q is_ge r → r ≡ false → Shorter p q
ge_false p q r h e = grind (arith, nat_tests)

-- `==` is of one length, and of one period
pub eq_true : (p q : Period) (r : Bool) → (r ≡ ghosts.eq p q) → r ≡ true → p ≡ q
eq_true p q r h v =
    let tied : is_eq (comparison (fraction p) (fraction q)) ≡ true = sym (level (λ s. s.lowest_terms) p q) ∙ sym h ∙ v in
    one_per_length p q (equal_is (fraction p) (fraction q) ((Equal-is (comparison (fraction p) (fraction q))).0 tied))

pub eq_false : (p q : Period) (r : Bool) → (r ≡ ghosts.eq p q) → r ≡ false → AsLong (fraction p) (fraction q) → ⊥
eq_false p q r h v e =
    let tied : r ≡ true = h ∙ level (λ s. s.lowest_terms) p q ∙ ap is_eq (is_equal (fraction p) (fraction q) e) in
    grind arith
