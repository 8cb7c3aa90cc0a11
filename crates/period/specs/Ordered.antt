-- The order of periods: what a comparison tells of two lengths, and that it is a total order.
use Rattle.std.proofs.Common.{◌≡◌, ◌*◌, Bool, true, ◌&&◌, ◌==◌, Some, Less, Equal, Greater, refl, ap, sym, ◌∙◌, subst, eqb-true, eq-eqb}
use Rattle.std.specs.declared.cmp.Ordering.{Ordering}
use Rattle.std.specs.Ordering.{MatchOrdering, is_eq}
use Rattle.std.specs.Cmp.{IsTotalOrder, ranks, nat_cmp_is, nat_cmp_total, both_ways, Equal-is, first_so, second_so}
use Rattle.fractions.specs.Fraction.{Fraction, Shorter, AsLong}
use Rattle.fractions.proofs.Order.{shorter_not_longer_trans, shorter_is_not_longer}
use Rattle.period.specs.declared.period.Period.{Period}
use Rattle.period.specs.Periods.{fraction, Compared, comparison}
use Rattle.period.specs.Lengths.{AllLowest, one_period}

told : (p q : Fraction) (o : Ordering) → MatchOrdering o (Shorter p q) (AsLong p q) (Shorter q p) → Compared p q (Some o)
told p q Less h = h
told p q Equal h = h
told p q Greater h = h

-- the comparison of two lengths tells how they compare
pub by_length : (p q : Fraction) → Compared p q (Some (comparison p q))
by_length p q = told p q (comparison p q) (ranks (p.num * q.den) (q.num * p.den))

less_is : (p q : Fraction) → comparison p q ≡ Less → Shorter p q
less_is p q e = subst (λ o. Compared p q (Some o)) e (by_length p q)

pub equal_is : (p q : Fraction) → comparison p q ≡ Equal → AsLong p q
equal_is p q e = subst (λ o. Compared p q (Some o)) e (by_length p q)

is_less : (p q : Fraction) → Shorter p q → comparison p q ≡ Less
is_less p q h = sym (nat_cmp_is (p.num * q.den) (q.num * p.den) Less h)

pub is_equal : (p q : Fraction) → AsLong p q → comparison p q ≡ Equal
is_equal p q h = sym (nat_cmp_is (p.num * q.den) (q.num * p.den) Equal h)

less_chain : (p q r : Period) → comparison (fraction p) (fraction q) ≡ Less → comparison (fraction q) (fraction r) ≡ Less → comparison (fraction p) (fraction r) ≡ Less
less_chain p q r e f =
    let later : Shorter (fraction q) (fraction r) = less_is (fraction q) (fraction r) f in
    is_less (fraction p) (fraction r) (shorter_not_longer_trans (fraction p) (fraction q) (fraction r) r.parted (less_is (fraction p) (fraction q) e) (shorter_is_not_longer (fraction q) (fraction r) later))

-- periods are in a total order, since those of one length are one
pub ordered : AllLowest → IsTotalOrder (λ p q. comparison (fraction p) (fraction q))
ordered lowest = record {
  antisymm = λ p q. nat_cmp_total.antisymm (p.numerator * q.denominator) (q.numerator * p.denominator);
  trans = less_chain;
  congr = λ p q r e. ap (λ (s : Period). comparison (fraction s) (fraction r)) (one_period lowest p q (equal_is (fraction p) (fraction q) e));
}

-- `==` holds of two periods exactly when they compare as equal
pub level : AllLowest → (p q : Period) → ((p.numerator == q.numerator) && (p.denominator == q.denominator)) ≡ is_eq (comparison (fraction p) (fraction q))
level lowest p q =
    both_ways
    ((p.numerator == q.numerator) && (p.denominator == q.denominator))
    (is_eq (comparison (fraction p) (fraction q)))
    (λ e. ap is_eq (is_equal (fraction p) (fraction q) (same_length e)))
    (λ e. ap (same_numbers p) (sym (one_period lowest p q (equal_is (fraction p) (fraction q) ((Equal-is (comparison (fraction p) (fraction q))).0 e)))) ∙ itself)
  where
    same_numbers : Period → Period → Bool
    same_numbers r s = (r.numerator == s.numerator) && (r.denominator == s.denominator)

    itself : same_numbers p p ≡ true
    itself i = eq-eqb p.numerator p.numerator refl i && eq-eqb p.denominator p.denominator refl i

    same_length : same_numbers p q ≡ true → AsLong (fraction p) (fraction q)
    same_length e i = eqb-true p.numerator q.numerator (first_so (p.numerator == q.numerator) (p.denominator == q.denominator) e) i * sym (eqb-true p.denominator q.denominator (second_so (p.numerator == q.numerator) (p.denominator == q.denominator) e)) i

-- `partial_cmp` answers what `cmp` does
pub agreed : (p q : Period) → Some (comparison (fraction p) (fraction q)) ≡ Some (comparison (fraction p) (fraction q))
agreed p q = refl
