use Rattle.std.proofs.Common.{◌≡◌, ◌<◌, Bool, true, false, cond, refl, rules, arith}
use Rattle.std.specs.Ordering.{is_lt}
use Rattle.fractions.specs.Fraction.{Fraction, AsLong}
use Rattle.period.specs.declared.period.Period.{Period}
use Rattle.period.specs.Periods.{fraction, comparison}
use Rattle.period.proofs.Comparisons.{lt_true, lt_false}
use Rattle.boundbook.specs.Bound.{longer}
use Rattle.boundbook.specs.BindingLemmas.{longer_first, longer_second}
use Rattle.boundbook.proofs.bound.BoundBook.floor.Goals as goal

max_longer : (p q : Period) (first second : Fraction) (r : Bool) → r ≡ is_lt (comparison (fraction q) (fraction p)) → 0 < first.den → 0 < second.den → AsLong (fraction p) first → AsLong (fraction q) second → AsLong (fraction (cond r p q)) (longer first second)
max_longer p q first second true is a b same like =
    let shorter = lt_true (fraction q) (fraction p) true is refl in
    longer_first (fraction p) (fraction q) first second p.parted q.parted a b same like (omega arith)
max_longer p q first second false is a b same like = longer_second (fraction p) (fraction q) first second p.parted q.parted same like (lt_false (fraction q) (fraction p) false is refl)

pub returns : goal.returns
returns g c =
    let longest = max_longer c.floor.result c.floor-2.result _ _ _ refl (g.met.A.Book.sound c.args.self.now.first).floor_within.parted (g.met.B.Book.sound c.args.self.now.second).floor_within.parted c.floor.ensures c.floor-2.ensures in
    search (rules, longest)
