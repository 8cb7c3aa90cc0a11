-- Each assignment has one period: the largest of the floor and the needs.
use Rattle.std.proofs.Common.{◌≡◌, ℕ, zero, suc, ◌<◌, List, [], ◌∷◌, Some, refl, inl, inr, arith}
use Rattle.std.specs.List.{slice_get}
use Rattle.fractions.specs.Fraction.{Fraction, NotLonger, Shorter, AsLong, Within}
use Rattle.fractions.proofs.Order.{not_longer_refl, not_longer_trans, not_longer_left, not_longer_antisym, shorter_or_not, shorter_is_not_longer, as_long_refl, as_long_sym, as_long_trans}
use Rattle.checks.specs.Model.{Check, Model, Stands, Sound}
use Rattle.checks.specs.Scheduling.{Meets, Reached, PeriodOf, need_under}
use Rattle.checks.specs.Laws.{OnePeriodEach}
use Rattle.checks.proofs.Assigned.{Exist, exist_all, need_within}

-- a book with other checks
abbrev with_checks : Model → List Check → Model
with_checks book cs = record { flops = book.flops; domains = book.domains; floor = book.floor; checks = cs }

abbrev Own : Model → List ℕ → Type 0
Own book domains = (period : Fraction) × Within period × PeriodOf book domains period

-- one check more in front, whose need is above the others, or not
taken : (book : Model) (domains : List ℕ) (c : Check) (cs : List Check) (period : Fraction) → 0 < period.den → Meets (with_checks book cs) domains period → Shorter period (need_under domains c) → Meets (with_checks book (c ∷ cs)) domains (need_under domains c)
taken book domains c cs period pos met short = record {
  floor = not_longer_trans book.floor period (need_under domains c) pos met.floor longer;
  needs = each;
}
  where
    longer : NotLonger period (need_under domains c)
    longer = shorter_is_not_longer period (need_under domains c) short

    each : (place : ℕ) (d : Check) → Stands (with_checks book (c ∷ cs)) place d → NotLonger (need_under domains d) (need_under domains c)
    each zero d stands = let same : c ≡ d = cc in rw same (not_longer_refl (need_under domains d))
    each (suc k) d stands = not_longer_trans (need_under domains d) period (need_under domains c) pos (met.needs k d stands) longer

passed : (book : Model) (domains : List ℕ) (c : Check) (cs : List Check) (period : Fraction) → Meets (with_checks book cs) domains period → NotLonger (need_under domains c) period → Meets (with_checks book (c ∷ cs)) domains period
passed book domains c cs period met long = record { floor = met.floor; needs = each }
  where
    each : (place : ℕ) (d : Check) → Stands (with_checks book (c ∷ cs)) place d → NotLonger (need_under domains d) period
    each zero d stands = let same : c ≡ d = cc in rw (← same) long
    each (suc k) d stands = met.needs k d stands

reached_more : (book : Model) (domains : List ℕ) (c : Check) (cs : List Check) (period : Fraction) → Reached (with_checks book cs) domains period → Reached (with_checks book (c ∷ cs)) domains period
reached_more book domains c cs period (inl at-floor) = inl at-floor
reached_more book domains c cs period (inr (place, d, stands, same)) = inr (suc place, d, stands, same)

own : (book : Model) (domains : List ℕ) (cs : List Check) → Within book.floor → ((place : ℕ) (c : Check) → slice_get cs place ≡ Some c → Within (need_under domains c)) → Own (with_checks book cs) domains
own book domains [] floor within =
    (book.floor, floor, record { met = record { floor = not_longer_refl book.floor; needs = λ place c stands. absurd (none_there place c stands) }; reached = inl (as_long_refl book.floor) })
  where
    none_there : (place : ℕ) (c : Check) → slice_get {X = Check} [] place ≡ Some c → ⊥
    none_there place c stands = let z : ◌≡◌ {A = ℕ} 0 1 = cc in omega arith
own book domains (c ∷ cs) floor within = go (own book domains cs floor (λ place. within (suc place)))
  where
    go : Own (with_checks book cs) domains → Own (with_checks book (c ∷ cs)) domains
    go (period, fits, its) = elim (shorter_or_not period (need_under domains c)) [
      | inl short ↦ (need_under domains c, within 0 c refl, record { met = taken book domains c cs period fits.parted its.met short; reached = inr (0, c, refl, as_long_refl (need_under domains c)) })
      | inr long ↦ (period, fits, record { met = passed book domains c cs period its.met long; reached = reached_more book domains c cs period its.reached })
    ]

-- what a book reaches is at most what is met
pub reached_least : (book : Model) (domains : List ℕ) (period other : Fraction) → Sound book → Exist book domains → Reached book domains period → Meets book domains other → NotLonger period other
reached_least book domains period other sound exist (inl at-floor) met =
    not_longer_left book.floor period other sound.floor_within.parted (as_long_sym period book.floor at-floor) met.floor
reached_least book domains period other sound exist (inr (place, c, stands, same)) met =
    not_longer_left (need_under domains c) period other (need_within book domains place c sound exist stands).parted (as_long_sym period (need_under domains c) same) (met.needs place c stands)

pub reached_same : (book : Model) (domains : List ℕ) (period other : Fraction) → 0 < period.den → AsLong other period → Reached book domains period → Reached book domains other
reached_same book domains period other pos same (inl at-floor) = inl (as_long_trans other period book.floor pos same at-floor)
reached_same book domains period other pos same (inr (place, c, stands, there)) = inr (place, c, stands, as_long_trans other period (need_under domains c) pos same there)

pub one_period_each_lem : OnePeriodEach
one_period_each_lem book domains sound assigned = go (own book domains book.checks sound.floor_within (λ place c stands. need_within book domains place c sound exist stands))
  where
    exist : Exist book domains
    exist = exist_all book domains sound assigned

    go : Own book domains → (period : Fraction) × Within period × PeriodOf book domains period × ((other : Fraction) → 0 < other.den → PeriodOf book domains other → AsLong other period)
    go (period, fits, its) = (
      period,
      fits,
      its,
      λ other pos others.
          not_longer_antisym other period (reached_least book domains other period sound exist others.reached its.met) (reached_least book domains period other sound exist its.reached others.met),
    )
