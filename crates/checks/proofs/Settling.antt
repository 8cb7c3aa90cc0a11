-- Settling as a loop over plain values: from all zeros the end of each check above the period is raised.
use Rattle.std.proofs.Common.{ℕ, ◌+◌, ◌<◌, ◌≤◌, List, length, get_or, set, replicate, ◌∙◌, arith}
use Rattle.std.proofs.lemmas.List.{length-set, length-replicate}
use Rattle.fractions.specs.Fraction.{Fraction, Shorter, AsLong, Within}
use Rattle.fractions.proofs.Order.{not_longer_right, shorter_not, shorter_right, as_long_sym}
use Rattle.checks.specs.Model.{Check, Model, Stands, Sound}
use Rattle.checks.specs.Scheduling.{Assignment, Meets, Settled, Unmeetable, need_under}
use Rattle.checks.specs.Raises.{Settling}
use Rattle.checks.proofs.Assigned.{exist_all, zero_exist, zero_low, raised_each, need_within, higher_end}

pub settling_begins : (book : Model) (period : Fraction) → Sound book → Settling book period (replicate book.flops 0)
settling_begins book period sound = record {
  one_each = length-replicate {A = ℕ} book.flops 0;
  exist = zero_exist book book.flops sound;
  low = λ others assigned met. zero_low book.flops others;
}

-- what meets the period has a higher domain at the end of a check that is above it
end_higher : (book : Model) (period : Fraction) (domains : List ℕ) (place : ℕ) (c : Check) (need : Fraction) → Sound book → Settling book period domains → Stands book place c → AsLong need (need_under domains c) → Shorter period need → (others : List ℕ) → Assignment book others → Meets book others period → get_or domains c.end 0 < get_or others c.end 0
end_higher book period domains place c need sound settling stands same short others assigned met =
    let pos = (need_within book domains place c sound settling.exist stands).parted in
    higher_end book domains others place c period sound settling.exist (exist_all book others sound assigned) (settling.low others assigned met) stands met
    (shorter_right period need (need_under domains c) pos same short)

pub settling_raises : (book : Model) (period : Fraction) (domains : List ℕ) (place : ℕ) (c : Check) (need : Fraction) → Sound book → 0 < period.den → Settling book period domains → Stands book place c → Within need → AsLong need (need_under domains c) → Shorter period need → get_or domains c.end 0 + 1 < book.domains → Settling book period (set domains c.end (get_or domains c.end 0 + 1))
settling_raises book period domains place c need sound pos settling stands fits same short room-left = record {
  one_each = length-set domains c.end (get_or domains c.end 0 + 1) ∙ settling.one_each;
  exist = raised_each (λ i x. x < book.domains) domains c.end there settling.exist room-left;
  low = λ others assigned met. raised_each (λ i x. x ≤ get_or others i 0) domains c.end there (settling.low others assigned met)
      (omega (arith, end_higher book period domains place c need sound settling stands same short others assigned met));
}
  where
    there : c.end < length domains
    there = omega (arith, (sound.each place c stands).end_there, settling.one_each)

pub settling_stuck : (book : Model) (period : Fraction) (domains : List ℕ) (place : ℕ) (c : Check) (need : Fraction) → Sound book → 0 < period.den → Settling book period domains → Stands book place c → Within need → AsLong need (need_under domains c) → Shorter period need → book.domains ≤ get_or domains c.end 0 + 1 → Unmeetable book period
settling_stuck book period domains place c need sound pos settling stands fits same short top others assigned met =
    omega (arith, end_higher book period domains place c need sound settling stands same short others assigned met, exist_all book others sound assigned c.end)

pub settling_floor : (book : Model) (period floor : Fraction) → Sound book → 0 < period.den → Within floor → AsLong floor book.floor → Shorter period floor → Unmeetable book period
settling_floor book period floor sound pos fits same short others assigned met =
    shorter_not period book.floor (shorter_right period floor book.floor sound.floor_within.parted same short) met.floor

pub settled_done : (book : Model) (period : Fraction) (domains : List ℕ) → Settling book period domains → Meets book domains period → Settled book period domains
settled_done book period domains settling met = record {
  assigned = record { one_each = settling.one_each; exist = λ flop there. settling.exist flop };
  met = met;
  lowest = settling.low;
}

-- ---- a period and its name as it was written

pub meets_as_long : (book : Model) (domains : List ℕ) (period other : Fraction) → 0 < period.den → AsLong period other → Meets book domains period → Meets book domains other
meets_as_long book domains period other pos same met = record {
  floor = not_longer_right book.floor period other pos same met.floor;
  needs = λ place c stands. not_longer_right (need_under domains c) period other pos same (met.needs place c stands);
}

pub settled_named : (book : Model) (period named : Fraction) (domains : List ℕ) → Within period → Within named → AsLong period named → Settled book period domains → Settled book named domains
settled_named book period named domains fits named-fits same settled = record {
  assigned = settled.assigned;
  met = meets_as_long book domains period named fits.parted same settled.met;
  lowest = λ others assigned met. settled.lowest others assigned (meets_as_long book others named period named-fits.parted (as_long_sym period named same) met);
}

pub unmeetable_named : (book : Model) (period named : Fraction) → Within period → Within named → AsLong period named → Unmeetable book period → Unmeetable book named
unmeetable_named book period named fits named-fits same never others assigned met =
    never others assigned (meets_as_long book others named period named-fits.parted (as_long_sym period named same) met)
