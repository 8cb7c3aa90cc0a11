-- What the engine's private functions answer.
use Rattle.std.specs.Prelude.{◌≡◌, ℕ, ◌+◌, ◌<◌, ◌≤◌, ◌⊎◌, Bool, true, false, List, length, take, Some, None, Option, slice_index, slice_set}
use Rattle.fractions.specs.Fraction.{Fraction, NotLonger, Shorter, AsLong}
use Rattle.checks.specs.Limits.{most_flops}
use Rattle.checks.specs.Model.{Check, Model, Stands}
use Rattle.checks.specs.Scheduling.{Scheduled, need_under}
use Rattle.period.specs.declared.period.Period.{Period}
use Rattle.period.specs.Periods.{fraction}
use Rattle.engine.specs.declared.lists.Need.{Need}
use Rattle.engine.specs.declared.raising.Best.{Best}
use Rattle.engine.specs.declared.raising.Worst.{Worst}

-- a domain that exists for each flip-flop, in a list that may go on past the last
pub record Covers (book : Model) (domains : List ℕ) : Type 0 where
  pub long : book.flops ≤ length domains
  pub exist : (flop : ℕ) → slice_index domains flop < book.domains

-- the need and the end of the check that stands at a place
pub record Needed (book : Model) (domains : List ℕ) (place : ℕ) (need : Need) : Type 0 where
  pub check : Check
  pub stands : Stands book place check
  pub at_end : need.end ≡ check.end
  pub same : AsLong (fraction need.period) (need_under domains check)

-- or no check stands there
abbrev pub NeededAt : Model → List ℕ → ℕ → Option Need → Type 0
NeededAt book domains place (Some need) = Needed book domains place need
NeededAt book domains place None = length book.checks ≤ place

-- the domain of a flip-flop is one higher and exists, or the list stays and the flip-flop is in the last domain
abbrev pub Stepped : ℕ → ℕ → List ℕ → List ℕ → Bool → Type 0
Stepped flop count before after true = (slice_index before flop + 1 < count) × (after ≡ slice_set before flop (slice_index before flop + 1))
Stepped flop count before after false = (after ≡ before) × (count ≤ slice_index before flop + 1)

-- the same of an end, which may be absent
abbrev pub Risen : Option ℕ → ℕ → List ℕ → List ℕ → Bool → Type 0
Risen (Some end) count before after risen = Stepped end count before after risen
Risen None count before after true = ⊥
Risen None count before after false = after ≡ before

-- a longer need takes the place of the worst, and another leaves it
abbrev pub Worsened : Worst → Need → Worst → Type 0
Worsened before need after =
    (Shorter (fraction before.period) (fraction need.period) × (after ≡ record { period = need.period; end = Some need.end }))
    ⊎ (NotLonger (fraction need.period) (fraction before.period) × (after ≡ before))

-- an assignment of a shorter period takes the place of the best, and another leaves it
abbrev pub Improved : Best → Period → List ℕ → Best → Type 0
Improved before period domains after =
    (Shorter (fraction period) (fraction before.period) × (after ≡ record { period = period; domains = domains }))
    ⊎ (NotLonger (fraction before.period) (fraction period) × (after ≡ before))

-- the schedule, in the front of an array
pub record Raised (book : Model) (period : Fraction) (chosen : List ℕ) : Type 0 where
  pub long : length chosen ≡ most_flops
  pub scheduled : Scheduled book (take book.flops chosen) period
