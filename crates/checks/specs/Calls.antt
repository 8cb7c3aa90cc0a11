-- What scheduling and settling answer, and what the caller's domain list holds afterwards.
use Rattle.std.specs.Prelude.{◌≡◌, ℕ, List, length, replicate, ◌≢◌}
use Rattle.fractions.specs.Fraction.{Fraction, AsLong, Within, IsPeriod}
use Rattle.checks.specs.Model.{Model}
use Rattle.checks.specs.Scheduling.{Scheduled, Settled, Unmeetable}

-- a period, or the number of a refusal
pub data Answer : Type 0 where
  answered : Fraction → Answer
  refused : ℕ → Answer

-- a list of another length is refused and stays as it was
pub data ScheduleCall (book : Model) (before : List ℕ) : Answer → List ℕ → Type 0 where
  scheduled : (period : Fraction) (domains : List ℕ) → length before ≡ book.flops → IsPeriod period → Scheduled book domains period → ScheduleCall book before (answered period) domains
  another_length : (length before ≢ book.flops) → ScheduleCall book before (refused 14) before

-- the named period is tested as it was written, then the list; where no assignment meets the period the list is all zeros
pub data SettleCall (book : Model) (named : Fraction) (before : List ℕ) : Answer → List ℕ → Type 0 where
  settled : (period : Fraction) (domains : List ℕ) → Within named → length before ≡ book.flops → IsPeriod period → AsLong period named → Settled book named domains → SettleCall book named before (answered period) domains
  not_a_period : (Within named → ⊥) → SettleCall book named before (refused 12) before
  another_length : Within named → (length before ≢ book.flops) → SettleCall book named before (refused 14) before
  none_meets : Within named → length before ≡ book.flops → Unmeetable book named → SettleCall book named before (refused 13) (replicate book.flops 0)

-- the calls that write the list: those that answer a period, and the refusal that no assignment meets it
abbrev pub Writes : Answer → Type 0
Writes (answered period) = Unit {0}
Writes (refused number) = number ≡ 13

-- two calls give the same answer and, where they write their lists, the same list
pub record Agree (answer second : Answer) (after later : List ℕ) : Type 0 where
  pub same_answer : answer ≡ second
  pub same_list : Writes answer → after ≡ later
