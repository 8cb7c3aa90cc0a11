-- What holds of every book.
use Rattle.std.specs.Prelude.{◌≡◌, ℕ, ◌<◌, List, length}
use Rattle.fractions.specs.Fraction.{Fraction, AsLong, Within}
use Rattle.checks.specs.Model.{Model, Sound}
use Rattle.checks.specs.Scheduling.{Assignment, PeriodOf}
use Rattle.checks.specs.Calls.{Answer, ScheduleCall, SettleCall, Agree}

-- each assignment has a period, and one only
abbrev pub OnePeriodEach : Type 0
OnePeriodEach = (book : Model) (domains : List ℕ) → Sound book → Assignment book domains → (period : Fraction) × Within period × PeriodOf book domains period × ((other : Fraction) → 0 < other.den → PeriodOf book domains other → AsLong other period)

-- a book and a list have one answer of scheduling, and one list afterwards
abbrev pub OneSchedule : Type 0
OneSchedule = (book : Model) (list : List ℕ) (answer second : Answer) (after later : List ℕ) → ScheduleCall book list answer after → ScheduleCall book list second later → (answer ≡ second) × (after ≡ later)

-- a book, a named period and a list have one answer of settling, and one list afterwards
abbrev pub OneSettlement : Type 0
OneSettlement = (book : Model) (named : Fraction) (list : List ℕ) (answer second : Answer) (after later : List ℕ) → SettleCall book named list answer after → SettleCall book named list second later → (answer ≡ second) × (after ≡ later)

-- two books with the same checks in any order, asked with lists of one length, get the same from scheduling
abbrev pub SchedulesAgree : Model → Model → Type 0
SchedulesAgree book other = (list more : List ℕ) (answer second : Answer) (after later : List ℕ) → length list ≡ length more → ScheduleCall book list answer after → ScheduleCall other more second later → Agree answer second after later

-- and from settling, at one named period
abbrev pub SettlementsAgree : Model → Model → Type 0
SettlementsAgree book other = (named : Fraction) (list more : List ℕ) (answer second : Answer) (after later : List ℕ) → length list ≡ length more → SettleCall book named list answer after → SettleCall other named more second later → Agree answer second after later
