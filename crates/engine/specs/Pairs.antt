-- Two books at once: each call by itself, and that neither the kind of a book nor the order of its checks tells in the answers.
use Rattle.std.specs.Prelude.{◌≡◌, ℕ, List, length}
use Rattle.fractions.specs.Fraction.{Fraction}
use Rattle.checks.specs.Model.{Model, SameChecks}
use Rattle.checks.specs.Calls.{Answer, ScheduleCall, SettleCall, Agree}

pub record BothScheduled (book other : Model) (list more : List ℕ) (answer second : Answer) (after later : List ℕ) : Type 0 where
  pub first_call : ScheduleCall book list answer after
  pub second_call : ScheduleCall other more second later
  pub agree : SameChecks book other → length list ≡ length more → Agree answer second after later

pub record BothSettled (book other : Model) (named : Fraction) (list more : List ℕ) (answer second : Answer) (after later : List ℕ) : Type 0 where
  pub first_call : SettleCall book named list answer after
  pub second_call : SettleCall other named more second later
  pub agree : SameChecks book other → length list ≡ length more → Agree answer second after later
