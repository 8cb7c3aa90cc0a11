-- Two calls agree where the two books have the same checks.
use Rattle.std.proofs.Common.{ℕ, List}
use Rattle.fractions.specs.Fraction.{Fraction}
use Rattle.checks.specs.Model.{Model, Sound}
use Rattle.checks.specs.Calls.{Answer, ScheduleCall, SettleCall}
use Rattle.checks.proofs.Once.{schedules_agree, settlements_agree}
use Rattle.engine.specs.Pairs.{BothScheduled, BothSettled}

pub both_scheduled : {book other : Model} {list more after later : List ℕ} {answer second : Answer} → Sound book → Sound other → ScheduleCall book list answer after → ScheduleCall other more second later → BothScheduled book other list more answer second after later
both_scheduled {book} {other} {list} {more} {after} {later} {answer} {second} sound sound' one two = record {
  first_call = one;
  second_call = two;
  agree = λ same long. schedules_agree book other sound sound' same list more answer second after later long one two;
}

pub both_settled : {book other : Model} {named : Fraction} {list more after later : List ℕ} {answer second : Answer} → Sound book → Sound other → SettleCall book named list answer after → SettleCall other named more second later → BothSettled book other named list more answer second after later
both_settled {book} {other} {named} {list} {more} {after} {later} {answer} {second} sound sound' one two = record {
  first_call = one;
  second_call = two;
  agree = λ same long. settlements_agree book other sound sound' same named list more answer second after later long one two;
}
