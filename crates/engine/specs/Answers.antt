-- What the engine's results say: a period, or the number of a refusal.
use Rattle.std.specs.Prelude.{ℕ, Ok, Err, Result}
use Rattle.checks.specs.Calls.{Answer, answered, refused}
use Rattle.period.specs.declared.period.Period.{Period}
use Rattle.period.specs.Periods.{fraction}
use Rattle.engine.specs.declared.faults.ScheduleFault.{ScheduleFault}
use Rattle.engine.specs.declared.faults.ScheduleFault.TheVariants as schedule
use Rattle.engine.specs.declared.faults.SettleFault.{SettleFault}
use Rattle.engine.specs.declared.faults.SettleFault.TheVariants as settle

abbrev pub schedule_number : ScheduleFault → ℕ
schedule_number schedule.Length = 14

abbrev pub settle_number : SettleFault → ℕ
settle_number settle.Period = 12
settle_number settle.Length = 14
settle_number settle.Unmeetable = 13

abbrev pub schedule_answer : Result Period ScheduleFault → Answer
schedule_answer (Ok p) = answered (fraction p)
schedule_answer (Err e) = refused (schedule_number e)

abbrev pub settle_answer : Result Period SettleFault → Answer
settle_answer (Ok p) = answered (fraction p)
settle_answer (Err e) = refused (settle_number e)
