-- What one pass of settling over all checks does, and all passes.
use Rattle.std.specs.Prelude.{◌≡◌, ℕ, ◌<◌, true, false, Bool, List, Ok, Err, Result}
use Rattle.fractions.specs.Fraction.{Fraction, NotLonger}
use Rattle.checks.specs.Model.{Check, Model, Stands}
use Rattle.checks.specs.Scheduling.{Settled, Unmeetable, need_under}
use Rattle.checks.specs.Raises.{room, Settling}
use Rattle.engine.specs.declared.faults.SettleFault.{SettleFault}
use Rattle.engine.specs.declared.faults.SettleFault.TheVariants as fault

-- the list stays and no need is above the period, or some ends are higher, or no assignment meets the period
abbrev pub Passed : Model → Fraction → List ℕ → List ℕ → Result Bool SettleFault → Type 0
Passed book period before after (Ok false) = (after ≡ before) × ((place : ℕ) (c : Check) → Stands book place c → NotLonger (need_under before c) period)
Passed book period before after (Ok true) = Settling book period after × (room after < room before)
Passed book period before after (Err e) = (e ≡ fault.Unmeetable) × Unmeetable book period

-- the lowest assignment that meets the period, or none does
abbrev pub Tried : Model → Fraction → List ℕ → Result Unit SettleFault → Type 0
Tried book period after (Ok done) = Settled book period after
Tried book period after (Err e) = (e ≡ fault.Unmeetable) × Unmeetable book period
