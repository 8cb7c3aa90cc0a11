-- What a stage means: the kind of the last frame, 0 before the first.
use Rattle.std.specs.Prelude.{◌≡◌, ℕ, true, false, Ok, Err, Result}
use Rattle.dumps.specs.declared.ground.Ground.TheVariants.{Order}
use Rattle.dumps.specs.Reading.{may_stand}
use Rattle.loader.specs.declared.faults.LineFault.{LineFault}
use Rattle.loader.specs.declared.faults.LineFault.TheVariants.{Refused}
use Rattle.loader.specs.declared.stage.Stage.{Stage}
use Rattle.loader.specs.declared.stage.Stage.TheVariants.{Start, Domains, FlipFlops, Gates, Wires, End}

abbrev pub stage_number : Stage → ℕ
stage_number Start = 0
stage_number Domains = 1
stage_number FlipFlops = 2
stage_number Gates = 3
stage_number Wires = 4
stage_number End = 5

-- the stage moves to the kind of a frame that may stand; any other is out of its order
abbrev pub Advanced : {X : Type 0} → ℕ → ℕ → Result X LineFault → ℕ → Type 0
Advanced before kind (Ok x) after = (may_stand before kind ≡ true) × (after ≡ kind)
Advanced before kind (Err e) after = (e ≡ Refused Order) × (may_stand before kind ≡ false)
