-- What an assembly means: the kind reached and the circuit so far; and what each step of it does.
use Rattle.std.specs.Prelude.{◌≡◌, ℕ, ◌⊎◌, List, None, Ok, Err, Result, ◌≢◌}
use Rattle.circuit.specs.Circuit.{Circuit}
use Rattle.circuit.specs.Sound.{Covered}
use Rattle.dumps.specs.declared.ground.Ground.TheVariants.{Order, Open}
use Rattle.dumps.specs.Frame.{Frame}
use Rattle.dumps.specs.Reading.{State, breach, grown, step}
use Rattle.netlist.specs.declared.block.Block.{Block}
use Rattle.netlist.specs.Circuits.{circuit}
use Rattle.loader.specs.declared.faults.LineFault.{LineFault}
use Rattle.loader.specs.declared.faults.LineFault.TheVariants.{Refused}
use Rattle.loader.specs.Lines.{Breached, Stopped}
use Rattle.netlist.specs.Drafted.{drafted}
use Rattle.loader.specs.Stages.{stage_number}
use Rattle.loader.specs.declared.assembly.Assembly.{Assembly}

abbrev pub state_of : Assembly → State
state_of a = record { reached = stage_number a.stage; circuit = drafted a.draft }

-- a frame put into a circuit, or the ground past the order on which it is refused
abbrev pub FramePut : {X : Type 0} → Circuit → Frame → Result X LineFault → Circuit → Type 0
FramePut before f (Ok x) after = (breach before f ≡ None) × (after ≡ grown before f)
FramePut before f (Err e) after = Breached e (breach before f)

-- a line taken, or the ground on which the reading stops there
abbrev pub LineTaken : {X : Type 0} → State → List ℕ → Result X LineFault → State → Type 0
LineTaken before line (Ok x) after = step before line ≡ Ok after
LineTaken before line (Err e) after = Stopped e (step before line)

-- the block, once the end has come; a gate that is open there was refused at the end frame
abbrev pub Finished : State → Result Block LineFault → Type 0
Finished s (Ok b) = (s.reached ≡ 5) × (circuit b ≡ s.circuit)
Finished s (Err e) = ((s.reached ≢ 5) × (e ≡ Refused Order)) ⊎ ((s.reached ≡ 5) × (Covered s.circuit → ⊥) × (e ≡ Refused Open))
