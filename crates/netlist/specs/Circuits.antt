-- The circuit that a block holds, and what makes a draft a block.
use Rattle.std.specs.Prelude.{◌≡◌, Ok, Err, Result}
use Rattle.circuit.specs.Circuit.{Circuit}
use Rattle.circuit.specs.Sound.{Covered}
use Rattle.netlist.specs.declared.faults.BlockFault.{BlockFault}
use Rattle.netlist.specs.declared.faults.BlockFault.TheVariants.{Open}
use Rattle.netlist.specs.declared.draft.Draft.{Draft}
use Rattle.netlist.specs.Drafted.{drafted}
use Rattle.netlist.specs.declared.block.Block.{Block}

abbrev pub circuit : Block → Circuit
circuit b = drafted b.draft

-- the block of a draft has its circuit; a draft with an open gate has none
abbrev pub FinishCall : Draft → Result Block BlockFault → Type 0
FinishCall draft (Ok b) = circuit b ≡ drafted draft
FinishCall draft (Err e) = (e ≡ Open) × (Covered (drafted draft) → ⊥)
