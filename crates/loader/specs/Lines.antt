-- What the fault of one line says.
use Rattle.std.specs.Prelude.{◌≡◌, Some, None, Err, Option, Result}
use Rattle.dumps.specs.declared.ground.Ground.{Ground}
use Rattle.dumps.specs.declared.ground.Ground.TheVariants as ground
use Rattle.dumps.specs.Reading.{State}
use Rattle.netlist.specs.declared.faults.BlockFault.{BlockFault}
use Rattle.netlist.specs.declared.faults.BlockFault.TheVariants as block
use Rattle.loader.specs.declared.faults.LineFault.{LineFault}
use Rattle.loader.specs.declared.faults.LineFault.TheVariants.{Refused, Memory}

-- a fault of the block layer, passed up
abbrev pub of_block : BlockFault → LineFault
of_block block.Domains = Refused ground.Domains
of_block block.Surplus = Refused ground.Surplus
of_block block.Delays = Refused ground.Delays
of_block block.Absent = Refused ground.Absent
of_block block.Backward = Refused ground.Backward
of_block block.Open = Refused ground.Open
of_block block.Memory = Memory

-- the fault is this ground; memory is wanted only where there is none
abbrev pub Breached : LineFault → Option Ground → Type 0
Breached (Refused g) breach = breach ≡ Some g
Breached Memory breach = breach ≡ None

-- the same of a whole step
abbrev pub Stopped : LineFault → Result State Ground → Type 0
Stopped (Refused g) step = step ≡ Err g
Stopped Memory step = Unit {0}
