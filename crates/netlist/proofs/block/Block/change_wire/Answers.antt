use Rattle.netlist.specs.Circuits.{circuit}
use Rattle.netlist.proofs.Covering.{wire_change_covered}
use Rattle.netlist.proofs.block.Block.change_wire.Goals as goal

pub invariant_of-self : goal.invariant_of-self
invariant_of-self c =
    let b = c.args.self.now in
    let after = wire_change_covered (circuit b) _ _ _ _ c.change_wire.ensures (b.fed, b.drained) in
    record {
      fed = after.0;
      drained = after.1;
    }
