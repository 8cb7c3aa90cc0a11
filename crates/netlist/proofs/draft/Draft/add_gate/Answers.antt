use Rattle.std.proofs.Common.{◌<◌, length, is_ok, rules}
use Rattle.circuit.specs.Limits.{most_gates}
use Rattle.netlist.specs.Figures.{gate_of}
use Rattle.netlist.specs.Drafted.{drafted}
use Rattle.netlist.proofs.Wired.{few_pushed, wired_push_gate}
use Rattle.netlist.proofs.draft.Draft.add_gate.Goals as goal

pub invariant_of-self : goal.invariant_of-self
invariant_of-self c =
    let d = c.args.self.now in
    let added = is_ok c.push.result in
    let gate = c.in_ok-gate.gate in
    let room : length d.gates < most_gates = search rules in
    record {
      few_flops = d.few_flops;
      few_gates = rw c.push.ensures (few_pushed gate_of added d.gates gate most_gates room);
      few_wires = d.few_wires;
      wired = rw c.push.ensures (wired_push_gate added d.gates gate (length (drafted d).flops) (drafted d).wires d.wired);
    }
