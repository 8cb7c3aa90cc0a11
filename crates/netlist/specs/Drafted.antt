-- The circuit that a draft holds.
use Rattle.std.specs.Prelude.{map}
use Rattle.circuit.specs.Circuit.{Circuit}
use Rattle.netlist.specs.Figures.{flop_of, gate_of, wire_of}
use Rattle.netlist.specs.Domains.{skews_of}
use Rattle.netlist.specs.declared.draft.Draft.{Draft}

abbrev pub drafted : Draft → Circuit
drafted d = record {
  parts = d.domains.parts;
  skews = skews_of d.domains;
  flops = map flop_of d.flops;
  gates = map gate_of d.gates;
  wires = map wire_of d.wires;
}
