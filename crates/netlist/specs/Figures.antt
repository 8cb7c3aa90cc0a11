-- What the elements of a block mean: their figures, as a circuit has them.
use Rattle.circuit.specs.Circuit.{FlipFlop as FlopFigures, Gate as GateFigures, Wire as WireFigures, Place as Spot, at_flop, at_gate}
use Rattle.circuit.specs.Terminal.{Terminal as Naming}
use Rattle.netlist.specs.declared.elements.FlipFlop.{FlipFlop}
use Rattle.netlist.specs.declared.elements.Gate.{Gate}
use Rattle.netlist.specs.declared.elements.Wire.{Wire}
use Rattle.netlist.specs.declared.elements.Place.{Place}
use Rattle.netlist.specs.declared.elements.Place.TheVariants as place
use Rattle.netlist.specs.declared.elements.Terminal.{Terminal}

abbrev pub flop_of : FlipFlop → FlopFigures
flop_of f = record { setup = f.setup; hold = f.hold }

abbrev pub gate_of : Gate → GateFigures
gate_of g = record { smaller = g.smaller; larger = g.larger }

abbrev pub place_of : Place → Spot
place_of (place.FlipFlop n) = at_flop n
place_of (place.Gate n) = at_gate n

abbrev pub wire_of : Wire → WireFigures
wire_of w = record { start = place_of w.start; end = place_of w.end; delay = w.delay }

abbrev pub terminal_of : Terminal → Naming
terminal_of t = record { class = t.class; number = t.number }
