-- Which place a terminal names.
use Rattle.std.specs.Prelude.{◌≡◌, ◌≢◌, ◌⊎◌, MatchResult, Result}
use Rattle.circuit.specs.Terminal.{flop_class, gate_class, place}
use Rattle.netlist.specs.declared.elements.Place.{Place}
use Rattle.netlist.specs.declared.elements.Terminal.{Terminal}
use Rattle.netlist.specs.declared.faults.UnknownClass.{UnknownClass}
use Rattle.netlist.specs.Figures.{place_of, terminal_of}

-- a terminal of either class names its place, and one of another class names none
abbrev pub Names : Terminal → Result Place UnknownClass → Type 0
Names t answer = MatchResult answer (λ p. ((t.class ≡ flop_class) ⊎ (t.class ≡ gate_class)) × (place_of p ≡ place (terminal_of t))) (λ _. (t.class ≢ flop_class) × (t.class ≢ gate_class))
