-- What a growing block refuses, and what it holds after one element more.
use Rattle.std.specs.Prelude.{◌≡◌, ℕ, Bool, true, false, cond, ◌&&◌, ◌⊎◌, List, length, ℤ, Some, None, Ok, Err, Option, Result, nat_le, nat_lt}
use Rattle.circuit.specs.Circuit.{Gate, Wire, Circuit, with_domains, more_flops, more_gates, more_wires}
use Rattle.circuit.specs.Limits.{most_flops, most_gates, most_wires}
use Rattle.circuit.specs.Sound.{SoundDomains, Covered, forward}
use Rattle.circuit.specs.Terminal.{Terminal, place, known}
use Rattle.netlist.specs.declared.faults.BlockFault.{BlockFault}
use Rattle.netlist.specs.declared.faults.BlockFault.TheVariants.{Domains, Surplus, Delays, Absent, Backward, Open, Memory}
use Rattle.netlist.specs.declared.elements.Place.{Place}
use Rattle.netlist.specs.declared.elements.Wire.{Wire as WireElement}
use Rattle.netlist.specs.Figures.{place_of, wire_of}

abbrev pub unless : Bool → BlockFault → Option BlockFault → Option BlockFault
unless test fault next = cond test next (Some fault)

abbrev pub flop_breach : Circuit → Option BlockFault
flop_breach c = unless (nat_lt (length c.flops) most_flops) Surplus None

abbrev pub gate_breach : Circuit → Gate → Option BlockFault
gate_breach c g = unless (nat_lt (length c.gates) most_gates) Surplus (unless (nat_le g.smaller g.larger) Delays None)

-- both places are there, and the wire runs forward
abbrev pub link_breach : Circuit → Terminal → Terminal → Option BlockFault
link_breach c start end =
    unless (known (length c.flops) (length c.gates) start && known (length c.flops) (length c.gates) end) Absent
    (unless (forward (place start) (place end)) Backward None)

abbrev pub wire_breach : Circuit → Terminal → Terminal → Option BlockFault
wire_breach c start end = unless (nat_lt (length c.wires) most_wires) Surplus (link_breach c start end)

abbrev pub link : Terminal → Terminal → ℕ → Wire
link start end delay = record { start = place start; end = place end; delay = delay }

-- an answer with the circuit before, what it would grow to, and the circuit after: grown where nothing is refused, and
-- as before at a refusal; memory is wanted only where nothing is refused
abbrev pub Grown : {X : Type 0} → Result X BlockFault → Option BlockFault → Circuit → Circuit → Circuit → Type 0
Grown (Ok x) breach before more after = (breach ≡ None) × (after ≡ more)
Grown (Err e) breach before more after = (((e ≡ Memory) × (breach ≡ None)) ⊎ (breach ≡ Some e)) × (after ≡ before)

-- ---- the calls: the circuit before, what is handed in, the answer, and the circuit afterwards

abbrev pub SetDomainsCall : {X : Type 0} → Circuit → ℕ → List ℕ → Result X BlockFault → Circuit → Type 0
SetDomainsCall before parts skews (Ok x) after = SoundDomains parts skews × (after ≡ with_domains before parts skews)
SetDomainsCall before parts skews (Err e) after = (e ≡ Domains) × (SoundDomains parts skews → ⊥) × (after ≡ before)

abbrev pub AddFlopCall : {X : Type 0} → Circuit → ℕ → ℤ → Result X BlockFault → Circuit → Type 0
AddFlopCall before setup hold answer after = Grown answer (flop_breach before) before (more_flops before (record { setup = setup; hold = hold })) after

abbrev pub AddGateCall : {X : Type 0} → Circuit → ℕ → ℕ → Result X BlockFault → Circuit → Type 0
AddGateCall before smaller larger answer after =
    Grown answer (gate_breach before (record { smaller = smaller; larger = larger })) before (more_gates before (record { smaller = smaller; larger = larger })) after

abbrev pub AddWireCall : {X : Type 0} → Circuit → Terminal → Terminal → ℕ → Result X BlockFault → Circuit → Type 0
AddWireCall before start end delay answer after = Grown answer (wire_breach before start end) before (more_wires before (link start end delay)) after

-- a draft may be closed just when no gate is open
abbrev pub CloseCall : {X : Type 0} → Circuit → Result X BlockFault → Type 0
CloseCall c (Ok x) = Covered c
CloseCall c (Err e) = (e ≡ Open) × (Covered c → ⊥)

-- ---- on the way there

-- the place that a terminal names, where it is known
abbrev pub Resolved : Circuit → Terminal → Result Place BlockFault → Type 0
Resolved c t (Ok p) = (known (length c.flops) (length c.gates) t ≡ true) × (place_of p ≡ place t)
Resolved c t (Err e) = (known (length c.flops) (length c.gates) t ≡ false) × (e ≡ Absent)

abbrev pub Linked : Circuit → Terminal → Terminal → ℕ → Result WireElement BlockFault → Type 0
Linked c start end delay (Ok w) = (link_breach c start end ≡ None) × (wire_of w ≡ link start end delay)
Linked c start end delay (Err e) = link_breach c start end ≡ Some e
