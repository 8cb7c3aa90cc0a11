use Rattle.std.proofs.Common.{◌≡◌, ℕ, ◌<◌, false, map, length, get_or, take}
use Rattle.circuit.specs.Limits.{most_gates}
use Rattle.circuit.specs.Sound.{any, enters, leaves}
use Rattle.netlist.specs.Figures.{wire_of}
use Rattle.netlist.proofs.draft.Draft.is_joined_up.Given as goal

-- after so many wires, just the gates that one of them enters are marked as fed, and those that one leaves as drained
abbrev pub invariant-loop-wire : goal.invariant-loop-wire
invariant-loop-wire l =
    (length l.fed ≡ most_gates) × (length l.drained ≡ most_gates)
    × ((g : ℕ) → g < most_gates → get_or l.fed g false ≡ any (enters g) (map wire_of (take l.wire-index l.self.wires)))
    × ((g : ℕ) → g < most_gates → get_or l.drained g false ≡ any (leaves g) (map wire_of (take l.wire-index l.self.wires)))
