-- On which grounds a line is at fault, after the frames before it.
use Rattle.std.specs.Prelude.{◌≡◌, ℕ, ◌<◌, ◌≤◌, Bool, false, List, [], ◌∷◌, length}
use Rattle.std.specs.List.{AllByRecursion}
use Rattle.circuit.specs.Circuit.{FlipFlop, Gate, Wire}
use Rattle.circuit.specs.Terminal.{Terminal, gate_class, place, known}
use Rattle.circuit.specs.Limits.{most_flops, most_gates, most_wires}
use Rattle.circuit.specs.Sound.{SoundDomains, Fed, Drained}
use Rattle.dumps.specs.declared.ground.Ground.{Ground}
use Rattle.dumps.specs.declared.ground.Ground.TheVariants.{Spelling, Shape, Order, Domains, Surplus, Delays, Absent, Backward, Open}
use Rattle.dumps.specs.Spelling.{Holds}
use Rattle.dumps.specs.Frame.{Frame, domains_frame, flop_frame, gate_frame, wire_frame, end_frame, kind, Says}

-- the flip-flops, gates and wires that frames give, in their order
abbrev pub flops_of : List Frame → List FlipFlop
flops_of [] = []
flops_of (domains_frame parts skews ∷ frames) = flops_of frames
flops_of (flop_frame f ∷ frames) = f ∷ flops_of frames
flops_of (gate_frame g ∷ frames) = flops_of frames
flops_of (wire_frame start end delay ∷ frames) = flops_of frames
flops_of (end_frame ∷ frames) = flops_of frames

abbrev pub gates_of : List Frame → List Gate
gates_of [] = []
gates_of (domains_frame parts skews ∷ frames) = gates_of frames
gates_of (flop_frame f ∷ frames) = gates_of frames
gates_of (gate_frame g ∷ frames) = g ∷ gates_of frames
gates_of (wire_frame start end delay ∷ frames) = gates_of frames
gates_of (end_frame ∷ frames) = gates_of frames

abbrev pub wires_of : List Frame → List Wire
wires_of [] = []
wires_of (domains_frame parts skews ∷ frames) = wires_of frames
wires_of (flop_frame f ∷ frames) = wires_of frames
wires_of (gate_frame g ∷ frames) = wires_of frames
wires_of (wire_frame start end delay ∷ frames) = record { start = place start; end = place end; delay = delay } ∷ wires_of frames
wires_of (end_frame ∷ frames) = wires_of frames

-- a domain set comes first and only first; kinds never fall; nothing follows the end
abbrev pub InOrder : List Frame → Frame → Type 0
InOrder [] f = kind f ≡ 1
InOrder (first ∷ before) f = (1 < kind f) × AllByRecursion (λ g. (kind g ≤ kind f) × (kind g < 5)) (first ∷ before)

-- a terminal that names one of the flip-flops or gates so far
abbrev pub present : List Frame → Terminal → Bool
present before t = known (length (flops_of before)) (length (gates_of before)) t

-- after these frames, this frame breaks a rule on this ground
pub data Breaks (before : List Frame) : Ground → Frame → Type 0 where
  out_of_order : (f : Frame) → (InOrder before f → ⊥) → Breaks before Order f
  unsound_domains : (parts : ℕ) (skews : List ℕ) → (SoundDomains parts skews → ⊥) → Breaks before Domains (domains_frame parts skews)
  surplus_flop : (f : FlipFlop) → most_flops ≤ length (flops_of before) → Breaks before Surplus (flop_frame f)
  surplus_gate : (g : Gate) → most_gates ≤ length (gates_of before) → Breaks before Surplus (gate_frame g)
  surplus_wire : (start end : Terminal) (delay : ℕ) → most_wires ≤ length (wires_of before) → Breaks before Surplus (wire_frame start end delay)
  crossed_delays : (g : Gate) → g.larger < g.smaller → Breaks before Delays (gate_frame g)
  absent_start : (start end : Terminal) (delay : ℕ) → present before start ≡ false → Breaks before Absent (wire_frame start end delay)
  absent_end : (start end : Terminal) (delay : ℕ) → present before end ≡ false → Breaks before Absent (wire_frame start end delay)
  backward : (start end : Terminal) (delay : ℕ) → start.class ≡ gate_class → end.class ≡ gate_class → end.number ≤ start.number → Breaks before Backward (wire_frame start end delay)
  unfed : (Fed (length (gates_of before)) (wires_of before) → ⊥) → Breaks before Open end_frame
  undrained : (Drained (length (gates_of before)) (wires_of before) → ⊥) → Breaks before Open end_frame

-- after these frames, this line is at fault on this ground
pub data Fault (before : List Frame) (line : List ℕ) : Ground → Type 0 where
  unspelled : ((bytes : List ℕ) → Holds line bytes → ⊥) → Fault before line Spelling
  shapeless : ((f : Frame) → Says line f → ⊥) → Fault before line Shape
  breaking : (g : Ground) (f : Frame) → Says line f → Breaks before g f → Fault before line g
