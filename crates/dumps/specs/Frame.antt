-- What frames there are, how each is written as bytes, and how a circuit is written as frames.
use Rattle.std.specs.Prelude.{◌≡◌, ℕ, ◌-◌, ◌/◌, ◌%◌, ◌<◌, true, List, [], ◌∷◌, ◌++◌, map, length, ℤ, pos, negsuc}
use Rattle.std.specs.List.{flat_map, AllByRecursion}
use Rattle.circuit.specs.Circuit.{FlipFlop, Gate, Wire, Circuit}
use Rattle.circuit.specs.Terminal.{Terminal, named}
use Rattle.circuit.specs.Sound.{flop_fits}
use Rattle.dumps.specs.Spelling.{Holds, spelled, line_feed}

pub data Frame : Type 0 where
  domains_frame : ℕ → List ℕ → Frame
  flop_frame : FlipFlop → Frame
  gate_frame : Gate → Frame
  wire_frame : Terminal → Terminal → ℕ → Frame
  end_frame : Frame

abbrev pub kind : Frame → ℕ
kind (domains_frame parts skews) = 1
kind (flop_frame f) = 2
kind (gate_frame g) = 3
kind (wire_frame start end delay) = 4
kind end_frame = 5

-- two bytes, the high one first
abbrev pub field : ℕ → List ℕ
field n = (n / 256) ∷ ((n % 256) ∷ [])

-- a signed number of 16 bits in two's complement
abbrev pub two_complement : ℤ → ℕ
two_complement (pos n) = n
two_complement (negsuc n) = 65535 - n

abbrev pub in_field : ℕ → Type 0
in_field n = n < 65536

abbrev pub in_byte : ℕ → Type 0
in_byte n = n < 256

-- setup 0 and hold 0
abbrev pub plain_flop : FlipFlop
plain_flop = record { setup = 0; hold = pos 0 }

abbrev pub terminal : Terminal → List ℕ
terminal t = t.class ∷ field t.number

-- the bytes of a frame, kind first
abbrev pub bytes_of : Frame → List ℕ
bytes_of (domains_frame parts skews) = 1 ∷ (field parts ++ (length skews ∷ flat_map field skews))
bytes_of (flop_frame f) = 2 ∷ (field f.setup ++ field (two_complement f.hold))
bytes_of (gate_frame g) = 3 ∷ (field g.smaller ++ field g.larger)
bytes_of (wire_frame start end delay) = 4 ∷ (terminal start ++ (terminal end ++ field delay))
bytes_of end_frame = 5 ∷ []

-- the figures of a frame have their place in its fields
abbrev pub Writable : Frame → Type 0
Writable (domains_frame parts skews) = in_field parts × (in_byte (length skews) × AllByRecursion in_field skews)
Writable (flop_frame f) = flop_fits f ≡ true
Writable (gate_frame g) = in_field g.smaller × in_field g.larger
Writable (wire_frame start end delay) = (in_byte start.class × in_field start.number) × ((in_byte end.class × in_field end.number) × in_field delay)
Writable end_frame = Unit {0}

-- these bytes write this frame: in full, or, for the flip-flop of setup 0 and hold 0, by the kind alone
pub data Writes : Frame → List ℕ → Type 0 where
  in_full : (f : Frame) → Writable f → Writes f (bytes_of f)
  short : Writes (flop_frame plain_flop) (2 ∷ [])

-- this line says this frame
abbrev pub Says : List ℕ → Frame → Type 0
Says line f = (bytes : List ℕ) × Holds line bytes × Writes f bytes

-- this text is written from these frames, a line each
abbrev pub Written : List Frame → List ℕ → Type 0
Written [] text = text ≡ []
Written (f ∷ frames) text = (bytes : List ℕ) × (rest : List ℕ) × Writes f bytes × (text ≡ spelled bytes ++ (line_feed ∷ rest)) × Written frames rest

abbrev pub frame_of_wire : Wire → Frame
frame_of_wire w = wire_frame (named w.start) (named w.end) w.delay

-- the frames of a circuit: its domains, flip-flops, gates and wires, and the end
abbrev pub frames_of : Circuit → List Frame
frames_of c = domains_frame c.parts c.skews ∷ (map flop_frame c.flops ++ (map gate_frame c.gates ++ (map frame_of_wire c.wires ++ (end_frame ∷ []))))
