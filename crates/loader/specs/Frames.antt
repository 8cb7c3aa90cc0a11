-- What a frame of the frame layer means, and what its faults say.
use Rattle.std.specs.Prelude.{◌≡◌, ℕ, ◌⊎◌, true, List, is_some, Some, None, vec_items, Option}
use Rattle.dumps.specs.declared.ground.Ground.TheVariants.{Spelling, Shape}
use Rattle.dumps.specs.Frame.{Frame as Meant, domains_frame, flop_frame, gate_frame, wire_frame, end_frame}
use Rattle.dumps.specs.Reading.{parsed, held}
use Rattle.netlist.specs.Figures.{terminal_of}
use Rattle.loader.specs.declared.frame.Frame.{Frame}
use Rattle.loader.specs.declared.frame.Frame.TheVariants.{Domains, FlipFlop, Gate, Wire, End}
use Rattle.loader.specs.declared.frame.Kind.{Kind}
use Rattle.loader.specs.declared.frame.Kind.TheVariants as kind
use Rattle.loader.specs.declared.faults.LineFault.{LineFault}
use Rattle.loader.specs.declared.faults.LineFault.TheVariants.{Refused, Memory}

abbrev pub frame_of : Frame → Meant
frame_of (Domains parts skews) = domains_frame parts (vec_items skews)
frame_of (FlipFlop setup hold) = flop_frame (record { setup = setup; hold = hold })
frame_of (Gate smaller larger) = gate_frame (record { smaller = smaller; larger = larger })
frame_of (Wire start end delay) = wire_frame (terminal_of start) (terminal_of end) delay
frame_of End = end_frame

abbrev pub kind_number : Kind → ℕ
kind_number kind.Domains = 1
kind_number kind.FlipFlop = 2
kind_number kind.Gate = 3
kind_number kind.Wire = 4
kind_number kind.End = 5

-- a refusal is of the shape, and says that bytes write no frame; memory is wanted only for bytes that write one
abbrev pub Unparsed : LineFault → Option Meant → Type 0
Unparsed (Refused g) found = (g ≡ Shape) × (found ≡ None)
Unparsed Memory found = is_some found ≡ true

-- a line says a frame: it holds bytes, and they write the frame
abbrev pub SaysFrame : List ℕ → Meant → Type 0
SaysFrame line f = (bytes : List ℕ) × (held line ≡ Some bytes) × (parsed bytes ≡ Some f)

-- a line says none: it holds no bytes, or its bytes write no frame
abbrev pub Unframed : LineFault → List ℕ → Type 0
Unframed (Refused g) line = ((g ≡ Spelling) × (held line ≡ None)) ⊎ ((g ≡ Shape) × (bytes : List ℕ) × (held line ≡ Some bytes) × (parsed bytes ≡ None))
Unframed Memory line = Unit {0}
