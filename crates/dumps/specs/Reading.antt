-- A reading of texts, line by line, that comes to the verdict. What a verdict means is said in Verdict.antt without it;
-- the proofs show that the reading gives that verdict, and the code is compared with the reading.
use Rattle.std.specs.Prelude.{ℕ, zero, suc, ◌+◌, ◌-◌, ◌*◌, Bool, true, false, cond, ◌&&◌, List, [], ◌∷◌, length, Some, None, Ok, Err, Option, Result, ◌==◌, nat_le, nat_lt}
use Rattle.std.proofs.Common.{to_z}
use Rattle.std.specs.Int.{w16}
use Rattle.std.specs.Option.{option_map}
use Rattle.circuit.specs.Circuit.{Wire, Circuit, empty, with_domains, more_flops, more_gates, more_wires}
use Rattle.circuit.specs.Terminal.{place, known}
use Rattle.circuit.specs.Limits.{most_flops, most_gates, most_wires, most_domains, most_parts}
use Rattle.circuit.specs.Sound.{forward, any, enters, leaves}
use Rattle.dumps.specs.declared.ground.Ground.{Ground}
use Rattle.dumps.specs.declared.ground.Ground.TheVariants.{Spelling, Shape, Order, Domains, Surplus, Delays, Absent, Backward, Open}
use Rattle.dumps.specs.Ground.{number_of}
use Rattle.dumps.specs.Spelling.{line_feed, lines}
use Rattle.dumps.specs.Frame.{Frame, domains_frame, flop_frame, gate_frame, wire_frame, end_frame, kind, plain_flop}
use Rattle.dumps.specs.Verdict.{Verdict, accepted, refused}

-- ---- digits

-- the value of a hexadecimal digit
abbrev pub value : ℕ → Option ℕ
value c = cond (nat_lt c 48) None (cond (nat_lt c 58) (Some (c - 48)) (cond (nat_lt c 97) None (cond (nat_lt c 103) (Some (c - 87)) None)))

abbrev pub with_byte : Option ℕ → Option ℕ → Option (List ℕ) → Option (List ℕ)
with_byte None low more = None
with_byte (Some h) None more = None
with_byte (Some h) (Some l) None = None
with_byte (Some h) (Some l) (Some bytes) = Some ((h * 16 + l) ∷ bytes)

-- the bytes that digits spell
abbrev pub decoded : List ℕ → Option (List ℕ)
decoded [] = Some []
decoded (a ∷ []) = None
decoded (a ∷ (b ∷ more)) = with_byte (value a) (value b) (decoded more)

-- a line without the line feed that ends it
abbrev pub ended : List ℕ → Option (List ℕ)
ended [] = None
ended (b ∷ []) = cond (b == line_feed) (Some []) None
ended (b ∷ (c ∷ more)) = option_map (λ (line : List ℕ). b ∷ line) (ended (c ∷ more))

abbrev pub some_bytes : List ℕ → Option (List ℕ)
some_bytes [] = None
some_bytes (d ∷ digits) = decoded (d ∷ digits)

abbrev pub bind : {X Y : Type 0} → Option X → (X → Option Y) → Option Y
bind None f = None
bind (Some x) f = f x

-- the bytes that a line holds
abbrev pub held : List ℕ → Option (List ℕ)
held line = bind (ended line) some_bytes

-- ---- frames

abbrev pub number : ℕ → ℕ → ℕ
number high low = high * 256 + low

abbrev pub numbers : List ℕ → List ℕ
numbers [] = []
numbers (a ∷ []) = []
numbers (a ∷ (b ∷ more)) = number a b ∷ numbers more

abbrev pub read_domains : List ℕ → Option Frame
read_domains [] = None
read_domains (a ∷ []) = None
read_domains (a ∷ (b ∷ [])) = None
read_domains (a ∷ (b ∷ (n ∷ skews))) = cond (length skews == 2 * n) (Some (domains_frame (number a b) (numbers skews))) None

abbrev pub read_flop : List ℕ → Option Frame
read_flop [] = Some (flop_frame plain_flop)
read_flop (a ∷ []) = None
read_flop (a ∷ (b ∷ [])) = None
read_flop (a ∷ (b ∷ (c ∷ []))) = None
read_flop (a ∷ (b ∷ (c ∷ (d ∷ [])))) = Some (flop_frame (record { setup = number a b; hold = to_z w16 (number c d) }))
read_flop (a ∷ (b ∷ (c ∷ (d ∷ (e ∷ more))))) = None

abbrev pub read_gate : List ℕ → Option Frame
read_gate [] = None
read_gate (a ∷ []) = None
read_gate (a ∷ (b ∷ [])) = None
read_gate (a ∷ (b ∷ (c ∷ []))) = None
read_gate (a ∷ (b ∷ (c ∷ (d ∷ [])))) = Some (gate_frame (record { smaller = number a b; larger = number c d }))
read_gate (a ∷ (b ∷ (c ∷ (d ∷ (e ∷ more))))) = None

abbrev pub read_wire : List ℕ → Option Frame
read_wire [] = None
read_wire (a ∷ []) = None
read_wire (a ∷ (b ∷ [])) = None
read_wire (a ∷ (b ∷ (c ∷ []))) = None
read_wire (a ∷ (b ∷ (c ∷ (d ∷ [])))) = None
read_wire (a ∷ (b ∷ (c ∷ (d ∷ (e ∷ []))))) = None
read_wire (a ∷ (b ∷ (c ∷ (d ∷ (e ∷ (f ∷ [])))))) = None
read_wire (a ∷ (b ∷ (c ∷ (d ∷ (e ∷ (f ∷ (g ∷ []))))))) = None
read_wire (a ∷ (b ∷ (c ∷ (d ∷ (e ∷ (f ∷ (g ∷ (h ∷ [])))))))) =
    Some (wire_frame (record { class = a; number = number b c }) (record { class = d; number = number e f }) (number g h))
read_wire (a ∷ (b ∷ (c ∷ (d ∷ (e ∷ (f ∷ (g ∷ (h ∷ (i ∷ more))))))))) = None

abbrev pub read_end : List ℕ → Option Frame
read_end [] = Some end_frame
read_end (a ∷ more) = None

-- the frame that bytes write
abbrev pub parsed : List ℕ → Option Frame
parsed [] = None
parsed (k ∷ fields) =
    cond (k == 1) (read_domains fields)
    (cond (k == 2) (read_flop fields)
    (cond (k == 3) (read_gate fields)
    (cond (k == 4) (read_wire fields)
    (cond (k == 5) (read_end fields)
    None))))

-- ---- frames into a circuit

abbrev pub rising : ℕ → List ℕ → Bool
rising v [] = true
rising v (w ∷ skews) = nat_lt v w && rising w skews

abbrev pub last_of : ℕ → List ℕ → ℕ
last_of v [] = v
last_of v (w ∷ skews) = last_of w skews

abbrev pub sound_skews : ℕ → List ℕ → Bool
sound_skews parts [] = false
sound_skews parts (v ∷ skews) = (v == 0 && rising v skews) && nat_lt (last_of v skews) parts

abbrev pub sound_domains : ℕ → List ℕ → Bool
sound_domains parts skews = (nat_le parts most_parts && nat_le (length skews) most_domains) && sound_skews parts skews

abbrev pub below : ℕ → (ℕ → Bool) → Bool
below zero test = true
below (suc n) test = test n && below n test

-- every one of so many gates has a wire in and a wire out
abbrev pub joined_up : ℕ → List Wire → Bool
joined_up gates wires = below gates (λ g. any (enters g) wires && any (leaves g) wires)

abbrev pub refuse_unless : Bool → Ground → Option Ground → Option Ground
refuse_unless test g next = cond test next (Some g)

-- the smallest ground past the order on which a frame is refused
abbrev pub breach : Circuit → Frame → Option Ground
breach c (domains_frame parts skews) = refuse_unless (sound_domains parts skews) Domains None
breach c (flop_frame f) = refuse_unless (nat_lt (length c.flops) most_flops) Surplus None
breach c (gate_frame g) = refuse_unless (nat_lt (length c.gates) most_gates) Surplus (refuse_unless (nat_le g.smaller g.larger) Delays None)
breach c (wire_frame start end delay) =
    refuse_unless (nat_lt (length c.wires) most_wires) Surplus
    (refuse_unless (known (length c.flops) (length c.gates) start && known (length c.flops) (length c.gates) end) Absent
    (refuse_unless (forward (place start) (place end)) Backward None))
breach c end_frame = refuse_unless (joined_up (length c.gates) c.wires) Open None

abbrev pub grown : Circuit → Frame → Circuit
grown c (domains_frame parts skews) = with_domains c parts skews
grown c (flop_frame f) = more_flops c f
grown c (gate_frame g) = more_gates c g
grown c (wire_frame start end delay) = more_wires c (record { start = place start; end = place end; delay = delay })
grown c end_frame = c

-- ---- lines into a verdict

-- the kind of the last frame, 0 before the first, and the circuit so far
pub record State : Type 0 where
  pub reached : ℕ
  pub circuit : Circuit

abbrev pub begin : State
begin = record { reached = 0; circuit = empty }

abbrev pub may_stand : ℕ → ℕ → Bool
may_stand reached k = cond (reached == 0) (k == 1) ((nat_lt 1 k && nat_le reached k) && nat_lt reached 5)

abbrev pub or_refuse : Option Ground → State → Result State Ground
or_refuse None s = Ok s
or_refuse (Some g) s = Err g

abbrev pub admitted : State → Frame → Result State Ground
admitted s f = cond (may_stand s.reached (kind f)) (or_refuse (breach s.circuit f) (record { reached = kind f; circuit = grown s.circuit f })) (Err Order)

abbrev pub framed : State → Option Frame → Result State Ground
framed s None = Err Shape
framed s (Some f) = admitted s f

abbrev pub spelt : State → Option (List ℕ) → Result State Ground
spelt s None = Err Spelling
spelt s (Some bytes) = framed s (parsed bytes)

abbrev pub step : State → List ℕ → Result State Ground
step s line = spelt s (held line)

abbrev pub onward : Result State Ground → ℕ → (State → Verdict) → Verdict
onward (Ok s) n more = more s
onward (Err g) n more = refused (number_of g) n

-- the verdict on the lines from the n-th on
abbrev pub run : State → ℕ → List (List ℕ) → Verdict
run s n [] = cond (s.reached == 5) (accepted s.circuit) (refused (number_of Order) n)
run s n (line ∷ more) = onward (step s line) n (λ t. run t (n + 1) more)

abbrev pub judge : List ℕ → Verdict
judge text = run begin 1 (lines text)
