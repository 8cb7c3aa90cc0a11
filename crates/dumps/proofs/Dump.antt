-- Every sound circuit has a dump: its frames, each written in full.
use Rattle.std.proofs.Common.{◌≡◌, ℕ, ◌+◌, ◌/◌, ◌%◌, ◌<◌, ◌≤◌, Bool, true, ◌&&◌, eqb, ltb, leb, List, [], ◌∷◌, ◌++◌, map, length, refl, arith}
use Rattle.std.specs.List.{flat_map, AllByRecursion}
use Rattle.std.proofs.lemmas.List.{append_assoc}
use Rattle.std.proofs.ByRecursion.{All-append, All-weaker}
use Rattle.std.proofs.lemmas.Bool.{ltb-true, leb-true, and_parts, cond_both}
use Rattle.circuit.specs.Circuit.{Gate, Place, at_flop, at_gate, Wire, Circuit}
use Rattle.circuit.specs.Terminal.{named}
use Rattle.circuit.specs.Limits.{most_parts, most_domains, delay_end}
use Rattle.circuit.specs.Sound.{SoundDomains, Sound, every, flop_fits, gate_fits, wire_fits, runs, there, forward}
use Rattle.dumps.specs.Spelling.{digit, spelled, line_feed}
use Rattle.dumps.specs.Frame.{Frame, domains_frame, flop_frame, gate_frame, end_frame, in_byte, in_field, bytes_of, Writable, in_full, Written, frame_of_wire, frames_of}
use Rattle.dumps.specs.Verdict.{EverySoundCircuitHasADump}
use Rattle.dumps.specs.Reading.{rising, last_of, sound_skews}
use Rattle.dumps.proofs.Frames.{writes_bytes}
use Rattle.dumps.proofs.Tests.{sound_domains_all}

-- ---- a text of frames

abbrev line_of : Frame → List ℕ
line_of f = spelled (bytes_of f) ++ (line_feed ∷ [])

text_written : (frames : List Frame) → AllByRecursion Writable frames → Written frames (flat_map line_of frames)
text_written [] all = refl
text_written (f ∷ frames) all =
    (bytes_of f, flat_map line_of frames, in_full f all.0, append_assoc (spelled (bytes_of f)) (line_feed ∷ []) (flat_map line_of frames), text_written frames all.1)

digit_byte : (n : ℕ) → n < 16 → digit n < 256
digit_byte n small = cond_both (ltb n 10) (48 + n) (87 + n) (λ d. d < 256) (λ e. omega arith) (λ e. omega arith)

spelled_bytes : (bytes : List ℕ) → AllByRecursion (λ b. b < 256) bytes → AllByRecursion (λ b. b < 256) (spelled bytes)
spelled_bytes [] all = tt
spelled_bytes (b ∷ bytes) all = (digit_byte (b / 16) (omega (arith, all.0)), (digit_byte (b % 16) (omega arith), spelled_bytes bytes all.1))

text_bytes : (frames : List Frame) → AllByRecursion Writable frames → AllByRecursion (λ b. b < 256) (flat_map line_of frames)
text_bytes [] all = tt
text_bytes (f ∷ frames) all =
    All-append (λ b. b < 256) (line_of f) (flat_map line_of frames)
    (All-append (λ b. b < 256) (spelled (bytes_of f)) (line_feed ∷ []) (spelled_bytes (bytes_of f) (writes_bytes f (bytes_of f) (in_full f all.0)).1) (omega arith, tt))
    (text_bytes frames all.1)

-- ---- the frames of a sound circuit can be written

below_last : (parts v : ℕ) (skews : List ℕ) → rising v skews ≡ true → last_of v skews < parts → AllByRecursion (λ w. w < parts) (v ∷ skews)
below_last parts v [] rises last = (last, tt)
below_last parts v (w ∷ skews) rises last =
    let (up, more) = and_parts (ltb v w) (rising w skews) rises in
    let rest = below_last parts w skews more last in
    (omega (arith, ltb-true v w up, rest.0), rest)

skews_below : (parts : ℕ) (skews : List ℕ) → sound_skews parts skews ≡ true → AllByRecursion (λ w. w < parts) skews
skews_below parts [] e = tt
skews_below parts (v ∷ skews) e =
    let (ab, last) = and_parts (eqb v 0 && rising v skews) (ltb (last_of v skews) parts) e in
    below_last parts v skews (and_parts (eqb v 0) (rising v skews) ab).1 (ltb-true (last_of v skews) parts last)

domains_writable : (parts : ℕ) (skews : List ℕ) → SoundDomains parts skews → Writable (domains_frame parts skews)
domains_writable parts skews d =
    let sound = (and_parts (leb parts most_parts && leb (length skews) most_domains) (sound_skews parts skews) (sound_domains_all parts skews d)).1 in (
      omega (arith, d.coarse),
      (omega (arith, d.few_domains), All-weaker (λ w. w < parts) in_field (λ w l. omega (arith, d.coarse)) skews (skews_below parts skews sound)),
    )

-- frames of one kind, from a test that each element passes
made_writable : {X : Type 0} (make : X → Frame) (test : X → Bool) → ((x : X) → test x ≡ true → Writable (make x)) → (xs : List X) → every test xs ≡ true → AllByRecursion Writable (map make xs)
made_writable make test fits [] e = tt
made_writable make test fits (x ∷ xs) e =
    let (here, more) = and_parts (test x) (every test xs) e in
    (fits x here, made_writable make test fits xs more)

gate_writable : (g : Gate) → gate_fits g ≡ true → Writable (gate_frame g)
gate_writable g e =
    let (a, b) = and_parts (leb g.smaller g.larger) (ltb g.larger delay_end) e in
    let below = ltb-true g.larger delay_end b in
    (omega (arith, leb-true g.smaller g.larger a), below)

place_writable : (flops gates : ℕ) (p : Place) → flops ≤ 65536 → gates ≤ 65536 → there flops gates p ≡ true → in_byte (named p).class × in_field (named p).number
place_writable flops gates (at_flop n) few_flops few_gates e = (omega arith, omega (arith, ltb-true n flops e))
place_writable flops gates (at_gate n) few_flops few_gates e = (omega arith, omega (arith, ltb-true n gates e))

wire_writable : (flops gates : ℕ) → flops ≤ 65536 → gates ≤ 65536 → (w : Wire) → wire_fits flops gates w ≡ true → Writable (frame_of_wire w)
wire_writable flops gates few_flops few_gates w e =
    let (run, below) = and_parts (runs flops gates w) (ltb w.delay delay_end) e in
    let (are, rises) = and_parts (there flops gates w.start && there flops gates w.end) (forward w.start w.end) run in
    let (a, b) = and_parts (there flops gates w.start) (there flops gates w.end) are in
    (place_writable flops gates w.start few_flops few_gates a, (place_writable flops gates w.end few_flops few_gates b, ltb-true w.delay delay_end below))

sound_writable : (c : Circuit) → Sound c → AllByRecursion Writable (frames_of c)
sound_writable c sound =
    let flops : ℕ = length c.flops in
    let gates : ℕ = length c.gates in (
      domains_writable c.parts c.skews sound.domains,
      All-append Writable (map flop_frame c.flops) _ (made_writable flop_frame flop_fits (λ x e. e) c.flops sound.flops_fit)
          (All-append Writable (map gate_frame c.gates) _ (made_writable gate_frame gate_fits gate_writable c.gates sound.gates_fit)
          (All-append Writable (map frame_of_wire c.wires) (end_frame ∷ [])
          (made_writable frame_of_wire (wire_fits flops gates) (wire_writable flops gates (omega (arith, sound.few_flops)) (omega (arith, sound.few_gates))) c.wires sound.wires_fit)
          (tt, tt))),
    )

pub every_sound_circuit_has_a_dump_lem : EverySoundCircuitHasADump
every_sound_circuit_has_a_dump_lem c sound =
    let all = sound_writable c sound in
    (flat_map line_of (frames_of c), text_bytes (frames_of c) all, (text_written (frames_of c) all, sound))
