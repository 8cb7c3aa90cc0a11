-- The frames of a sound circuit go through the reading from the first to the end.
use Rattle.std.proofs.Common.{◌≡◌, ℕ, ◌+◌, ◌<◌, ◌≤◌, Bool, true, ◌&&◌, ltb, leb, List, [], ◌∷◌, ◌++◌, map, length, None, Ok, sym, refl, ap, ◌∙◌, subst, arith}
use Rattle.std.proofs.lemmas.List.{append-nil, append_assoc, length-append}
use Rattle.std.proofs.lemmas.Bool.{lt-ltb, le-leb, ne_eqb, and_parts}
use Rattle.circuit.specs.Circuit.{FlipFlop, Gate, Wire, Circuit}
use Rattle.circuit.specs.Limits.{most_flops, most_gates, most_wires, delay_end}
use Rattle.circuit.specs.Sound.{Sound, every, gate_fits, wire_fits, runs, there, forward}
use Rattle.dumps.specs.Frame.{Frame, flop_frame, gate_frame, end_frame, kind, Says, frame_of_wire, frames_of}
use Rattle.dumps.specs.Verdict.{accepted}
use Rattle.dumps.specs.Reading.{State, begin, may_stand, or_refuse, step, spelt, framed, onward, run}
use Rattle.dumps.proofs.Frames.{says_all}
use Rattle.dumps.proofs.Tests.{sound_domains_all, joined_up_all}
use Rattle.dumps.proofs.Terminals.{there_known, place_named}
use Rattle.dumps.proofs.Grounds.{first_failed, checks, checks_past}
use Rattle.dumps.proofs.Steps.{next, admitted_is}
use Rattle.dumps.proofs.Lines.{Saying}

-- from this state all frames are taken, to the end, and give this circuit
abbrev pub Reads : State → List Frame → Circuit → Type 0
Reads s [] c = (s.reached ≡ 5) × (s.circuit ≡ c)
Reads s (f ∷ frames) c = (first_failed (checks s f) ≡ None) × Reads (next s f) frames c

-- ---- lines that say such frames

says_steps : (s : State) (line : List ℕ) (f : Frame) → Says line f → first_failed (checks s f) ≡ None → step s line ≡ Ok (next s f)
says_steps s line f says passed =
    let (bytes, e, p) = says_all line f says in
    ap (spelt s) e ∙ (ap (framed s) p ∙ (admitted_is s f ∙ ap (λ o. or_refuse o (next s f)) passed))

pub reads_run : (s : State) (n : ℕ) (more : List (List ℕ)) (frames : List Frame) (c : Circuit) → Saying more frames → Reads s frames c → run s n more ≡ accepted c
reads_run s n [] [] c all r = rw r.0 (ap accepted r.1)
reads_run s n [] (f ∷ frames) c all r = absurd all
reads_run s n (line ∷ more) [] c all r = absurd all
reads_run s n (line ∷ more) (f ∷ frames) c all r =
    ap (λ x. onward x n (λ t. run t (n + 1) more)) (says_steps s line f all.0 r.0) ∙ reads_run (next s f) (n + 1) more frames c all.1 r.1

-- ---- frames of one kind

may : (reached k : ℕ) → 0 < reached → 1 < k → reached ≤ k → reached < 5 → may_stand reached k ≡ true
may reached k later past rises unended =
    rw (ne_eqb reached 0 (λ e. omega arith), lt-ltb 1 k past, le-leb reached k rises, lt-ltb reached 5 unended) refl

in_order : (s : State) (f : Frame) → may_stand s.reached (kind f) ≡ true → first_failed (checks_past s.circuit f) ≡ None → first_failed (checks s f) ≡ None
in_order s f e rest = rw e rest

module _ {X : Type 0} (make : X → Frame) (k : ℕ) (past : 1 < k) (unended : k < 5) (circuit-at : List X → Circuit) (xs-all : List X) (frames : List Frame) (c : Circuit)
    (of-kind : (x : X) → kind (make x) ≡ k)
    (moves : (reached : ℕ) (done : List X) (x : X) → next (record { reached = reached; circuit = circuit-at done }) (make x) ≡ record { reached = k; circuit = circuit-at (done ++ (x ∷ [])) })
    (passes : (done : List X) (x : X) (left : List X) → done ++ (x ∷ left) ≡ xs-all → first_failed (checks_past (circuit-at done) (make x)) ≡ None)
    (rest : (reached : ℕ) → 0 < reached → reached ≤ k → Reads (record { reached = reached; circuit = circuit-at xs-all }) frames c)
  where
    block : (left done : List X) (reached : ℕ) → 0 < reached → reached ≤ k → done ++ left ≡ xs-all → Reads (record { reached = reached; circuit = circuit-at done }) (map make left ++ frames) c
    block [] done reached later rises e = subst (λ l. Reads (record { reached = reached; circuit = circuit-at l }) frames c) (sym e ∙ append-nil done) (rest reached later rises)
    block (x ∷ left) done reached later rises e = (
      in_order (record { reached = reached; circuit = circuit-at done }) (make x) (rw (of-kind x) (may reached k later past rises (omega arith))) (passes done x left e),
      subst (λ s. Reads s (map make left ++ frames) c) (sym (moves reached done x))
          (block left (done ++ (x ∷ [])) k (omega arith) (omega arith) (append_assoc done (x ∷ []) left ∙ e)),
    )

-- ---- the frames of a circuit

-- a test that each element of a list passes, at one of them
every_at : {X : Type 0} (test : X → Bool) (done : List X) (x : X) (left : List X) → every test (done ++ (x ∷ left)) ≡ true → test x ≡ true
every_at test [] x left h = (and_parts (test x) (every test left) h).0
every_at test (y ∷ done) x left h = every_at test done x left (and_parts (test y) (every test (done ++ (x ∷ left))) h).1

every_middle : {X : Type 0} (test : X → Bool) (done : List X) (x : X) (left all : List X) → done ++ (x ∷ left) ≡ all → every test all ≡ true → test x ≡ true
every_middle test done x left all e h = every_at test done x left (rw (← e) at h)

-- one more is not too many
room_for : {X : Type 0} (done : List X) (x : X) (left all : List X) (most : ℕ) → done ++ (x ∷ left) ≡ all → length all ≤ most → ltb (length done) most ≡ true
room_for done x left all most e few = lt-ltb (length done) most (omega (arith, simp length-append at (ap length e)))

module _ (c : Circuit) (sound : Sound c) where
  abbrev filled : List FlipFlop → List Gate → List Wire → Circuit
  filled flops gates wires = record { parts = c.parts; skews = c.skews; flops = flops; gates = gates; wires = wires }

  flop_passes : (done : List FlipFlop) (x : FlipFlop) (left : List FlipFlop) → done ++ (x ∷ left) ≡ c.flops → first_failed (checks_past (filled done [] []) (flop_frame x)) ≡ None
  flop_passes done x left e = rw (room_for done x left c.flops most_flops e sound.few_flops) refl

  gate_passes : (done : List Gate) (x : Gate) (left : List Gate) → done ++ (x ∷ left) ≡ c.gates → first_failed (checks_past (filled c.flops done []) (gate_frame x)) ≡ None
  gate_passes done x left e =
      let fits = every_middle gate_fits done x left c.gates e sound.gates_fit in
      rw (room_for done x left c.gates most_gates e sound.few_gates, (and_parts (leb x.smaller x.larger) (ltb x.larger delay_end) fits).0) refl

  wire_passes : (done : List Wire) (x : Wire) (left : List Wire) → done ++ (x ∷ left) ≡ c.wires → first_failed (checks_past (filled c.flops c.gates done) (frame_of_wire x)) ≡ None
  wire_passes done x left e =
      let flops : ℕ = length c.flops in
      let gates : ℕ = length c.gates in
      let fits = every_middle (wire_fits flops gates) done x left c.wires e sound.wires_fit in
      let run = (and_parts (runs flops gates x) (ltb x.delay delay_end) fits).0 in
      let (are, rises) = and_parts (there flops gates x.start && there flops gates x.end) (forward x.start x.end) run in
      let (a, b) = and_parts (there flops gates x.start) (there flops gates x.end) are in
      rw (room_for done x left c.wires most_wires e sound.few_wires, ← there_known flops gates x.start, ← there_known flops gates x.end, a, b, place_named x.start, place_named x.end, rises) refl

  wire_moves : (reached : ℕ) (done : List Wire) (x : Wire)
      → next (record { reached = reached; circuit = filled c.flops c.gates done }) (frame_of_wire x) ≡ record { reached = 4; circuit = filled c.flops c.gates (done ++ (x ∷ [])) }
  wire_moves reached done x =
      λ i. record { reached = 4; circuit = filled c.flops c.gates (done ++ (record { start = place_named x.start i; end = place_named x.end i; delay = x.delay } ∷ [])) }

  end_reads : (reached : ℕ) → 0 < reached → reached ≤ 4 → Reads (record { reached = reached; circuit = c }) (end_frame ∷ []) c
  end_reads reached later rises = (
    in_order (record { reached = reached; circuit = c }) end_frame (may reached 5 later (omega arith) (omega arith) (omega arith))
        (rw (joined_up_all (length c.gates) c.wires sound.fed sound.drained) refl),
    (refl, refl),
  )

  wires_read : (reached : ℕ) → 0 < reached → reached ≤ 3 → Reads (record { reached = reached; circuit = filled c.flops c.gates [] }) (map frame_of_wire c.wires ++ (end_frame ∷ [])) c
  wires_read reached later rises =
      block frame_of_wire 4 (omega arith) (omega arith) (filled c.flops c.gates) c.wires (end_frame ∷ []) c
      (λ x. refl) wire_moves wire_passes end_reads c.wires [] reached later (omega arith) refl

  gates_read : (reached : ℕ) → 0 < reached → reached ≤ 2 → Reads (record { reached = reached; circuit = filled c.flops [] [] }) (map gate_frame c.gates ++ (map frame_of_wire c.wires ++ (end_frame ∷ []))) c
  gates_read reached later rises =
      block gate_frame 3 (omega arith) (omega arith) (λ gates. filled c.flops gates []) c.gates (map frame_of_wire c.wires ++ (end_frame ∷ [])) c
      (λ x. refl) (λ r done x. refl) gate_passes wires_read c.gates [] reached later (omega arith) refl

  flops_read : Reads (record { reached = 1; circuit = filled [] [] [] }) (map flop_frame c.flops ++ (map gate_frame c.gates ++ (map frame_of_wire c.wires ++ (end_frame ∷ [])))) c
  flops_read =
      block flop_frame 2 (omega arith) (omega arith) (λ flops. filled flops [] []) c.flops (map gate_frame c.gates ++ (map frame_of_wire c.wires ++ (end_frame ∷ []))) c
      (λ x. refl) (λ r done x. refl) flop_passes gates_read c.flops [] 1 (omega arith) (omega arith) refl

  pub sound_reads : Reads begin (frames_of c) c
  sound_reads = (rw (sound_domains_all c.parts c.skews sound.domains) refl, flops_read)
