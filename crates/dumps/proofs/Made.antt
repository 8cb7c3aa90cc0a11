-- The frames read so far are those of the circuit so far.
use Rattle.std.proofs.Common.{◌≡◌, ℕ, ◌<◌, true, ◌&&◌, List, [], ◌∷◌, ◌++◌, map, length, sym, refl, ap, ◌∙◌, arith}
use Rattle.std.specs.List.{AllByRecursion}
use Rattle.std.proofs.lemmas.Bool.{and_parts}
use Rattle.std.proofs.lemmas.List.{append-nil, append_assoc, map_push}
use Rattle.circuit.specs.Circuit.{Circuit}
use Rattle.circuit.specs.Terminal.{Terminal, known, place}
use Rattle.dumps.specs.Frame.{Frame, domains_frame, flop_frame, gate_frame, wire_frame, end_frame, frame_of_wire, frames_of}
use Rattle.dumps.specs.Reading.{State, begin}
use Rattle.dumps.proofs.Terminals.{known_present}
use Rattle.dumps.proofs.Grounds.{checks}
use Rattle.dumps.proofs.Steps.{next}
use Rattle.dumps.proofs.Passed.{stood}

-- the frames of a circuit but for the end
abbrev body : Circuit → List Frame
body c = domains_frame c.parts c.skews ∷ (map flop_frame c.flops ++ (map gate_frame c.gates ++ map frame_of_wire c.wires))

pub record Made (frames : List Frame) (s : State) : Type 0 where
  pub start : s.reached ≡ 0 → frames ≡ []
  pub middle : 0 < s.reached → s.reached < 5 → frames ≡ body s.circuit
  pub finish : s.reached ≡ 5 → frames ≡ frames_of s.circuit
  pub no_flops : s.reached < 2 → s.circuit.flops ≡ []
  pub no_gates : s.reached < 3 → s.circuit.gates ≡ []
  pub no_wires : s.reached < 4 → s.circuit.wires ≡ []

pub made_none : Made [] begin
made_none = record { start = λ e. refl; middle = λ l h. absurd (omega arith); finish = λ e. absurd (omega arith); no_flops = λ l. refl; no_gates = λ l. refl; no_wires = λ l. refl }

push_last : {X : Type 0} (make : X → Frame) (xs : List X) (x : X) → (map make xs ++ []) ++ (make x ∷ []) ≡ map make (xs ++ (x ∷ [])) ++ []
push_last make xs x = simp (append-nil, map_push)

regroup : (a b c d : List Frame) → (a ++ (b ++ c)) ++ d ≡ a ++ (b ++ (c ++ d))
regroup a b c d = simp append_assoc

-- a wire whose terminals are there says again the frame that it comes from
wire_back : (flops gates : ℕ) (start end : Terminal) (delay : ℕ) → (known flops gates start && known flops gates end) ≡ true
    → wire_frame start end delay ≡ frame_of_wire (record { start = place start; end = place end; delay = delay })
wire_back flops gates start end delay k =
    let (ks, ke) = and_parts (known flops gates start) (known flops gates end) k in
    rw ((known_present flops gates start ks).back, (known_present flops gates end ke).back)

pub made_next : (frames : List Frame) (s : State) (f : Frame) → Made frames s → AllByRecursion (λ c. c.passed ≡ true) (checks s f) → Made (frames ++ (f ∷ [])) (next s f)
made_next frames s (domains_frame parts skews) m p =
    let o = stood s.reached 1 p.0 in
    record {
      start = λ e. absurd (omega arith);
      middle = λ l h. rw (m.start (omega arith), m.no_flops (omega arith), m.no_gates (omega arith), m.no_wires (omega arith)) refl;
      finish = λ e. absurd (omega arith);
      no_flops = λ l. m.no_flops (omega arith);
      no_gates = λ l. m.no_gates (omega arith);
      no_wires = λ l. m.no_wires (omega arith);
    }
made_next frames s (flop_frame f) m p =
    let o = stood s.reached 2 p.0 in
    let c = s.circuit in
    let first : Frame = domains_frame c.parts c.skews in
    let e : frames ≡ body s.circuit = m.middle (omega arith) (omega arith) in
    record {
      start = λ e. absurd (omega arith);
      middle = λ l h. rw (e, m.no_gates (omega arith), m.no_wires (omega arith)) (ap (λ l. first ∷ l) (push_last flop_frame c.flops f));
      finish = λ e. absurd (omega arith);
      no_flops = λ l. absurd (omega arith);
      no_gates = λ l. m.no_gates (omega arith);
      no_wires = λ l. m.no_wires (omega arith);
    }
made_next frames s (gate_frame g) m p =
    let o = stood s.reached 3 p.0 in
    let c = s.circuit in
    let first : Frame = domains_frame c.parts c.skews in
    let e : frames ≡ body s.circuit = m.middle (omega arith) (omega arith) in
    record {
      start = λ e. absurd (omega arith);
      middle = λ l h. rw (e, m.no_wires (omega arith)) (ap (λ l. first ∷ l) (append_assoc (map flop_frame c.flops) _ _ ∙ ap (λ l. map flop_frame c.flops ++ l) (push_last gate_frame c.gates g)));
      finish = λ e. absurd (omega arith);
      no_flops = λ l. absurd (omega arith);
      no_gates = λ l. absurd (omega arith);
      no_wires = λ l. m.no_wires (omega arith);
    }
made_next frames s (wire_frame start end delay) m p =
    let o = stood s.reached 4 p.0 in
    let c = s.circuit in
    let first : Frame = domains_frame c.parts c.skews in
    let flops : List Frame = map flop_frame c.flops in
    let gates : List Frame = map gate_frame c.gates in
    let wires : List Frame = map frame_of_wire c.wires in
    let e : frames ≡ body s.circuit = m.middle (omega arith) (omega arith) in
    record {
      start = λ e. absurd (omega arith);
      middle = λ l h. rw (e, wire_back (length c.flops) (length c.gates) start end delay p.1.1.0)
          (ap (λ l. first ∷ l) (regroup flops gates wires _ ∙ ap (λ l. flops ++ (gates ++ l)) (sym (map_push frame_of_wire c.wires _))));
      finish = λ e. absurd (omega arith);
      no_flops = λ l. absurd (omega arith);
      no_gates = λ l. absurd (omega arith);
      no_wires = λ l. absurd (omega arith);
    }
made_next frames s end_frame m p =
    let o = stood s.reached 5 p.0 in
    let c = s.circuit in
    let first : Frame = domains_frame c.parts c.skews in
    let flops : List Frame = map flop_frame c.flops in
    let gates : List Frame = map gate_frame c.gates in
    let wires : List Frame = map frame_of_wire c.wires in
    let e : frames ≡ body s.circuit = m.middle (omega arith) (omega arith) in
    record {
      start = λ e. absurd (omega arith);
      middle = λ l h. absurd (omega arith);
      finish = λ k. rw e (ap (λ l. first ∷ l) (regroup flops gates wires (end_frame ∷ [])));
      no_flops = λ l. absurd (omega arith);
      no_gates = λ l. absurd (omega arith);
      no_wires = λ l. absurd (omega arith);
    }
