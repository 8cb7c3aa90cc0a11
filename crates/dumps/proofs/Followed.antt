-- What the reading holds after some frames, and that one more frame keeps it.
use Rattle.std.proofs.Common.{◌≡◌, List, [], ◌∷◌, ◌++◌, None, sym, refl, ap, ◌∙◌, arith}
use Rattle.std.proofs.lemmas.List.{append-nil, append_assoc}
use Rattle.circuit.specs.Circuit.{Circuit}
use Rattle.dumps.specs.Frame.{Frame, domains_frame, flop_frame, gate_frame, wire_frame, end_frame, kind, Writable}
use Rattle.dumps.specs.Fault.{flops_of, gates_of, wires_of}
use Rattle.dumps.specs.Reading.{State, begin, grown}
use Rattle.dumps.proofs.Order.{none_highest, push_highest}
use Rattle.dumps.proofs.Grounds.{Follows, first_failed, checks}
use Rattle.dumps.proofs.Steps.{next}
use Rattle.dumps.proofs.Passed.{stood, all_passed}
use Rattle.dumps.proofs.Made.{Made, made_none, made_next}
use Rattle.dumps.proofs.Fitting.{Fitting, fitting_none, fitting_next}

-- a list that frames give in their order grows at its end with the frames
push_given : {X : Type 0} (given : List Frame → List X) → given [] ≡ [] → ((f : Frame) (frames : List Frame) → given (f ∷ frames) ≡ given (f ∷ []) ++ given frames)
    → (frames : List Frame) (f : Frame) → given (frames ++ (f ∷ [])) ≡ given frames ++ given (f ∷ [])
push_given given none more [] f = rw none refl
push_given given none more (g ∷ frames) f =
    more g (frames ++ (f ∷ [])) ∙ (ap (λ l. given (g ∷ []) ++ l) (push_given given none more frames f)
    ∙ (sym (append_assoc (given (g ∷ [])) (given frames) (given (f ∷ []))) ∙ ap (λ l. l ++ given (f ∷ [])) (sym (more g frames))))

flops_more : (f : Frame) (frames : List Frame) → flops_of (f ∷ frames) ≡ flops_of (f ∷ []) ++ flops_of frames
flops_more = elim [ domains_frame p s ↦ λ fs. refl | flop_frame x ↦ λ fs. refl | gate_frame g ↦ λ fs. refl | wire_frame a b d ↦ λ fs. refl | end_frame ↦ λ fs. refl ]

gates_more : (f : Frame) (frames : List Frame) → gates_of (f ∷ frames) ≡ gates_of (f ∷ []) ++ gates_of frames
gates_more = elim [ domains_frame p s ↦ λ fs. refl | flop_frame x ↦ λ fs. refl | gate_frame g ↦ λ fs. refl | wire_frame a b d ↦ λ fs. refl | end_frame ↦ λ fs. refl ]

wires_more : (f : Frame) (frames : List Frame) → wires_of (f ∷ frames) ≡ wires_of (f ∷ []) ++ wires_of frames
wires_more = elim [ domains_frame p s ↦ λ fs. refl | flop_frame x ↦ λ fs. refl | gate_frame g ↦ λ fs. refl | wire_frame a b d ↦ λ fs. refl | end_frame ↦ λ fs. refl ]

-- a circuit grows by what a frame gives
grown_flops : (c : Circuit) (f : Frame) → (grown c f).flops ≡ c.flops ++ flops_of (f ∷ [])
grown_flops c = elim [ domains_frame p s ↦ sym (append-nil _) | flop_frame x ↦ refl | gate_frame g ↦ sym (append-nil _) | wire_frame a b d ↦ sym (append-nil _) | end_frame ↦ sym (append-nil _) ]

grown_gates : (c : Circuit) (f : Frame) → (grown c f).gates ≡ c.gates ++ gates_of (f ∷ [])
grown_gates c = elim [ domains_frame p s ↦ sym (append-nil _) | flop_frame x ↦ sym (append-nil _) | gate_frame g ↦ refl | wire_frame a b d ↦ sym (append-nil _) | end_frame ↦ sym (append-nil _) ]

grown_wires : (c : Circuit) (f : Frame) → (grown c f).wires ≡ c.wires ++ wires_of (f ∷ [])
grown_wires c = elim [ domains_frame p s ↦ sym (append-nil _) | flop_frame x ↦ sym (append-nil _) | gate_frame g ↦ sym (append-nil _) | wire_frame a b d ↦ refl | end_frame ↦ sym (append-nil _) ]

-- what is grown is what the frames give, where it was so before
grown_given : {X : Type 0} (given : List Frame → List X) → given [] ≡ [] → ((f : Frame) (frames : List Frame) → given (f ∷ frames) ≡ given (f ∷ []) ++ given frames)
    → (frames : List Frame) (f : Frame) (old new : List X) → old ≡ given frames → new ≡ old ++ given (f ∷ []) → new ≡ given (frames ++ (f ∷ []))
grown_given given none more frames f old new e grows = grows ∙ (ap (λ l. l ++ given (f ∷ [])) e ∙ sym (push_given given none more frames f))

pub record Good (frames : List Frame) (s : State) : Type 0 where
  pub follows : Follows frames s
  pub made : Made frames s
  pub fitting : Fitting s

pub good_none : Good [] begin
good_none = record { follows = record { highest = none_highest; flops = refl; gates = refl; wires = refl }; made = made_none; fitting = fitting_none }

pub good_next : (frames : List Frame) (s : State) (f : Frame) → Good frames s → Writable f → first_failed (checks s f) ≡ None → Good (frames ++ (f ∷ [])) (next s f)
good_next frames s f g w e =
    let p = all_passed (checks s f) e in
    let o = stood s.reached (kind f) p.0 in
    let x = g.follows in
    record {
      follows =
          record {
            highest = push_highest frames s.reached f x.highest (omega arith);
            flops = grown_given flops_of refl flops_more frames f s.circuit.flops _ x.flops (grown_flops s.circuit f);
            gates = grown_given gates_of refl gates_more frames f s.circuit.gates _ x.gates (grown_gates s.circuit f);
            wires = grown_given wires_of refl wires_more frames f s.circuit.wires _ x.wires (grown_wires s.circuit f);
          };
      made = made_next frames s f g.made p;
      fitting = fitting_next frames s f g.made g.fitting w p;
    }
