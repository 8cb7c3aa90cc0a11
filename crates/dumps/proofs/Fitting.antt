-- The circuit so far keeps its limits.
use Rattle.std.proofs.Common.{◌≡◌, ℕ, ◌<◌, ◌≤◌, true, ◌&&◌, ltb, leb, List, [], ◌∷◌, ◌++◌, length, refl, arith}
use Rattle.std.specs.List.{AllByRecursion}
use Rattle.std.proofs.lemmas.Bool.{ltb-true, lt-ltb, and_parts, and_from}
use Rattle.std.proofs.lemmas.List.{length_push}
use Rattle.circuit.specs.Circuit.{Wire}
use Rattle.circuit.specs.Terminal.{Terminal, known, place}
use Rattle.circuit.specs.Limits.{most_flops, most_gates, most_wires, delay_end}
use Rattle.circuit.specs.Sound.{SoundDomains, Fed, Drained, Sound, every, flop_fits, gate_fits, wire_fits, runs, there, forward}
use Rattle.dumps.specs.Frame.{Frame, domains_frame, flop_frame, gate_frame, wire_frame, end_frame, Writable}
use Rattle.dumps.specs.Reading.{State, begin}
use Rattle.circuit.proofs.Every.{every_push}
use Rattle.dumps.proofs.Tests.{sound_domains_right, joined_up_right}
use Rattle.dumps.proofs.Terminals.{known_present}
use Rattle.dumps.proofs.Grounds.{checks}
use Rattle.dumps.proofs.Steps.{next}
use Rattle.dumps.proofs.Passed.{stood}
use Rattle.dumps.proofs.Made.{Made}

pub record Fitting (s : State) : Type 0 where
  pub domains : SoundDomains s.circuit.parts s.circuit.skews
  pub few_flops : length s.circuit.flops ≤ most_flops
  pub few_gates : length s.circuit.gates ≤ most_gates
  pub few_wires : length s.circuit.wires ≤ most_wires
  pub flops_fit : every flop_fits s.circuit.flops ≡ true
  pub gates_fit : every gate_fits s.circuit.gates ≡ true
  pub wires_fit : every (wire_fits (length s.circuit.flops) (length s.circuit.gates)) s.circuit.wires ≡ true
  pub joined : s.reached ≡ 5 → Fed (length s.circuit.gates) s.circuit.wires × Drained (length s.circuit.gates) s.circuit.wires

pub fitting_none : Fitting begin
fitting_none =
    record {
      domains = sound_domains_right 1 (0 ∷ []) refl;
      few_flops = omega arith;
      few_gates = omega arith;
      few_wires = omega arith;
      flops_fit = refl;
      gates_fit = refl;
      wires_fit = refl;
      joined = λ e. absurd (omega arith);
    }

-- past the end, it is sound
pub fitting_sound : (s : State) → Fitting s → s.reached ≡ 5 → Sound s.circuit
fitting_sound s f ended =
    record {
      domains = f.domains;
      few_flops = f.few_flops;
      few_gates = f.few_gates;
      few_wires = f.few_wires;
      flops_fit = f.flops_fit;
      gates_fit = f.gates_fit;
      wires_fit = f.wires_fit;
      fed = (f.joined ended).0;
      drained = (f.joined ended).1;
    }

-- room for one more
room : {X : Type 0} (xs : List X) (x : X) (most : ℕ) → ltb (length xs) most ≡ true → length (xs ++ (x ∷ [])) ≤ most
room xs x most e = rw (length_push xs x) (omega (arith, ltb-true (length xs) most e))

-- no wires fit any circuit
no_wires_fit : (flops gates : ℕ) (wires : List Wire) → wires ≡ [] → every (wire_fits flops gates) wires ≡ true
no_wires_fit flops gates wires e = rw e refl

-- a wire that passes its checks fits
passed_fits : (flops gates : ℕ) (start end : Terminal) (delay : ℕ) → (known flops gates start && known flops gates end) ≡ true → forward (place start) (place end) ≡ true → delay < delay_end
    → wire_fits flops gates (record { start = place start; end = place end; delay = delay }) ≡ true
passed_fits flops gates start end delay k onward below =
    let (ks, ke) = and_parts (known flops gates start) (known flops gates end) k in
    let is_there = and_from (there flops gates (place start)) (there flops gates (place end)) (known_present flops gates start ks).is_there (known_present flops gates end ke).is_there in
    and_from (runs flops gates (record { start = place start; end = place end; delay = delay })) (ltb delay delay_end)
    (and_from (there flops gates (place start) && there flops gates (place end)) (forward (place start) (place end)) is_there onward)
    (lt-ltb delay delay_end below)

pub fitting_next : (frames : List Frame) (s : State) (f : Frame) → Made frames s → Fitting s → Writable f → AllByRecursion (λ c. c.passed ≡ true) (checks s f) → Fitting (next s f)
fitting_next frames s (domains_frame parts skews) m f w p =
    record {
      domains = sound_domains_right parts skews p.1.0;
      few_flops = f.few_flops;
      few_gates = f.few_gates;
      few_wires = f.few_wires;
      flops_fit = f.flops_fit;
      gates_fit = f.gates_fit;
      wires_fit = f.wires_fit;
      joined = λ e. absurd (omega arith);
    }
fitting_next frames s (flop_frame x) m f w p =
    let o = stood s.reached 2 p.0 in
    record {
      domains = f.domains;
      few_flops = room s.circuit.flops x most_flops p.1.0;
      few_gates = f.few_gates;
      few_wires = f.few_wires;
      flops_fit = every_push flop_fits s.circuit.flops x f.flops_fit w;
      gates_fit = f.gates_fit;
      wires_fit = no_wires_fit _ _ s.circuit.wires (m.no_wires (omega arith));
      joined = λ e. absurd (omega arith);
    }
fitting_next frames s (gate_frame x) m f w p =
    let o = stood s.reached 3 p.0 in
    record {
      domains = f.domains;
      few_flops = f.few_flops;
      few_gates = room s.circuit.gates x most_gates p.1.0;
      few_wires = f.few_wires;
      flops_fit = f.flops_fit;
      gates_fit = every_push gate_fits s.circuit.gates x f.gates_fit (and_from (leb x.smaller x.larger) (ltb x.larger delay_end) p.1.1.0 (lt-ltb x.larger delay_end w.1));
      wires_fit = no_wires_fit _ _ s.circuit.wires (m.no_wires (omega arith));
      joined = λ e. absurd (omega arith);
    }
fitting_next frames s (wire_frame start end delay) m f w p =
    let flops : ℕ = length s.circuit.flops in
    let gates : ℕ = length s.circuit.gates in
    record {
      domains = f.domains;
      few_flops = f.few_flops;
      few_gates = f.few_gates;
      few_wires = room s.circuit.wires _ most_wires p.1.0;
      flops_fit = f.flops_fit;
      gates_fit = f.gates_fit;
      wires_fit = every_push (wire_fits flops gates) s.circuit.wires _ f.wires_fit (passed_fits flops gates start end delay p.1.1.0 p.1.1.1.0 w.1.1);
      joined = λ e. absurd (omega arith);
    }
fitting_next frames s end_frame m f w p =
    record {
      domains = f.domains;
      few_flops = f.few_flops;
      few_gates = f.few_gates;
      few_wires = f.few_wires;
      flops_fit = f.flops_fit;
      gates_fit = f.gates_fit;
      wires_fit = f.wires_fit;
      joined = λ e. joined_up_right (length s.circuit.gates) s.circuit.wires p.1.0;
    }
