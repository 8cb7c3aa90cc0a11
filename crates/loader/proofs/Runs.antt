-- The reading, one line on.
use Rattle.std.proofs.Common.{◌≡◌, ℕ, ◌+◌, ◌<◌, ◌≤◌, Bool, true, false, cond, eqb, List, [], ◌∷◌, ◌++◌, length, Some, None, Ok, Err, Option, Result, sym, refl, ap, ◌∙◌, subst, ⊎_elim, MatchResult, arith}
use Rattle.std.specs.Result.{IsErrAnd}
use Rattle.std.proofs.lemmas.Result.{err_from_is_err_and}
use Rattle.std.proofs.lemmas.List.{length-append}
use Rattle.std.proofs.lemmas.Bool.{eq-eqb, ne_eqb, cond-true, cond-false, cases_lt}
use Rattle.circuit.specs.Circuit.{Circuit}
use Rattle.circuit.specs.Sound.{Covered}
use Rattle.dumps.specs.declared.ground.Ground.{Ground}
use Rattle.dumps.specs.declared.ground.Ground.TheVariants.{Order, Open}
use Rattle.dumps.specs.Ground.{number_of}
use Rattle.dumps.specs.Spelling.{lines}
use Rattle.dumps.specs.Frame.{Frame, domains_frame, flop_frame, gate_frame, wire_frame, end_frame, kind}
use Rattle.dumps.specs.Verdict.{accepted, refused}
use Rattle.dumps.specs.Reading.{State, begin, held, parsed, may_stand, breach, grown, or_refuse, admitted, framed, spelt, step, onward, run, judge, joined_up, refuse_unless}
use Rattle.dumps.proofs.Tests.{joined_up_right}
use Rattle.netlist.specs.declared.block.Block.{Block}
use Rattle.loader.specs.declared.faults.LineFault.{LineFault}
use Rattle.loader.specs.declared.faults.LineFault.TheVariants as line_fault
use Rattle.loader.specs.declared.text.LoadError.{LoadError}
use Rattle.loader.specs.Assemblies.{LineTaken, Finished}
use Rattle.loader.specs.Load.{with_line, Refusing, TextRead}
use Rattle.loader.proofs.Feeds.{held_short}

-- a line that was taken
pub run_on : (s t : State) (n : ℕ) (line : List ℕ) (more : List (List ℕ)) → step s line ≡ Ok t → run s n (line ∷ more) ≡ run t (n + 1) more
run_on s t n line more e = ap (λ r. onward r n (λ u. run u (n + 1) more)) e

-- a line that was not
pub run_off : (s : State) (g : Ground) (n : ℕ) (line : List ℕ) (more : List (List ℕ)) → step s line ≡ Err g → run s n (line ∷ more) ≡ refused (number_of g) n
run_off s g n line more e = ap (λ r. onward r n (λ u. run u (n + 1) more)) e

-- no line is left
pub run_done : (s : State) (n : ℕ) → s.reached ≡ 5 → run s n [] ≡ accepted s.circuit
run_done s n e = cond-true (eqb s.reached 5) (accepted s.circuit) (refused (number_of Order) n) (eq-eqb s.reached 5 e)

pub run_short : (s : State) (n : ℕ) → (s.reached ≡ 5 → ⊥) → run s n [] ≡ refused (number_of Order) n
run_short s n h = cond-false (eqb s.reached 5) (accepted s.circuit) (refused (number_of Order) n) (ne_eqb s.reached 5 h)

-- a line that was taken has at least a digit and a line feed
pub taken_long : (s t : State) (line : List ℕ) → step s line ≡ Ok t → 2 ≤ length line
taken_long s t line e =
    ⊎_elim (λ l. cc (ap (spelt s) (held_short line l))) (λ h. h) (cases_lt (length line) 2)

-- a frame that may stand after the end of its tests
free_covered : (c : Circuit) (f : Frame) → breach c f ≡ None → kind f ≡ 5 → Covered (grown c f)
free_covered c (domains_frame parts skews) e k = absurd (omega arith)
free_covered c (flop_frame f) e k = absurd (omega arith)
free_covered c (gate_frame g) e k = absurd (omega arith)
free_covered c (wire_frame start end delay) e k = absurd (omega arith)
free_covered c end_frame e k = joined_up_right (length c.gates) c.wires (by (joined_up (length c.gates) c.wires) e)
  where
    by : (t : Bool) → refuse_unless t Open None ≡ None → t ≡ true
    by true e = refl
    by false e = cc

same_error : {X : Type 0} {e d : LoadError} → ◌≡◌ {A = Result X LoadError} (Err e) (Err d) → e ≡ d
same_error h = cc

same_state : (s t : State) → ◌≡◌ {A = Result State Ground} (Ok s) (Ok t) → s ≡ t
same_state s t e = cc

admitted_covered : (s t : State) (f : Frame) → admitted s f ≡ Ok t → t.reached ≡ 5 → Covered t.circuit
admitted_covered s t f e r = by (may_stand s.reached (kind f)) e
  where
    free : (o : Option Ground) → breach s.circuit f ≡ o → or_refuse o (record { reached = kind f; circuit = grown s.circuit f }) ≡ Ok t → Covered t.circuit
    free None h e =
        let same = same_state (record { reached = kind f; circuit = grown s.circuit f }) t e in
        let P : State → Type 0 = λ u. Covered u.circuit in
        subst P same (free_covered s.circuit f h (ap (λ (u : State). u.reached) same ∙ r))
    free (Some g) h e = cc

    by : (b : Bool) → cond b (or_refuse (breach s.circuit f) (record { reached = kind f; circuit = grown s.circuit f })) (Err Order) ≡ Ok t → Covered t.circuit
    by true e = free (breach s.circuit f) refl e
    by false e = cc

framed_covered : (s t : State) (o : Option Frame) → framed s o ≡ Ok t → t.reached ≡ 5 → Covered t.circuit
framed_covered s t None e r = cc
framed_covered s t (Some f) e r = admitted_covered s t f e r

spelt_covered : (s t : State) (o : Option (List ℕ)) → spelt s o ≡ Ok t → t.reached ≡ 5 → Covered t.circuit
spelt_covered s t None e r = cc
spelt_covered s t (Some bytes) e r = framed_covered s t (parsed bytes) e r

-- past the end no gate is open
pub taken_covered : (s t : State) (line : List ℕ) → step s line ≡ Ok t → t.reached ≡ 5 → Covered t.circuit
taken_covered s t line e r = spelt_covered s t (held line) e r

-- the reading of a text has come to the lines that are left
pub record Reached (text left : List ℕ) (s : State) (number : ℕ) : Type 0 where
  pub from_one : 0 < number
  -- each line before had two bytes
  pub counted : number + number + length left ≤ length text + 2
  pub verdict : judge text ≡ run s number (lines left)
  -- past the end no gate is open
  pub closed : s.reached ≡ 5 → Covered s.circuit

pub reached_start : (text : List ℕ) → Reached text text begin 1
reached_start text = record { from_one = omega arith; counted = omega arith; verdict = refl; closed = λ e. absurd (omega arith) }

-- the fault of a result, with the line
abbrev pub at_line : {X : Type 0} → Result X LineFault → ℕ → Result X LoadError
at_line (Ok x) n = Ok x
at_line (Err f) n = Err (with_line f n)

pub at_line-from_map_err : {X : Type 0} (r : Result X LineFault) (out : Result X LoadError) (n : ℕ) (Q : LineFault → LoadError → Type 0) → MatchResult r (λ x. out ≡ Ok x) (λ f. IsErrAnd out (Q f)) → ((f : LineFault) (e : LoadError) → Q f e → e ≡ with_line f n) → out ≡ at_line r n
at_line-from_map_err (Ok x) out n Q h k = h
at_line-from_map_err (Err f) out n Q h k = let p = err_from_is_err_and out h in p.1 ∙ ap Err (k f p.0 p.2)

module _ (text left line rest : List ℕ) (s t : State) (n : ℕ) (so_far : Reached text left s n) (parts : left ≡ line ++ rest) (cut : lines left ≡ line ∷ lines rest) where
  -- the reading goes on after this line
  pub reached_more : {X : Type 0} (r : Result X LineFault) (x : X) → LineTaken s line r t → Ok x ≡ at_line r n → Reached text rest t (n + 1)
  reached_more (Ok y) x taken h =
      record {
        from_one = omega arith;
        counted = omega (arith, so_far.counted, taken_long s t line taken, ap length parts, length-append line rest);
        verdict = so_far.verdict ∙ (ap (run s n) cut ∙ run_on s t n line (lines rest) taken);
        closed = taken_covered s t line taken;
      }
  reached_more (Err f) x taken h = cc

  -- the reading stops at this line
  pub refusing : {X : Type 0} (r : Result X LineFault) (e : LoadError) → 0 < length left → LineTaken s line r t → Err e ≡ at_line r n → Refusing e text (judge text)
  refusing (Ok x) e some taken h = cc
  refusing (Err (line_fault.Refused g)) e some stopped h = let P : LoadError → Type 0 = λ e. Refusing e text (judge text) in subst P (sym (same_error h)) (so_far.verdict ∙ (ap (run s n) cut ∙ run_off s g n line (lines rest) stopped))
  refusing (Err line_fault.Memory) e some stopped h = let P : LoadError → Type 0 = λ e. Refusing e text (judge text) in subst P (sym (same_error h)) (omega (arith, so_far.counted, so_far.from_one))

-- no line is left
pub finishing : (text : List ℕ) (s : State) (n : ℕ) (r : Result Block LineFault) → Reached text [] s n → Finished s r → TextRead (at_line r n) text (judge text)
finishing text s n (Ok b) so_far done = so_far.verdict ∙ (run_done s n done.0 ∙ ap accepted (sym done.1))
finishing text s n (Err f) so_far done =
    let P : LineFault → Type 0 = λ f. Refusing (with_line f n) text (judge text) in
    ⊎_elim
    (λ h. subst P (sym h.1) (so_far.verdict ∙ run_short s n h.0))
    (λ h. absurd (h.1 (so_far.closed h.0)))
    done
