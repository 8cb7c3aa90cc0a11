-- Each text has exactly one answer.
use Rattle.std.proofs.Common.{◌≡◌, ℕ, ◌+◌, ◌<◌, List, [], ◌∷◌, ◌++◌, length, Ok, Err, Result, sym, refl, ap, ◌∙◌, inl, inr, arith}
use Rattle.std.proofs.lemmas.Bool.{ne_eqb, cases_order}
use Rattle.dumps.specs.declared.ground.Ground.{Ground}
use Rattle.dumps.specs.Ground.{number_of}
use Rattle.dumps.specs.Spelling.{lines}
use Rattle.dumps.specs.Frame.{Frame, frames_of}
use Rattle.dumps.specs.Verdict.{Verdict, accepted, refused, Clean, FaultNext, in_line, no_end, Judged, OneAnswer}
use Rattle.dumps.specs.Reading.{State, begin, step, onward, run, judge}
use Rattle.dumps.proofs.Order.{never_ends}
use Rattle.dumps.proofs.Steps.{says_same, Stepped, stepped}
use Rattle.dumps.proofs.Followed.{Good, good_none}
use Rattle.dumps.proofs.Lines.{written_saying}
use Rattle.dumps.proofs.Through.{reads_run, sound_reads}
use Rattle.dumps.proofs.Judged.{judged, taken_good}

-- where the reading stands past some lines
record Past (before : List Frame) (s : State) (n : ℕ) (seen left : List (List ℕ)) : Type 0 where
  state : State
  good : Good before state
  runs : run s n (seen ++ left) ≡ run state (n + length seen) left

past_one : (before : List Frame) (s t : State) (n : ℕ) (line : List ℕ) (seen left : List (List ℕ)) → step s line ≡ Ok t → Past before t (n + 1) seen left → Past before s n (line ∷ seen) left
past_one before s t n line seen left e p =
    record {
      state = p.state;
      good = p.good;
      runs =
          ap (λ r. onward r n (λ u. run u (n + 1) (seen ++ left))) e ∙ (p.runs
          ∙ ap (λ k. run p.state k left) (omega arith));
    }

-- the reading goes past lines that have no fault
clean_runs : (seen left : List (List ℕ)) (frames before : List Frame) (s : State) (n : ℕ) → Good frames s → Clean frames seen before → Past before s n seen left
clean_runs [] left frames before s n good e = record { state = s; good = rw e good; runs = ap (λ k. run s k left) (omega arith) }
clean_runs (line ∷ seen) left frames before s n good (f, says, faultless, more) =
    go (step s line) refl (stepped frames s good.follows line) (λ g t good'. clean_runs seen left (frames ++ (g ∷ [])) before t (n + 1) good')
  where
    go : (r : Result State Ground) → step s line ≡ r → Stepped frames s line r
        → ((g : Frame) (t : State) → Good (frames ++ (g ∷ [])) t → Clean (frames ++ (g ∷ [])) seen before → Past before t (n + 1) seen left) → Past before s n (line ∷ seen) left
    go (Ok t) e k rest =
        past_one before s t n line seen left e (rest k.frame t (taken_good frames s t line good k) (rw (says_same line k.frame f k.says says) more))
    go (Err g) e k rest = absurd (faultless g k.fits)

-- the reading refuses the line at fault, on the smallest ground
fault_runs : (before : List Frame) (s : State) (n : ℕ) (left : List (List ℕ)) (g : Ground) → Good before s → FaultNext before left g
    → ((h : Ground) → number_of h < number_of g → FaultNext before left h → ⊥) → run s n left ≡ refused (number_of g) n
fault_runs before s n left g good (no_end unended) smallest =
    rw (ne_eqb s.reached 5 (λ e. omega (arith, never_ends before s.reached good.follows.highest unended))) refl
fault_runs before s n left g good (in_line line more g' fault) smallest = go (step s line) (stepped before s good.follows line)
  where
    go : (r : Result State Ground) → Stepped before s line r → onward r n (λ t. run t (n + 1) more) ≡ refused (number_of g) n
    go (Ok t) k = absurd (k.faultless g fault)
    go (Err h) k = ap (λ m. refused m n) (elim (cases_order (number_of h) (number_of g)) [
      | inl same ↦ same
      | inr differ ↦ absurd (elim differ [
        | inl less ↦ smallest h less (in_line line more h k.fits)
        | inr more' ↦ k.smallest g more' fault
      ])
    ])

-- the reading comes to every verdict that is right
complete : (text : List ℕ) (v : Verdict) → Judged text v → judge text ≡ v
complete text (accepted c) (written, sound) = reads_run begin 1 (lines text) (frames_of c) c (written_saying (frames_of c) text written) (sound_reads c sound)
complete text (refused number line) r =
    let p = clean_runs r.seen r.left [] r.before begin 1 good_none r.clean in
    let smallest : (h : Ground) → number_of h < number_of r.ground → FaultNext r.before r.left h → ⊥ = λ h less. r.smallest h (rw r.numbered less) in
    ap (run begin 1) r.cut ∙ (p.runs ∙ (fault_runs r.before p.state (1 + length r.seen) r.left r.ground p.good r.fault smallest
    ∙ (λ i. refused (sym r.numbered i) (same i))))
  where
    same : 1 + length r.seen ≡ line
    same = omega (arith, r.at_line)

pub unique : (text : List ℕ) (v w : Verdict) → Judged text v → Judged text w → v ≡ w
unique text v w a b = sym (complete text v a) ∙ complete text w b

pub one_answer : OneAnswer
one_answer text = (judge text, judged text, λ w right. unique text w (judge text) right (judged text))
