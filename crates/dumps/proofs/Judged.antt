-- The verdict that the reading comes to is right.
use Rattle.std.proofs.Common.{◌≡◌, ℕ, ◌+◌, ◌<◌, Bool, true, false, cond, eqb, List, [], ◌∷◌, ◌++◌, length, Ok, Err, Result, sym, refl, ap, ◌∙◌, arith}
use Rattle.std.proofs.lemmas.List.{append-nil, append_assoc, length_push}
use Rattle.std.proofs.lemmas.Bool.{eqb-true, eqb-false}
use Rattle.dumps.specs.declared.ground.Ground.{Ground}
use Rattle.dumps.specs.declared.ground.Ground.TheVariants.{Order}
use Rattle.dumps.specs.Ground.{number_of}
use Rattle.dumps.specs.Spelling.{lines}
use Rattle.dumps.specs.Frame.{Frame, Says, frames_of}
use Rattle.dumps.specs.Fault.{Fault}
use Rattle.dumps.specs.Verdict.{accepted, refused, Clean, FaultNext, in_line, no_end, Judged}
use Rattle.dumps.specs.Reading.{State, begin, step, onward, run, judge}
use Rattle.dumps.proofs.Frames.{writes_writable}
use Rattle.dumps.proofs.Order.{highest_high, none_ends}
use Rattle.dumps.proofs.Steps.{Stepped, Taken, stepped}
use Rattle.dumps.proofs.Fitting.{fitting_sound}
use Rattle.dumps.proofs.Followed.{Good, good_none, good_next}
use Rattle.dumps.proofs.Lines.{Saying, saying_push, saying_written}

pub taken_good : (frames : List Frame) (s t : State) (line : List ℕ) → Good frames s → (k : Taken frames s line t) → Good (frames ++ (k.frame ∷ [])) t
taken_good frames s t line good k =
    rw k.moved (good_next frames s k.frame good (writes_writable k.frame k.says.0 k.says.2) k.passed)

clean_push : (before : List Frame) (seen : List (List ℕ)) (frames : List Frame) (line : List ℕ) (f : Frame)
    → Clean before seen frames → Says line f → ((g : Ground) → Fault frames line g → ⊥) → Clean before (seen ++ (line ∷ [])) (frames ++ (f ∷ []))
clean_push before [] frames line f e says faultless = (f, says, rw e at faultless, ap (λ l. l ++ (f ∷ [])) e)
clean_push before (l ∷ seen) frames line f (g, first, none, more) says faultless =
    (g, first, none, clean_push (before ++ (g ∷ [])) seen frames line f more says faultless)

-- the faults where a line is left, and where none is
line_fault : (before : List Frame) (line : List ℕ) (more : List (List ℕ)) (g : Ground) → FaultNext before (line ∷ more) g → Fault before line g
line_fault before line more g (in_line line' more' g' fault) = fault

end_fault : (before : List Frame) (g : Ground) → FaultNext before [] g → number_of g ≡ number_of Order
end_fault before g (no_end unended) = refl

-- the reading has come so far: past these lines, which say these frames and have no fault
record Come (text : List ℕ) (seen left : List (List ℕ)) (frames : List Frame) (s : State) : Type 0 where
  cut : lines text ≡ seen ++ left
  good : Good frames s
  clean : Clean [] seen frames
  saying : Saying seen frames

abbrev Onward : List ℕ → List (List ℕ) → Type 0
Onward text left = (seen : List (List ℕ)) (frames : List Frame) (s : State) → Come text seen left frames s → Judged text (run s (length seen + 1) left)

at_end : (text : List ℕ) → Onward text []
at_end text seen frames s come = go (eqb s.reached 5) refl
  where
    all_seen : lines text ≡ seen
    all_seen = come.cut ∙ append-nil seen

    go : (t : Bool) → eqb s.reached 5 ≡ t → Judged text (cond t (accepted s.circuit) (refused (number_of Order) (length seen + 1)))
    go true e =
        let ended = eqb-true s.reached 5 e in
        let saying : Saying (lines text) (frames_of s.circuit) = rw (all_seen, ← come.good.made.finish ended) come.saying in
        (saying_written (frames_of s.circuit) text saying, fitting_sound s come.good.fitting ended)
    go false e =
        let highest = come.good.follows.highest in
        let unended : s.reached < 5 = omega (arith, eqb-false s.reached 5 e, highest_high frames s.reached highest) in
        record {
          seen = seen;
          left = [];
          before = frames;
          ground = Order;
          cut = come.cut;
          clean = come.clean;
          at_line = refl;
          numbered = refl;
          fault = no_end (none_ends frames s.reached highest unended);
          smallest = λ g less fault. omega (arith, end_fault frames g fault);
        }

at_line : (text line : List ℕ) (more : List (List ℕ)) → Onward text more → Onward text (line ∷ more)
at_line text line more rest seen frames s come = go (step s line) (stepped frames s come.good.follows line)
  where
    go : (r : Result State Ground) → Stepped frames s line r → Judged text (onward r (length seen + 1) (λ t. run t (length seen + 1 + 1) more))
    go (Ok t) k =
        let come' : Come text (seen ++ (line ∷ [])) more (frames ++ (k.frame ∷ [])) t =
        record {
          cut = come.cut ∙ sym (append_assoc seen (line ∷ []) more);
          good = taken_good frames s t line come.good k;
          clean = clean_push [] seen frames line k.frame come.clean k.says k.faultless;
          saying = saying_push seen frames line k.frame come.saying k.says;
        } in
        rw (length_push seen line) at (rest (seen ++ (line ∷ [])) (frames ++ (k.frame ∷ [])) t come')
    go (Err g) k =
        record {
          seen = seen;
          left = line ∷ more;
          before = frames;
          ground = g;
          cut = come.cut;
          clean = come.clean;
          at_line = refl;
          numbered = refl;
          fault = in_line line more g k.fits;
          smallest = λ h less fault. k.smallest h less (line_fault frames line more h fault);
        }

from : (text : List ℕ) (left : List (List ℕ)) → Onward text left
from text [] = at_end text
from text (line ∷ more) = at_line text line more (from text more)

pub judged : (text : List ℕ) → Judged text (judge text)
judged text = from text (lines text) [] [] begin (record { cut = refl; good = good_none; clean = refl; saying = tt })
