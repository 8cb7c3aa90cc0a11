-- A text is written from frames exactly when its lines say them.
use Rattle.std.proofs.Common.{◌≡◌, ℕ, ◌+◌, ◌/◌, ◌%◌, ◌≤◌, Bool, true, false, cond, eqb, ltb, List, [], ◌∷◌, ◌++◌, refl, ap, ◌∙◌, arith}
use Rattle.std.specs.List.{flat_map}
use Rattle.std.proofs.lemmas.List.{append_assoc}
use Rattle.std.proofs.lemmas.Bool.{ne_eqb, cond_both}
use Rattle.dumps.specs.Spelling.{digit, spelled, line_feed, before_lines, lines}
use Rattle.dumps.specs.Frame.{Frame, Writes, Says, Written}
use Rattle.dumps.proofs.Frames.{writes_bytes}

-- each line says the frame in its place
abbrev pub Saying : List (List ℕ) → List Frame → Type 0
Saying [] [] = Unit {0}
Saying [] (f ∷ frames) = ⊥
Saying (line ∷ more) [] = ⊥
Saying (line ∷ more) (f ∷ frames) = Says line f × Saying more frames

pub saying_push : (seen : List (List ℕ)) (frames : List Frame) (line : List ℕ) (f : Frame) → Saying seen frames → Says line f → Saying (seen ++ (line ∷ [])) (frames ++ (f ∷ []))
saying_push [] [] line f all says = (says, tt)
saying_push [] (g ∷ frames) line f all says = absurd all
saying_push (l ∷ seen) [] line f all says = absurd all
saying_push (l ∷ seen) (g ∷ frames) line f all says = (all.0, saying_push seen frames line f all.1 says)

-- ---- lines and the text

abbrev all_of : List (List ℕ) → List ℕ
all_of more = flat_map (λ (line : List ℕ). line) more

all_before : (b : ℕ) (more : List (List ℕ)) → all_of (before_lines b more) ≡ b ∷ all_of more
all_before b [] = refl
all_before b (line ∷ more) = refl

-- the lines of a text are the text
all_lines : (text : List ℕ) → all_of (lines text) ≡ text
all_lines [] = refl
all_lines (b ∷ text) = go (eqb b line_feed) (all_lines text)
  where
    go : (t : Bool) → all_of (lines text) ≡ text → all_of (cond t ((b ∷ []) ∷ lines text) (before_lines b (lines text))) ≡ b ∷ text
    go true rest = ap (λ l. b ∷ l) rest
    go false rest = all_before b (lines text) ∙ ap (λ l. b ∷ l) rest

digit_low : (n : ℕ) → 48 ≤ digit n
digit_low n = cond_both (ltb n 10) (48 + n) (87 + n) (λ d. 48 ≤ d) (λ e. omega arith) (λ e. omega arith)

no_feed : (n : ℕ) → eqb (digit n) line_feed ≡ false
no_feed n = ne_eqb (digit n) line_feed (λ e. omega (arith, digit_low n))

-- the first line of a text that begins with digits and a line feed
first_line : (bytes rest : List ℕ) → lines (spelled bytes ++ (line_feed ∷ rest)) ≡ (spelled bytes ++ (line_feed ∷ [])) ∷ lines rest
first_line [] rest = refl
first_line (b ∷ bytes) rest = rw (no_feed (b / 16), no_feed (b % 16), first_line bytes rest) refl

-- ---- saying and writing

writes_says : (f : Frame) (bytes : List ℕ) → Writes f bytes → Says (spelled bytes ++ (line_feed ∷ [])) f
writes_says f bytes w =
    let b = writes_bytes f bytes w in
    (bytes, record { some_byte = b.0; in_range = b.1; spelt = refl }, w)

pub written_saying : (frames : List Frame) (text : List ℕ) → Written frames text → Saying (lines text) frames
written_saying [] text e = rw e tt
written_saying (f ∷ frames) text (bytes, rest, w, e, more) = rw (e, first_line bytes rest) (writes_says f bytes w, written_saying frames rest more)

saying_all : (more : List (List ℕ)) (frames : List Frame) → Saying more frames → Written frames (all_of more)
saying_all [] [] all = refl
saying_all [] (f ∷ frames) all = absurd all
saying_all (line ∷ more) [] all = absurd all
saying_all (line ∷ more) (f ∷ frames) all =
    let (bytes, holds, w) = all.0 in
    (bytes, all_of more, w, ap (λ l. l ++ all_of more) holds.spelt ∙ append_assoc (spelled bytes) (line_feed ∷ []) (all_of more), saying_all more frames all.1)

pub saying_written : (frames : List Frame) (text : List ℕ) → Saying (lines text) frames → Written frames text
saying_written frames text all = rw (all_lines text) at (saying_all (lines text) frames all)
