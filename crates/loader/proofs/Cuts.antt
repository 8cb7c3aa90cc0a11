-- The first line of a text.
use Rattle.std.proofs.Common.{◌≡◌, ℕ, zero, suc, ◌+◌, ◌<◌, min, eqb, List, [], ◌∷◌, ◌++◌, length, sym, ap, ◌∙◌, subst, arith}
use Rattle.std.proofs.lemmas.Bool.{cond-true, cond-false}
use Rattle.std.specs.List.{IsFirstMatchOrLen}
use Rattle.dumps.specs.Spelling.{line_feed, before_lines, lines}

-- up to the first line feed and with it, or else all of the text
first_line : (line rest : List ℕ) (i : ℕ) → length line ≡ min (i + 1) (length (line ++ rest)) → 0 < length (line ++ rest) → IsFirstMatchOrLen (λ b. eqb b line_feed) (line ++ rest) i → lines (line ++ rest) ≡ line ∷ lines rest
first_line [] rest i size some found = absurd (omega arith)
first_line (b ∷ []) rest zero size some found = cond-true (eqb b line_feed) ((b ∷ []) ∷ lines rest) (before_lines b (lines rest)) (found.1 (omega arith) 0)
first_line (b ∷ []) [] (suc i) size some found = cond-false (eqb b line_feed) ((b ∷ []) ∷ []) (before_lines b []) (found.0 0 0 (omega arith) (omega arith))
first_line (b ∷ []) (c ∷ rest) (suc i) size some found = absurd (omega arith)
first_line (b ∷ (c ∷ more)) rest zero size some found = absurd (omega arith)
first_line (b ∷ (c ∷ more)) rest (suc i) size some found =
    cond-false (eqb b line_feed) ((b ∷ []) ∷ lines (c ∷ (more ++ rest))) (before_lines b (lines (c ∷ (more ++ rest)))) (found.0 0 0 (omega arith) (omega arith))
    ∙ ap (before_lines b) (first_line (c ∷ more) rest i (omega arith) (omega arith) (λ k d l m. found.0 (suc k) d (omega arith) (omega arith), λ l d. found.1 (omega arith) d))

pub line_cut : (left line rest : List ℕ) (i : ℕ) → left ≡ line ++ rest → length line ≡ min (i + 1) (length left) → 0 < length left → IsFirstMatchOrLen (λ b. eqb b line_feed) left i → lines left ≡ line ∷ lines rest
line_cut left line rest i parts size some found =
    let P : List ℕ → Type 0 = λ l. length line ≡ min (i + 1) (length l) → 0 < length l → IsFirstMatchOrLen (λ b. eqb b line_feed) l i → lines l ≡ line ∷ lines rest in
    subst P (sym parts) (first_line line rest i) size some found
