-- The line feed that ends a line.
use Rattle.std.proofs.Common.{◌≡◌, ℕ, suc, ◌-◌, ◌<◌, true, false, cond, eqb, List, [], ◌∷◌, length, get_or, take, Some, None, sym, refl, arith}
use Rattle.std.specs.Option.{option_map}
use Rattle.std.proofs.lemmas.Bool.{ne_eqb, cond-false}
use Rattle.dumps.specs.Spelling.{line_feed}
use Rattle.dumps.specs.Reading.{ended, some_bytes, bind, decoded, held}

shorter : (b c : ℕ) (more : List ℕ) → length (b ∷ (c ∷ more)) - 1 ≡ suc (length (c ∷ more) - 1)
shorter b c more = omega arith

-- the digits of a line, if it ends with a line feed
ended_by_last : (line : List ℕ) → ended line ≡ cond (eqb (get_or line (length line - 1) 0) line_feed) (Some (take (length line - 1) line)) None
ended_by_last [] = refl
ended_by_last (b ∷ []) = refl
ended_by_last (b ∷ (c ∷ more)) = rw (shorter b c more, ended_by_last (c ∷ more)) (mapped (eqb (get_or (c ∷ more) (length (c ∷ more) - 1) 0) line_feed))
  where
    mapped : (t : _) → option_map (λ (line : List ℕ). b ∷ line) (cond t (Some (take (length (c ∷ more) - 1) (c ∷ more))) None) ≡ cond t (Some (b ∷ take (length (c ∷ more) - 1) (c ∷ more))) None
    mapped true = refl
    mapped false = refl

digits_decoded : (digits : List ℕ) → some_bytes digits ≡ cond (eqb (length digits) 0) None (decoded digits)
digits_decoded [] = refl
digits_decoded (d ∷ digits) = sym (cond-false (eqb (length (d ∷ digits)) 0) None (decoded (d ∷ digits)) (ne_eqb (length (d ∷ digits)) 0 (λ e. omega arith)))

-- a line holds the bytes that its digits spell, if it has one and ends with a line feed
pub held_by_last : (line : List ℕ) → held line ≡ cond (eqb (get_or line (length line - 1) 0) line_feed) (cond (eqb (length (take (length line - 1) line)) 0) None (decoded (take (length line - 1) line))) None
held_by_last line = rw (ended_by_last line) (by (eqb (get_or line (length line - 1) 0) line_feed))
  where
    by : (t : _) → bind (cond t (Some (take (length line - 1) line)) None) some_bytes ≡ cond t (cond (eqb (length (take (length line - 1) line)) 0) None (decoded (take (length line - 1) line))) None
    by true = digits_decoded (take (length line - 1) line)
    by false = refl

-- no digit
pub held_short : (line : List ℕ) → length line < 2 → held line ≡ None
held_short [] l = refl
held_short (b ∷ []) l = short (eqb b line_feed)
  where
    short : (t : _) → bind (cond t (Some []) None) some_bytes ≡ None
    short true = refl
    short false = refl
held_short (b ∷ (c ∷ more)) l = absurd (omega arith)
