-- Fields of two bytes.
use Rattle.std.proofs.Common.{◌≡◌, ℕ, zero, suc, ◌/◌, List, [], ◌∷◌, length, map, refl, ap, arith}
use Rattle.std.specs.Int.{w16, from_be_bytes}
use Rattle.std.specs.Simd.{first_chunks}
use Rattle.dumps.specs.Reading.{number, numbers}

by_pairs : (k : ℕ) (bytes : List ℕ) → k ≡ length bytes / 2 → numbers bytes ≡ map (from_be_bytes w16) (first_chunks 2 k bytes)
by_pairs zero [] e = refl
by_pairs zero (a ∷ []) e = refl
by_pairs zero (a ∷ (b ∷ more)) e = absurd (omega arith)
by_pairs (suc k) [] e = absurd (omega arith)
by_pairs (suc k) (a ∷ []) e = absurd (omega arith)
by_pairs (suc k) (a ∷ (b ∷ more)) e = ap (λ ns. number a b ∷ ns) (by_pairs k more (omega arith))

pub numbers_by_chunks : (bytes : List ℕ) → numbers bytes ≡ map (from_be_bytes w16) (first_chunks 2 (length bytes / 2) bytes)
numbers_by_chunks bytes = by_pairs (length bytes / 2) bytes refl
