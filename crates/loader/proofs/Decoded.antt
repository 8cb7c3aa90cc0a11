-- Digits read so far, and those that are left, two a byte.
use Rattle.std.proofs.Common.{◌≡◌, ℕ, zero, suc, ◌+◌, ◌*◌, ◌/◌, ◌%◌, ◌<◌, List, [], ◌∷◌, ◌++◌, length, get_or, drop, Some, None, Option, sym, refl, ap, ◌∙◌, arith, drop-cons, add-one}
use Rattle.std.specs.Option.{option_map}
use Rattle.std.specs.Simd.{first_chunks}
use Rattle.std.proofs.lemmas.List.{append_assoc}
use Rattle.dumps.specs.Reading.{value, with_byte, decoded}

-- the bytes that pairs of digits spell
abbrev pub paired : List (List ℕ) → Option (List ℕ)
paired [] = Some []
paired (pair ∷ more) = with_byte (value (get_or pair 0 0)) (value (get_or pair 1 0)) (paired more)

by_pairs : (k : ℕ) (digits : List ℕ) → k + k ≡ length digits → decoded digits ≡ paired (first_chunks 2 k digits)
by_pairs zero [] e = refl
by_pairs zero (a ∷ digits) e = absurd (omega arith)
by_pairs (suc k) [] e = absurd (omega arith)
by_pairs (suc k) (a ∷ []) e = absurd (omega arith)
by_pairs (suc k) (a ∷ (b ∷ more)) e = ap (with_byte (value a) (value b)) (by_pairs k more (omega arith))

pub decoded_by_chunks : (digits : List ℕ) → length digits % 2 ≡ 0 → decoded digits ≡ paired (first_chunks 2 (length digits / 2) digits)
decoded_by_chunks digits e = by_pairs (length digits / 2) digits (omega arith)

byte_none : (high low : Option ℕ) → with_byte high low None ≡ None
byte_none None low = refl
byte_none (Some h) None = refl
byte_none (Some h) (Some l) = refl

-- one digit is left over
pub decoded_odd : (digits : List ℕ) → 0 < length digits % 2 → decoded digits ≡ None
decoded_odd [] o = absurd (omega arith)
decoded_odd (a ∷ []) o = refl
decoded_odd (a ∷ (b ∷ more)) o = ap (with_byte (value a) (value b)) (decoded_odd more (omega arith)) ∙ byte_none (value a) (value b)

-- what comes after bytes that were read
abbrev pub after : List ℕ → Option (List ℕ) → Option (List ℕ)
after bytes more = option_map (λ (rest : List ℕ). bytes ++ rest) more

pub after_none : (more : Option (List ℕ)) → more ≡ after [] more
after_none None = refl
after_none (Some rest) = refl

after_byte : (bytes : List ℕ) (h l : ℕ) (more : Option (List ℕ)) → after bytes (with_byte (Some h) (Some l) more) ≡ after (bytes ++ ((h * 16 + l) ∷ [])) more
after_byte bytes h l None = refl
after_byte bytes h l (Some rest) = ap Some (sym (append_assoc bytes ((h * 16 + l) ∷ []) rest))

module _ (bytes : List ℕ) (pairs : List (List ℕ)) (i : ℕ) (within : i < length pairs) where
  next : paired (drop i pairs) ≡ with_byte (value (get_or (get_or pairs i []) 0 0)) (value (get_or (get_or pairs i []) 1 0)) (paired (drop (i + 1) pairs))
  next = ap paired (drop-cons pairs i [] within) ∙ rw add-one refl

  -- a pair more
  pub after_more : (h l : ℕ) → value (get_or (get_or pairs i []) 0 0) ≡ Some h → value (get_or (get_or pairs i []) 1 0) ≡ Some l → after bytes (paired (drop i pairs)) ≡ after (bytes ++ ((h * 16 + l) ∷ [])) (paired (drop (i + 1) pairs))
  after_more h l high low = rw (next, high, low) (after_byte bytes h l (paired (drop (i + 1) pairs)))
