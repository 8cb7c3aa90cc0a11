-- The bytes that a line holds are those that the reading takes from it.
use Rattle.std.proofs.Common.{◌≡◌, ℕ, ◌+◌, ◌*◌, ◌/◌, ◌%◌, ◌<◌, List, [], ◌∷◌, ◌++◌, length, Some, None, Option, refl, ap, ◌∙◌, arith}
use Rattle.std.specs.Option.{option_map}
use Rattle.std.specs.List.{AllByRecursion}
use Rattle.std.proofs.lemmas.Nat.{div-add-mod', div-mul-add, mod-mul-add, div_below, mod_below}
use Rattle.std.proofs.lemmas.Bool.Decides.{nat_tests}
use Rattle.dumps.specs.Spelling.{digit, spelled, line_feed, Holds}
use Rattle.dumps.specs.Reading.{value, with_byte, decoded, ended, some_bytes, bind, held}

-- nothing is not something
pub never : {X P : Type 0} {x : X} → None ≡ Some x → P
never e = let z : ◌≡◌ {A = ℕ} 0 1 = cc in absurd (omega arith)

-- a digit's character has the digit as its value
value_digit : (n : ℕ) → n < 16 → value (digit n) ≡ Some n
value_digit n h = grind (arith, nat_tests)

-- only a digit's character has a value
digit_from_value : (c n : ℕ) → value c ≡ Some n → (digit n ≡ c) × (n < 16)
digit_from_value c n e = grind (arith, nat_tests)

-- bytes that are spelled are read
decoded_spelled : (bytes : List ℕ) → AllByRecursion (λ b. b < 256) bytes → decoded (spelled bytes) ≡ Some bytes
decoded_spelled [] low = refl
decoded_spelled (b ∷ bytes) low =
    let high_read = value_digit (b / 16) (div_below b 16 16 (omega arith) low.0) in
    let low_read = value_digit (b % 16) (mod_below b 16 (omega arith)) in
    simp (high_read, low_read, decoded_spelled bytes low.1, div-add-mod' b 16)

-- what is read of two digits and more digits
with_byte_parts : (x y : Option ℕ) (z : Option (List ℕ)) (bytes : List ℕ) → with_byte x y z ≡ Some bytes →
    (h : ℕ) × (l : ℕ) × (more : List ℕ) × (x ≡ Some h) × (y ≡ Some l) × (z ≡ Some more) × (bytes ≡ (h * 16 + l) ∷ more)
with_byte_parts None y z bytes e = never e
with_byte_parts (Some h) None z bytes e = never e
with_byte_parts (Some h) (Some l) None bytes e = never e
with_byte_parts (Some h) (Some l) (Some more) bytes e = (h, l, more, refl, refl, refl, cc)

-- the digits of the byte that two digits make
spelled_byte : (h l : ℕ) (more : List ℕ) → l < 16 → spelled ((h * 16 + l) ∷ more) ≡ digit h ∷ (digit l ∷ spelled more)
spelled_byte h l more low = rw (div-mul-add h 16 l low, mod-mul-add h 16 l low)

-- digits that are read spell the bytes
spelled_decoded : (digits bytes : List ℕ) → decoded digits ≡ Some bytes → (digits ≡ spelled bytes) × AllByRecursion (λ b. b < 256) bytes
spelled_decoded [] bytes e = let none : [] ≡ bytes = cc in rw (← none) (refl, tt)
spelled_decoded (a ∷ []) bytes e = never e
spelled_decoded (a ∷ (b ∷ digits)) bytes e =
    let (h, l, more, high_read, low_read, rest, is) = with_byte_parts (value a) (value b) (decoded digits) bytes e in
    let (a-is, h-low) = digit_from_value a h high_read in
    let (b-is, l-low) = digit_from_value b l low_read in
    let (digits_are, more-low) = spelled_decoded digits more rest in
    let spelt = spelled_byte h l more l-low in
    (cc, rw is (omega arith, more-low))

-- a line feed after a line is taken off again
ended_push : (line : List ℕ) → ended (line ++ (line_feed ∷ [])) ≡ Some line
ended_push [] = refl
ended_push (b ∷ []) = refl
ended_push (b ∷ (c ∷ more)) = rw (ended_push (c ∷ more))

-- a mapped value comes from a value
mapped_parts : {X Y : Type 0} (f : X → Y) (o : Option X) (y : Y) → option_map f o ≡ Some y → (x : X) × (o ≡ Some x) × (y ≡ f x)
mapped_parts f None y e = never e
mapped_parts f (Some x) y e = (x, refl, cc)

-- only a line feed at the end is taken off
ended_is : (line digits : List ℕ) → ended line ≡ Some digits → line ≡ digits ++ (line_feed ∷ [])
ended_is [] digits e = never e
ended_is (b ∷ []) digits e = grind (arith, nat_tests)
ended_is (b ∷ (c ∷ more)) digits e =
    let (line, read, is) = mapped_parts (λ (line : List ℕ). b ∷ line) (ended (c ∷ more)) digits e in
    rw (is, ended_is (c ∷ more) line read)

-- a bound value comes from a value
bind_parts : {X Y : Type 0} (o : Option X) (f : X → Option Y) (y : Y) → bind o f ≡ Some y → (x : X) × (o ≡ Some x) × (f x ≡ Some y)
bind_parts None f y e = never e
bind_parts (Some x) f y e = (x, refl, e)

-- digits that are read as some bytes spell them
some_bytes_are : (digits bytes : List ℕ) → some_bytes digits ≡ Some bytes → (0 < length bytes) × (digits ≡ spelled bytes) × AllByRecursion (λ b. b < 256) bytes
some_bytes_are [] bytes e = never e
some_bytes_are (d ∷ digits) [] e =
    let (is, low) = spelled_decoded (d ∷ digits) [] e in
    let z : ◌≡◌ {A = ℕ} 0 1 = cc in absurd (omega arith)
some_bytes_are (d ∷ digits) (b ∷ bytes) e = let (is, low) = spelled_decoded (d ∷ digits) (b ∷ bytes) e in (omega arith, is, low)

-- what the reading takes from a line, the line holds
pub held_right : (line bytes : List ℕ) → held line ≡ Some bytes → Holds line bytes
held_right line bytes e =
    let (digits, end, read) = bind_parts (ended line) some_bytes bytes e in
    let (some, is, low) = some_bytes_are digits bytes read in
    record { some_byte = some; in_range = low; spelt = ended_is line digits end ∙ ap (λ ds. ds ++ (line_feed ∷ [])) is }

-- what a line holds, the reading takes from it
pub held_all : (line bytes : List ℕ) → Holds line bytes → held line ≡ Some bytes
held_all line [] h = absurd (omega arith)
held_all line (b ∷ bytes) h =
    ap held h.spelt
    ∙ ap (λ o. bind o some_bytes) (ended_push (spelled (b ∷ bytes)))
    ∙ decoded_spelled (b ∷ bytes) h.in_range
