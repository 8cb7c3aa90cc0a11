-- The frame that bytes write is the one that the reading takes from them.
use Rattle.std.proofs.Common.{◌≡◌, ℕ, ◌-◌, ◌*◌, ◌/◌, ◌%◌, ◌<◌, true, cond, eqb, ltb, List, [], ◌∷◌, length, ℤ, pos, negsuc, Some, Option, sym, refl, subst, inl, inr, arith, w16, to_z}
use Rattle.std.specs.List.{flat_map, AllByRecursion}
use Rattle.std.proofs.lemmas.Nat.{div-add-mod', div-mul-add, mod-mul-add, div_below, mod_below}
use Rattle.std.proofs.lemmas.Bool.{and_parts, and_from, ltb-true, lt-ltb, eqb-true, eq-eqb, cases_Bool, cond-true}
use Rattle.std.proofs.lemmas.Bool.Decides.{nat_tests}
use Rattle.circuit.specs.Limits.{delay_end}
use Rattle.circuit.specs.Sound.{hold_fits_lem}
use Rattle.dumps.specs.Frame.{Frame, domains_frame, flop_frame, gate_frame, wire_frame, end_frame, field, two_complement, in_field, in_byte, plain_flop, bytes_of, Writable, Writes, in_full, short, Says}
use Rattle.dumps.specs.Reading.{number, numbers, read_domains, read_flop, read_gate, read_wire, read_end, parsed, held}
use Rattle.dumps.proofs.Bytes.{never, held_right, held_all}

-- ---- fields

-- two bytes make a number, which has these two bytes
high_byte : (a b : ℕ) → b < 256 → number a b / 256 ≡ a
high_byte a b low = div-mul-add a 256 b low

low_byte : (a b : ℕ) → b < 256 → number a b % 256 ≡ b
low_byte a b low = mod-mul-add a 256 b low

-- a number has two bytes, which make this number
number_field : (n : ℕ) → number (n / 256) (n % 256) ≡ n
number_field n = div-add-mod' n 256

-- the two bytes of a field are bytes, and so are those after it
field_bytes : {P : Type 0} (n : ℕ) → in_field n → P → in_byte (n / 256) × (in_byte (n % 256) × P)
field_bytes n fits rest = (div_below n 256 256 (omega arith) fits, (mod_below n 256 (omega arith), rest))

-- fields in a row are bytes
joined_bytes : (ns : List ℕ) → AllByRecursion in_field ns → AllByRecursion in_byte (flat_map field ns)
joined_bytes [] fit = tt
joined_bytes (n ∷ ns) fit = field_bytes n fit.0 (joined_bytes ns fit.1)

-- numbers, written as fields and read again
numbers_joined : (ns : List ℕ) → numbers (flat_map field ns) ≡ ns
numbers_joined [] = refl
numbers_joined (n ∷ ns) = rw (number_field n, numbers_joined ns)

-- each field is two bytes
length_joined : (ns : List ℕ) → length (flat_map field ns) ≡ 2 * length ns
length_joined [] = refl
length_joined (n ∷ ns) = omega (arith, length_joined ns)

-- bytes that are the fields of n numbers
record Fields (n : ℕ) (bytes : List ℕ) : Type 0 where
  rejoined : flat_map field (numbers bytes) ≡ bytes
  counted : length (numbers bytes) ≡ n
  fit : AllByRecursion in_field (numbers bytes)

-- twice n bytes are such
fields : (n : ℕ) (bytes : List ℕ) → AllByRecursion in_byte bytes → length bytes ≡ 2 * n → Fields n bytes
fields n [] low e = record { rejoined = refl; counted = omega arith; fit = tt }
fields n (a ∷ []) low e = absurd (omega arith)
fields n (a ∷ (b ∷ bytes)) low e =
    let more = fields (n - 1) bytes low.1.1 (omega arith) in
    record {
      rejoined = rw (high_byte a b low.1.0, low_byte a b low.1.0, more.rejoined);
      counted = omega arith;
      fit = (omega arith, more.fit);
    }

-- ---- hold times

-- 16 bits, read as a hold time and written again
hold_read : (n : ℕ) → in_field n → (two_complement (to_z w16 n) ≡ n) × (hold_fits_lem (to_z w16 n) ≡ true)
hold_read n fits = grind (arith, nat_tests)

-- a hold time, written as 16 bits and read again
hold_written : (h : ℤ) → hold_fits_lem h ≡ true → to_z w16 (two_complement h) ≡ h
hold_written (pos n) fits = grind (arith, nat_tests)
hold_written (negsuc n) fits = grind (arith, nat_tests)

-- a hold time has its place in a field
hold_in_field : (h : ℤ) → hold_fits_lem h ≡ true → in_field (two_complement h)
hold_in_field (pos n) fits = grind (arith, nat_tests)
hold_in_field (negsuc n) fits = omega arith

-- ---- from bytes to frames: each kind's fields, as they are read

-- the bytes of the frame that is read write it
written : {f g : Frame} {bytes : List ℕ} → Writable g → bytes_of g ≡ bytes → Some g ≡ Some f → Writes f bytes
written {f} {g} {bytes} fits are read = let same : g ≡ f = cc in subst (λ h. Writes h bytes) same (subst (Writes g) are (in_full g fits))

domains_right : (bytes : List ℕ) (f : Frame) → AllByRecursion in_byte bytes → read_domains bytes ≡ Some f → Writes f (1 ∷ bytes)
domains_right [] f low read = never read
domains_right (a ∷ []) f low read = never read
domains_right (a ∷ (b ∷ [])) f low read = never read
domains_right (a ∷ (b ∷ (n ∷ skews))) f low read =
    let (a-low, (b-low, (n-low, skews-low))) = low in
    elim (cases_Bool (eqb (length skews) (2 * n))) [
      | inl all ↦
          let found = fields n skews skews-low (eqb-true (length skews) (2 * n) all) in
          written (omega arith, (omega arith, found.fit)) (simp (high_byte, low_byte, found.rejoined, found.counted)) (rw all at read)
      | inr other ↦ never (rw other at read)
    ]

flop_right : (bytes : List ℕ) (f : Frame) → AllByRecursion in_byte bytes → read_flop bytes ≡ Some f → Writes f (2 ∷ bytes)
flop_right [] f low read = let same : flop_frame plain_flop ≡ f = cc in subst (λ h. Writes h (2 ∷ [])) same short
flop_right (a ∷ []) f low read = never read
flop_right (a ∷ (b ∷ [])) f low read = never read
flop_right (a ∷ (b ∷ (c ∷ []))) f low read = never read
flop_right (a ∷ (b ∷ (c ∷ (d ∷ [])))) f low read =
    let (a-low, (b-low, (c-low, (d-low, end)))) = low in
    let (back, fits) = hold_read (number c d) (omega arith) in
    written (and_from _ _ (lt-ltb (number a b) delay_end (omega arith)) fits) (simp (back, high_byte, low_byte)) read
flop_right (a ∷ (b ∷ (c ∷ (d ∷ (e ∷ more))))) f low read = never read

gate_right : (bytes : List ℕ) (f : Frame) → AllByRecursion in_byte bytes → read_gate bytes ≡ Some f → Writes f (3 ∷ bytes)
gate_right [] f low read = never read
gate_right (a ∷ []) f low read = never read
gate_right (a ∷ (b ∷ [])) f low read = never read
gate_right (a ∷ (b ∷ (c ∷ []))) f low read = never read
gate_right (a ∷ (b ∷ (c ∷ (d ∷ [])))) f low read =
    let (a-low, (b-low, (c-low, (d-low, end)))) = low in
    written (omega arith, omega arith) (simp (high_byte, low_byte)) read
gate_right (a ∷ (b ∷ (c ∷ (d ∷ (e ∷ more))))) f low read = never read

wire_right : (bytes : List ℕ) (f : Frame) → AllByRecursion in_byte bytes → read_wire bytes ≡ Some f → Writes f (4 ∷ bytes)
wire_right [] f low read = never read
wire_right (a ∷ []) f low read = never read
wire_right (a ∷ (b ∷ [])) f low read = never read
wire_right (a ∷ (b ∷ (c ∷ []))) f low read = never read
wire_right (a ∷ (b ∷ (c ∷ (d ∷ [])))) f low read = never read
wire_right (a ∷ (b ∷ (c ∷ (d ∷ (e ∷ []))))) f low read = never read
wire_right (a ∷ (b ∷ (c ∷ (d ∷ (e ∷ (p ∷ [])))))) f low read = never read
wire_right (a ∷ (b ∷ (c ∷ (d ∷ (e ∷ (p ∷ (q ∷ []))))))) f low read = never read
wire_right (a ∷ (b ∷ (c ∷ (d ∷ (e ∷ (p ∷ (q ∷ (r ∷ [])))))))) f low read =
    let (a-low, (b-low, (c-low, (d-low, (e-low, (p-low, (q-low, (r-low, end)))))))) = low in
    written ((a-low, omega arith), ((d-low, omega arith), omega arith)) (simp (high_byte, low_byte)) read
wire_right (a ∷ (b ∷ (c ∷ (d ∷ (e ∷ (p ∷ (q ∷ (r ∷ (s ∷ more))))))))) f low read = never read

end_right : (bytes : List ℕ) (f : Frame) → read_end bytes ≡ Some f → Writes f (5 ∷ bytes)
end_right [] f read = written tt refl read
end_right (a ∷ more) f read = never read

-- the kind k is n, or one of those after it
at_kind : (k n : ℕ) {bytes : List ℕ} {f : Frame} {this next : Option Frame} →
    (this ≡ Some f → Writes f (n ∷ bytes)) → (next ≡ Some f → Writes f (k ∷ bytes)) → cond (eqb k n) this next ≡ Some f → Writes f (k ∷ bytes)
at_kind k n {bytes} {f} here after read =
    elim (cases_Bool (eqb k n)) [
      | inl same ↦ subst (λ j. Writes f (j ∷ bytes)) (sym (eqb-true k n same)) (here (rw same at read))
      | inr other ↦ after (rw other at read)
    ]

-- what the reading takes from bytes, they write
pub parsed_right : (bytes : List ℕ) (f : Frame) → AllByRecursion (λ b. b < 256) bytes → parsed bytes ≡ Some f → Writes f bytes
parsed_right [] f low read = never read
parsed_right (k ∷ bytes) f low read =
    at_kind k 1 (domains_right bytes f low.1)
    (at_kind k 2 (flop_right bytes f low.1)
    (at_kind k 3 (gate_right bytes f low.1)
    (at_kind k 4 (wire_right bytes f low.1)
    (at_kind k 5 (end_right bytes f) never))))
    read

-- ---- from frames to bytes

-- the bytes of a frame are read as this frame
parsed_bytes : (f : Frame) → Writable f → parsed (bytes_of f) ≡ Some f
parsed_bytes (domains_frame parts skews) fits =
    rw (number_field parts, numbers_joined skews) (cond-true (eqb (length (flat_map field skews)) (2 * length skews)) _ _ (eq-eqb _ _ (length_joined skews)))
parsed_bytes (flop_frame f) fits =
    let (setup-fits, its-hold-fits) = and_parts (ltb f.setup delay_end) (hold_fits_lem f.hold) fits in
    simp (number_field, hold_written f.hold its-hold-fits)
parsed_bytes (gate_frame g) fits = simp number_field
parsed_bytes (wire_frame start end delay) fits = simp number_field
parsed_bytes end_frame fits = refl

-- what bytes write, the reading takes from them
pub parsed_all : (f : Frame) (bytes : List ℕ) → Writes f bytes → parsed bytes ≡ Some f
parsed_all f bytes (in_full g fits) = parsed_bytes g fits
parsed_all f bytes short = refl

-- no frame is read of no bytes
parsed_some : (bytes : List ℕ) (f : Frame) → parsed bytes ≡ Some f → 0 < length bytes
parsed_some [] f read = never read
parsed_some (k ∷ bytes) f read = omega arith

-- the bytes of a frame are below 256
bytes_below : (f : Frame) → Writable f → AllByRecursion in_byte (bytes_of f)
bytes_below (domains_frame parts skews) fits =
    let (parts-fit, (few, skews-fit)) = fits in
    (omega arith, field_bytes parts parts-fit (few, joined_bytes skews skews-fit))
bytes_below (flop_frame f) fits =
    let (setup-fits, its-hold-fits) = and_parts (ltb f.setup delay_end) (hold_fits_lem f.hold) fits in
    let hold-field = hold_in_field f.hold its-hold-fits in
    (omega arith, field_bytes f.setup (ltb-true f.setup delay_end setup-fits) (field_bytes (two_complement f.hold) hold-field tt))
bytes_below (gate_frame g) fits = (omega arith, field_bytes g.smaller fits.0 (field_bytes g.larger fits.1 tt))
bytes_below (wire_frame start end delay) fits =
    let ((start-class, start-number), ((end-class, end-number), delay-fits)) = fits in
    (omega arith, (start-class, field_bytes start.number start-number (end-class, field_bytes end.number end-number (field_bytes delay delay-fits tt))))
bytes_below end_frame fits = (omega arith, tt)

-- what writes a frame is one or more bytes
pub writes_bytes : (f : Frame) (bytes : List ℕ) → Writes f bytes → (0 < length bytes) × AllByRecursion (λ b. b < 256) bytes
writes_bytes f bytes (in_full g fits) = (parsed_some (bytes_of g) g (parsed_bytes g fits), bytes_below g fits)
writes_bytes f bytes short = (omega arith, (omega arith, tt))

-- a frame that is written has its place in its fields
pub writes_writable : (f : Frame) (bytes : List ℕ) → Writes f bytes → Writable f
writes_writable f bytes (in_full g fits) = fits
writes_writable f bytes short = refl

-- ---- lines

-- what the reading takes from a line, the line says
pub says_right : (line : List ℕ) (bytes : List ℕ) (f : Frame) → held line ≡ Some bytes → parsed bytes ≡ Some f → Says line f
says_right line bytes f held-is parsed-is =
    let holds = held_right line bytes held-is in
    (bytes, holds, parsed_right bytes f holds.in_range parsed-is)

-- what a line says, the reading takes from it
pub says_all : (line : List ℕ) (f : Frame) → Says line f → (bytes : List ℕ) × (held line ≡ Some bytes) × (parsed bytes ≡ Some f)
says_all line f (bytes, holds, writes) = (bytes, held_all line bytes holds, parsed_all f bytes writes)
