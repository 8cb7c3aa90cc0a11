-- The tests of the reading decide what they are named for.
use Rattle.std.proofs.Common.{◌≡◌, ℕ, zero, suc, ◌-◌, ◌<◌, true, ◌&&◌, ltb, List, [], ◌∷◌, length, get_or, Decides, refl, suc-add, arith}
use Rattle.std.proofs.lemmas.Bool.{false≢true, and_parts, and_from, ltb-true, lt-ltb, eqb-true, eq-eqb, leb-true, le-leb}
use Rattle.std.proofs.lemmas.Bool.Decides.{Decides-below_and}
use Rattle.circuit.specs.Circuit.{Wire}
use Rattle.circuit.specs.Limits.{most_domains, most_parts}
use Rattle.circuit.specs.Sound.{Rising, SoundDomains, any, enters, leaves, Fed, Drained}
use Rattle.dumps.specs.Reading.{rising, last_of, sound_domains, joined_up}

-- ---- domain sets

-- the test from one skew to the next says that all rise
rising_right : (v : ℕ) (skews : List ℕ) → rising v skews ≡ true → Rising (v ∷ skews)
rising_right v [] e k h = absurd (omega arith)
rising_right v (w ∷ skews) e zero h = ltb-true v w (and_parts (ltb v w) (rising w skews) e).0
rising_right v (w ∷ skews) e (suc k) h = rw suc-add (rising_right w skews (and_parts (ltb v w) (rising w skews) e).1 k (omega arith))

-- skews that rise pass the test
rising_all : (v : ℕ) (skews : List ℕ) → Rising (v ∷ skews) → rising v skews ≡ true
rising_all v [] h = refl
rising_all v (w ∷ skews) h =
    and_from (ltb v w) (rising w skews) (lt-ltb v w (h 0 (omega arith))) (rising_all w skews (λ k l. rw suc-add at (h (suc k) (omega arith))))

-- the last skew, by place and by the list
last_is : (v : ℕ) (skews : List ℕ) → get_or (v ∷ skews) (length (v ∷ skews) - 1) 0 ≡ last_of v skews
last_is v [] = refl
last_is v (w ∷ skews) =
    let less : length (v ∷ (w ∷ skews)) - 1 ≡ suc (length (w ∷ skews) - 1) = omega arith in
    rw less (last_is w skews)

-- a domain set that passes the test is sound
pub sound_domains_right : (parts : ℕ) (skews : List ℕ) → sound_domains parts skews ≡ true → SoundDomains parts skews
sound_domains_right parts [] e = absurd (false≢true (and_parts _ _ e).1)
sound_domains_right parts (v ∷ skews) e =
    let (limits, sound) = and_parts _ _ e in
    let (coarse, few) = and_parts _ _ limits in
    let (starts, Below-parts) = and_parts _ _ sound in
    let (zeroed, rises) = and_parts _ _ starts in
    let last : get_or (v ∷ skews) (length (v ∷ skews) - 1) 0 < parts = rw last_is (ltb-true _ _ Below-parts) in
    record {
      parted = omega arith;
      coarse = leb-true _ _ coarse;
      some_domain = omega arith;
      few_domains = leb-true _ _ few;
      from_zero = eqb-true _ _ zeroed;
      rising = rising_right v skews rises;
      last_below = last;
    }

-- a sound domain set passes the test
pub sound_domains_all : (parts : ℕ) (skews : List ℕ) → SoundDomains parts skews → sound_domains parts skews ≡ true
sound_domains_all parts [] h = absurd (omega arith)
sound_domains_all parts (v ∷ skews) h =
    let last : last_of v skews < parts = rw last_is at h.last_below in
    let limits = and_from _ _ (le-leb parts most_parts h.coarse) (le-leb (length (v ∷ skews)) most_domains h.few_domains) in
    let starts = and_from _ _ (eq-eqb v 0 h.from_zero) (rising_all v skews h.rising) in
    and_from _ _ limits (and_from _ _ starts (lt-ltb (last_of v skews) parts last))

-- ---- gates

-- the test of the gates one by one decides of all
joined_up_decides : (gates : ℕ) (wires : List Wire) →
    Decides (joined_up gates wires) ((g : ℕ) → g < gates → (any (enters g) wires ≡ true) × (any (leaves g) wires ≡ true))
joined_up_decides gates wires =
    Decides-below_and
    (λ g. any (enters g) wires && any (leaves g) wires)
    (λ g. (any (enters g) wires ≡ true) × (any (leaves g) wires ≡ true))
    (λ n. joined_up n wires)
    (λ g. (and_parts _ _, λ both. and_from _ _ both.0 both.1))
    refl
    (λ _. refl)
    gates

-- gates that pass the test have a wire in and a wire out
pub joined_up_right : (gates : ℕ) (wires : List Wire) → joined_up gates wires ≡ true → Fed gates wires × Drained gates wires
joined_up_right gates wires e =
    let each = (joined_up_decides gates wires).0 e in
    (λ g h. (each g h).0, λ g h. (each g h).1)

-- gates with a wire in and a wire out pass the test
pub joined_up_all : (gates : ℕ) (wires : List Wire) → Fed gates wires → Drained gates wires → joined_up gates wires ≡ true
joined_up_all gates wires fed drained = (joined_up_decides gates wires).1 (λ g h. (fed g h, drained g h))
