-- The reading knows whether a frame stands in its order, by the highest kind so far.
use Rattle.std.proofs.Common.{◌≡◌, ℕ, ◌<◌, ◌≤◌, true, false, ◌&&◌, eqb, ltb, leb, List, [], ◌∷◌, ◌++◌, Decides, arith}
use Rattle.std.specs.List.{AllByRecursion}
use Rattle.std.proofs.lemmas.Bool.{ltb-true, leb-true, lt-ltb, le-leb, ne_eqb, and_parts, and_from}
use Rattle.std.proofs.ByRecursion.{All-weaker, All-push}
use Rattle.std.proofs.lemmas.Bool.Decides.{Decides-eqb}
use Rattle.dumps.specs.Frame.{Frame, domains_frame, flop_frame, gate_frame, wire_frame, end_frame, kind}
use Rattle.dumps.specs.Fault.{InOrder}
use Rattle.dumps.specs.Reading.{may_stand}

kind_low : (f : Frame) → 0 < kind f
kind_low (domains_frame parts skews) = omega arith
kind_low (flop_frame f) = omega arith
kind_low (gate_frame g) = omega arith
kind_low (wire_frame start end delay) = omega arith
kind_low end_frame = omega arith

kind_high : (f : Frame) → kind f ≤ 5
kind_high (domains_frame parts skews) = omega arith
kind_high (flop_frame f) = omega arith
kind_high (gate_frame g) = omega arith
kind_high (wire_frame start end delay) = omega arith
kind_high end_frame = omega arith

-- the highest kind of the frames, 0 for none
abbrev pub Highest : List Frame → ℕ → Type 0
Highest frames high = AllByRecursion (λ f. kind f ≤ high) frames × ((m : ℕ) → AllByRecursion (λ f. kind f ≤ m) frames → high ≤ m)

pub none_highest : Highest [] 0
none_highest = (tt, λ m h. omega arith)

all_last : {X : Type 0} (P : X → Type 0) (xs : List X) (x : X) → AllByRecursion P (xs ++ (x ∷ [])) → P x
all_last P [] x h = h.0
all_last P (y ∷ xs) x h = all_last P xs x h.1

pub push_highest : (frames : List Frame) (high : ℕ) (f : Frame) → Highest frames high → high ≤ kind f → Highest (frames ++ (f ∷ [])) (kind f)
push_highest frames high f h rises = (
  All-push (λ g. kind g ≤ kind f) frames f (All-weaker (λ g. kind g ≤ high) (λ g. kind g ≤ kind f) (λ g k. omega arith) frames h.0) (omega arith),
  λ m k. all_last (λ g. kind g ≤ m) frames f k,
)

all_high : (frames : List Frame) → AllByRecursion (λ f. kind f ≤ 5) frames
all_high [] = tt
all_high (f ∷ frames) = (kind_high f, all_high frames)

pub highest_high : (frames : List Frame) (high : ℕ) → Highest frames high → high ≤ 5
highest_high frames high h = h.1 5 (all_high frames)

-- no frame ends the frames, where the highest kind is none of an end
pub none_ends : (frames : List Frame) (high : ℕ) → Highest frames high → high < 5 → AllByRecursion (λ f. kind f < 5) frames
none_ends frames high h low = All-weaker (λ g. kind g ≤ high) (λ g. kind g < 5) (λ g k. omega arith) frames h.0

pub never_ends : (frames : List Frame) (high : ℕ) → Highest frames high → AllByRecursion (λ f. kind f < 5) frames → high < 5
never_ends frames high h low =
    let k : high ≤ 4 = h.1 4 (All-weaker (λ g. kind g < 5) (λ g. kind g ≤ 4) (λ g l. omega arith) frames low) in omega arith

pub stands : (frames : List Frame) (high : ℕ) (f : Frame) → Highest frames high → Decides (may_stand high (kind f)) (InOrder frames f)
stands [] high f h =
    let zeroth : high ≡ 0 = omega (arith, h.1 0 tt) in
    rw zeroth (Decides-eqb (kind f) 1)
stands (first ∷ before) high f h =
    let later : eqb high 0 ≡ false = ne_eqb high 0 (λ e. omega (arith, h.0.0, kind_low first)) in
    rw later (right, all)
  where
    right : ((ltb 1 (kind f) && leb high (kind f)) && ltb high 5) ≡ true → InOrder (first ∷ before) f
    right e =
        let (a, c) = and_parts (ltb 1 (kind f) && leb high (kind f)) (ltb high 5) e in
        let (l, m) = and_parts (ltb 1 (kind f)) (leb high (kind f)) a in
        let lm = leb-true high (kind f) m in
        let lc = ltb-true high 5 c in (
          ltb-true 1 (kind f) l,
          All-weaker (λ g. kind g ≤ high) (λ g. (kind g ≤ kind f) × (kind g < 5)) (λ g k. omega arith) (first ∷ before) h.0,
        )

    all : InOrder (first ∷ before) f → ((ltb 1 (kind f) && leb high (kind f)) && ltb high 5) ≡ true
    all o =
        let below : AllByRecursion (λ g. kind g ≤ kind f) (first ∷ before) = All-weaker (λ g. (kind g ≤ kind f) × (kind g < 5)) (λ g. kind g ≤ kind f) (λ g k. k.0) (first ∷ before) o.1 in
        let unended : AllByRecursion (λ g. kind g < 5) (first ∷ before) = All-weaker (λ g. (kind g ≤ kind f) × (kind g < 5)) (λ g. kind g < 5) (λ g k. k.1) (first ∷ before) o.1 in
        and_from (ltb 1 (kind f) && leb high (kind f)) (ltb high 5)
        (and_from (ltb 1 (kind f)) (leb high (kind f)) (lt-ltb 1 (kind f) o.0) (le-leb high (kind f) (h.1 (kind f) below)))
        (lt-ltb high 5 (never_ends (first ∷ before) high h unended))
