-- What a terminal of a wire names, where it is there.
use Rattle.std.proofs.Common.{◌≡◌, ℕ, ◌≤◌, Bool, true, false, cond, ◌&&◌, eqb, ltb, ◌⊎◌, sym, refl, inl, inr}
use Rattle.std.proofs.lemmas.Bool.{both_ways, eqb-true, ltb-false, le-ltb, and_parts}
use Rattle.circuit.specs.Circuit.{Place, at_flop, at_gate}
use Rattle.circuit.specs.Terminal.{Terminal, flop_class, gate_class, named, place, known}
use Rattle.circuit.specs.Sound.{forward, there}

-- the place is there, and naming it gives the terminal back
pub record Present (flops gates : ℕ) (t : Terminal) : Type 0 where
  pub back : named (place t) ≡ t
  pub is_there : there flops gates (place t) ≡ true

present_by : (flops gates : ℕ) (t : Terminal) (p : Place) → place t ≡ p → named p ≡ t → there flops gates p ≡ true → Present flops gates t
present_by flops gates t p at back is_there = record { back = rw at back; is_there = rw at is_there }

place_flop : (t : Terminal) → t.class ≡ flop_class → place t ≡ at_flop t.number
place_flop t e = rw e refl

place_gate : (t : Terminal) → t.class ≡ gate_class → place t ≡ at_gate t.number
place_gate t e = rw e refl

-- the terminal names a flip-flop or a gate, one of so many
abbrev Either : ℕ → ℕ → Terminal → Type 0
Either flops gates t = ((t.class ≡ flop_class) × (ltb t.number flops ≡ true)) ⊎ ((t.class ≡ gate_class) × (ltb t.number gates ≡ true))

known_cases : (flops gates : ℕ) (t : Terminal) → known flops gates t ≡ true → Either flops gates t
known_cases flops gates t = go (eqb t.class flop_class) refl
  where
    go : (b : Bool) → eqb t.class flop_class ≡ b → cond b (ltb t.number flops) (eqb t.class gate_class && ltb t.number gates) ≡ true → Either flops gates t
    go true e h = inl (eqb-true t.class flop_class e, h)
    go false e h = let (a, b) = and_parts (eqb t.class gate_class) (ltb t.number gates) h in inr (eqb-true t.class gate_class a, b)

pub known_present : (flops gates : ℕ) (t : Terminal) → known flops gates t ≡ true → Present flops gates t
known_present flops gates t h = go (known_cases flops gates t h)
  where
    go : Either flops gates t → Present flops gates t
    go (inl f) = present_by flops gates t (at_flop t.number) (place_flop t f.0) (λ i. record { class = sym f.0 i; number = t.number }) f.1
    go (inr g) = present_by flops gates t (at_gate t.number) (place_gate t g.0) (λ i. record { class = sym g.0 i; number = t.number }) g.1

-- a place that is there is known by its name, which names it
pub there_known : (flops gates : ℕ) (p : Place) → there flops gates p ≡ known flops gates (named p)
there_known flops gates (at_flop n) = refl
there_known flops gates (at_gate n) = refl

pub place_named : (p : Place) → place (named p) ≡ p
place_named (at_flop n) = refl
place_named (at_gate n) = refl

-- a wire between gates that does not rise is not forward
pub not_forward : (start end : Terminal) → start.class ≡ gate_class → end.class ≡ gate_class → end.number ≤ start.number → forward (place start) (place end) ≡ false
not_forward start end a b down = rw (place_gate start a, place_gate end b) (le-ltb start.number end.number down)

-- only such a wire is not, where both terminals are there
pub gates_down : (flops gates : ℕ) (start end : Terminal) → known flops gates start ≡ true → known flops gates end ≡ true → forward (place start) (place end) ≡ false
    → (start.class ≡ gate_class) × (end.class ≡ gate_class) × (end.number ≤ start.number)
gates_down flops gates start end ks ke backward = go (known_cases flops gates start ks) (known_cases flops gates end ke)
  where
    go : Either flops gates start
        → Either flops gates end
        → (start.class ≡ gate_class) × (end.class ≡ gate_class) × (end.number ≤ start.number)
    go (inl f) e = absurd (both_ways true (rw (place_flop start f.0) at backward) refl)
    go (inr g) (inl f) = absurd (both_ways true (rw (place_gate start g.0, place_flop end f.0) at backward) refl)
    go (inr g) (inr h) = (g.0, h.0, ltb-false start.number end.number (rw (place_gate start g.0, place_gate end h.0) at backward))
