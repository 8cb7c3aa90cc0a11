-- What the checks that a frame has passed say.
use Rattle.std.proofs.Common.{◌≡◌, ℕ, ◌<◌, ◌≤◌, Bool, true, false, cond, ◌&&◌, eqb, ltb, leb, ◌⊎◌, List, [], ◌∷◌, None, refl, inl, inr, arith}
use Rattle.std.specs.List.{AllByRecursion}
use Rattle.std.proofs.lemmas.Bool.{eqb-true, eqb-false, ltb-true, leb-true, and_parts}
use Rattle.dumps.specs.Reading.{may_stand, refuse_unless}
use Rattle.dumps.proofs.Grounds.{Check, first_failed}

pub all_passed : (checks : List Check) → first_failed checks ≡ None → AllByRecursion (λ c. c.passed ≡ true) checks
all_passed [] e = tt
all_passed (c ∷ checks) e = go c.passed refl e (all_passed checks)
  where
    go : (t : Bool) → c.passed ≡ t → refuse_unless t c.ground (first_failed checks) ≡ None
        → (first_failed checks ≡ None → AllByRecursion (λ k. k.passed ≡ true) checks) → (c.passed ≡ true) × AllByRecursion (λ k. k.passed ≡ true) checks
    go true p e' more = (p, more e')
    go false p e' more = let z : ◌≡◌ {A = ℕ} 0 1 = cc in absurd (omega arith)

-- a first domain set, or a later frame of no lower kind before the end
abbrev pub Stood : ℕ → ℕ → Type 0
Stood reached k = ((reached ≡ 0) × (k ≡ 1)) ⊎ ((0 < reached) × (1 < k) × (reached ≤ k) × (reached < 5))

pub stood : (reached k : ℕ) → may_stand reached k ≡ true → Stood reached k
stood reached k = go (eqb reached 0) refl
  where
    go : (b : Bool) → eqb reached 0 ≡ b → cond b (eqb k 1) ((ltb 1 k && leb reached k) && ltb reached 5) ≡ true → Stood reached k
    go true e h = inl (eqb-true reached 0 e, eqb-true k 1 h)
    go false e h =
        let (ab, c) = and_parts (ltb 1 k && leb reached k) (ltb reached 5) h in
        let (a, b) = and_parts (ltb 1 k) (leb reached k) ab in
        let later : 0 < reached = omega (arith, eqb-false reached 0 e) in
        inr (later, ltb-true 1 k a, leb-true reached k b, ltb-true reached 5 c)
