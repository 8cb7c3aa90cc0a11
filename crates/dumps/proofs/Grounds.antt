-- The reading refuses a frame on the smallest ground that fits it, and only then.
use Rattle.std.proofs.Common.{◌≡◌, ℕ, zero, suc, ◌<◌, ◌≤◌, Bool, true, false, ◌&&◌, ltb, leb, ◌⊎◌, List, [], ◌∷◌, length, Some, None, Option, refl, inl, inr, arith}
use Rattle.std.proofs.lemmas.Bool.{both_ways, ltb-false, leb-false, le-ltb, lt-leb, and_left, and_right, and_cases, and_parts}
use Rattle.std.proofs.lemmas.Bool.Decides.{not_from_Decides}
use Rattle.circuit.specs.Circuit.{Circuit, Wire}
use Rattle.circuit.specs.Terminal.{place, known}
use Rattle.circuit.specs.Limits.{most_flops, most_gates, most_wires}
use Rattle.circuit.specs.Sound.{forward, any, enters, leaves, Fed, Drained}
use Rattle.dumps.specs.declared.ground.Ground.{Ground}
use Rattle.dumps.specs.declared.ground.Ground.TheVariants.{Shape, Order, Domains, Surplus, Delays, Absent, Backward, Open}
use Rattle.dumps.specs.Ground.{number_of}
use Rattle.dumps.specs.Frame.{Frame, domains_frame, flop_frame, gate_frame, wire_frame, end_frame, kind}
use Rattle.dumps.specs.Fault.{flops_of, gates_of, wires_of, Breaks, out_of_order, unsound_domains, surplus_flop, surplus_gate, surplus_wire, crossed_delays, absent_start, absent_end, backward, unfed, undrained}
use Rattle.dumps.specs.Reading.{State, may_stand, refuse_unless, breach, sound_domains, joined_up}
use Rattle.dumps.proofs.Tests.{sound_domains_right, sound_domains_all, joined_up_right}
use Rattle.dumps.proofs.Terminals.{not_forward, gates_down}
use Rattle.dumps.proofs.Order.{Highest, stands}

-- ---- checks in a row

pub record Check : Type 0 where
  pub ground : Ground
  pub passed : Bool

-- the ground of the first check that is not passed
abbrev pub first_failed : List Check → Option Ground
first_failed [] = None
first_failed (c ∷ checks) = refuse_unless c.passed c.ground (first_failed checks)

-- a check on this ground is not passed
abbrev Failed : Ground → List Check → Type 0
Failed g [] = ⊥
Failed g (c ∷ checks) = ((c.ground ≡ g) × (c.passed ≡ false)) ⊎ Failed g checks

-- the first check that is not passed is on this ground
abbrev FailedFirst : Ground → List Check → Type 0
FailedFirst g [] = ⊥
FailedFirst g (c ∷ checks) = ((c.ground ≡ g) × (c.passed ≡ false)) ⊎ ((c.passed ≡ true) × FailedFirst g checks)

-- checks in the order of their numbers, above n
abbrev Ranked : ℕ → List Check → Type 0
Ranked n [] = Unit {0}
Ranked n (c ∷ checks) = (n < number_of c.ground) × Ranked (number_of c.ground) checks

-- none failed, or this one is the smallest of those that failed
abbrev Found : List Check → Option Ground → Type 0
Found checks None = (h : Ground) → Failed h checks → ⊥
Found checks (Some g) = FailedFirst g checks × ((h : Ground) → Failed h checks → number_of g ≤ number_of h)

above : (n : ℕ) (checks : List Check) (h : Ground) → Ranked n checks → Failed h checks → n < number_of h
above n [] h ranked failed = absurd failed
above n (c ∷ checks) h ranked (inl here) = rw (← here.0) ranked.0
above n (c ∷ checks) h ranked (inr later) = omega (arith, ranked.0, above (number_of c.ground) checks h ranked.1 later)

abbrev check : Ground → Bool → Check
check g t = record { ground = g; passed = t }

-- a check that is passed changes nothing
found_past : (g : Ground) (checks : List Check) (o : Option Ground) → Found checks o → Found (check g true ∷ checks) o
found_past g checks None none-failed = λ h. elim [ inl here ↦ both_ways true here.1 refl | inr later ↦ none-failed h later ]
found_past g checks (Some f) f-failed =
    (inr (refl, f-failed.0), λ h. elim [ inl here ↦ absurd (both_ways true here.1 refl) | inr later ↦ f-failed.1 h later ])

found_at : (g : Ground) (t : Bool) (checks : List Check) → Ranked (number_of g) checks → Found checks (first_failed checks) → Found (check g t ∷ checks) (refuse_unless t g (first_failed checks))
found_at g true checks ranked more = found_past g checks (first_failed checks) more
found_at g false checks ranked more = (
  inl (refl, refl),
  λ h. elim [ inl here ↦ rw (← here.0) (omega arith) | inr later ↦ omega (arith, above (number_of g) checks h ranked later) ],
)

found : (n : ℕ) (checks : List Check) → Ranked n checks → Found checks (first_failed checks)
found n [] ranked = λ h failed. failed
found n (c ∷ checks) ranked = found_at c.ground c.passed checks ranked.1 (found (number_of c.ground) checks ranked.1)

-- ---- the checks of a frame

-- the state of a reading that has come through these frames
pub record Follows (frames : List Frame) (s : State) : Type 0 where
  pub highest : Highest frames s.reached
  pub flops : s.circuit.flops ≡ flops_of frames
  pub gates : s.circuit.gates ≡ gates_of frames
  pub wires : s.circuit.wires ≡ wires_of frames

-- the checks past the order
abbrev pub checks_past : Circuit → Frame → List Check
checks_past c (domains_frame parts skews) = check Domains (sound_domains parts skews) ∷ []
checks_past c (flop_frame f) = check Surplus (ltb (length c.flops) most_flops) ∷ []
checks_past c (gate_frame g) = check Surplus (ltb (length c.gates) most_gates) ∷ (check Delays (leb g.smaller g.larger) ∷ [])
checks_past c (wire_frame start end delay) =
    check Surplus (ltb (length c.wires) most_wires)
    ∷ (check Absent (known (length c.flops) (length c.gates) start && known (length c.flops) (length c.gates) end)
    ∷ (check Backward (forward (place start) (place end)) ∷ []))
checks_past c end_frame = check Open (joined_up (length c.gates) c.wires) ∷ []

abbrev pub checks : State → Frame → List Check
checks s f = check Order (may_stand s.reached (kind f)) ∷ checks_past s.circuit f

pub breach_is : (c : Circuit) (f : Frame) → breach c f ≡ first_failed (checks_past c f)
breach_is c (domains_frame parts skews) = refl
breach_is c (flop_frame f) = refl
breach_is c (gate_frame g) = refl
breach_is c (wire_frame start end delay) = refl
breach_is c end_frame = refl

ranked : (c : Circuit) (f : Frame) → Ranked (number_of Order) (checks_past c f)
ranked c (domains_frame parts skews) = omega arith
ranked c (flop_frame f) = omega arith
ranked c (gate_frame g) = omega arith
ranked c (wire_frame start end delay) = omega arith
ranked c end_frame = omega arith

-- a test that follows from a fact and does not hold
unmet : {P : Type 0} (t : Bool) → (t ≡ true → P) → (P → ⊥) → t ≡ false
unmet true right never = absurd (never (right refl))
unmet false right never = refl

-- where gates are not joined up, one has no wire in or one has no wire out
open_gate : (gates : ℕ) (wires : List Wire) → joined_up gates wires ≡ false → (Fed gates wires → ⊥) ⊎ (Drained gates wires → ⊥)
open_gate zero wires e = absurd (both_ways true e refl)
open_gate (suc n) wires e = elim (and_cases (any (enters n) wires && any (leaves n) wires) (joined_up n wires) e) [
  | inl here ↦ elim (and_cases (any (enters n) wires) (any (leaves n) wires) here) [
    | inl none_in ↦ inl (λ fed. both_ways _ none_in (fed n (omega arith)))
    | inr none_out ↦ inr (λ drained. both_ways _ none_out (drained n (omega arith)))
  ]
  | inr lower ↦ elim (open_gate n wires lower) [
    | inl never ↦ inl (λ fed. never (λ g l. fed g (omega arith)))
    | inr never ↦ inr (λ drained. never (λ g l. drained g (omega arith)))
  ]
]

module _ (frames : List Frame) (s : State) (follows : Follows frames s) where
  abbrev nodes : ℕ
  nodes = length (gates_of frames)

  abbrev links : List Wire
  links = wires_of frames

  -- what breaks a rule fails a check
  fails : (g : Ground) (f : Frame) → Breaks frames g f → Failed g (checks s f)
  fails g f (out_of_order f' never) = inl (refl, unmet (may_stand s.reached (kind f)) (stands frames s.reached f follows.highest).0 never)
  fails g f (unsound_domains parts skews never) = inr (inl (refl, unmet (sound_domains parts skews) (sound_domains_right parts skews) never))
  fails g f (surplus_flop x many) = inr (inl (refl, rw follows.flops (le-ltb (length (flops_of frames)) most_flops many)))
  fails g f (surplus_gate x many) = inr (inl (refl, rw follows.gates (le-ltb (length (gates_of frames)) most_gates many)))
  fails g f (surplus_wire start end delay many) = inr (inl (refl, rw follows.wires (le-ltb (length (wires_of frames)) most_wires many)))
  fails g f (crossed_delays x crossed) = inr (inr (inl (refl, lt-leb x.smaller x.larger crossed)))
  fails g f (absent_start start end delay absent) = inr (inr (inl (refl, rw (follows.flops, follows.gates) (and_left _ _ absent))))
  fails g f (absent_end start end delay absent) = inr (inr (inl (refl, rw (follows.flops, follows.gates) (and_right _ _ absent))))
  fails g f (backward start end delay a b down) = inr (inr (inr (inl (refl, not_forward start end a b down))))
  fails g f (unfed never) = inr (inl (refl, rw (follows.gates, follows.wires) (unmet (joined_up nodes links) (λ e. (joined_up_right nodes links e).0) never)))
  fails g f (undrained never) = inr (inl (refl, rw (follows.gates, follows.wires) (unmet (joined_up nodes links) (λ e. (joined_up_right nodes links e).1) never)))

  -- the first check past the order that fails shows that a rule is broken
  breaks_past : (g : Ground) (f : Frame) → FailedFirst g (checks_past s.circuit f) → Breaks frames g f
  breaks_past g (domains_frame parts skews) = elim [
    | inl here ↦ rw (← here.0) (unsound_domains parts skews (λ d. both_ways (sound_domains parts skews) here.1 (sound_domains_all parts skews d)))
    | inr past ↦ absurd past.1
  ]
  breaks_past g (flop_frame f) = elim [
    | inl here ↦ rw (← here.0) (surplus_flop f (ltb-false _ most_flops (rw follows.flops at here.1)))
    | inr past ↦ absurd past.1
  ]
  breaks_past g (gate_frame x) = elim [
    | inl here ↦ rw (← here.0) (surplus_gate x (ltb-false _ most_gates (rw follows.gates at here.1)))
    | inr past ↦ elim past.1 [
      | inl here ↦ rw (← here.0) (crossed_delays x (leb-false x.smaller x.larger here.1))
      | inr past' ↦ absurd past'.1
    ]
  ]
  breaks_past g (wire_frame start end delay) = elim [
    | inl here ↦ rw (← here.0) (surplus_wire start end delay (ltb-false _ most_wires (rw follows.wires at here.1)))
    | inr past ↦ elim past.1 [
      | inl here ↦ rw (← here.0) (elim (and_cases _ _ (rw (follows.flops, follows.gates) at here.1))
          [ inl absent ↦ absent_start start end delay absent | inr absent ↦ absent_end start end delay absent ])
      | inr past' ↦ elim past'.1 [
        | inl here ↦
            let (ks, ke) = and_parts _ _ past'.0 in
            let (a, b, down) = gates_down _ _ start end ks ke here.1 in
            rw (← here.0) (backward start end delay a b down)
        | inr past'' ↦ absurd past''.1
      ]
    ]
  ]
  breaks_past g end_frame = elim [
    | inl here ↦ rw (← here.0) (elim (open_gate nodes links (rw (follows.gates, follows.wires) at here.1))
        [ inl never ↦ unfed never | inr never ↦ undrained never ])
    | inr past ↦ absurd past.1
  ]

  breaks : (g : Ground) (f : Frame) → FailedFirst g (checks s f) → Breaks frames g f
  breaks g f (inl here) = rw (← here.0) (out_of_order f (not_from_Decides (may_stand s.reached (kind f)) (stands frames s.reached f follows.highest) here.1))
  breaks g f (inr past) = breaks_past g f past.1

  -- no rule is broken, or one on this ground is and none on a smaller one
  abbrev pub Broken : Frame → Option Ground → Type 0
  Broken f None = (h : Ground) → Breaks frames h f → ⊥
  Broken f (Some g) = Breaks frames g f × ((h : Ground) → Breaks frames h f → number_of g ≤ number_of h)

  broken_at : (f : Frame) (o : Option Ground) → Found (checks s f) o → Broken f o
  broken_at f None none-failed = λ h b. none-failed h (fails h f b)
  broken_at f (Some g) failed = (breaks g f failed.0, λ h b. failed.1 h (fails h f b))

  pub broken : (f : Frame) → Broken f (first_failed (checks s f))
  broken f = broken_at f (first_failed (checks s f)) (found (number_of Shape) (checks s f) (omega arith, ranked s.circuit f))
