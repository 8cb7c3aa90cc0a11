-- Another delay of a wire leaves every gate its wires.
use Rattle.std.proofs.Common.{◌≡◌, ℕ, zero, suc, Bool, ◌||◌, List, [], ◌∷◌, Option, refl, ap, ◌∙◌}
use Rattle.circuit.specs.Circuit.{Circuit, Wire}
use Rattle.circuit.specs.Sound.{any, enters, leaves, Covered}
use Rattle.netlist.specs.Changes.{missing, crossed, made, delayed, ChangeWireCall}

-- a test of the ends of wires does not see their delays
any_delayed : (test : Wire → Bool) → ((w : Wire) (d : ℕ) → test (record { start = w.start; end = w.end; delay = d }) ≡ test w) → (ws : List Wire) (n d : ℕ) → any test (delayed ws n d) ≡ any test ws
any_delayed test same [] n d = refl
any_delayed test same (w ∷ ws) zero d = ap (λ b. b || any test ws) (same w d)
any_delayed test same (w ∷ ws) (suc n) d = ap (λ b. test w || b) (any_delayed test same ws n d)

pub wire_change_covered : (c : Circuit) (n delay : ℕ) (code : Option ℕ) (after : Circuit) → ChangeWireCall c n delay code after → Covered c → Covered after
wire_change_covered c n delay code after (missing h) covered = covered
wire_change_covered c n delay code after (crossed t h) covered = covered
wire_change_covered c n delay code after (made t m) covered = (
  (λ g l. any_delayed (enters g) (λ w e. refl) c.wires n delay ∙ covered.0 g l),
  (λ g l. any_delayed (leaves g) (λ w e. refl) c.wires n delay ∙ covered.1 g l),
)
