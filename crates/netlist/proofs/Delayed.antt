-- Another delay of a wire: the wire replaced by one that differs in that alone.
use Rattle.std.proofs.Common.{◌≡◌, ℕ, zero, suc, List, [], ◌∷◌, get_or, set, refl, ap}
use Rattle.circuit.specs.Circuit.{Wire}
use Rattle.netlist.specs.Changes.{delayed}

pub delayed_set : (wires : List Wire) (i delay : ℕ) (w : Wire) → w ≡ get_or wires i w → set wires i (record { start = w.start; end = w.end; delay = delay }) ≡ delayed wires i delay
delayed_set [] i delay w e = refl
delayed_set (v ∷ wires) zero delay w e = ap (λ (u : Wire). record { start = u.start; end = u.end; delay = delay } ∷ wires) e
delayed_set (v ∷ wires) (suc i) delay w e = ap (λ ws. v ∷ ws) (delayed_set wires i delay w e)
