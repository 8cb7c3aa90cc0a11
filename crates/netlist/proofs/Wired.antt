-- What keeps the counts of a draft, and its wires between places that exist.
use Rattle.std.proofs.Common.{◌≡◌, ℕ, ◌<◌, ◌≤◌, Bool, true, false, cond, List, [], ◌∷◌, ◌++◌, map, length, get_or, set, sym, ap, ◌∙◌, arith}
use Rattle.std.proofs.lemmas.Grind.{common_steps}
use Rattle.std.proofs.lemmas.List.{length-map, map-set, get_or-map}
use Rattle.circuit.specs.Circuit.{Wire}
use Rattle.circuit.specs.Sound.{every, runs}
use Rattle.circuit.proofs.Every.{every_get_or, every_set}
use Rattle.circuit.proofs.Runs.{wired_more}
use Rattle.netlist.specs.declared.elements.FlipFlop.{FlipFlop}
use Rattle.netlist.specs.declared.elements.Gate.{Gate}
use Rattle.netlist.specs.declared.elements.Wire.{Wire as WireElement}
use Rattle.netlist.specs.Figures.{flop_of, gate_of, wire_of}

-- one element more, or none where memory failed
pushed_longer : {X Y : Type 0} (f : X → Y) (b : Bool) (xs : List X) (x : X) → length (map f xs) ≤ length (map f (cond b (xs ++ (x ∷ [])) xs))
pushed_longer f true xs x = grind (arith, common_steps, length-map)
pushed_longer f false xs x = grind (arith, common_steps, length-map)

-- a table that had room stays within its limit
pub few_pushed : {X Y : Type 0} (f : X → Y) (b : Bool) (xs : List X) (x : X) (most : ℕ) → length xs < most → length (map f (cond b (xs ++ (x ∷ [])) xs)) ≤ most
few_pushed f true xs x most room = grind (arith, common_steps, length-map)
few_pushed f false xs x most room = grind (arith, common_steps, length-map)

-- and so does one that takes an element back
pub few_set : {X Y : Type 0} (f : X → Y) (xs : List X) (n : ℕ) (x : X) (most : ℕ) → length (map f xs) ≤ most → length (map f (set xs n x)) ≤ most
few_set f xs n x most few = grind (arith, common_steps, length-map)

pub wired_push_flop : (b : Bool) (flops : List FlipFlop) (f : FlipFlop) (gates : ℕ) (wires : List Wire)
    → every (runs (length (map flop_of flops)) gates) wires ≡ true → every (runs (length (map flop_of (cond b (flops ++ (f ∷ [])) flops))) gates) wires ≡ true
wired_push_flop b flops f gates wires h = wired_more _ _ gates gates (pushed_longer flop_of b flops f) (omega arith) wires h

pub wired_push_gate : (b : Bool) (gates : List Gate) (g : Gate) (flops : ℕ) (wires : List Wire)
    → every (runs flops (length (map gate_of gates))) wires ≡ true → every (runs flops (length (map gate_of (cond b (gates ++ (g ∷ [])) gates)))) wires ≡ true
wired_push_gate b gates g flops wires h = wired_more flops flops _ _ (omega arith) (pushed_longer gate_of b gates g) wires h

-- a wire given back with other figures between the same places
pub wired_set : (flops gates n : ℕ) (wires : List WireElement) (old new : WireElement) → n < length wires → old ≡ get_or wires n old
    → runs flops gates (wire_of new) ≡ runs flops gates (wire_of old)
    → every (runs flops gates) (map wire_of wires) ≡ true → every (runs flops gates) (map wire_of (set wires n new)) ≡ true
wired_set flops gates n wires old new l e same h =
    let within : n < length (map wire_of wires) = omega (arith, length-map wires wire_of) in
    ap (every (runs flops gates)) (map-set wire_of wires n new)
    ∙ every_set (runs flops gates) (map wire_of wires) n (wire_of new) h
    (same ∙ (ap (λ w. runs flops gates (wire_of w)) e
    ∙ (ap (runs flops gates) (sym (get_or-map wire_of wires n old (wire_of old) l)) ∙ every_get_or (runs flops gates) (map wire_of wires) n (wire_of old) within h)))
