-- Wires that run between places that exist.
use Rattle.std.proofs.Common.{◌≡◌, ℕ, ◌≤◌, true, ◌&&◌, List, arith}
use Rattle.std.proofs.lemmas.Bool.{and_parts, and_from, ltb-true, lt-ltb}
use Rattle.circuit.specs.Circuit.{Place, at_flop, at_gate, Wire}
use Rattle.circuit.specs.Sound.{every, there, forward, runs}
use Rattle.circuit.proofs.Every.{every_weaker}

-- what exists among fewer exists among more
pub there_more : (f f' g g' : ℕ) → f ≤ f' → g ≤ g' → (p : Place) → there f g p ≡ true → there f' g' p ≡ true
there_more f f' g g' lf lg (at_flop n) h = lt-ltb n f' (omega (arith, ltb-true n f h))
there_more f f' g g' lf lg (at_gate n) h = lt-ltb n g' (omega (arith, ltb-true n g h))

pub runs_more : (f f' g g' : ℕ) → f ≤ f' → g ≤ g' → (w : Wire) → runs f g w ≡ true → runs f' g' w ≡ true
runs_more f f' g g' lf lg w h =
    let a = and_parts (there f g w.start && there f g w.end) (forward w.start w.end) h in
    let b = and_parts (there f g w.start) (there f g w.end) a.0 in
    and_from (there f' g' w.start && there f' g' w.end) (forward w.start w.end)
    (and_from (there f' g' w.start) (there f' g' w.end) (there_more f f' g g' lf lg w.start b.0) (there_more f f' g g' lf lg w.end b.1))
    a.1

pub wired_more : (f f' g g' : ℕ) → f ≤ f' → g ≤ g' → (ws : List Wire) → every (runs f g) ws ≡ true → every (runs f' g') ws ≡ true
wired_more f f' g g' lf lg ws h = every_weaker (runs f g) (runs f' g') (runs_more f f' g g' lf lg) ws h
