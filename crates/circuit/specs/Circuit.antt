-- A circuit block as plain numbers and lists. Elements and domains are numbered from 0 by their place in the list.
use Rattle.std.specs.Prelude.{ℕ, List, [], ◌∷◌, ◌++◌, ℤ}

pub record FlipFlop : Type 0 where
  pub setup : ℕ
  pub hold : ℤ

-- the smaller and the larger delay of a gate
pub record Gate : Type 0 where
  pub smaller : ℕ
  pub larger : ℕ

-- where a wire starts or ends, by number
pub data Place : Type 0 where
  at_flop : ℕ → Place
  at_gate : ℕ → Place

pub record Wire : Type 0 where
  pub start : Place
  pub end : Place
  pub delay : ℕ

-- domain n has the skew (skews at n) ÷ parts of the period
pub record Circuit : Type 0 where
  pub parts : ℕ
  pub skews : List ℕ
  pub flops : List FlipFlop
  pub gates : List Gate
  pub wires : List Wire

-- one part, one domain of skew 0, nothing else
abbrev pub empty : Circuit
empty = record { parts = 1; skews = 0 ∷ []; flops = []; gates = []; wires = [] }

-- a circuit with one of its parts replaced
abbrev pub with_domains : Circuit → ℕ → List ℕ → Circuit
with_domains c parts skews = record { parts = parts; skews = skews; flops = c.flops; gates = c.gates; wires = c.wires }

abbrev pub with_flops : Circuit → List FlipFlop → Circuit
with_flops c flops = record { parts = c.parts; skews = c.skews; flops = flops; gates = c.gates; wires = c.wires }

abbrev pub with_gates : Circuit → List Gate → Circuit
with_gates c gates = record { parts = c.parts; skews = c.skews; flops = c.flops; gates = gates; wires = c.wires }

abbrev pub with_wires : Circuit → List Wire → Circuit
with_wires c wires = record { parts = c.parts; skews = c.skews; flops = c.flops; gates = c.gates; wires = wires }

-- a circuit with one element more, which comes last
abbrev pub more_flops : Circuit → FlipFlop → Circuit
more_flops c f = with_flops c (c.flops ++ (f ∷ []))

abbrev pub more_gates : Circuit → Gate → Circuit
more_gates c g = with_gates c (c.gates ++ (g ∷ []))

abbrev pub more_wires : Circuit → Wire → Circuit
more_wires c w = with_wires c (c.wires ++ (w ∷ []))
