-- A place as it is named from outside: by a class and a number.
use Rattle.std.specs.Prelude.{ℕ, Bool, cond, ◌&&◌, ◌==◌, nat_lt}
use Rattle.circuit.specs.Circuit.{Place, at_flop, at_gate}

pub record Terminal : Type 0 where
  pub class : ℕ
  pub number : ℕ

abbrev pub flop_class : ℕ
flop_class = 0

abbrev pub gate_class : ℕ
gate_class = 1

abbrev pub named : Place → Terminal
named (at_flop n) = record { class = flop_class; number = n }
named (at_gate n) = record { class = gate_class; number = n }

-- the place that a terminal of either class names
abbrev pub place : Terminal → Place
place t = cond (t.class == flop_class) (at_flop t.number) (at_gate t.number)

-- the class exists, and the number is one of that class, among so many flip-flops and gates
abbrev pub known : ℕ → ℕ → Terminal → Bool
known flops gates t = cond (t.class == flop_class) (nat_lt t.number flops) (t.class == gate_class && nat_lt t.number gates)
