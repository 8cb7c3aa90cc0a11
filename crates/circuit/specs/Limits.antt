-- The limits of a block, each in one place.
use Rattle.std.specs.Prelude.{ℕ}

abbrev pub most_flops : ℕ
most_flops = 256

abbrev pub most_gates : ℕ
most_gates = 1024

abbrev pub most_wires : ℕ
most_wires = 4096

abbrev pub most_domains : ℕ
most_domains = 8

abbrev pub most_parts : ℕ
most_parts = 256

-- delays and setup times are below this
abbrev pub delay_end : ℕ
delay_end = 65536

-- a hold time is below this, and not below its negative
abbrev pub hold_end : ℕ
hold_end = 32768
