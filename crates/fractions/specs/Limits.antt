-- The limits of a period, each in one place.
use Rattle.std.specs.Prelude.{ℕ}

abbrev pub most_num : ℕ
most_num = 40000000000

abbrev pub most_den : ℕ
most_den = 4095
