-- The number of the refusal of two numbers that name no period.
use Rattle.std.specs.Prelude.{ℕ}

abbrev pub refusal_number : ℕ
refusal_number = 12
