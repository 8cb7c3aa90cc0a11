-- The limits of a book of checks, each in one place.
use Rattle.std.specs.Prelude.{ℕ}

abbrev pub most_flops : ℕ
most_flops = 256

abbrev pub most_domains : ℕ
most_domains = 8

abbrev pub most_checks : ℕ
most_checks = 100000
