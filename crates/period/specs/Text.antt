-- How a fraction is written.
use Rattle.std.specs.Prelude.{ℕ, List, ◌∷◌, ◌++◌, decimal}
use Rattle.fractions.specs.Fraction.{Fraction}

abbrev pub slash : ℕ
slash = 47

-- the numerator, a slash and the denominator, in base ten
abbrev pub text : Fraction → List ℕ
text p = decimal p.num ++ (slash ∷ decimal p.den)
