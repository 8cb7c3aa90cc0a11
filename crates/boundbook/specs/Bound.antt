-- What two books bound into one mean: the checks of the first, then those of the second.
use Rattle.std.specs.Prelude.{◌*◌, min, max, cond, ◌++◌, take, nat_le}
use Rattle.fractions.specs.Fraction.{Fraction}
use Rattle.checks.specs.Limits.{most_checks}
use Rattle.checks.specs.Model.{Model}

abbrev pub longer : Fraction → Fraction → Fraction
longer p q = cond (nat_le (p.num * q.den) (q.num * p.den)) q p

abbrev pub bound : Model → Model → Model
bound first second = record { flops = max first.flops second.flops; domains = min first.domains second.domains; floor = longer first.floor second.floor; checks = take most_checks (first.checks ++ second.checks) }
