-- That a period is known by its length, where its two numbers are in lowest terms.
use Rattle.std.proofs.Common.{◌≡◌, ap}
use mathlib.Core.HLevel.{Σ_prop_path}
use Rattle.fractions.specs.Fraction.{Fraction, AsLong, Coprime, IsPeriod}
use Rattle.fractions.proofs.Lowest.{lowest_once}
use Rattle.period.specs.declared.period.Period.{Period}
use Rattle.period.specs.contracts.period.Period.{the_values, the_ghost, the_propositions}
use Rattle.period.specs.Periods.{fraction}

abbrev Parts : Type 0
Parts = (v : the_values) × the_ghost v

parts : Period → Parts
parts p = ((p.numerator, (p.denominator, tt)), (p.few_units, (p.parted, (p.coarse, (p.lowest_terms, tt)))))

joined : Parts → Period
joined (v, g) = record {
  numerator = v.0;
  denominator = v.1.0;
  few_units = g.0;
  parted = g.1.0;
  coarse = g.1.1.0;
  lowest_terms = g.1.1.1.0;
}

-- two periods of one fraction are one period
pub same_period : (p q : Period) → fraction p ≡ fraction q → p ≡ q
unfolding parts joined
same_period p q e = ap joined (Σ_prop_path the_propositions {u = parts p} {v = parts q} (ap (λ (f : Fraction). (f.num, (f.den, tt))) e))

-- each period is in lowest terms
abbrev pub AllLowest : Type 0
AllLowest = (p : Period) → Coprime p.numerator p.denominator

pub kept : AllLowest → (p : Period) → IsPeriod (fraction p)
kept lowest p = record {
  within = record { few_units = p.few_units; parted = p.parted; coarse = p.coarse };
  lowest_terms = lowest p;
}

pub one_period : AllLowest → (p q : Period) → AsLong (fraction p) (fraction q) → p ≡ q
one_period lowest p q e = same_period p q (lowest_once (fraction p) (fraction q) (kept lowest p) (kept lowest q) e)
