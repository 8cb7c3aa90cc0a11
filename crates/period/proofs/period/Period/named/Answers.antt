use Rattle.std.proofs.Common.{arith}
use Rattle.fractions.specs.Fraction.{Within}
use Rattle.fractions.proofs.Lowest.{reduced}
use Rattle.period.specs.Periods.{written}
use Rattle.period.proofs.period.Period.named.Goals as goal

pub invariant_of-result : goal.invariant_of-result
invariant_of-result c =
    let v : Within (written c.args.numerator c.args.denominator) = record { few_units = omega arith; parted = omega arith; coarse = omega arith } in
    let made = (reduced c.args.numerator c.args.denominator c.common_divisor-common.result v c.common_divisor-common.ensures).0 in
    record { few_units = made.within.few_units; parted = made.within.parted; coarse = made.within.coarse; lowest_terms = made.lowest_terms }
