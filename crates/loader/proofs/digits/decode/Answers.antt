use Rattle.std.proofs.Common.{◌<◌, length, refl, arith, rules}
use Rattle.std.proofs.lemmas.Grind.{common_steps}
use Rattle.loader.proofs.Feeds.{held_by_last, held_short}
use Rattle.loader.proofs.digits.decode.Goals as goal
use Rattle.loader.proofs.digits.decode.Goals.{in_default-via-then-line-lt1, in_default-via-in-10+else-not-is_empty, in_default-via-else-line-lt1+in_default-1}

pub returns-in-10 : goal.returns-in-10
returns-in-10 c = grind (arith, common_steps, held_by_last)

pub returns-in_default : goal.returns-in_default
returns-in_default c =
    elim c.in_default.branch [
      | in_default-via-then-line-lt1 w ↦ (refl, let short : length c.args.line.now < 1 = search rules in held_short c.args.line.now (omega arith))
      | in_default-via-in-10+else-not-is_empty w ↦ (refl, grind (arith, common_steps, held_by_last))
      | in_default-via-else-line-lt1+in_default-1 w ↦ (refl, grind (arith, common_steps, held_by_last))
    ]
