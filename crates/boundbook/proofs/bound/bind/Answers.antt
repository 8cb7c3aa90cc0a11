use Rattle.std.proofs.Common.{refl}
use Rattle.boundbook.specs.BindingLemmas.{bound_whole}
use Rattle.boundbook.proofs.bound.bind.Goals as goal

pub returns : goal.returns
returns g c =
    let p = bound_whole _ _ (g.A.Book.meaning c.args.first).checks (g.B.Book.meaning c.args.second).checks c.checks.ensures c.checks-2.ensures c.if-checks-gt-MOST_CHECKS.false in
    (p.0, refl, refl, p.1)
