use Rattle.engine.proofs.Both.{both_settled}
use Rattle.engine.proofs.pairs.settle_both.Goals as goal

pub returns : goal.returns
returns g c =
    both_settled (g.met.A.Book.sound c.args.first.now) (g.met.B.Book.sound c.args.second.now) c.settle-one.ensures c.settle-other.ensures
