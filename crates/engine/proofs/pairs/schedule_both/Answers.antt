use Rattle.engine.proofs.Both.{both_scheduled}
use Rattle.engine.proofs.pairs.schedule_both.Goals as goal

pub returns : goal.returns
returns g c =
    both_scheduled (g.met.A.Book.sound c.args.first.now) (g.met.B.Book.sound c.args.second.now) c.schedule-one.ensures c.schedule-other.ensures
