use Rattle.std.proofs.Common.{Ok, false, refl}
use Rattle.period.specs.Periods.{fraction}
use Rattle.period.proofs.Comparisons.{gt_true, gt_false}
use Rattle.engine.specs.Passes.{Passed}
use Rattle.engine.proofs.Calls.{floor_above, settle_met}
use Rattle.engine.proofs.settling.meet.Goals as goal

pub returns-then-gt : goal.returns-then-gt
returns-then-gt g c = (refl, floor_above c.args.period c.floor.result (g.met.B.Book.sound c.args.book.now) c.floor.ensures (gt_true _ _ _ c.gt.ensures c.if-gt.true))

pub returns : goal.returns
returns g c =
    let done : Passed (g.B.Book.meaning c.args.book.now) (fraction c.args.period) c.loop.domains c.pass.new.domains (Ok false) = rw c.if-branch.false at c.in_ok-pass.ensures in
    rw done.0 (settle_met c.args.period c.floor.result c.floor.ensures (gt_false _ _ _ c.gt.ensures c.if-gt.false) c.loop.invariant done.1)
