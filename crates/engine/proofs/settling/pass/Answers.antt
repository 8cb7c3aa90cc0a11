use Rattle.std.proofs.Common.{◌∙◌, refl, arith}
use Rattle.period.proofs.Comparisons.{gt_true, gt_false}
use Rattle.engine.proofs.Passing.{pass_keeps, pass_raises, pass_stuck, pass_ends}
use Rattle.engine.proofs.settling.pass.Goals as goal
use Rattle.engine.proofs.settling.pass.Goals.{then-gt+else-not-step_up, else-gt}

pub loop-place-preserved : goal.loop-place-preserved
loop-place-preserved g c = elim c.if-gt.branch [
  | then-gt+else-not-step_up w ↦
      pass_raises (g.met.B.Book.sound c.args.book.now) c.args.period.parted c.loop-place.invariant c.in-Some.ensures (gt_true _ _ _ c.gt.ensures w.if-gt.true) c.domains-count.ensures (w.if-not-step_up.ensures.0, w.domains-is ∙ w.if-not-step_up.ensures.1) w.raised-is
  | else-gt w ↦ pass_keeps c.loop-place.invariant c.in-Some.ensures (gt_false _ _ _ c.gt.ensures w.if-gt.false) w.domains-is w.raised-is
]

pub returns-then-not-step_up : goal.returns-then-not-step_up
returns-then-not-step_up g c =
    (refl, pass_stuck c.step_up.new.domains (g.met.B.Book.sound c.args.book.now) c.args.period.parted c.loop-place.invariant.settling c.in-Some.ensures (gt_true _ _ _ c.gt.ensures c.if-gt.true) c.domains-count.ensures c.if-not-step_up.ensures)

pub returns-after-loop-place : goal.returns-after-loop-place
returns-after-loop-place g c = pass_ends c.loop-place.raised (omega (arith, (g.met.B.Book.sound c.args.book.now).few_checks)) c.loop-place.invariant
