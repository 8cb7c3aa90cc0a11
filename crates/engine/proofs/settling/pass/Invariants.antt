use Rattle.period.specs.Periods.{fraction}
use Rattle.engine.proofs.Passing.{Passing}
use Rattle.engine.proofs.settling.pass.Given as goal

abbrev pub invariant-loop-place : goal.invariant-loop-place
invariant-loop-place g l = Passing (g.B.Book.meaning l.book) (fraction l.period) l.initial.domains l.domains l.place l.raised
