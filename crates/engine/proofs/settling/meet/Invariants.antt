use Rattle.checks.specs.Raises.{room, Settling}
use Rattle.period.specs.Periods.{fraction}
use Rattle.engine.proofs.settling.meet.Given as goal

abbrev pub invariant-loop : goal.invariant-loop
invariant-loop g l = Settling (g.B.Book.meaning l.book) (fraction l.period) l.domains

abbrev pub decreases-loop : goal.decreases-loop
decreases-loop g l = room l.domains
