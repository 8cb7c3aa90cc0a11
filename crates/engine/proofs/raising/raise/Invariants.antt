use Rattle.std.proofs.Common.{◌≡◌, ◌≤◌, length}
use Rattle.checks.specs.Raises.{room}
use Rattle.checks.proofs.Raising.{Raising, Scanned}
use Rattle.period.specs.Periods.{fraction}
use Rattle.engine.proofs.raising.raise.Given as goal

abbrev pub invariant-raise : goal.invariant-raise
invariant-raise g l = Raising (g.B.Book.meaning l.book) l.current l.best.domains (fraction l.best.period)

abbrev pub decreases-raise : goal.decreases-raise
decreases-raise g l = room l.current

-- the scan leaves the list and the best as they are, and found a check at each place so far
abbrev pub invariant-loop-place : goal.invariant-loop-place
invariant-loop-place g l = record {
  found : l.place ≤ length (g.B.Book.meaning l.book).checks;
  unmoved : l.current ≡ l.initial.current;
  raising : Raising (g.B.Book.meaning l.book) l.current l.best.domains (fraction l.best.period);
  scanned : Scanned (g.B.Book.meaning l.book) l.current l.place (fraction l.worst.period) l.worst.end;
}
