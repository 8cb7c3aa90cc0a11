use Rattle.boundbook.specs.BindingLemmas.{side_first, side_second, side_beyond}
use Rattle.boundbook.proofs.bound.Bound.side.Goals as goal

pub returns-then-place-ge-MOST_CHECKS : goal.returns-then-place-ge-MOST_CHECKS
returns-then-place-ge-MOST_CHECKS g c = side_beyond (g.A.Book.meaning c.args.self.now.first) (g.B.Book.meaning c.args.self.now.second) c.args.place c.if-place-ge-MOST_CHECKS.true

pub returns-then-place-count : goal.returns-then-place-count
returns-then-place-count g c = side_first (g.A.Book.meaning c.args.self.now.first) (g.B.Book.meaning c.args.self.now.second) c.args.place _ c.checks-count.ensures c.if-place-ge-MOST_CHECKS.false c.if-place-count.true

pub returns-else-place-count : goal.returns-else-place-count
returns-else-place-count g c = side_second (g.A.Book.meaning c.args.self.now.first) (g.B.Book.meaning c.args.self.now.second) c.args.place _ c.checks-count.ensures c.if-place-ge-MOST_CHECKS.false c.if-place-count.false
