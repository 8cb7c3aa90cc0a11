use Rattle.std.proofs.Common.{sym, ap}
use Rattle.std.specs.Option.{option_map}
use Rattle.books.specs.Answers.{ends_of}
use Rattle.period.specs.Periods.{fraction}
use Rattle.booktrials.specs.Links.{link_at, no_link_at}
use Rattle.booktrials.proofs.constant.ConstantBookBook.ends.Goals as goal

pub returns-then-place-links : goal.returns-then-place-links
returns-then-place-links c = sym (ap (option_map ends_of) (link_at (fraction c.args.self.now.need) _ _ c.args.place c.links.ensures c.if-place-links.true))

pub returns-else-place-links : goal.returns-else-place-links
returns-else-place-links c = sym (ap (option_map ends_of) (no_link_at (fraction c.args.self.now.need) _ _ c.args.place c.links.ensures c.if-place-links.false))
