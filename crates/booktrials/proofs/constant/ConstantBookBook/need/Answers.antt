use Rattle.std.proofs.Common.{refl}
use Rattle.period.specs.Periods.{fraction}
use Rattle.booktrials.specs.Chain.{link}
use Rattle.booktrials.specs.Links.{link_at, no_link_at, none_some}
use Rattle.booktrials.proofs.constant.ConstantBookBook.need.Goals as goal

pub returns-then-place-links : goal.returns-then-place-links
returns-then-place-links c = (
  c.if-start_domain-self.false,
  c.if-end_domain-self.false,
  link (fraction c.args.self.now.need) c.args.place,
  link_at (fraction c.args.self.now.need) _ _ c.args.place c.links.ensures c.if-place-links.true,
  refl,
)

pub returns-else-place-links : goal.returns-else-place-links
returns-else-place-links c x stands a b = none_some _ x (no_link_at (fraction c.args.self.now.need) _ _ c.args.place c.links.ensures c.if-place-links.false) stands
