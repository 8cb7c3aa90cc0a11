use Rattle.std.proofs.Common.{sym, ◌∙◌}
use Rattle.period.specs.Periods.{fraction}
use Rattle.booktrials.specs.Links.{links_count}
use Rattle.booktrials.proofs.constant.ConstantBookBook.checks.Goals as goal

pub returns : goal.returns
returns c = c.links.ensures ∙ sym (links_count (fraction c.args.self.now.need) 0 _)
