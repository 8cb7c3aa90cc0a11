use Rattle.std.proofs.Common.{rules}
use Rattle.loader.proofs.Numbers.{numbers_by_chunks}
use Rattle.loader.proofs.frame.fields.Goals as goal

pub returns : goal.returns
returns c = rw (numbers_by_chunks c.args.bytes.now) (search rules)
