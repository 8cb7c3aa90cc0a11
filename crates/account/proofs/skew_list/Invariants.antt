use Rattle.std.proofs.Common.{◌≡◌, take, string_bytes}
use Rattle.account.specs.Account.{skew_words}
use Rattle.account.proofs.skew_list.Given as goal

abbrev pub invariant-loop-skew : goal.invariant-loop-skew
invariant-loop-skew l = string_bytes l.all ≡ skew_words (take l.skew-index l.skews)
