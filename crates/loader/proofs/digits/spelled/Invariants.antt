use Rattle.std.proofs.Common.{◌≡◌, drop}
use Rattle.dumps.specs.Reading.{decoded}
use Rattle.loader.proofs.Decoded.{paired, after}
use Rattle.loader.proofs.digits.spelled.Given as goal

abbrev pub invariant-loop-high : goal.invariant-loop-high
invariant-loop-high l = decoded l.digits ≡ after l.bytes.items (paired (drop l.high-index l.pairs))
