use Rattle.std.specs.Slice.Iter.{split_inclusive_rest}
use Rattle.loader.specs.Assemblies.{state_of}
use Rattle.loader.proofs.Runs.{Reached}
use Rattle.loader.proofs.text.read.Given as goal

abbrev pub invariant-loop-line : goal.invariant-loop-line
invariant-loop-line l =
    goal.iterator-loop-line.can_next l.line-iterator
    × goal.iterator-loop-line.is_finite l.line-iterator
    × Reached l.text (split_inclusive_rest l.line-iterator) (state_of l.assembly) l.number
