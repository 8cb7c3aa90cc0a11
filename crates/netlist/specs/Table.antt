-- What a table ends as, where one of its elements is lent.
use Rattle.std.specs.Prelude.{ℕ, List, Option, slice_set}
use Rattle.std.specs.Borrow.{LendsIf, Fml, RattleType, MutBor}
use Rattle.netlist.specs.contracts.table.Table.{the_row}

-- once the loan ends, the element of this number is what it shows last; where nothing is lent, the table stays as it is
abbrev pub LendsRow : (T MOST : RattleType) → MutBor (List T.Denot) → ℕ → Option (MutBor T.Denot) → Fml
LendsRow T MOST table number row = LendsIf (the_row T MOST) T table row (slice_set table.now number) table.now
