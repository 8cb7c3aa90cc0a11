-- The tables and the checks of a sheet, as the program has them.
use Rattle.std.specs.Prelude.{ℕ, List, length, map, vec_items}
use Rattle.std.specs.List.{All, AllAdjacentBelow}
use Rattle.std.specs.Global.{Vec}
use Rattle.tablebook.specs.Sheets.{Entry, Sheet, NeverRises, StaysUnder}
use Rattle.tablebook.specs.declared.sheet.Sheet.{Sheet as Given}
use Rattle.tablebook.specs.declared.sheet.TableCheck.{TableCheck}

abbrev pub rows_of : Vec (Vec ℕ) → List (List ℕ)
rows_of table = map vec_items (vec_items table)

-- both laws of a table, from each column to the next and from each row to the next
unfoldable pub LawfulByStep : List (Vec ℕ) → Type 0
LawfulByStep rows = All (λ row. NeverRises (vec_items row)) rows × AllAdjacentBelow (λ row below. StaysUnder (vec_items row) (vec_items below)) rows (length rows)

abbrev pub entry_of : TableCheck → Entry
entry_of c = record { start = c.start; end = c.end; table = c.table }

abbrev pub sheet : ℕ → ℕ → ℕ → List (Vec (Vec ℕ)) → List TableCheck → Sheet
sheet flops domains floor tables checks = record { flops = flops; domains = domains; floor = floor; tables = map rows_of tables; entries = map entry_of checks }

-- a sheet that is handed in
abbrev pub given : Given → Sheet
given s = sheet s.flops s.domains s.floor s.tables.now s.checks.now
