-- The sheet that a table book holds, and what it means.
use Rattle.std.specs.Prelude.{vec_items}
use Rattle.checks.specs.Model.{Model}
use Rattle.tablebook.specs.Sheets.{Sheet, model_of}
use Rattle.tablebook.specs.Tables.{sheet}
use Rattle.tablebook.specs.declared.table.TableBook.{TableBook}

abbrev pub held : TableBook → Sheet
held b = sheet b.flops b.domains b.floor (vec_items b.tables) (vec_items b.checks)

abbrev pub table_meaning : TableBook → Model
table_meaning b = model_of (held b)
