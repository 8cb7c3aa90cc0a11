-- A table is within the limits exactly when it has as many rows as domains and each row fits; a sheet that is handed in, exactly
-- when its counts, its tables and its checks are.
use Rattle.std.proofs.Common.{◌≡◌, ℕ, List, [], map, length, get_or, vec_items, sym, ◌∙◌, subst}
use Rattle.std.specs.Global.{Vec}
use Rattle.std.specs.List.{All}
use Rattle.std.proofs.lemmas.List.{length-map}
use Rattle.std.proofs.lemmas.List.Elements.{All-map}
use Rattle.tablebook.specs.declared.sheet.Sheet.{Sheet}
use Rattle.tablebook.specs.Sheets.{RowFits, CountsFit, TableFits, EntryFits, Fits, nowhere}
use Rattle.tablebook.specs.Tables.{rows_of, entry_of, given}
use Rattle.tablebook.proofs.Each.{each_unmapped}

pub table_from : (domains : ℕ) (rows : List (Vec ℕ)) → length rows ≡ domains → All (λ row. RowFits domains (vec_items row)) rows → TableFits domains (map vec_items rows)
table_from domains rows count each = record {
  row_count = length-map rows vec_items ∙ count;
  each_row = λ m l. All-map (RowFits domains) vec_items rows each m [] l;
}

pub rows_of_fit : (domains : ℕ) (rows : List (Vec ℕ)) → TableFits domains (map vec_items rows) → All (λ row. RowFits domains (vec_items row)) rows
rows_of_fit domains rows t = each_unmapped vec_items (RowFits domains) rows [] t.each_row

abbrev pub CountsOf : Sheet → Type 0
CountsOf s = CountsFit s.flops s.domains (length s.checks.now) s.floor

abbrev pub TablesOf : Sheet → Type 0
TablesOf s = All (λ table. TableFits s.domains (rows_of table)) s.tables.now

abbrev pub ChecksOf : Sheet → Type 0
ChecksOf s = All (λ check. EntryFits s.flops (length s.tables.now) (entry_of check)) s.checks.now

pub fits_from : (s : Sheet) → CountsOf s → TablesOf s → ChecksOf s → Fits (given s)
fits_from s counts tables checks = record {
  counts_fit = subst (λ n. CountsFit s.flops s.domains n s.floor) (sym (length-map s.checks.now entry_of)) counts;
  tables_fit = λ t l. All-map (TableFits s.domains) rows_of s.tables.now tables t [] l;
  entries_fit = λ k l. subst (λ n. EntryFits s.flops n (get_or (map entry_of s.checks.now) k nowhere)) (sym (length-map s.tables.now rows_of)) (All-map (EntryFits s.flops (length s.tables.now)) entry_of s.checks.now checks k nowhere l);
}

pub counts_of : (s : Sheet) → Fits (given s) → CountsOf s
counts_of s f = subst (λ n. CountsFit s.flops s.domains n s.floor) (length-map s.checks.now entry_of) f.counts_fit

pub tables_of : (s : Sheet) → Fits (given s) → TablesOf s
tables_of s f = each_unmapped rows_of (TableFits s.domains) s.tables.now [] f.tables_fit

pub checks_of : (s : Sheet) → Fits (given s) → ChecksOf s
checks_of s f = each_unmapped entry_of (EntryFits s.flops (length s.tables.now)) s.checks.now nowhere (λ k l. subst (λ n. EntryFits s.flops n (get_or (map entry_of s.checks.now) k nowhere)) (length-map s.tables.now rows_of) (f.entries_fit k l))
