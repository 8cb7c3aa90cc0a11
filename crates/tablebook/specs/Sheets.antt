-- What a table book holds, by plain numbers and lists, and what it means.
use Rattle.std.specs.Prelude.{◌≡◌, ℕ, ◌+◌, ◌<◌, ◌≤◌, List, [], map, length, slice_index, slice_index_or}
use Rattle.fractions.specs.Fraction.{whole}
use Rattle.checks.specs.Limits.{most_flops, most_domains}
use Rattle.checks.specs.Model.{Check, Model}

-- a check of a table book: where it starts and ends, and the number of its table
pub record Entry : Type 0 where
  pub start : ℕ
  pub end : ℕ
  pub table : ℕ

abbrev pub nowhere : Entry
nowhere = record { start = 0; end = 0; table = 0 }

-- the floor and the figures of the tables are whole periods; a table has one row for each domain of the start of a check
-- and one column for each domain of its end
pub record Sheet : Type 0 where
  pub flops : ℕ
  pub domains : ℕ
  pub floor : ℕ
  pub tables : List (List (List ℕ))
  pub entries : List Entry

abbrev pub figure : List (List ℕ) → ℕ → ℕ → ℕ
figure rows m n = slice_index (slice_index_or rows m []) n

-- the check of an entry needs the figures of its table
abbrev pub check_of : List (List (List ℕ)) → Entry → Check
check_of tables e = record { start = e.start; end = e.end; need = λ m n. whole (figure (slice_index_or tables e.table []) m n) }

abbrev pub model_of : Sheet → Model
model_of s = record { flops = s.flops; domains = s.domains; floor = whole s.floor; checks = map (check_of s.tables) s.entries }

-- one domain, floor 0, nothing else
abbrev pub blank : Sheet
blank = record { flops = 0; domains = 1; floor = 0; tables = []; entries = [] }

abbrev pub most_entries : ℕ
most_entries = 65536

abbrev pub most_figure : ℕ
most_figure = 1000000000

pub record RowFits (domains : ℕ) (row : List ℕ) : Type 0 where
  pub columns : length row ≡ domains
  pub figures : (n : ℕ) → n < length row → slice_index row n ≤ most_figure

pub record TableFits (domains : ℕ) (rows : List (List ℕ)) : Type 0 where
  pub row_count : length rows ≡ domains
  pub each_row : (m : ℕ) → m < length rows → RowFits domains (slice_index_or rows m [])

pub record EntryFits (flops tables : ℕ) (e : Entry) : Type 0 where
  pub start_there : e.start < flops
  pub end_there : e.end < flops
  pub table_there : e.table < tables

pub record CountsFit (flops domains entries floor : ℕ) : Type 0 where
  pub few_flops : flops ≤ most_flops
  pub some_domain : 0 < domains
  pub few_domains : domains ≤ most_domains
  pub few_entries : entries ≤ most_entries
  pub floor_fits : floor ≤ most_figure

-- the limits of a table book
pub record Fits (s : Sheet) : Type 0 where
  pub counts_fit : CountsFit s.flops s.domains (length s.entries) s.floor
  pub tables_fit : (t : ℕ) → t < length s.tables → TableFits s.domains (slice_index_or s.tables t [])
  pub entries_fit : (k : ℕ) → k < length s.entries → EntryFits s.flops (length s.tables) (slice_index_or s.entries k nowhere)

-- no figure of a row is above the one before it
abbrev pub NeverRises : List ℕ → Type 0
NeverRises row = (n : ℕ) → n + 1 < length row → slice_index row (n + 1) ≤ slice_index row n

-- no figure of a row is above the one below it, as far as both rows go
abbrev pub StaysUnder : List ℕ → List ℕ → Type 0
StaysUnder row below = (n : ℕ) → n < length row → n < length below → slice_index row n ≤ slice_index below n

-- both laws of a table: figures never fall from row to row and never rise from column to column
pub record Lawful (domains : ℕ) (rows : List (List ℕ)) : Type 0 where
  pub never_falls : (m higher n : ℕ) → m ≤ higher → higher < domains → n < domains → figure rows m n ≤ figure rows higher n
  pub never_rises : (m n higher : ℕ) → n ≤ higher → m < domains → higher < domains → figure rows m higher ≤ figure rows m n

abbrev pub AllLawful : Sheet → Type 0
AllLawful s = (t : ℕ) → t < length s.tables → Lawful s.domains (slice_index_or s.tables t [])

pub record Kept (s : Sheet) : Type 0 where
  pub fits : Fits s
  pub lawful : AllLawful s

-- the answer of filling; want of memory has no number
pub data FillAnswer : Type 0 where
  filled : FillAnswer
  refused : ℕ → FillAnswer
  no_memory : FillAnswer

-- the book holds exactly what was handed in, or stays as it was; memory is wanted only for what is refused on no ground
pub data FillCall (before given : Sheet) : FillAnswer → Sheet → Type 0 where
  fills : Fits given → AllLawful given → FillCall before given filled given
  misfit : (Fits given → ⊥) → FillCall before given (refused 17) before
  lawless : Fits given → (AllLawful given → ⊥) → FillCall before given (refused 18) before
  short : Fits given → AllLawful given → FillCall before given no_memory before
