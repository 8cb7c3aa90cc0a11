-- Reading a table book: checks and figures as the program has them are those of its sheet.
use Rattle.std.proofs.Common.{◌≡◌, ℕ, ◌*◌, ◌<◌, List, [], map, length, get_or, Some, None, vec_items, Option, sym, ap, ◌∙◌, subst, arith}
use Rattle.std.specs.List.{slice_get}
use Rattle.std.specs.Option.{option_map}
use Rattle.std.specs.Global.{Vec}
use Rattle.std.proofs.lemmas.List.{length-map, get_or-map, get_or_default}
use Rattle.std.proofs.lemmas.Option.{slice_get-map}
use Rattle.fractions.specs.Fraction.{Fraction, whole, AsLong}
use Rattle.tablebook.specs.Sheets.{figure, check_of, TableFits}
use Rattle.tablebook.specs.Tables.{rows_of, entry_of}
use Rattle.tablebook.specs.Held.{held}
use Rattle.tablebook.specs.Kept.{columns_of, fits_there}
use Rattle.tablebook.specs.declared.sheet.TableCheck.{TableCheck}
use Rattle.tablebook.specs.declared.table.TableBook.{TableBook}
use Rattle.checks.proofs.Nth.{nth_mapped}

mapped_twice : {X Y Z : Type 0} (f : Y → Z) (g : X → Y) (o : Option X) → option_map f (option_map g o) ≡ option_map (λ x. f (g x)) o
mapped_twice f g (Some x) i = Some (f (g x))
mapped_twice f g None i = None

-- an element that was read, mapped
pub mapped_read : {X Y : Type 0} (f : X → Y) (xs : List X) (d : Y) (k : ℕ) (x : X) → k < length xs → x ≡ get_or xs k x → get_or (map f xs) k d ≡ f x
mapped_read f xs d k x l e = get_or-map f xs k x d l ∙ ap f (sym e)

-- the check at a place
pub check_at : (tables : List (List (List ℕ))) (checks : List TableCheck) (place : ℕ) (o : Option TableCheck) → o ≡ slice_get checks place → slice_get (map (check_of tables) (map entry_of checks)) place ≡ option_map (λ c. check_of tables (entry_of c)) o
check_at tables checks place o e = slice_get-map (check_of tables) (map entry_of checks) place ∙ ap (option_map (check_of tables)) (slice_get-map entry_of checks place) ∙ mapped_twice (check_of tables) entry_of (slice_get checks place) ∙ ap (option_map (λ c. check_of tables (entry_of c))) (sym e)

-- its table is there
pub table_there : (b : TableBook) (place : ℕ) (c : TableCheck) → Some c ≡ slice_get (vec_items b.checks) place → c.table < length (vec_items b.tables)
table_there b place c e =
    subst (λ n. c.table < n) (length-map (vec_items b.tables) rows_of) (fits_there (held b) b.kept place (entry_of c) (nth_mapped entry_of (vec_items b.checks) place c (sym e))).table_there

fits_read : (b : TableBook) (t : ℕ) (v : Vec (Vec ℕ)) → t < length (vec_items b.tables) → v ≡ get_or (vec_items b.tables) t v → TableFits b.domains (rows_of v)
fits_read b t v l e = subst (TableFits b.domains) (mapped_read rows_of (vec_items b.tables) [] t v l e) (b.kept.fits.tables_fit t (subst (λ n. t < n) (sym (length-map (vec_items b.tables) rows_of)) l))

-- a table has a row and a column for each domain
pub row_there : (b : TableBook) (t m : ℕ) (v : Vec (Vec ℕ)) → t < length (vec_items b.tables) → v ≡ get_or (vec_items b.tables) t v → m < b.domains → m < length (vec_items v)
row_there b t m v l e k =
    subst (λ n. m < n) (sym (fits_read b t v l e).row_count ∙ length-map (vec_items v) vec_items) k

pub column_there : (b : TableBook) (t m n : ℕ) (v : Vec (Vec ℕ)) (row : Vec ℕ) → t < length (vec_items b.tables) → v ≡ get_or (vec_items b.tables) t v → m < b.domains → row ≡ get_or (vec_items v) m row → n < b.domains → n < length (vec_items row)
column_there b t m n v row l e k f h =
    subst (λ z. n < z) (sym (columns_of b.domains (rows_of v) (fits_read b t v l e) m k) ∙ ap length (mapped_read vec_items (vec_items v) [] m row (row_there b t m v l e k) f)) h

-- the figure in a row and a column of a table
pub figure_read : (b : TableBook) (t m n : ℕ) (v : Vec (Vec ℕ)) (row : Vec ℕ) (x : ℕ) → t < length (vec_items b.tables) → v ≡ get_or (vec_items b.tables) t v → m < b.domains → row ≡ get_or (vec_items v) m row → n < b.domains → x ≡ get_or (vec_items row) n x → figure (get_or (map rows_of (vec_items b.tables)) t []) m n ≡ x
figure_read b t m n v row x l e k f h g =
    ap (λ rows. figure rows m n) (mapped_read rows_of (vec_items b.tables) [] t v l e) ∙ ap (λ cells. get_or cells n 0) (mapped_read vec_items (vec_items v) [] m row (row_there b t m v l e k) f) ∙ get_or_default (vec_items row) n 0 x (column_there b t m n v row l e k f h) ∙ sym g

pub none_stands : {X : Type 0} (o : Option X) (x : X) → o ≡ None → o ≡ Some x → ⊥
none_stands o x e f = grind arith

pub whole_as_long : (p : Fraction) (x f : ℕ) → p ≡ whole x → f ≡ x → AsLong p (whole f)
whole_as_long p x f e g = subst (λ q. AsLong q (whole f)) (sym e) (ap (λ n. n * 1) (sym g))
