-- Tables that keep their laws from each row and column to the next keep them altogether.
use Rattle.std.proofs.Common.{◌≡◌, false, ℕ, ◌+◌, ◌<◌, ◌≤◌, List, [], map, length, slice_index, get_or, vec_items, sym, subst, arith}
use Rattle.std.specs.Global.{Vec}
use Rattle.std.specs.List.{All, AllAdjacentBelow}
use Rattle.std.specs.List.Sorted.{IsSortedBy}
use Rattle.std.proofs.lemmas.Bool.Decides.{nat_tests}
use Rattle.std.proofs.lemmas.List.{get_or_default}
use Rattle.std.proofs.lemmas.List.Elements.{All-map, All-from_get_or}
use Rattle.std.proofs.lemmas.List.Sorted.{IsNonDecreasingBy-from_all_adjacent, IsStrictWeakOrder-by_number, IsStrictWeakOrder-flip, sorted_far}
use Rattle.tablebook.specs.declared.sheet.Sheet.{Sheet}
use Rattle.tablebook.specs.Sheets.{RowFits, TableFits, Fits, NeverRises, StaysUnder, Lawful, AllLawful}
use Rattle.tablebook.specs.Tables.{rows_of, given, LawfulByStep}
use Rattle.tablebook.specs.Kept.{columns_of}
use Rattle.tablebook.proofs.Each.{each_unmapped, neighbours_unmapped, neighbours_mapped}
use Rattle.tablebook.proofs.Within.{tables_of}
use lib.Dec.{ltb}

-- `ltb` at two figures
no_rise : (a b : ℕ) → b ≤ a → ltb a b ≡ false
no_rise a b l = grind (arith, nat_tests)

falls : (a b : ℕ) → ltb a b ≡ false → b ≤ a
falls a b e = grind (arith, nat_tests)

-- no figure is less than the one before it, in the order turned round
turned : (row : List ℕ) → NeverRises row → IsSortedBy (λ x y. ltb y x) row
turned row down k d low l =
    let here = get_or_default row k d 0 (omega arith) in
    let next = get_or_default row (k + 1) d 0 l in
    let lower : slice_index row (k + 1) ≤ slice_index row k = down k l in
    no_rise (get_or row k d) (get_or row (k + 1) d) (omega arith)

falling : (row : List ℕ) → NeverRises row → (i j : ℕ) → i ≤ j → j < length row → slice_index row j ≤ slice_index row i
falling row down i j l h = falls _ _ (sorted_far (λ x y. ltb y x) (IsStrictWeakOrder-flip (λ x y. ltb x y) (IsStrictWeakOrder-by_number (λ x. x))) row (turned row down) i j 0 l h)

pub lawful_from : (domains : ℕ) (rows : List (List ℕ)) → TableFits domains rows → All NeverRises rows → AllAdjacentBelow StaysUnder rows (length rows) → Lawful domains rows
lawful_from domains rows t down up =
    let columns : All (λ row. length row ≡ domains) rows = λ m d l. (All-from_get_or (RowFits domains) rows [] t.each_row m d l).columns in
    record {
      never_falls = λ m higher n l h k. IsNonDecreasingBy-from_all_adjacent (λ row. slice_index row n) rows (λ i d j. up i d j n (subst (λ z. n < z) (sym (columns i d (omega arith))) k) (subst (λ z. n < z) (sym (columns (i + 1) d j)) k)) m higher [] l (subst (λ z. higher < z) (sym t.row_count) h);
      never_rises = λ m n higher l k h.
          let there : m < length rows = subst (λ z. m < z) (sym t.row_count) k in
          falling (get_or rows m []) (down m [] there) n higher l (subst (λ z. higher < z) (sym (columns m [] there)) h);
    }

pub rows_from : (domains : ℕ) (rows : List (List ℕ)) → TableFits domains rows → Lawful domains rows → (m : ℕ) → m < length rows → NeverRises (get_or rows m [])
rows_from domains rows t law m l n h = law.never_rises m n (n + 1) (omega arith) (subst (λ z. m < z) t.row_count l) (subst (λ z. n + 1 < z) (columns_of domains rows t m (subst (λ z. m < z) t.row_count l)) h)

pub columns_from : (domains : ℕ) (rows : List (List ℕ)) → TableFits domains rows → Lawful domains rows → (m : ℕ) → m + 1 < length rows → (n : ℕ) → n < length (get_or rows m []) → slice_index (get_or rows m []) n ≤ slice_index (get_or rows (m + 1) []) n
columns_from domains rows t law m l n h = law.never_falls m (m + 1) n (omega arith) (subst (λ z. m + 1 < z) t.row_count l) (subst (λ z. n < z) (columns_of domains rows t m (subst (λ z. m < z) t.row_count (omega arith))) h)

lawful_by_step : (domains : ℕ) (rows : List (Vec ℕ)) → TableFits domains (map vec_items rows) → LawfulByStep rows → Lawful domains (map vec_items rows)
unfolding LawfulByStep
lawful_by_step domains rows t s = lawful_from domains (map vec_items rows) t (All-map NeverRises vec_items rows s.0) (neighbours_mapped vec_items StaysUnder rows s.1)

steps_of_lawful : (domains : ℕ) (rows : List (Vec ℕ)) → TableFits domains (map vec_items rows) → Lawful domains (map vec_items rows) → LawfulByStep rows
unfolding LawfulByStep
steps_of_lawful domains rows t law = (
  each_unmapped vec_items NeverRises rows [] (rows_from domains (map vec_items rows) t law),
  neighbours_unmapped vec_items StaysUnder rows [] (λ m l n h k. columns_from domains (map vec_items rows) t law m l n h),
)

-- the tables of a sheet within the limits
pub laws_of : (s : Sheet) → Fits (given s) → All (λ table. LawfulByStep (vec_items table)) s.tables.now → AllLawful (given s)
laws_of s f steps t l = All-map (Lawful s.domains) rows_of s.tables.now (λ k d h. lawful_by_step s.domains (vec_items (get_or s.tables.now k d)) (tables_of s f k d h) (steps k d h)) t [] l

pub steps_of : (s : Sheet) → Fits (given s) → AllLawful (given s) → All (λ table. LawfulByStep (vec_items table)) s.tables.now
steps_of s f laws k d h = steps_of_lawful s.domains (vec_items (get_or s.tables.now k d)) (tables_of s f k d h) (each_unmapped rows_of (Lawful s.domains) s.tables.now [] laws k d h)
