-- A sheet whose tables are cloned and whose checks are copied is the same sheet.
use Rattle.std.proofs.Common.{◌≡◌, ℕ, List, [], ◌∷◌, map, vec_items, vec_len, refl, sym, ap, ◌∙◌}
use Rattle.std.specs.Global.{Vec}
use Rattle.std.specs.List.{AllZip}
use Rattle.std.proofs.lemmas.List.Elements.{same_from_all_zip}
use Rattle.tablebook.specs.declared.sheet.Sheet.{Sheet as Given}
use Rattle.tablebook.specs.declared.sheet.TableCheck.{TableCheck}
use Rattle.tablebook.specs.Tables.{rows_of, entry_of, sheet, given}

mapped_alike : {X Y : Type 0} (f : X → Y) (R : X → X → Type 0) → ((x y : X) → R x y → f x ≡ f y) → (xs ys : List X) → AllZip R xs ys → map f xs ≡ map f ys
mapped_alike f R alike [] [] z = refl
mapped_alike f R alike [] (y ∷ ys) z = absurd z
mapped_alike f R alike (x ∷ xs) [] z = absurd z
mapped_alike f R alike (x ∷ xs) (y ∷ ys) z = ap (λ a. a ∷ map f xs) (alike x y z.0) ∙ ap (λ all. f y ∷ all) (mapped_alike f R alike xs ys z.1)

-- what `clone` says of a row and of a table
abbrev pub IsRowClone : Vec ℕ → Vec ℕ → Type 0
IsRowClone row copy = AllZip (λ x y. y ≡ x) (vec_items row) (vec_items copy) × (vec_len copy ≡ vec_len row)

abbrev pub IsTableClone : Vec (Vec ℕ) → Vec (Vec ℕ) → Type 0
IsTableClone table copy = AllZip IsRowClone (vec_items table) (vec_items copy) × (vec_len copy ≡ vec_len table)

tables_alike : (tables copies : List (Vec (Vec ℕ))) → AllZip IsTableClone tables copies → map rows_of tables ≡ map rows_of copies
tables_alike = mapped_alike rows_of IsTableClone (λ table copy z. mapped_alike vec_items IsRowClone (λ row other y. sym (same_from_all_zip (λ a b. b ≡ a) _ _ y.0 (λ a b e. e))) (vec_items table) (vec_items copy) z.0)

pub copied : (s : Given) (tables : List (Vec (Vec ℕ))) (checks : List TableCheck) → AllZip IsTableClone s.tables.now tables → checks ≡ s.checks.now → given s ≡ sheet s.flops s.domains s.floor tables checks
copied s tables checks z e = ap (λ all. record { flops = s.flops; domains = s.domains; floor = s.floor; tables = all; entries = map entry_of s.checks.now }) (tables_alike s.tables.now tables z) ∙ ap (sheet s.flops s.domains s.floor tables) (sym e)
