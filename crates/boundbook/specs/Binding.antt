-- What binding two books answers.
use Rattle.std.specs.Prelude.{◌≡◌, ℕ, ◌+◌, ◌<◌, ◌≤◌, ◌++◌, length, Some, None, Ok, Err, Option, Result}
use Rattle.std.specs.List.{slice_get}
use Rattle.checks.specs.Limits.{most_checks}
use Rattle.checks.specs.Model.{Model}
use Rattle.boundbook.specs.Bound.{bound}
use Rattle.boundbook.specs.declared.bound.Bound.{Bound}
use Rattle.boundbook.specs.declared.bound.Side.{Side}
use Rattle.boundbook.specs.declared.bound.Side.TheVariants.{First, Second}
use Rattle.boundbook.specs.declared.bound.TooManyChecks.{TooManyChecks}

abbrev pub too_many_number : ℕ
too_many_number = 19

-- the two books bound, with all the checks of both, or both handed back because they have too many checks together
abbrev pub BindCall : {A B : Type 0} → (A → Model) → (B → Model) → A → B → Result (Bound A B) (TooManyChecks A B) → Type 0
BindCall meaning other first second (Ok b) = (length (meaning first).checks + length (other second).checks ≤ most_checks) × (b.first ≡ first) × (b.second ≡ second) × ((bound (meaning first) (other second)).checks ≡ (meaning first).checks ++ (other second).checks)
BindCall meaning other first second (Err e) = (most_checks < length (meaning first).checks + length (other second).checks) × (e.first ≡ first) × (e.second ≡ second)

-- the check at a place of the bound book is one of the first book, one of the second, or none
abbrev pub Sided : Model → Model → ℕ → Option Side → Type 0
Sided first second place (Some (First at)) = slice_get (bound first second).checks place ≡ slice_get first.checks at
Sided first second place (Some (Second at)) = slice_get (bound first second).checks place ≡ slice_get second.checks at
Sided first second place None = slice_get (bound first second).checks place ≡ None
