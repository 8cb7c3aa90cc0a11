-- What is known where a check is needed under a list of domains.
use Rattle.std.proofs.Common.{◌≡◌, ℕ, ◌<◌, List, length, inl, inr, arith}
use Rattle.std.proofs.lemmas.Option.{slice_get_past}
use Rattle.std.proofs.lemmas.Bool.{cases_lt}
use Rattle.checks.specs.Model.{Model}
use Rattle.engine.specs.declared.lists.Need.{Need}
use Rattle.engine.specs.Turns.{Needed}

pub needed_within : {book : Model} {domains : List ℕ} {place : ℕ} {need : Need} → Needed book domains place need → place < length book.checks
needed_within {book} {domains} {place} needed = elim (cases_lt place (length book.checks)) [
  | inl there ↦ there
  | inr past ↦
      let none = slice_get_past book.checks place past in
      let some = needed.stands in
      absurd (let z : ◌≡◌ {A = ℕ} 0 1 = cc in omega arith)
]
