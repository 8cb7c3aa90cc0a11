-- The numbers of the refusals of books.
use Rattle.std.specs.Prelude.{ℕ, Some, None, Ok, Err, Option, Result}
use Rattle.tablebook.specs.Sheets.{FillAnswer, filled, refused, no_memory}
use Rattle.tablebook.specs.declared.faults.FillFault.{FillFault}
use Rattle.tablebook.specs.declared.faults.FillFault.TheVariants.{Limits, Laws, Memory}

abbrev pub fill_number : FillFault → Option ℕ
fill_number Limits = Some 17
fill_number Laws = Some 18
fill_number Memory = None

abbrev pub fill_answer : {X : Type 0} → Result X FillFault → FillAnswer
fill_answer (Ok x) = filled
fill_answer (Err Limits) = refused 17
fill_answer (Err Laws) = refused 18
fill_answer (Err Memory) = no_memory
