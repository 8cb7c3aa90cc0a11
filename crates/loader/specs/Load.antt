-- What loading a text answers, and the circuit that it leaves in the caller's block.
use Rattle.std.specs.Prelude.{◌≡◌, ℕ, ◌<◌, List, length, Some, None, Ok, Err, Option, Result}
use Rattle.circuit.specs.Circuit.{Circuit, empty}
use Rattle.dumps.specs.Ground.{number_of}
use Rattle.dumps.specs.Verdict.{Verdict, accepted, refused, Judged}
use Rattle.netlist.specs.declared.block.Block.{Block}
use Rattle.netlist.specs.Circuits.{circuit}
use Rattle.loader.specs.declared.faults.LineFault.{LineFault}
use Rattle.loader.specs.declared.faults.LineFault.TheVariants as line
use Rattle.loader.specs.declared.text.LoadError.{LoadError}
use Rattle.loader.specs.declared.text.LoadError.TheVariants.{Refused, Memory}

-- the answer of a load: the number and line of a refusal, or want of memory, which has no number
pub data LoadAnswer : Type 0 where
  loaded : LoadAnswer
  refused_at : ℕ → ℕ → LoadAnswer
  no_memory : LoadAnswer

abbrev pub load_answer : {X : Type 0} → Result X LoadError → LoadAnswer
load_answer (Ok x) = loaded
load_answer (Err (Refused why at)) = refused_at (number_of why) at
load_answer (Err Memory) = no_memory

-- the number and the line of an error, as its answer has them
abbrev pub error_number : LoadError → Option ℕ
error_number (Refused why at) = Some (number_of why)
error_number Memory = None

abbrev pub error_line : LoadError → Option ℕ
error_line (Refused why at) = Some at
error_line Memory = None

-- the text is a writing of the sound circuit that is left, or it has this refusal and the empty circuit is left;
-- want of memory leaves the empty circuit too, and an empty text wants none
abbrev pub LoadCall : List ℕ → LoadAnswer → Circuit → Type 0
LoadCall text loaded after = Judged text (accepted after)
LoadCall text (refused_at number at) after = Judged text (refused number at) × (after ≡ empty)
LoadCall text no_memory after = (0 < length text) × (after ≡ empty)

-- the fault of a line, with the line
abbrev pub with_line : LineFault → ℕ → LoadError
with_line (line.Refused why) at = Refused why at
with_line line.Memory at = Memory

-- the error is this verdict; want of memory says only that there is a text
abbrev pub Refusing : LoadError → List ℕ → Verdict → Type 0
Refusing (Refused why at) text verdict = verdict ≡ refused (number_of why) at
Refusing Memory text verdict = 0 < length text

-- the block of an accepted text, or the error of a refused one
abbrev pub TextRead : Result Block LoadError → List ℕ → Verdict → Type 0
TextRead (Ok b) text verdict = verdict ≡ accepted (circuit b)
TextRead (Err e) text verdict = Refusing e text verdict
