-- The answer that each text has.
use Rattle.std.specs.Prelude.{◌≡◌, ℕ, ◌+◌, ◌<◌, List, [], ◌∷◌, ◌++◌, length}
use Rattle.std.specs.List.{AllByRecursion}
use Rattle.circuit.specs.Circuit.{Circuit}
use Rattle.circuit.specs.Sound.{Sound}
use Rattle.dumps.specs.declared.ground.Ground.{Ground}
use Rattle.dumps.specs.declared.ground.Ground.TheVariants.{Order}
use Rattle.dumps.specs.Ground.{number_of}
use Rattle.dumps.specs.Spelling.{lines}
use Rattle.dumps.specs.Frame.{Frame, kind, Says, Written, frames_of}
use Rattle.dumps.specs.Fault.{Fault}

-- the number of a ground and a line counted from 1, or the circuit
pub data Verdict : Type 0 where
  accepted : Circuit → Verdict
  refused : ℕ → ℕ → Verdict

-- from these frames on, each of these lines says a frame and is at fault on no ground; all frames are then those
abbrev pub Clean : List Frame → List (List ℕ) → List Frame → Type 0
Clean before [] all = all ≡ before
Clean before (line ∷ more) all = (f : Frame) × Says line f × ((g : Ground) → Fault before line g → ⊥) × Clean (before ++ (f ∷ [])) more all

-- the first of the lines that are left is at fault, or none is left and no end has come
pub data FaultNext (before : List Frame) : List (List ℕ) → Ground → Type 0 where
  in_line : (line : List ℕ) (more : List (List ℕ)) (g : Ground) → Fault before line g → FaultNext before (line ∷ more) g
  no_end : AllByRecursion (λ f. kind f < 5) before → FaultNext before [] Order

-- no earlier line has a fault, this one has this fault, and no smaller number fits it
pub record Refused (text : List ℕ) (number line : ℕ) : Type 0 where
  pub seen : List (List ℕ)
  pub left : List (List ℕ)
  pub before : List Frame
  pub ground : Ground
  pub cut : lines text ≡ seen ++ left
  pub clean : Clean [] seen before
  pub at_line : line ≡ length seen + 1
  pub numbered : number ≡ number_of ground
  pub fault : FaultNext before left ground
  pub smallest : (g : Ground) → number_of g < number → FaultNext before left g → ⊥

-- accepted: the text is a writing of this circuit, and the circuit is sound
abbrev pub Judged : List ℕ → Verdict → Type 0
Judged text (accepted c) = Written (frames_of c) text × Sound c
Judged text (refused number line) = Refused text number line

-- each text has exactly one answer
abbrev pub OneAnswer : Type 0
OneAnswer = (text : List ℕ) → (v : Verdict) × Judged text v × ((w : Verdict) → Judged text w → w ≡ v)

-- every sound circuit has a dump
abbrev pub EverySoundCircuitHasADump : Type 0
EverySoundCircuitHasADump = (c : Circuit) → Sound c → (text : List ℕ) × AllByRecursion (λ b. b < 256) text × Judged text (accepted c)
