-- What each change of one element answers, and the circuit afterwards.
use Rattle.std.specs.Prelude.{ℕ, zero, suc, ◌<◌, ◌≤◌, List, [], ◌∷◌, length, ℤ, Some, None, Ok, Err, Option, Result, slice_set}
use Rattle.circuit.specs.Circuit.{Wire, Circuit, with_flops, with_gates, with_wires}
use Rattle.netlist.specs.declared.faults.ChangeFault.{ChangeFault}
use Rattle.netlist.specs.declared.faults.ChangeFault.TheVariants.{Missing, Delays}

-- the number of each refusal
abbrev pub change_number : ChangeFault → ℕ
change_number Missing = 10
change_number Delays = 11

-- the answer of a change: no number where it is made, else that of the refusal
abbrev pub change_code : {X : Type 0} → Result X ChangeFault → Option ℕ
change_code (Ok x) = None
change_code (Err e) = Some (change_number e)

-- the answer to a change of an element that is there or not, by figures that may stand or not, and the circuit afterwards
pub data Change (There May : Type 0) (before changed : Circuit) : Option ℕ → Circuit → Type 0 where
  missing : (There → ⊥) → Change There May before changed (Some 10) before
  crossed : There → (May → ⊥) → Change There May before changed (Some 11) before
  made : There → May → Change There May before changed None changed

abbrev pub ChangeGateCall : Circuit → ℕ → ℕ → ℕ → Option ℕ → Circuit → Type 0
ChangeGateCall c number smaller larger = Change (number < length c.gates) (smaller ≤ larger) c (with_gates c (slice_set c.gates number (record { smaller = smaller; larger = larger })))

abbrev pub ChangeFlopCall : Circuit → ℕ → ℕ → ℤ → Option ℕ → Circuit → Type 0
ChangeFlopCall c number setup hold = Change (number < length c.flops) (Unit {0}) c (with_flops c (slice_set c.flops number (record { setup = setup; hold = hold })))

-- the wire of this number with another delay
abbrev pub delayed : List Wire → ℕ → ℕ → List Wire
delayed [] number delay = []
delayed (w ∷ wires) zero delay = record { start = w.start; end = w.end; delay = delay } ∷ wires
delayed (w ∷ wires) (suc number) delay = w ∷ delayed wires number delay

abbrev pub ChangeWireCall : Circuit → ℕ → ℕ → Option ℕ → Circuit → Type 0
ChangeWireCall c number delay = Change (number < length c.wires) (Unit {0}) c (with_wires c (delayed c.wires number delay))
