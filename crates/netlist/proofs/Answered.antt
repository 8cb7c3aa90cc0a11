-- The three ends of a change, by the code of the answer and the circuit left.
use Rattle.std.proofs.Common.{◌≡◌, ℕ, Option, Some, None, sym, subst}
use Rattle.circuit.specs.Circuit.{Circuit}
use Rattle.netlist.specs.Changes.{Change, missing, crossed, made}

module _ {There May : Type 0} {before changed after : Circuit} {code : Option ℕ} where
  at_code : (answer : Option ℕ) → code ≡ answer → Change There May before changed answer before → after ≡ before → Change There May before changed code after
  at_code answer c h e =
      let P : Circuit → Type 0 = λ a. Change There May before changed answer a in
      let Q : Option ℕ → Type 0 = λ a. Change There May before changed a after in
      subst Q (sym c) (subst P (sym e) h)

  pub answers_missing : (There → ⊥) → code ≡ Some 10 → after ≡ before → Change There May before changed code after
  answers_missing h c e = at_code (Some 10) c (missing h) e

  pub answers_crossed : There → (May → ⊥) → code ≡ Some 11 → after ≡ before → Change There May before changed code after
  answers_crossed t h c e = at_code (Some 11) c (crossed t h) e

module _ {There May : Type 0} {before changed after : Circuit} where
  pub answers_made : There → May → after ≡ changed → Change There May before changed None after
  answers_made t m e = let P : Circuit → Type 0 = λ a. Change There May before changed None a in subst P (sym e) (made t m)
