-- What the marks of gates tell of the wires.
use Rattle.std.proofs.Common.{◌≡◌, ℕ, ◌<◌, ◌≤◌, Bool, true, false, not, ◌↔◌, List, map, length, get_or, take, IsTrue, refl, sym, ap, ◌∙◌, arith}
use Rattle.std.specs.List.{IsAnyAnswer}
use Rattle.std.proofs.lemmas.Bool.{false≢true}
use Rattle.std.proofs.lemmas.List.{take_all, get_or-take, length-take, length-map}
use Rattle.circuit.specs.Circuit.{Wire}
use Rattle.circuit.specs.Limits.{most_gates}
use Rattle.circuit.specs.Sound.{any}
use Rattle.netlist.specs.declared.elements.Gate.{Gate}
use Rattle.netlist.specs.declared.elements.Wire.{Wire as WireElement}
use Rattle.netlist.specs.Figures.{gate_of, wire_of}
use mathlib.Core.Bool.{beq}

set_mark : (b : Bool) → beq b false ≡ false → b ≡ true
set_mark true e = refl
set_mark false e = sym e

-- after all wires, no mark of a gate is missing just where each gate has a wire of the kind that is marked
pub marks_tell : (test : ℕ → Wire → Bool) (marks : List Bool) (wires : List WireElement) (i : ℕ) (gates rows : List Gate) (missing : Bool)
    → length marks ≡ most_gates → ((g : ℕ) → g < most_gates → get_or marks g false ≡ any (test g) (map wire_of (take i wires))) → length wires ≤ i
    → rows ≡ gates → length rows ≤ most_gates → IsAnyAnswer (λ y b. beq y false ≡ b) (take (length rows) marks) missing
    → IsTrue (not missing) ↔ ((g : ℕ) → g < length (map gate_of gates) → any (test g) (map wire_of wires) ≡ true)
marks_tell test marks wires i gates rows missing long so_far all e few answer = by missing answer
  where
    n : ℕ
    n = length rows

    counted : n ≡ length (map gate_of gates)
    counted = ap length e ∙ sym (length-map gates gate_of)

    marked : (g : ℕ) → g < n → get_or (take n marks) g false ≡ any (test g) (map wire_of wires)
    marked g l = get_or-take n marks g false l ∙ (so_far g (omega arith) ∙ ap (λ ws. any (test g) (map wire_of ws)) (take_all i wires all))

    by : (b : Bool) → IsAnyAnswer (λ y b. beq y false ≡ b) (take n marks) b → IsTrue (not b) ↔ ((g : ℕ) → g < length (map gate_of gates) → any (test g) (map wire_of wires) ≡ true)
    by true h =
        let within : h.0 < n = omega (arith, h.1, length-take n marks) in
        ((λ t. absurd (false≢true t)), (λ p. absurd (false≢true (sym (ap (λ y. beq y false) (marked h.0 within ∙ p h.0 (omega (arith, counted)))) ∙ h.2 false))))
    by false h = (
      (λ t g l. sym (marked g (omega (arith, counted))) ∙ set_mark (get_or (take n marks) g false) (h g false (omega arith) (omega (arith, counted, long, few, length-take n marks)))),
      (λ p. refl),
    )
