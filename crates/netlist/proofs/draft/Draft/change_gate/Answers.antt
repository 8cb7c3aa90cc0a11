use Rattle.std.proofs.Common.{map, set, refl, ap, ◌∙◌, arith}
use Rattle.std.proofs.lemmas.Grind.{common_steps}
use Rattle.std.proofs.lemmas.List.{length-map, map-set, set-get_or}
use Rattle.circuit.specs.Circuit.{with_gates}
use Rattle.netlist.specs.Figures.{gate_of}
use Rattle.netlist.specs.Drafted.{drafted}
use Rattle.netlist.proofs.Answered.{answers_missing, answers_crossed, answers_made}
use Rattle.netlist.proofs.draft.Draft.change_gate.Goals as goal

pub returns-in_err-gate : goal.returns-in_err-gate
returns-in_err-gate c =
    let v = c.in_err-gate.ensures in
    answers_missing (λ l. grind (arith, common_steps, length-map)) (grind (arith, common_steps)) refl

pub returns-in_err-gate-2 : goal.returns-in_err-gate-2
returns-in_err-gate-2 c =
    let d = c.args.self.now in
    let v = c.in_err-gate-2.ensures in
    let found = rw c.in_ok-gate.ensures.ok_part at c.lend.ensures.row in
    answers_crossed (grind (arith, common_steps, length-map)) (λ l. grind (arith, common_steps)) (grind (arith, common_steps))
    (ap (λ rows. with_gates (drafted d) (map gate_of rows)) (ap (set d.gates c.args.number) found ∙ set-get_or d.gates c.args.number c.in_ok-gate.gate.now))

pub returns : goal.returns
returns c =
    let d = c.args.self.now in
    let g = c.in_ok-gate-2.field-0 in
    let made = rw c.in_ok-gate-2.ensures.ok_part at c.new.ensures in
    answers_made (grind (arith, common_steps, length-map)) made.0
    (ap (with_gates (drafted d)) (map-set gate_of d.gates c.args.number g ∙ ap (set (map gate_of d.gates) c.args.number) made.1))
