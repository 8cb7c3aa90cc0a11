use Rattle.std.proofs.Common.{◌<◌, map, length, set, sym, refl, ap, ◌∙◌, arith}
use Rattle.std.proofs.lemmas.Grind.{common_steps}
use Rattle.std.proofs.lemmas.List.{length-map, map-set, get_or-map}
use Rattle.circuit.specs.Limits.{most_wires}
use Rattle.circuit.specs.Circuit.{with_wires}
use Rattle.circuit.specs.Sound.{runs}
use Rattle.netlist.specs.Figures.{wire_of}
use Rattle.netlist.specs.Drafted.{drafted}
use Rattle.netlist.proofs.Answered.{answers_missing, answers_made}
use Rattle.netlist.proofs.Wired.{few_set, wired_set}
use Rattle.netlist.proofs.Delayed.{delayed_set}
use Rattle.netlist.proofs.draft.Draft.change_wire.Goals as goal

pub returns-in_err-wire : goal.returns-in_err-wire
returns-in_err-wire c =
    let v = c.in_err-wire.ensures in
    answers_missing (λ l. grind (arith, common_steps, length-map)) (grind (arith, common_steps)) refl

pub invariant_of-self-2 : goal.invariant_of-self-2
invariant_of-self-2 c =
    let d = c.args.self.now in
    let n = c.args.number in
    let flops = length (drafted d).flops in
    let gates = length (drafted d).gates in
    let within : n < length d.wires = c.lend.ensures.there.0 (sym c.in_ok-wire.ensures.variant) in
    let found = rw c.in_ok-wire.ensures.ok_part at c.lend.ensures.row in
    record {
      few_flops = d.few_flops;
      few_gates = d.few_gates;
      few_wires = few_set wire_of d.wires n c.set_delay.new.self most_wires d.few_wires;
      wired = wired_set flops gates n d.wires c.in_ok-wire.wire.now c.set_delay.new.self within found (ap (runs flops gates) c.set_delay.ensures) d.wired;
    }

pub returns : goal.returns
returns c =
    let d = c.args.self.now in
    let n = c.args.number in
    let old = c.in_ok-wire.wire.now in
    let within : n < length d.wires = c.lend.ensures.there.0 (sym c.in_ok-wire.ensures.variant) in
    let found = rw c.in_ok-wire.ensures.ok_part at c.lend.ensures.row in
    answers_made (omega (arith, length-map d.wires wire_of)) tt
    (ap (with_wires (drafted d)) (map-set wire_of d.wires n c.set_delay.new.self
    ∙ (ap (set (map wire_of d.wires) n) c.set_delay.ensures
    ∙ delayed_set (map wire_of d.wires) n c.args.delay (wire_of old) (ap wire_of found ∙ sym (get_or-map wire_of d.wires n old (wire_of old) within)))))
