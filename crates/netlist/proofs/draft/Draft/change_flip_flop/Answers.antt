use Rattle.std.proofs.Common.{◌≡◌, map, set, refl, ap, ◌∙◌, arith, rules}
use Rattle.std.proofs.lemmas.Grind.{common_steps}
use Rattle.std.proofs.lemmas.List.{length-map, map-set}
use Rattle.circuit.specs.Circuit.{with_flops}
use Rattle.netlist.specs.Figures.{flop_of}
use Rattle.netlist.specs.Drafted.{drafted}
use Rattle.netlist.proofs.Answered.{answers_missing, answers_made}
use Rattle.netlist.proofs.draft.Draft.change_flip_flop.Goals as goal

pub returns-in_err-flop : goal.returns-in_err-flop
returns-in_err-flop c =
    let v = c.in_err-flop.ensures in
    answers_missing (λ l. grind (arith, common_steps, length-map)) (grind (arith, common_steps)) refl

pub returns : goal.returns
returns c =
    let d = c.args.self.now in
    let figures : flop_of c.new.result ≡ record { setup = c.args.setup; hold = c.args.hold } = search rules in
    answers_made (grind (arith, common_steps, length-map)) tt
    (ap (with_flops (drafted d)) (map-set flop_of d.flops c.args.number c.new.result ∙ ap (set (map flop_of d.flops) c.args.number) figures))
