use Rattle.std.proofs.Common.{false, not, refl, sym, ap, ◌∙◌, rules}
use Rattle.std.proofs.lemmas.Bool.{false≢true}
use Rattle.std.proofs.lemmas.List.{get_or-replicate}
use Rattle.circuit.specs.Limits.{most_gates}
use Rattle.circuit.specs.Sound.{enters, leaves}
use Rattle.netlist.proofs.Marked.{marks_tell}
use Rattle.netlist.proofs.draft.Draft.is_joined_up.Goals as goal

pub loop-wire-init : goal.loop-wire-init
loop-wire-init c = (refl, refl, λ g l. get_or-replicate most_gates g false false l, λ g l. get_or-replicate most_gates g false false l)

pub returns-then-not-contains : goal.returns-then-not-contains
returns-then-not-contains c =
    let d = c.args.self.now in
    let l = c.loop-wire in
    let inv = l.invariant in
    let rows = c.as_slice-gates in
    let fed = marks_tell enters l.fed d.wires l.wire-index d.gates rows.result.now c.contains.result inv.0 inv.2 (search rules) rows.ensures.rows rows.ensures.few c.contains.ensures.cases in
    let drained = marks_tell leaves l.drained d.wires l.wire-index d.gates rows.result.now c.contains-then-not-contains.result inv.1 inv.3 (search rules) rows.ensures.rows rows.ensures.few c.contains-then-not-contains.ensures.cases in
    (λ t. (fed.0 (ap not c.if-not-contains.true), drained.0 t), λ p. drained.1 p.1)

pub returns-else-not-contains : goal.returns-else-not-contains
returns-else-not-contains c =
    let d = c.args.self.now in
    let l = c.loop-wire in
    let rows = c.as_slice-gates in
    let fed = marks_tell enters l.fed d.wires l.wire-index d.gates rows.result.now c.contains.result l.invariant.0 l.invariant.2 (search rules) rows.ensures.rows rows.ensures.few c.contains.ensures.cases in
    (λ t. absurd (false≢true (sym (ap not c.if-not-contains.false) ∙ t)), λ p. fed.1 p.0)
