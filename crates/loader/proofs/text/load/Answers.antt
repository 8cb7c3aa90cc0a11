use Rattle.std.proofs.Common.{◌≡◌, ℕ, List, Err, subst}
use Rattle.std.proofs.lemmas.Result.{err_from_is_err_and}
use Rattle.circuit.specs.Circuit.{Circuit, empty}
use Rattle.dumps.specs.Verdict.{Judged}
use Rattle.dumps.specs.Reading.{judge}
use Rattle.dumps.proofs.Judged.{judged}
use Rattle.netlist.specs.Circuits.{circuit}
use Rattle.loader.specs.declared.text.LoadError.{LoadError}
use Rattle.loader.specs.declared.text.LoadError.TheVariants.{Refused, Memory}
use Rattle.loader.specs.Load.{LoadCall, load_answer, Refusing}
use Rattle.loader.proofs.text.load.Goals as goal

refused_call : (text : List ℕ) (e : LoadError) (c : Circuit) → Refusing e text (judge text) → c ≡ empty → LoadCall text (load_answer {X = Unit {0}} (Err e)) c
refused_call text (Refused ground at) c h e = (subst (Judged text) h (judged text), e)
refused_call text Memory c h e = (h, e)

pub returns-in_err-block : goal.returns-in_err-block
returns-in_err-block c =
    let p = err_from_is_err_and c.from_residual.result c.from_residual.ensures.1 in
    rw (p.1, p.2) (refused_call c.args.text.now c.in_err-block.field-0.0 (circuit c.new.result) c.in_err-block.ensures c.new.ensures)

pub returns : goal.returns
returns c = subst (Judged c.args.text.now) c.in_ok-block.ensures (judged c.args.text.now)
