use Rattle.std.proofs.Common.{refl}
use Rattle.std.proofs.lemmas.Result.{err_from_is_err_and}
use Rattle.netlist.specs.Drafted.{drafted}
use Rattle.netlist.specs.Figures.{terminal_of}
use Rattle.loader.proofs.Grounded.{domains_refused, domains_free, end_refused, end_free, wire_refused}
use Rattle.loader.proofs.assembly.put.Goals as goal

pub returns-in_err-set_domains-in-Domains : goal.returns-in_err-set_domains-in-Domains
returns-in_err-set_domains-in-Domains c =
    let p = err_from_is_err_and c.from_residual.result c.from_residual.ensures.1 in
    let fault = c.in_err-set_domains-in-Domains.ensures in
    rw (p.1, p.2, fault.0, c.in-Domains.is, ← c.deref.ensures.value) (domains_refused (drafted c.args.draft.now) _ _ fault.1)

pub returns-in_err-add_wire-in-Wire : goal.returns-in_err-add_wire-in-Wire
returns-in_err-add_wire-in-Wire c =
    let p = err_from_is_err_and c.from_residual-in_err-add_wire-in-Wire.result c.from_residual-in_err-add_wire-in-Wire.ensures.1 in
    rw (p.1, p.2, c.in-Wire.is) (wire_refused (drafted c.args.draft.now) (terminal_of c.in-Wire.start) (terminal_of c.in-Wire.end) c.in-Wire.delay _ c.in_err-add_wire-in-Wire.ensures.0)

pub returns-in_err-close-in-End : goal.returns-in_err-close-in-End
returns-in_err-close-in-End c =
    let p = err_from_is_err_and c.from_residual-in_err-close-in-End.result c.from_residual-in_err-close-in-End.ensures.1 in
    let fault = c.in_err-close-in-End.ensures in
    rw (p.1, p.2, fault.0, c.in-End.is) (end_refused (drafted c.args.draft.now) fault.1)

pub returns-in_ok-set_domains-in-Domains : goal.returns-in_ok-set_domains-in-Domains
returns-in_ok-set_domains-in-Domains c =
    let made = c.in_ok-set_domains-in-Domains.ensures in
    rw (c.in-Domains.is, ← c.deref.ensures.value) (domains_free (drafted c.args.draft.now) _ _ made.0, made.1)

pub returns-in_ok-close-in-End : goal.returns-in_ok-close-in-End
returns-in_ok-close-in-End c = rw c.in-End.is (end_free (drafted c.args.draft.now) c.in_ok-close-in-End.ensures, refl)
