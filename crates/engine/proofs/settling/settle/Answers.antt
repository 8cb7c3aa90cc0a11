use Rattle.std.proofs.Common.{◌≡◌, length, replicate, rules}
use Rattle.std.proofs.lemmas.Result.{err_from_is_err_and}
use Rattle.checks.specs.Calls.{not_a_period}
use Rattle.engine.proofs.Calls.{fit, settle_unfit, settle_begins, settle_never, settle_answers}
use Rattle.engine.proofs.settling.settle.Goals as goal

pub returns-in_err-period : goal.returns-in_err-period
returns-in_err-period g c =
    let p = err_from_is_err_and c.from_residual.result c.from_residual.ensures.1 in
    rw (p.1, p.2) (not_a_period c.in_err-period.ensures)

pub returns-then-domains-flops : goal.returns-then-domains-flops
returns-then-domains-flops g c = settle_unfit c.in_ok-period.period c.in_ok-period.ensures c.flops.ensures c.if-domains-flops.true

pub meet-requires : goal.meet-requires
meet-requires g c =
    let zeros : c.fill.new.self ≡ replicate (length c.args.domains.now) 0 = search rules in
    settle_begins (g.met.B.Book.sound c.args.book.now) (fit c.in_ok-period.period c.in_ok-period.ensures c.flops.ensures c.if-domains-flops.false) zeros

pub returns-in-Ok : goal.returns-in-Ok
returns-in-Ok g c = settle_answers (fit c.in_ok-period.period c.in_ok-period.ensures c.flops.ensures c.if-domains-flops.false) c.in-Ok.ensures

pub returns-in-Err : goal.returns-in-Err
returns-in-Err g c =
    let zeros : c.fill-in-Err.new.self ≡ replicate (length c.meet.new.domains) 0 = search rules in
    let long : length c.meet.new.domains ≡ length c.args.domains.now = search rules in
    rw c.in-Err.ensures.0 (settle_never c.meet.new.domains (fit c.in_ok-period.period c.in_ok-period.ensures c.flops.ensures c.if-domains-flops.false) c.in-Err.ensures.1 long zeros)
