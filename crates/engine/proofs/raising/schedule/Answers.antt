use Rattle.std.proofs.Common.{◌≡◌, take, rules}
use Rattle.engine.proofs.Calls.{schedule_found, schedule_unfit}
use Rattle.engine.proofs.raising.schedule.Goals as goal

pub returns-then-domains-flops : goal.returns-then-domains-flops
returns-then-domains-flops g c = schedule_unfit c.flops-flops.ensures c.if-domains-flops.true

pub returns : goal.returns
returns g c =
    let cut : c.copy_from_slice.new.self ≡ take c.flops-flops.result c.raise-best.result.domains = search rules in
    schedule_found c.raise-best.result.period c.flops-flops.ensures c.if-domains-flops.false c.raise-best.ensures cut
