use Rattle.std.proofs.Common.{arith}
use Rattle.checks.proofs.Raising.{raising_begins}
use Rattle.engine.proofs.Needs.{needed_within}
use Rattle.engine.proofs.Turned.{turned, scan_more, turn_falls, turn_raises, turn_ends}
use Rattle.engine.proofs.raising.raise.Goals as goal

pub raise-init : goal.raise-init
raise-init g c = rw c.longest.ensures (raising_begins _ (g.met.B.Book.sound c.args.book.now))

pub loop-place-preserved : goal.loop-place-preserved
loop-place-preserved g c = record {
  found = omega (arith, needed_within c.in-Some.ensures);
  unmoved = c.loop-place.invariant.unmoved;
  raising = c.loop-place.invariant.raising;
  scanned = scan_more c.loop-place.worst c.worsen.new.self (g.met.B.Book.sound c.args.book.now) c.loop-place.invariant.scanned c.in-Some.ensures c.worsen.ensures;
}

pub raise-smaller : goal.raise-smaller
raise-smaller g c = absurd (omega (arith, c.loop-place.invariant.found, (g.met.B.Book.sound c.args.book.now).few_checks))

pub raise-smaller-in-None : goal.raise-smaller-in-None
raise-smaller-in-None g c =
    rw (← c.loop-place.invariant.unmoved) (turn_falls c.loop-place.worst.end c.domains-count.result c.rise.new.domains (g.met.B.Book.sound c.args.book.now) c.loop-place.invariant.raising c.loop-place.invariant.scanned c.if-not-rise.ensures)

pub raise-preserved-in-None : goal.raise-preserved-in-None
raise-preserved-in-None g c =
    let sound = g.met.B.Book.sound c.args.book.now in
    let turn = turned c.loop-place.best c.improve.new.self c.loop-place.worst.period sound c.loop-place.invariant.raising c.loop-place.invariant.scanned c.in-None.ensures c.improve.ensures in
    turn_raises c.improve.new.self c.loop-place.worst.end c.rise.new.domains sound turn c.loop-place.invariant.scanned c.domains-count.ensures c.if-not-rise.ensures

pub returns : goal.returns
returns g c =
    let sound = g.met.B.Book.sound c.args.book.now in
    let turn = turned c.loop-place.best c.improve.new.self c.loop-place.worst.period sound c.loop-place.invariant.raising c.loop-place.invariant.scanned c.in-None.ensures c.improve.ensures in
    turn_ends c.improve.new.self c.loop-place.worst.end c.rise.new.domains sound turn c.loop-place.invariant.scanned c.domains-count.ensures c.if-not-rise.ensures
