-- A turn of raising: the scan, and what follows it.
use Rattle.std.proofs.Common.{◌≡◌, ℕ, ◌+◌, ◌<◌, ◌≤◌, true, false, List, length, Some, None, Option, refl, inl, inr, arith}
use Rattle.fractions.specs.Fraction.{Fraction, NotLonger}
use Rattle.fractions.proofs.Order.{not_longer_refl}
use Rattle.checks.specs.Model.{Model, Sound}
use Rattle.checks.specs.Raises.{room}
use Rattle.checks.proofs.Raising.{Raising, Scanned, raise_falls, scan_keeps, scan_takes, scan_ends, raising_improves, worst_there, raised, done_at_floor, done_at_top}
use Rattle.period.specs.declared.period.Period.{Period}
use Rattle.period.specs.Periods.{fraction}
use Rattle.period.proofs.Lengths.{is_period}
use Rattle.engine.specs.declared.lists.Need.{Need}
use Rattle.engine.specs.declared.raising.Best.{Best}
use Rattle.engine.specs.declared.raising.Worst.{Worst}
use Rattle.engine.specs.Turns.{Needed, Risen, Worsened, Improved, Raised}

pub scan_more : {book : Model} {current : List ℕ} {place : ℕ} (before after : Worst) {need : Need} → Sound book → Scanned book current place (fraction before.period) before.end → Needed book current place need → Worsened before need after → Scanned book current (place + 1) (fraction after.period) after.end
scan_more {book} {current} {place} before after {need} sound scanned needed (inl (longer, is)) =
    rw (is, needed.at_end) (scan_takes book current place (fraction before.period) before.end needed.check (fraction need.period) sound scanned needed.stands (is_period need.period).within needed.same longer)
scan_more {book} {current} {place} before after {need} sound scanned needed (inr (long, is)) =
    rw is (scan_keeps book current place (fraction before.period) before.end needed.check (fraction need.period) scanned needed.stands (is_period need.period).within needed.same long)

-- the best period so far is no longer than that of the current list
pub record Turned (book : Model) (current : List ℕ) (best : Best) (period : Fraction) : Type 0 where
  pub raising : Raising book current best.domains (fraction best.period)
  pub no_longer : NotLonger (fraction best.period) period

pub turned : {book : Model} {current : List ℕ} {place : ℕ} {worst : Option ℕ} (before after : Best) (period : Period) → Sound book → Raising book current before.domains (fraction before.period) → Scanned book current place (fraction period) worst → length book.checks ≤ place → Improved before period current after → Turned book current after (fraction period)
turned {book} {current} {place} {worst} before after period sound raising scanned past (inl (short, is)) = rw is (record {
  raising = raising_improves book current before.domains (fraction before.period) (fraction period) sound raising scanned.within (scan_ends book current place (fraction period) worst scanned past) short;
  no_longer = not_longer_refl (fraction period);
})
turned before after period sound raising scanned past (inr (long, is)) = rw is (record { raising = raising; no_longer = long })

-- ---- the worst end, raised or not

pub end_there : {book : Model} {current chosen : List ℕ} {place : ℕ} {shortest period : Fraction} {worst : Option ℕ} → Sound book → Raising book current chosen shortest → Scanned book current place period worst → (e : ℕ) → worst ≡ Some e → e < length current
end_there {book} {current} {chosen} {place} {shortest} {period} {worst} sound raising scanned e is =
    let at_end : Scanned book current place period (Some e) = rw is at scanned in
    omega (arith, worst_there book current place period e sound at_end, sound.few_flops, raising.current_long)

pub turn_falls : {book : Model} {current chosen : List ℕ} {place : ℕ} {shortest period : Fraction} (worst : Option ℕ) (count : ℕ) (after : List ℕ) → Sound book → Raising book current chosen shortest → Scanned book current place period worst → Risen worst count current after true → room after < room current
turn_falls None count after sound raising scanned never = absurd never
turn_falls {book} {current} (Some e) count after sound raising scanned (left, after_is) =
    rw after_is (raise_falls current e (omega (arith, raising.current_long)) (λ i. omega (arith, raising.current_exist i, sound.few_domains)) (end_there sound raising scanned e refl))

pub turn_raises : {book : Model} {current : List ℕ} {place count : ℕ} {period : Fraction} (best : Best) (worst : Option ℕ) (after : List ℕ) → Sound book → Turned book current best period → Scanned book current place period worst → count ≡ book.domains → Risen worst count current after true → Raising book after best.domains (fraction best.period)
turn_raises best None after sound turn scanned count-is never = absurd never
turn_raises {book} {current} {place} {count} {period} best (Some e) after sound turn scanned count-is (left, after_is) =
    rw after_is (raised book current best.domains (fraction best.period) place period e sound turn.raising turn.no_longer scanned (omega arith))

pub turn_ends : {book : Model} {current : List ℕ} {place count : ℕ} {period : Fraction} (best : Best) (worst : Option ℕ) (after : List ℕ) → Sound book → Turned book current best period → Scanned book current place period worst → count ≡ book.domains → Risen worst count current after false → Raised book (fraction best.period) best.domains
turn_ends {book} {current} {place} {count} {period} best None after sound turn scanned count-is same = record {
  long = turn.raising.chosen_long;
  scheduled = done_at_floor book current best.domains (fraction best.period) place period sound turn.raising turn.no_longer scanned;
}
turn_ends {book} {current} {place} {count} {period} best (Some e) after sound turn scanned count-is (same, top) = record {
  long = turn.raising.chosen_long;
  scheduled = done_at_top book current best.domains (fraction best.period) place period e sound turn.raising turn.no_longer scanned (omega arith);
}
