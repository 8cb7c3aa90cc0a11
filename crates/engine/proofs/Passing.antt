-- A pass of settling, check by check.
use Rattle.std.proofs.Common.{◌≡◌, ℕ, ◌+◌, ◌<◌, ◌≤◌, true, false, Bool, List, length, Ok, inl, inr, arith}
use Rattle.std.proofs.lemmas.Option.{slice_get_past}
use Rattle.std.proofs.lemmas.Bool.{cases_lt}
use Rattle.fractions.specs.Fraction.{Fraction, NotLonger, Shorter}
use Rattle.fractions.proofs.Order.{not_longer_left}
use Rattle.checks.specs.Model.{Check, Model, Stands, Sound}
use Rattle.checks.specs.Scheduling.{Unmeetable, need_under}
use Rattle.checks.specs.Raises.{room, Settling}
use Rattle.checks.proofs.Raising.{raise_falls, needs_more}
use Rattle.checks.proofs.Settling.{settling_raises, settling_stuck}
use Rattle.period.specs.Periods.{fraction}
use Rattle.period.proofs.Lengths.{is_period}
use Rattle.engine.specs.declared.lists.Need.{Need}
use Rattle.engine.specs.Turns.{Needed, Stepped}
use Rattle.engine.specs.Passes.{Passed}

-- what the checks before a place did: none was above the period, or some ends are higher
abbrev pub Done : Model → Fraction → List ℕ → List ℕ → ℕ → Bool → Type 0
Done book period before after place false = (after ≡ before) × ((k : ℕ) (c : Check) → k < place → Stands book k c → NotLonger (need_under before c) period)
Done book period before after place true = room after < room before

pub record Passing (book : Model) (period : Fraction) (before after : List ℕ) (place : ℕ) (found : Bool) : Type 0 where
  pub settling : Settling book period after
  pub done : Done book period before after place found

-- ---- a check that is not above the period

done_more : {book : Model} (period : Fraction) (before : List ℕ) {after : List ℕ} {place : ℕ} {need : Need} (found : Bool) → Needed book after place need → NotLonger (fraction need.period) period → Done book period before after place found → Done book period before after (place + 1) found
done_more {book} period before {after} {place} {need} false needed long (unmoved, needs) =
    let here : NotLonger (need_under after needed.check) period = not_longer_left (fraction need.period) (need_under after needed.check) period (is_period need.period).within.parted needed.same long in
    (unmoved, needs_more book before place period needed.check needs needed.stands (rw unmoved at here))
done_more period before true needed long fell = fell

pub pass_keeps : {book : Model} {period : Fraction} {before after later : List ℕ} {place : ℕ} {need : Need} {found next : Bool} → Passing book period before after place found → Needed book after place need → NotLonger (fraction need.period) period → later ≡ after → next ≡ found → Passing book period before later (place + 1) next
pass_keeps {period} {before} {found} passing needed long later-is next-is =
    rw (later-is, next-is) (record { settling = passing.settling; done = done_more period before found needed long passing.done })

-- ---- a check above it

fell_more : (book : Model) (period : Fraction) (before after : List ℕ) (place r : ℕ) (found : Bool) → Done book period before after place found → r < room after → r < room before
fell_more book period before after place r false (same, needs) h = rw same at h
fell_more book period before after place r true fell h = omega arith

pub end_listed : {book : Model} {period : Fraction} {domains : List ℕ} {place : ℕ} {need : Need} → Sound book → Settling book period domains → Needed book domains place need → need.end < length domains
end_listed {place} sound settling needed = omega (arith, needed.at_end, (sound.each place needed.check needed.stands).end_there, settling.one_each)

pub pass_raises : {book : Model} {period : Fraction} {before after later : List ℕ} {place count : ℕ} {need : Need} {found next : Bool} → Sound book → 0 < period.den → Passing book period before after place found → Needed book after place need → Shorter period (fraction need.period) → count ≡ book.domains → Stepped need.end count after later true → next ≡ true → Passing book period before later (place + 1) next
pass_raises {book} {period} {before} {after} {later} {place} {count} {need} {found} sound pos passing needed short count-is (left, later-is) next-is =
    let fell = raise_falls after need.end (omega (arith, sound.few_flops, passing.settling.one_each)) (λ i. omega (arith, passing.settling.exist i, sound.few_domains)) (end_listed sound passing.settling needed) in
    rw (later-is, next-is) (record {
      settling = rw needed.at_end (settling_raises book period after place needed.check (fraction need.period) sound pos passing.settling needed.stands (is_period need.period).within needed.same short (rw (← needed.at_end) (omega arith)));
      done = fell_more book period before after place _ found passing.done fell;
    })

pub pass_stuck : {book : Model} {period : Fraction} {domains : List ℕ} {place count : ℕ} {need : Need} (after : List ℕ) → Sound book → 0 < period.den → Settling book period domains → Needed book domains place need → Shorter period (fraction need.period) → count ≡ book.domains → Stepped need.end count domains after false → Unmeetable book period
pass_stuck {book} {period} {domains} {place} {count} {need} after sound pos settling needed short count-is (unmoved, top) =
    settling_stuck book period domains place needed.check (fraction need.period) sound pos settling needed.stands (is_period need.period).within needed.same short (rw (← needed.at_end) (omega arith))

-- ---- the end of the pass

pub pass_ends : {book : Model} {period : Fraction} {before after : List ℕ} {place : ℕ} (found : Bool) → length book.checks ≤ place → Passing book period before after place found → Passed book period before after (Ok found)
pass_ends {book} {period} {before} {after} {place} false past passing = (passing.done.0, each)
  where
    each : (k : ℕ) (c : Check) → Stands book k c → NotLonger (need_under before c) period
    each k c stands = elim (cases_lt k place) [
      | inl below ↦ passing.done.1 k c below stands
      | inr beyond ↦ absurd (let none = slice_get_past book.checks k (omega arith) in let z : ◌≡◌ {A = ℕ} 0 1 = cc in omega arith)
    ]
pass_ends true past passing = (passing.settling, passing.done)
