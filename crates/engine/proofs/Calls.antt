-- A call of scheduling or settling, from what the engine found.
use Rattle.std.proofs.Common.{◌≡◌, ℕ, List, length, take, replicate, ◌∙◌, arith}
use Rattle.fractions.specs.Fraction.{Fraction, NotLonger, Shorter, AsLong, Within}
use Rattle.fractions.proofs.Order.{not_longer_left}
use Rattle.checks.specs.Model.{Check, Model, Stands, Sound}
use Rattle.checks.specs.Scheduling.{Settled, Unmeetable, need_under}
use Rattle.checks.specs.Calls.{answered, refused, ScheduleCall, SettleCall, scheduled, settled, another_length, none_meets}
use Rattle.checks.specs.Raises.{Settling}
use Rattle.checks.proofs.Settling.{settling_begins, settling_floor, settled_done, settled_named, unmeetable_named}
use Rattle.period.specs.declared.period.Period.{Period}
use Rattle.period.specs.Periods.{fraction}
use Rattle.period.proofs.Lengths.{is_period}
use Rattle.engine.specs.Turns.{Raised}

pub schedule_found : {book : Model} {before after chosen : List ℕ} {flops : ℕ} (period : Period) → flops ≡ book.flops → length before ≡ flops → Raised book (fraction period) chosen → after ≡ take flops chosen → ScheduleCall book before (answered (fraction period)) after
schedule_found {book} {before} {after} {chosen} {flops} period flops-is fits raised after_is =
    rw (after_is, flops-is) (scheduled (fraction period) (take book.flops chosen) (fits ∙ flops-is) (is_period period) raised.scheduled)

pub schedule_unfit : {book : Model} {before : List ℕ} {flops : ℕ} → flops ≡ book.flops → (length before ≡ flops → ⊥) → ScheduleCall book before (refused 14) before
schedule_unfit flops-is unfit = another_length (λ e. unfit (omega arith))

-- ---- settling

-- a period that two numbers name, for a list of the right length
pub record Fit (book : Model) (named : Fraction) (before : List ℕ) (period : Period) : Type 0 where
  pub within : Within named
  pub same : AsLong (fraction period) named
  pub long : length before ≡ book.flops

pub fit : {book : Model} {named : Fraction} {before : List ℕ} {flops : ℕ} (period : Period) → Within named × AsLong (fraction period) named → flops ≡ book.flops → length before ≡ flops → Fit book named before period
fit period (within, same) flops-is long = record { within = within; same = same; long = long ∙ flops-is }

pub settle_unfit : {book : Model} {named : Fraction} {before : List ℕ} {flops : ℕ} (period : Period) → Within named × AsLong (fraction period) named → flops ≡ book.flops → (length before ≡ flops → ⊥) → SettleCall book named before (refused 14) before
settle_unfit period (within, same) flops-is unfit = another_length within (λ e. unfit (omega arith))

pub settle_begins : {book : Model} {named : Fraction} {before zeros : List ℕ} {period : Period} → Sound book → Fit book named before period → zeros ≡ replicate (length before) 0 → Settling book (fraction period) zeros
settle_begins {book} {named} {before} {zeros} {period} sound fits zeros-is = rw (zeros-is, fits.long) (settling_begins book (fraction period) sound)

pub settle_never : {book : Model} {named : Fraction} {before zeros : List ℕ} {period : Period} (list : List ℕ) → Fit book named before period → Unmeetable book (fraction period) → length list ≡ length before → zeros ≡ replicate (length list) 0 → SettleCall book named before (refused 13) zeros
settle_never {book} {named} {before} {zeros} {period} list fits none long zeros-is =
    rw (zeros-is, long, fits.long) (none_meets fits.within fits.long (unmeetable_named book (fraction period) named (is_period period).within fits.within fits.same none))

pub floor_above : {book : Model} (period floor : Period) → Sound book → AsLong (fraction floor) book.floor → Shorter (fraction period) (fraction floor) → Unmeetable book (fraction period)
floor_above {book} period floor sound same short =
    settling_floor book (fraction period) (fraction floor) sound period.parted (is_period floor).within same short

pub settle_met : {book : Model} (period floor : Period) {list : List ℕ} → AsLong (fraction floor) book.floor → NotLonger (fraction floor) (fraction period) → Settling book (fraction period) list → ((k : ℕ) (c : Check) → Stands book k c → NotLonger (need_under list c) (fraction period)) → Settled book (fraction period) list
settle_met {book} period floor {list} same long settling needs =
    settled_done book (fraction period) list settling (record { floor = not_longer_left (fraction floor) book.floor (fraction period) floor.parted same long; needs = needs })

pub settle_answers : {book : Model} {named : Fraction} {before list : List ℕ} {period : Period} → Fit book named before period → Settled book (fraction period) list → SettleCall book named before (answered (fraction period)) list
settle_answers {book} {named} {before} {list} {period} fits done =
    settled (fraction period) list fits.within fits.long (is_period period) fits.same (settled_named book (fraction period) named list (is_period period).within fits.within fits.same done)
