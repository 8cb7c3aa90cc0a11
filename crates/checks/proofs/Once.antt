-- A call has one answer, and books with the same checks have the same answers.
use Rattle.std.proofs.Common.{◌≡◌, ℕ, ◌<◌, List, length, get_or, sym, refl, ap, ◌∙◌, le_antisymm, arith}
use Rattle.std.proofs.lemmas.List.{ext_get_or}
use Rattle.fractions.specs.Fraction.{Fraction, NotLonger, AsLong, IsPeriod}
use Rattle.fractions.proofs.Order.{not_longer_left, not_longer_antisym, as_long_sym, as_long_trans}
use Rattle.fractions.proofs.Lowest.{lowest_once}
use Rattle.checks.specs.Model.{Check, Model, Stands, Sound, Alike, SameChecks}
use Rattle.checks.specs.Scheduling.{Assignment, Meets, Scheduled, Settled, Unmeetable, NoHigher, need_under}
use Rattle.checks.specs.Calls.{Answer, answered, refused, ScheduleCall, SettleCall, scheduled, settled, another_length, not_a_period, none_meets, Writes}
use Rattle.checks.specs.Laws.{OneSchedule, OneSettlement, SchedulesAgree, SettlementsAgree}
use Rattle.checks.proofs.Assigned.{Exist, exist_all, need_within, zeros_of}

-- ---- what meets a period of one book meets it of the other

-- each assignment that meets a period of one book is one of the other and meets it there
abbrev MeetsToo : Model → Model → Type 0
MeetsToo book other = (domains : List ℕ) (period : Fraction) → Assignment book domains → Meets book domains period → Assignment other domains × Meets other domains period

meets_itself : (book : Model) → MeetsToo book book
meets_itself book domains period assigned met = (assigned, met)

same_back : (book other : Model) → SameChecks book other → SameChecks other book
same_back book other same = record {
  flops = sym same.flops;
  domains = sym same.domains;
  floor = as_long_sym book.floor other.floor same.floor;
  there = same.back;
  back = same.there;
}

meets_too : (book other : Model) → Sound book → SameChecks book other → MeetsToo book other
meets_too book other sound same domains period assigned met = (assigned_too, met_too)
  where
    assigned_too : Assignment other domains
    assigned_too = record {
      one_each = assigned.one_each ∙ same.flops;
      exist = λ flop there. omega (arith, same.domains, assigned.exist flop (omega (arith, same.flops)));
    }

    exist : Exist book domains
    exist = exist_all book domains sound assigned

    like : (d : Check) → (at : ℕ) × (c : Check) × Stands book at c × Alike other.domains d c → NotLonger (need_under domains d) period
    like d (at, c, there, alike) =
        let fits : (i : ℕ) → get_or domains i 0 < other.domains = λ i. omega (arith, same.domains, exist i) in
        let equal : AsLong (need_under domains d) (need_under domains c) =
        rw (need_under, ← alike.start, ← alike.end) (alike.needs _ _ (fits d.start) (fits d.end)) in
        not_longer_left (need_under domains c) (need_under domains d) period (need_within book domains at c sound exist there).parted
        (as_long_sym (need_under domains d) (need_under domains c) equal) (met.needs at c there)

    met_too : Meets other domains period
    met_too = record {
      floor = not_longer_left book.floor other.floor period sound.floor_within.parted same.floor met.floor;
      needs = λ place d stands. like d (same.back place d stands);
    }

-- ---- two answers are one

lists_same : (xs ys : List ℕ) → length xs ≡ length ys → NoHigher xs ys → NoHigher ys xs → xs ≡ ys
lists_same xs ys long low high = ext_get_or 0 xs ys long (λ i there. le_antisymm (low i) (high i))

scheduled_same : (book other : Model) → MeetsToo book other → MeetsToo other book → (p q : Fraction) (xs ys : List ℕ) → IsPeriod p → IsPeriod q → Scheduled book xs p → Scheduled other ys q → (p ≡ q) × (xs ≡ ys)
scheduled_same book other there back p q xs ys is-p is-q s t =
    let xs-there = there xs p s.assigned s.its_period.met in
    let ys-here = back ys q t.assigned t.its_period.met in
    let one : p ≡ q = lowest_once p q is-p is-q (not_longer_antisym p q (s.shortest ys q ys-here.0 ys-here.1) (t.shortest xs p xs-there.0 xs-there.1)) in
    (one, lists_same xs ys (s.assigned.one_each ∙ sym ys-here.0.one_each) (s.lowest ys ys-here.0 (rw one ys-here.1)) (t.lowest xs xs-there.0 (rw (← one) xs-there.1)))

settled_same : (book other : Model) → MeetsToo book other → MeetsToo other book → (named : Fraction) (xs ys : List ℕ) → Settled book named xs → Settled other named ys → xs ≡ ys
settled_same book other there back named xs ys s t =
    let xs-there = there xs named s.assigned s.met in
    let ys-here = back ys named t.assigned t.met in
    lists_same xs ys (s.assigned.one_each ∙ sym ys-here.0.one_each) (s.lowest ys ys-here.0 ys-here.1) (t.lowest xs xs-there.0 xs-there.1)

never_settled : (book other : Model) → MeetsToo other book → (named : Fraction) (ys : List ℕ) → Unmeetable book named → Settled other named ys → ⊥
never_settled book other back named ys never t = let ys-here = back ys named t.assigned t.met in never ys ys-here.0 ys-here.1

-- ---- two calls are one

-- the same answer, and the same list where the lists before were one or the answer was written
abbrev OneCall : (answer second : Answer) (list more after later : List ℕ) → Type 0
OneCall answer second list more after later = (answer ≡ second) × (list ≡ more → after ≡ later) × (Writes answer → after ≡ later)

written : (answer second : Answer) (list more after later : List ℕ) → answer ≡ second → after ≡ later → OneCall answer second list more after later
written answer second list more after later e f = (e, (λ _. f), λ _. f)

schedules : (book other : Model) → book.flops ≡ other.flops → MeetsToo book other → MeetsToo other book → (list more : List ℕ) (answer second : Answer) (after later : List ℕ) → length list ≡ length more → ScheduleCall book list answer after → ScheduleCall other more second later → OneCall answer second list more after later
schedules book other flops there back list more answer second after later long (scheduled p xs fits is-p s) (scheduled q ys fits' is-q t) =
    let one = scheduled_same book other there back p q xs ys is-p is-q s t in
    written (answered p) (answered q) list more xs ys (ap answered one.0) one.1
schedules book other flops there back list more answer second after later long (scheduled p xs fits is-p s) (another_length unfit) = absurd (unfit (sym long ∙ fits ∙ flops))
schedules book other flops there back list more answer second after later long (another_length unfit) (scheduled q ys fits is-q t) = absurd (unfit (long ∙ fits ∙ sym flops))
schedules book other flops there back list more answer second after later long (another_length unfit) (another_length unfit') = (refl, (λ e. e), λ never. absurd (omega arith))

pub one_schedule_lem : OneSchedule
one_schedule_lem book list answer second after later one two =
    let same = schedules book book refl (meets_itself book) (meets_itself book) list list answer second after later refl one two in
    (same.0, same.1 refl)

pub schedules_agree : (book other : Model) → Sound book → Sound other → SameChecks book other → SchedulesAgree book other
schedules_agree book other sound sound' same list more answer second after later long one two =
    let agreed = schedules book other same.flops (meets_too book other sound same) (meets_too other book sound' (same_back book other same)) list more answer second after later long one two in
    record { same_answer = agreed.0; same_list = agreed.2 }

settlements : (book other : Model) → book.flops ≡ other.flops → MeetsToo book other → MeetsToo other book → (named : Fraction) (list more : List ℕ) (answer second : Answer) (after later : List ℕ) → length list ≡ length more → SettleCall book named list answer after → SettleCall other named more second later → OneCall answer second list more after later
settlements book other flops there back named list more answer second after later long (settled p xs w fits is-p e s) (settled q ys w' fits' is-q e' t) =
    let one = lowest_once p q is-p is-q (as_long_trans p named q w.parted e (as_long_sym q named e')) in
    written (answered p) (answered q) list more xs ys (ap answered one) (settled_same book other there back named xs ys s t)
settlements book other flops there back named list more answer second after later long (settled p xs w fits is-p e s) (not_a_period never') = absurd (never' w)
settlements book other flops there back named list more answer second after later long (settled p xs w fits is-p e s) (another_length w' unfit') = absurd (unfit' (sym long ∙ fits ∙ flops))
settlements book other flops there back named list more answer second after later long (settled p xs w fits is-p e s) (none_meets w' fits' none') = absurd (never_settled other book there named xs none' s)
settlements book other flops there back named list more answer second after later long (not_a_period never) (settled q ys w' fits' is-q e' t) = absurd (never w')
settlements book other flops there back named list more answer second after later long (not_a_period never) (not_a_period never') = (refl, (λ e. e), λ other-number. absurd (omega arith))
settlements book other flops there back named list more answer second after later long (not_a_period never) (another_length w' unfit') = absurd (never w')
settlements book other flops there back named list more answer second after later long (not_a_period never) (none_meets w' fits' none') = absurd (never w')
settlements book other flops there back named list more answer second after later long (another_length w unfit) (settled q ys w' fits' is-q e' t) = absurd (unfit (long ∙ fits' ∙ sym flops))
settlements book other flops there back named list more answer second after later long (another_length w unfit) (not_a_period never') = absurd (never' w)
settlements book other flops there back named list more answer second after later long (another_length w unfit) (another_length w' unfit') = (refl, (λ e. e), λ other-number. absurd (omega arith))
settlements book other flops there back named list more answer second after later long (another_length w unfit) (none_meets w' fits' none') = absurd (unfit (long ∙ fits' ∙ sym flops))
settlements book other flops there back named list more answer second after later long (none_meets w fits none) (settled q ys w' fits' is-q e' t) = absurd (never_settled book other back named ys none t)
settlements book other flops there back named list more answer second after later long (none_meets w fits none) (not_a_period never') = absurd (never' w)
settlements book other flops there back named list more answer second after later long (none_meets w fits none) (another_length w' unfit') = absurd (unfit' (sym long ∙ fits ∙ flops))
settlements book other flops there back named list more answer second after later long (none_meets w fits none) (none_meets w' fits' none') = written (refused 13) (refused 13) list more (zeros_of book.flops) (zeros_of other.flops) refl (ap zeros_of flops)

pub one_settlement_lem : OneSettlement
one_settlement_lem book named list answer second after later one two =
    let same = settlements book book refl (meets_itself book) (meets_itself book) named list list answer second after later refl one two in
    (same.0, same.1 refl)

pub settlements_agree : (book other : Model) → Sound book → Sound other → SameChecks book other → SettlementsAgree book other
settlements_agree book other sound sound' same named list more answer second after later long one two =
    let agreed = settlements book other same.flops (meets_too book other sound same) (meets_too other book sound' (same_back book other same)) named list more answer second after later long one two in
    record { same_answer = agreed.0; same_list = agreed.2 }
