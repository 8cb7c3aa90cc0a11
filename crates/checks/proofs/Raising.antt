-- Scheduling as a loop over plain values: from all zeros the end of a worst check is raised, and the shortest period so far is kept.
use Rattle.std.proofs.Common.{◌≡◌, ℕ, ◌+◌, ◌-◌, ◌<◌, ◌≤◌, List, length, get_or, take, set, Some, None, Option, sym, refl, ◌∙◌, inl, inr, mul-le-mul_left, arith}
use Rattle.std.proofs.lemmas.List.{length-set, length-replicate, length-take-le}
use Rattle.std.proofs.ByRecursion.{All-from_get_or, sum_by_le}
use Rattle.std.proofs.lemmas.Option.{slice_get_past}
use Rattle.std.proofs.lemmas.List.Sums.{sum_by-set}
use Rattle.std.proofs.lemmas.Bool.{cases_lt}
use Rattle.fractions.specs.Limits.{most_num}
use Rattle.fractions.specs.Fraction.{Fraction, whole, NotLonger, Shorter, AsLong, Within}
use Rattle.fractions.proofs.Order.{not_longer_trans, not_longer_left, not_longer_antisym, shorter_or_not, shorter_not, shorter_is_not_longer, shorter_not_longer_trans, as_long_sym, as_long_not_longer}
use Rattle.checks.specs.Limits.{most_flops, most_domains}
use Rattle.checks.specs.Model.{Check, Model, Stands, Sound}
use Rattle.checks.specs.Scheduling.{Assignment, Meets, Reached, Scheduled, NoHigher, need_under}
use Rattle.checks.specs.Raises.{room}
use Rattle.checks.proofs.Assigned.{exist_all, zeros_of, zero_each, zero_exist, zero_low, raised_each, take_idle, meets_same, need_within, higher_end}
use Rattle.checks.proofs.Periods.{one_period_each_lem, reached_least, reached_same}

abbrev pub zeros : List ℕ
zeros = zeros_of most_flops

abbrev pub longest : Fraction
longest = whole most_num

-- the two lists are one domain for each of most_flops numbers, with 0 past the flip-flops; `current` is no higher than what meets a period
-- shorter than the shortest so far, and `chosen` meets that one and is no higher than what meets it
pub record Raising (book : Model) (current chosen : List ℕ) (shortest : Fraction) : Type 0 where
  pub within : Within shortest
  pub current_long : length current ≡ most_flops
  pub chosen_long : length chosen ≡ most_flops
  pub current_exist : (i : ℕ) → get_or current i 0 < book.domains
  pub chosen_exist : (i : ℕ) → get_or chosen i 0 < book.domains
  pub current_idle : (i : ℕ) → book.flops ≤ i → get_or current i 0 ≡ 0
  pub chosen_idle : (i : ℕ) → book.flops ≤ i → get_or chosen i 0 ≡ 0
  pub chosen_meets : Meets book chosen shortest
  pub current_low : (others : List ℕ) (q : Fraction) → Assignment book others → Meets book others q → Shorter q shortest → NoHigher current others
  pub chosen_low : (others : List ℕ) → Assignment book others → Meets book others shortest → NoHigher chosen others

-- the period is that of the floor, or of a need at this end
abbrev pub Worst : Model → List ℕ → Fraction → Option ℕ → Type 0
Worst book current period None = AsLong period book.floor
Worst book current period (Some e) = (place : ℕ) × (c : Check) × Stands book place c × (c.end ≡ e) × AsLong period (need_under current c)

-- the period is the largest of the floor and the needs before a place
pub record Scanned (book : Model) (current : List ℕ) (place : ℕ) (period : Fraction) (worst : Option ℕ) : Type 0 where
  pub within : Within period
  pub floor : NotLonger book.floor period
  pub needs : (k : ℕ) (c : Check) → k < place → Stands book k c → NotLonger (need_under current c) period
  pub worst_end : Worst book current period worst

-- ---- the outer loop begins

within_longest : (p : Fraction) → Within p → NotLonger p longest
within_longest p fits = omega (arith, fits.few_units, mul-le-mul_left most_num fits.parted)

pub raising_begins : (book : Model) → Sound book → Raising book zeros zeros longest
raising_begins book sound = record {
  within = record { few_units = omega arith; parted = omega arith; coarse = omega arith };
  current_long = length-replicate {A = ℕ} most_flops 0;
  chosen_long = length-replicate {A = ℕ} most_flops 0;
  current_exist = zero_exist book most_flops sound;
  chosen_exist = zero_exist book most_flops sound;
  current_idle = λ i past. zero_each most_flops i;
  chosen_idle = λ i past. zero_each most_flops i;
  chosen_meets = record {
    floor = within_longest book.floor sound.floor_within;
    needs = λ place c stands. within_longest (need_under zeros c) (need_within book zeros place c sound (zero_exist book most_flops sound) stands);
  };
  current_low = λ others q assigned met short. zero_low most_flops others;
  chosen_low = λ others assigned met. zero_low most_flops others;
}

-- ---- the scan

-- the needs before a place and the need at it
pub needs_more : (book : Model) (current : List ℕ) (place : ℕ) (period : Fraction) (c : Check) → ((k : ℕ) (d : Check) → k < place → Stands book k d → NotLonger (need_under current d) period) → Stands book place c → NotLonger (need_under current c) period → (k : ℕ) (d : Check) → k < place + 1 → Stands book k d → NotLonger (need_under current d) period
needs_more book current place period c before stands here k d below there = elim (cases_lt k place) [
  | inl earlier ↦ before k d earlier there
  | inr later ↦
      let same : k ≡ place = omega arith in
      let one : c ≡ d = cc in
      rw (← one) here
]

pub scan_keeps : (book : Model) (current : List ℕ) (place : ℕ) (period : Fraction) (worst : Option ℕ) (c : Check) (need : Fraction) → Scanned book current place period worst → Stands book place c → Within need → AsLong need (need_under current c) → NotLonger need period → Scanned book current (place + 1) period worst
scan_keeps book current place period worst c need scanned stands fits same long = record {
  within = scanned.within;
  floor = scanned.floor;
  needs = needs_more book current place period c scanned.needs stands (not_longer_left need (need_under current c) period fits.parted same long);
  worst_end = scanned.worst_end;
}

pub scan_takes : (book : Model) (current : List ℕ) (place : ℕ) (period : Fraction) (worst : Option ℕ) (c : Check) (need : Fraction) → Sound book → Scanned book current place period worst → Stands book place c → Within need → AsLong need (need_under current c) → Shorter period need → Scanned book current (place + 1) need (Some c.end)
scan_takes book current place period worst c need sound scanned stands fits same short =
    let longer = shorter_is_not_longer period need short in
    let pos = scanned.within.parted in
    record {
      within = fits;
      floor = not_longer_trans book.floor period need pos scanned.floor longer;
      needs = needs_more book current place need c
          (λ k d below there. not_longer_trans (need_under current d) period need pos (scanned.needs k d below there) longer)
          stands (as_long_not_longer (need_under current c) need (as_long_sym need (need_under current c) same));
      worst_end = (place, c, stands, refl, same);
    }

pub scan_ends : (book : Model) (current : List ℕ) (place : ℕ) (period : Fraction) (worst : Option ℕ) → Scanned book current place period worst → length book.checks ≤ place → Meets book current period
scan_ends book current place period worst scanned all = record { floor = scanned.floor; needs = each }
  where
    each : (k : ℕ) (c : Check) → Stands book k c → NotLonger (need_under current c) period
    each k c stands = elim (cases_lt k place) [
      | inl before ↦ scanned.needs k c before stands
      | inr past ↦ absurd (let none = slice_get_past book.checks k (omega arith) in let z : ◌≡◌ {A = ℕ} 0 1 = cc in omega arith)
    ]

-- ---- a turn of the outer loop

pub raising_improves : (book : Model) (current chosen : List ℕ) (shortest period : Fraction) → Sound book → Raising book current chosen shortest → Within period → Meets book current period → Shorter period shortest → Raising book current current period
raising_improves book current chosen shortest period sound r fits met short = record {
  within = fits;
  current_long = r.current_long;
  chosen_long = r.current_long;
  current_exist = r.current_exist;
  chosen_exist = r.current_exist;
  current_idle = r.current_idle;
  chosen_idle = r.current_idle;
  chosen_meets = met;
  current_low = λ others q assigned q-met q-short. r.current_low others q assigned q-met
      (shorter_not_longer_trans q period shortest r.within.parted q-short (shorter_is_not_longer period shortest short));
  chosen_low = λ others assigned other-met. r.current_low others period assigned other-met short;
}

pub worst_there : (book : Model) (current : List ℕ) (place : ℕ) (period : Fraction) (e : ℕ) → Sound book → Scanned book current place period (Some e) → e < book.flops
worst_there book current place period e sound scanned = go scanned.worst_end
  where
    go : Worst book current period (Some e) → e < book.flops
    go (k, c, stands, at_end, same) = rw (← at_end) (sound.each k c stands).end_there

-- what meets a period shorter than the shortest has a higher domain at the worst end
worst_higher : (book : Model) (current chosen : List ℕ) (shortest : Fraction) (place : ℕ) (period : Fraction) (e : ℕ) → Sound book → Raising book current chosen shortest → NotLonger shortest period → Scanned book current place period (Some e) → (others : List ℕ) (q : Fraction) → Assignment book others → Meets book others q → Shorter q shortest → get_or current e 0 < get_or others e 0
worst_higher book current chosen shortest place period e sound r long scanned others q assigned met short = go scanned.worst_end
  where
    go : Worst book current period (Some e) → get_or current e 0 < get_or others e 0
    go (k, c, stands, at_end, same) =
        let pos = (need_within book current k c sound r.current_exist stands).parted in
        let below : Shorter q period = shorter_not_longer_trans q shortest period scanned.within.parted short long in
        rw (← at_end) (higher_end book current others k c q sound r.current_exist (exist_all book others sound assigned) (r.current_low others q assigned met short) stands met
        (shorter_not_longer_trans q period (need_under current c) pos below (as_long_not_longer period (need_under current c) same)))

pub raised : (book : Model) (current chosen : List ℕ) (shortest : Fraction) (place : ℕ) (period : Fraction) (e : ℕ) → Sound book → Raising book current chosen shortest → NotLonger shortest period → Scanned book current place period (Some e) → get_or current e 0 + 1 < book.domains → Raising book (set current e (get_or current e 0 + 1)) chosen shortest
raised book current chosen shortest place period e sound r long scanned room-left = record {
  within = r.within;
  current_long = length-set current e (get_or current e 0 + 1) ∙ r.current_long;
  chosen_long = r.chosen_long;
  current_exist = raised_each (λ i x. x < book.domains) current e there r.current_exist room-left;
  chosen_exist = r.chosen_exist;
  current_idle = raised_each (λ i x. book.flops ≤ i → x ≡ 0) current e there r.current_idle (λ past. absurd (omega (arith, among)));
  chosen_idle = r.chosen_idle;
  chosen_meets = r.chosen_meets;
  current_low = λ others q assigned met short. raised_each (λ i x. x ≤ get_or others i 0) current e there (r.current_low others q assigned met short)
      (omega (arith, worst_higher book current chosen shortest place period e sound r long scanned others q assigned met short));
  chosen_low = r.chosen_low;
}
  where
    among : e < book.flops
    among = worst_there book current place period e sound scanned

    there : e < length current
    there = omega (arith, among, sound.few_flops, r.current_long)

-- ---- the outer loop ends

-- where nothing meets a shorter period, the chosen list is the answer
done : (book : Model) (current chosen : List ℕ) (shortest : Fraction) → Sound book → Raising book current chosen shortest → ((others : List ℕ) (q : Fraction) → Assignment book others → Meets book others q → Shorter q shortest → ⊥) → Scheduled book (take book.flops chosen) shortest
done book current chosen shortest sound r never = record {
  assigned = assigned;
  its_period = record { met = met; reached = reached };
  shortest = least;
  lowest = λ others other other-met i. rw (same i) (r.chosen_low others other other-met i);
}
  where
    same : (i : ℕ) → get_or (take book.flops chosen) i 0 ≡ get_or chosen i 0
    same = take_idle book.flops chosen r.chosen_idle

    assigned : Assignment book (take book.flops chosen)
    assigned = record {
      one_each = length-take-le book.flops chosen (omega (arith, sound.few_flops, r.chosen_long));
      exist = λ flop there. rw (same flop) (r.chosen_exist flop);
    }

    met : Meets book (take book.flops chosen) shortest
    met = meets_same book chosen (take book.flops chosen) shortest (λ i. sym (same i)) r.chosen_meets

    least : (others : List ℕ) (q : Fraction) → Assignment book others → Meets book others q → NotLonger shortest q
    least others q other other-met = elim (shorter_or_not q shortest) [
      | inl short ↦ absurd (never others q other other-met short)
      | inr long ↦ long
    ]

    reached : Reached book (take book.flops chosen) shortest
    reached =
        let cut = take book.flops chosen in
        let own = one_period_each_lem book cut sound assigned in
        let below : NotLonger own.0 shortest = reached_least book cut own.0 shortest sound (exist_all book cut sound assigned) own.2.reached met in
        reached_same book cut own.0 shortest own.1.parted (not_longer_antisym shortest own.0 (least cut own.0 assigned own.2.met) below) own.2.reached

pub done_at_floor : (book : Model) (current chosen : List ℕ) (shortest : Fraction) (place : ℕ) (period : Fraction) → Sound book → Raising book current chosen shortest → NotLonger shortest period → Scanned book current place period None → Scheduled book (take book.flops chosen) shortest
done_at_floor book current chosen shortest place period sound r long scanned = done book current chosen shortest sound r
    (λ others q assigned met short. shorter_not q book.floor (shorter_not_longer_trans q shortest book.floor sound.floor_within.parted short
    (not_longer_trans shortest period book.floor scanned.within.parted long (as_long_not_longer period book.floor scanned.worst_end))) met.floor)

pub done_at_top : (book : Model) (current chosen : List ℕ) (shortest : Fraction) (place : ℕ) (period : Fraction) (e : ℕ) → Sound book → Raising book current chosen shortest → NotLonger shortest period → Scanned book current place period (Some e) → book.domains ≤ get_or current e 0 + 1 → Scheduled book (take book.flops chosen) shortest
done_at_top book current chosen shortest place period e sound r long scanned top = done book current chosen shortest sound r
    (λ others q assigned met short. omega (arith, worst_higher book current chosen shortest place period e sound r long scanned others q assigned met short, exist_all book others sound assigned e))

-- ---- the loop ends

pub raise_falls : (xs : List ℕ) (e : ℕ) → length xs ≤ most_flops → ((i : ℕ) → get_or xs i 0 < most_domains) → e < length xs → room (set xs e (get_or xs e 0 + 1)) < room xs
raise_falls xs e few small there =
    let raised-sum = sum_by-set (λ x. x) xs e (get_or xs e 0 + 1) 0 there in
    let bound = sum_by_le (λ x. x) (most_domains - 1) xs (All-from_get_or (λ x. x ≤ most_domains - 1) xs 0 (λ i l. omega (arith, small i))) in
    omega (arith, raised-sum, bound)
