-- Lists of domains and the needs under them.
use Rattle.std.proofs.Common.{◌≡◌, ℕ, ◌+◌, ◌<◌, ◌≤◌, List, length, get_or, take, set, replicate, sym, ◌∙◌, inl, inr, arith}
use Rattle.std.proofs.lemmas.List.{get_or-set_same, get_or-set_other, get_or-take, get_or_past, get_or-replicate, length-take, length-replicate}
use Rattle.std.proofs.lemmas.Bool.{cases_eq, cases_lt}
use Rattle.fractions.specs.Fraction.{Fraction, NotLonger, Shorter, Within}
use Rattle.fractions.proofs.Order.{not_longer_trans, shorter_not}
use Rattle.checks.specs.Model.{Check, Model, Stands, Sound}
use Rattle.checks.specs.Scheduling.{Assignment, Meets, NoHigher, need_under}

-- each number has a domain that exists, past the end of the list too
abbrev pub Exist : Model → List ℕ → Type 0
Exist book domains = (i : ℕ) → get_or domains i 0 < book.domains

pub exist_all : (book : Model) (domains : List ℕ) → Sound book → Assignment book domains → Exist book domains
exist_all book domains sound assigned i = elim (cases_lt i book.flops) [
  | inl there ↦ assigned.exist i there
  | inr past ↦ rw (get_or_past domains i 0 (omega (arith, assigned.one_each))) sound.some_domain
]

abbrev pub zeros_of : ℕ → List ℕ
zeros_of n = replicate n 0

pub zero_each : (n i : ℕ) → get_or (zeros_of n) i 0 ≡ 0
zero_each n i = elim (cases_lt i n) [
  | inl there ↦ get_or-replicate n i 0 0 there
  | inr past ↦ get_or_past (zeros_of n) i 0 (omega (arith, length-replicate {A = ℕ} n 0))
]

pub zero_exist : (book : Model) (n : ℕ) → Sound book → Exist book (zeros_of n)
zero_exist book n sound i = rw (zero_each n i) sound.some_domain

pub zero_low : (n : ℕ) (others : List ℕ) → NoHigher (zeros_of n) others
zero_low n others i = rw (zero_each n i) (omega arith)

-- what holds of each domain by its number still holds where one is raised
pub raised_each : (P : ℕ → ℕ → Type 0) (xs : List ℕ) (e : ℕ) → e < length xs → ((i : ℕ) → P i (get_or xs i 0)) → P e (get_or xs e 0 + 1) → (i : ℕ) → P i (get_or (set xs e (get_or xs e 0 + 1)) i 0)
raised_each P xs e there each here i = elim (cases_eq i e) [
  | inl same ↦ rw (same, get_or-set_same xs e (get_or xs e 0 + 1) 0 there) here
  | inr other ↦ rw (get_or-set_other xs e i (get_or xs e 0 + 1) 0 other) (each i)
]

-- a list that is 0 from n on is its first n
pub take_idle : (n : ℕ) (xs : List ℕ) → ((i : ℕ) → n ≤ i → get_or xs i 0 ≡ 0) → (i : ℕ) → get_or (take n xs) i 0 ≡ get_or xs i 0
take_idle n xs idle i = elim (cases_lt i n) [
  | inl there ↦ get_or-take n xs i 0 there
  | inr past ↦ get_or_past (take n xs) i 0 (omega (arith, length-take n xs)) ∙ sym (idle i past)
]

-- ---- needs

pub need_same : (xs ys : List ℕ) (c : Check) → ((i : ℕ) → get_or xs i 0 ≡ get_or ys i 0) → need_under xs c ≡ need_under ys c
need_same xs ys c same = cc (same c.start, same c.end)

pub meets_same : (book : Model) (xs ys : List ℕ) (period : Fraction) → ((i : ℕ) → get_or xs i 0 ≡ get_or ys i 0) → Meets book xs period → Meets book ys period
meets_same book xs ys period same met =
    record { floor = met.floor; needs = λ place c stands. rw (← need_same xs ys c same) (met.needs place c stands) }

pub need_within : (book : Model) (domains : List ℕ) (place : ℕ) (c : Check) → Sound book → Exist book domains → Stands book place c → Within (need_under domains c)
need_within book domains place c sound exist stands = (sound.each place c stands).within _ _ (exist c.start) (exist c.end)

-- where each domain is at most the other's and a need is above a period that the other meets, the other has a higher domain at the end
pub higher_end : (book : Model) (domains others : List ℕ) (place : ℕ) (c : Check) (period : Fraction) → Sound book → Exist book domains → Exist book others → NoHigher domains others → Stands book place c → Meets book others period → Shorter period (need_under domains c) → get_or domains c.end 0 < get_or others c.end 0
higher_end book domains others place c period sound exist other-exist low stands met short =
    elim (cases_lt (get_or domains c.end 0) (get_or others c.end 0)) [
      | inl above ↦ above
      | inr not-above ↦
          let same : get_or others c.end 0 ≡ get_or domains c.end 0 = omega (arith, low c.end) in
          let grown : NotLonger (need_under domains c) (need_under others c) =
          rw (need_under, same) ((sound.each place c stands).never_falls _ _ _ (low c.start) (other-exist c.start) (exist c.end)) in
          absurd (shorter_not period (need_under domains c) short
          (not_longer_trans (need_under domains c) (need_under others c) period (need_within book others place c sound other-exist stands).parted grown (met.needs place c stands)))
    ]
