-- Two sound books bound are a sound book, and answer by what the two answer.
use Rattle.std.specs.Prelude.{◌≡◌, ℕ, zero, suc, ◌+◌, ◌-◌, ◌*◌, ◌<◌, ◌≤◌, min, max, cond, List, [], ◌∷◌, ◌++◌, length, take, Some, None, Option, ◌≢◌, refl}
use Rattle.std.proofs.Common.{sym, ap, subst, ◌∙◌, ⊎_elim, arith}
use Rattle.std.proofs.Math.Nat.{min_comm}
use Rattle.std.specs.List.{slice_get}
use Rattle.std.proofs.lemmas.Bool.{cases_lt}
use Rattle.std.proofs.lemmas.Bool.Decides.{leb_tells}
use Rattle.std.proofs.lemmas.List.{length-append, length-take, take_all}
use Rattle.fractions.specs.Fraction.{Fraction, NotLonger, Shorter, AsLong, Within}
use Rattle.fractions.proofs.Order.{not_longer_antisym, as_long_trans, not_longer_left, not_longer_right}
use Rattle.checks.specs.Limits.{most_flops, most_domains, most_checks}
use Rattle.checks.specs.Model.{Check, Model, Stands, SoundCheck, Sound}
use Rattle.boundbook.specs.Bound.{longer, bound}
use Rattle.checks.proofs.Nth.{nth_left, nth_right, nth_cut, nth_cut_off}

-- places
pub side_first : (first second : Model) (place count : ℕ) → count ≡ length first.checks → place < most_checks → place < count → slice_get (bound first second).checks place ≡ slice_get first.checks place
side_first first second place count e few l = nth_cut most_checks (first.checks ++ second.checks) place few ∙ nth_left first.checks second.checks place (subst (λ n. place < n) e l)

pub side_second : (first second : Model) (place count : ℕ) → count ≡ length first.checks → place < most_checks → count ≤ place → slice_get (bound first second).checks place ≡ slice_get second.checks (place - count)
side_second first second place count e few l = nth_cut most_checks (first.checks ++ second.checks) place few ∙ nth_right first.checks second.checks place (subst (λ n. n ≤ place) e l) ∙ ap (λ n. slice_get second.checks (place - n)) (sym e)

pub side_beyond : (first second : Model) (place : ℕ) → most_checks ≤ place → slice_get (bound first second).checks place ≡ None
side_beyond first second place past = nth_cut_off most_checks (first.checks ++ second.checks) place past

-- numbers
max_first : (a b : ℕ) → a ≤ max a b
max_first a b = omega arith

max_second : (a b : ℕ) → b ≤ max a b
max_second a b = omega arith

pub below_first : (a b m : ℕ) → m < min a b → m < a
below_first a b m l = omega arith

pub below_second : (a b m : ℕ) → m < min a b → m < b
below_second a b m l = omega arith

max_most : (a b n : ℕ) → a ≤ n → b ≤ n → max a b ≤ n
max_most a b n l k = omega arith

min_most : (a b n : ℕ) → a ≤ n → min a b ≤ n
min_most a b n l = omega arith

min_some : (a b : ℕ) → 0 < a → 0 < b → 0 < min a b
min_some a b l k = omega arith

longer_all : (P : Fraction → Type 0) (p q : Fraction) → P p → P q → P (longer p q)
longer_all P p q x y = ⊎_elim (λ t. subst (λ c. P (cond c q p)) (sym t.0) y) (λ t. subst (λ c. P (cond c q p)) (sym t.0) x) (leb_tells (p.num * q.den) (q.num * p.den))

turned : (f s : Fraction) → NotLonger f s → Shorter s f → ⊥
turned f s l k = omega arith

-- the longer of two lengths, whichever fractions say them
pub longer_second : (p q first second : Fraction) → 0 < p.den → 0 < q.den → AsLong p first → AsLong q second → NotLonger p q → AsLong q (longer first second)
longer_second p q first second a b same like l =
    ⊎_elim
    (λ t. subst (λ c. AsLong q (cond c second first)) (sym t.0) like)
    (λ t. absurd (turned first second (not_longer_right first q second b like (not_longer_left p first q a same l)) t.1))
    (leb_tells (first.num * second.den) (second.num * first.den))

pub longer_first : (p q first second : Fraction) → 0 < p.den → 0 < q.den → 0 < first.den → 0 < second.den → AsLong p first → AsLong q second → NotLonger q p → AsLong p (longer first second)
longer_first p q first second a b d e same like l =
    ⊎_elim
    (λ t. subst (λ c. AsLong p (cond c second first)) (sym t.0) (as_long_trans p first second d same (not_longer_antisym first second t.1 (not_longer_right second p first a same (not_longer_left q second p b like l)))))
    (λ t. subst (λ c. AsLong p (cond c second first)) (sym t.0) same)
    (leb_tells (first.num * second.den) (second.num * first.den))

-- a check of either book is sound among the flip-flops and domains of both
carried : (flops domains more fewer : ℕ) (c : Check) → flops ≤ more → ((m : ℕ) → m < fewer → m < domains) → SoundCheck flops domains c → SoundCheck more fewer c
carried flops domains more fewer c l less s = record {
  start_there = farther c.start flops more s.start_there l;
  end_there = farther c.end flops more s.end_there l;
  within = λ m n a b. s.within m n (less m a) (less n b);
  never_falls = λ m higher n a b d. s.never_falls m higher n a (less higher b) (less n d);
  never_rises = λ m n higher a b d. s.never_rises m n higher a (less m b) (less higher d);
}
  where
    farther : (m b a : ℕ) → m < b → b ≤ a → m < a
    farther m b a l k = omega arith

bound_each : (first second : Model) → Sound first → Sound second → (place : ℕ) (c : Check) → Stands (bound first second) place c → SoundCheck (bound first second).flops (bound first second).domains c
bound_each first second s t place c stands =
    ⊎_elim
    (λ few. ⊎_elim
    (λ l. carried first.flops first.domains _ _ c (max_first first.flops second.flops) (below_first first.domains second.domains) (s.each place c (sym (side_first first second place (length first.checks) refl few l) ∙ stands)))
    (λ l. carried second.flops second.domains _ _ c (max_second first.flops second.flops) (below_second first.domains second.domains) (t.each (place - length first.checks) c (sym (side_second first second place (length first.checks) refl few l) ∙ stands)))
    (cases_lt place (length first.checks)))
    (λ past. absurd (none_some (slice_get (bound first second).checks place) c (side_beyond first second place past) stands))
    (cases_lt place most_checks)
  where
    none_some : {X : Type 0} (o : Option X) (x : X) → o ≡ None → o ≢ Some x
    none_some o x e f = grind arith

take_few : {X : Type 0} (n : ℕ) (xs : List X) → length (take n xs) ≤ n
take_few zero xs = omega arith
take_few (suc n) [] = omega arith
take_few (suc n) (x ∷ xs) = let l = take_few n xs in omega arith

pub bound_sound : (first second : Model) → Sound first → Sound second → Sound (bound first second)
bound_sound first second s t = record {
  few_flops = max_most first.flops second.flops most_flops s.few_flops t.few_flops;
  some_domain = min_some first.domains second.domains s.some_domain t.some_domain;
  few_domains = min_most first.domains second.domains most_domains s.few_domains;
  few_checks = take_few most_checks (first.checks ++ second.checks);
  floor_within = longer_all Within first.floor second.floor s.floor_within t.floor_within;
  each = bound_each first second s t;
}

pub bound_count : {X : Type 0} (a b : ℕ) (xs ys : List X) → a ≡ length xs → b ≡ length ys → min (a + b) most_checks ≡ length (take most_checks (xs ++ ys))
bound_count a b xs ys e f = sym (length-take most_checks (xs ++ ys) ∙ ap (min most_checks) (length-append xs ys ∙ ap (λ n. n + length ys) (sym e) ∙ ap (λ n. a + n) (sym f)) ∙ min_comm most_checks (a + b))

-- all the checks of both, where there are not too many
pub bound_whole : {X : Type 0} (a b : ℕ) (xs ys : List X) → a ≡ length xs → b ≡ length ys → a + b ≤ most_checks → (length xs + length ys ≤ most_checks) × (take most_checks (xs ++ ys) ≡ xs ++ ys)
bound_whole a b xs ys e f l =
    let few : length xs + length ys ≤ most_checks = subst (λ n. n + length ys ≤ most_checks) e (subst (λ n. a + n ≤ most_checks) f l) in
    (few, take_all most_checks (xs ++ ys) (subst (λ n. n ≤ most_checks) (sym (length-append xs ys)) few))
