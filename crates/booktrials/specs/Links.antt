-- The checks of a constant book by their places, and that the book is sound.
use Rattle.std.specs.Prelude.{◌≡◌, ℕ, zero, suc, ◌+◌, ◌-◌, ◌*◌, ◌<◌, ◌≤◌, length, Some, None, Option, ◌≢◌, refl}
use Rattle.std.proofs.Common.{ap, subst, ◌∙◌, ⊎_elim, zero-add, arith}
use Rattle.std.specs.List.{slice_get}
use Rattle.std.proofs.lemmas.Bool.{cases_lt}
use Rattle.fractions.specs.Fraction.{Fraction, Within}
use Rattle.checks.specs.Limits.{most_flops, most_domains}
use Rattle.checks.specs.Model.{SoundCheck, Sound}
use Rattle.booktrials.specs.Chain.{link, links, chain}

pub links_count : (need : Fraction) (flop count : ℕ) → length (links need flop count) ≡ count
links_count need flop zero = refl
links_count need flop (suc count) = let e = links_count need (flop + 1) count in omega (arith, e)

further : (flop place : ℕ) → flop + 1 + place ≡ flop + suc place
further flop place = omega arith

link_from : (need : Fraction) (flop count place : ℕ) → place < count → slice_get (links need flop count) place ≡ Some (link need (flop + place))
link_from need flop zero place l = absurd (omega arith)
link_from need flop (suc count) zero l = ap (λ k. Some (link need k)) (omega arith)
link_from need flop (suc count) (suc place) l = link_from need (flop + 1) count place (omega arith) ∙ ap (λ k. Some (link need k)) (further flop place)

link_there : (need : Fraction) (count place : ℕ) → place < count → slice_get (links need 0 count) place ≡ Some (link need place)
link_there need count place l = link_from need 0 count place l ∙ ap (λ k. Some (link need k)) (zero-add place)

no_link : (need : Fraction) (flop count place : ℕ) → count ≤ place → slice_get (links need flop count) place ≡ None
no_link need flop zero place l = refl
no_link need flop (suc count) zero l = absurd (omega arith)
no_link need flop (suc count) (suc place) l = no_link need (flop + 1) count place (omega arith)

some_eq : {X : Type 0} (o : Option X) (x y : X) → o ≡ Some x → o ≡ Some y → x ≡ y
some_eq o x y e f = grind arith

pub none_some : {X : Type 0} (o : Option X) (x : X) → o ≡ None → o ≢ Some x
none_some o x e f = grind arith

-- a need that is the same everywhere keeps both laws
link_sound : (flops domains : ℕ) (need : Fraction) → Within need → (place : ℕ) → place < flops - 1 → SoundCheck flops domains (link need place)
link_sound flops domains need w place l = record {
  start_there = omega arith;
  end_there = omega arith;
  within = λ m n a b. w;
  never_falls = λ m higher n a b d. same (need.num * need.den);
  never_rises = λ m n higher a b d. same (need.num * need.den);
}
  where
    same : (n : ℕ) → n ≤ n
    same n = omega arith

pub chain_sound : (flops domains : ℕ) (need : Fraction) → flops ≤ most_flops → 0 < domains → domains ≤ most_domains → Within need → Sound (chain flops domains need)
chain_sound flops domains need few some_domain few_domains w = record {
  few_flops = few;
  some_domain = some_domain;
  few_domains = few_domains;
  few_checks = let e = links_count need 0 (flops - 1) in omega (arith, e);
  floor_within = record { few_units = omega arith; parted = omega arith; coarse = omega arith };
  each = λ place c stands. ⊎_elim
      (λ l. subst (SoundCheck flops domains) (some_eq _ _ _ (link_there need (flops - 1) place l) stands) (link_sound flops domains need w place l))
      (λ l. absurd (none_some _ c (no_link need 0 (flops - 1) place l) stands))
      (cases_lt place (flops - 1));
}

-- the check at a place, and none beyond the last, with the count that the program has
pub link_at : (need : Fraction) (count there place : ℕ) → there ≡ count → place < there → slice_get (links need 0 count) place ≡ Some (link need place)
link_at need count there place e l = link_there need count place (subst (λ n. place < n) e l)

pub no_link_at : (need : Fraction) (count there place : ℕ) → there ≡ count → there ≤ place → slice_get (links need 0 count) place ≡ None
no_link_at need count there place e l = no_link need 0 count place (subst (λ n. n ≤ place) e l)
