-- What is known of a list of domains between two raises, for the private functions of an engine. No public contract rests on it.
use Rattle.std.specs.Prelude.{◌≡◌, ℕ, ◌-◌, ◌*◌, ◌<◌, List, length, sum, slice_index}
use Rattle.fractions.specs.Fraction.{Fraction}
use Rattle.checks.specs.Limits.{most_flops, most_domains}
use Rattle.checks.specs.Model.{Model}
use Rattle.checks.specs.Scheduling.{Assignment, Meets, NoHigher}

-- how many raises are left at most
abbrev pub room : List ℕ → ℕ
room xs = most_flops * most_domains - sum xs

-- a list of domains that is no higher than what meets the period
pub record Settling (book : Model) (period : Fraction) (domains : List ℕ) : Type 0 where
  pub one_each : length domains ≡ book.flops
  pub exist : (i : ℕ) → slice_index domains i < book.domains
  pub low : (others : List ℕ) → Assignment book others → Meets book others period → NoHigher domains others
