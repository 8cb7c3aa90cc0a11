-- What a book of checks means. Flip-flops, domains and checks are numbered from 0.
use Rattle.std.specs.Prelude.{◌≡◌, ℕ, ◌<◌, ◌≤◌, List, length, Some}
use Rattle.std.specs.List.{slice_get}
use Rattle.fractions.specs.Fraction.{Fraction, NotLonger, AsLong, Within}
use Rattle.checks.specs.Limits.{most_flops, most_domains, most_checks}

-- a check runs from one flip-flop to another, or to the same one; its need is by the domain of its start and the domain of its end
pub record Check : Type 0 where
  pub start : ℕ
  pub end : ℕ
  pub need : ℕ → ℕ → Fraction

pub record Model : Type 0 where
  pub flops : ℕ
  pub domains : ℕ
  pub floor : Fraction
  pub checks : List Check

-- the check at a place of the list
abbrev pub Stands : Model → ℕ → Check → Type 0
Stands book place c = slice_get book.checks place ≡ Some c

-- a check among so many flip-flops and domains, with both laws: the need never falls as the domain of the start rises,
-- and never rises as that of the end rises
pub record SoundCheck (flops domains : ℕ) (c : Check) : Type 0 where
  pub start_there : c.start < flops
  pub end_there : c.end < flops
  pub within : (m n : ℕ) → m < domains → n < domains → Within (c.need m n)
  pub never_falls : (m higher n : ℕ) → m ≤ higher → higher < domains → n < domains → NotLonger (c.need m n) (c.need higher n)
  pub never_rises : (m n higher : ℕ) → n ≤ higher → m < domains → higher < domains → NotLonger (c.need m higher) (c.need m n)

pub record Sound (book : Model) : Type 0 where
  pub few_flops : book.flops ≤ most_flops
  pub some_domain : 0 < book.domains
  pub few_domains : book.domains ≤ most_domains
  pub few_checks : length book.checks ≤ most_checks
  pub floor_within : Within book.floor
  pub each : (place : ℕ) (c : Check) → Stands book place c → SoundCheck book.flops book.domains c

-- two checks of equal start, end and needs
pub record Alike (domains : ℕ) (c d : Check) : Type 0 where
  pub start : c.start ≡ d.start
  pub end : c.end ≡ d.end
  pub needs : (m n : ℕ) → m < domains → n < domains → AsLong (c.need m n) (d.need m n)

-- each check of a book has its like in another
abbrev pub HeldBy : Model → Model → Type 0
HeldBy book other = (place : ℕ) (c : Check) → Stands book place c → (at : ℕ) × (d : Check) × Stands other at d × Alike book.domains c d

-- two books with the same floor, flip-flops and domains, and the same checks in any order, once or more often
pub record SameChecks (book other : Model) : Type 0 where
  pub flops : book.flops ≡ other.flops
  pub domains : book.domains ≡ other.domains
  pub floor : AsLong book.floor other.floor
  pub there : HeldBy book other
  pub back : HeldBy other book
