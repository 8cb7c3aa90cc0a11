-- What an assignment of domains is, its period, and which assignments scheduling and settling answer.
use Rattle.std.specs.Prelude.{◌≡◌, ℕ, ◌<◌, ◌≤◌, ◌⊎◌, List, length, slice_index}
use Rattle.fractions.specs.Fraction.{Fraction, NotLonger, AsLong}
use Rattle.checks.specs.Model.{Check, Model, Stands}

-- a domain that exists for each flip-flop, by number
pub record Assignment (book : Model) (domains : List ℕ) : Type 0 where
  pub one_each : length domains ≡ book.flops
  pub exist : (flop : ℕ) → flop < book.flops → slice_index domains flop < book.domains

abbrev pub need_under : List ℕ → Check → Fraction
need_under domains c = c.need (slice_index domains c.start) (slice_index domains c.end)

-- neither the floor nor any need is above the period
pub record Meets (book : Model) (domains : List ℕ) (period : Fraction) : Type 0 where
  pub floor : NotLonger book.floor period
  pub needs : (place : ℕ) (c : Check) → Stands book place c → NotLonger (need_under domains c) period

-- the period is that of the floor or of some need
abbrev pub Reached : Model → List ℕ → Fraction → Type 0
Reached book domains period = AsLong period book.floor ⊎ ((place : ℕ) × (c : Check) × Stands book place c × AsLong period (need_under domains c))

-- the largest of the floor and all needs
pub record PeriodOf (book : Model) (domains : List ℕ) (period : Fraction) : Type 0 where
  pub met : Meets book domains period
  pub reached : Reached book domains period

-- each domain is at most the other's
abbrev pub NoHigher : List ℕ → List ℕ → Type 0
NoHigher domains others = (flop : ℕ) → slice_index domains flop ≤ slice_index others flop

-- the assignment has this period, no assignment meets a shorter one, and each that meets it has each domain at least as high
pub record Scheduled (book : Model) (domains : List ℕ) (period : Fraction) : Type 0 where
  pub assigned : Assignment book domains
  pub its_period : PeriodOf book domains period
  pub shortest : (others : List ℕ) (shorter : Fraction) → Assignment book others → Meets book others shorter → NotLonger period shorter
  pub lowest : (others : List ℕ) → Assignment book others → Meets book others period → NoHigher domains others

-- the lowest of the assignments that meet the period
pub record Settled (book : Model) (period : Fraction) (domains : List ℕ) : Type 0 where
  pub assigned : Assignment book domains
  pub met : Meets book domains period
  pub lowest : (others : List ℕ) → Assignment book others → Meets book others period → NoHigher domains others

-- no assignment meets the period
abbrev pub Unmeetable : Model → Fraction → Type 0
Unmeetable book period = (domains : List ℕ) → Assignment book domains → Meets book domains period → ⊥
