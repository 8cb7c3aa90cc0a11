-- What a constant book means: a check from each flip-flop to the next, with the same need in all domains, and floor 0.
use Rattle.std.specs.Prelude.{ℕ, zero, suc, ◌+◌, ◌-◌, ◌<◌, ◌≤◌, List, [], ◌∷◌}
use Rattle.fractions.specs.Fraction.{Fraction, whole}
use Rattle.checks.specs.Limits.{most_flops, most_domains}
use Rattle.checks.specs.Model.{Check, Model}

abbrev pub link : Fraction → ℕ → Check
link need flop = record { start = flop; end = flop + 1; need = λ m n. need }

-- so many checks, the first of them from this flip-flop
abbrev pub links : Fraction → ℕ → ℕ → List Check
links need flop zero = []
links need flop (suc count) = link need flop ∷ links need (flop + 1) count

abbrev pub chain : ℕ → ℕ → Fraction → Model
chain flops domains need = record { flops = flops; domains = domains; floor = whole 0; checks = links need 0 (flops - 1) }

-- outside the limits of every book
abbrev pub Outside : ℕ → ℕ → Type 0
Outside flops domains = flops ≤ most_flops → 0 < domains → domains ≤ most_domains → ⊥
