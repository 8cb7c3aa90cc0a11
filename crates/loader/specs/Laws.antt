-- What holds of every load.
use Rattle.std.specs.Prelude.{◌≡◌, ℕ, ◌<◌, ◌⊎◌, List, ◌≢◌}
use Rattle.std.specs.List.{AllByRecursion}
use Rattle.circuit.specs.Circuit.{Circuit}
use Rattle.circuit.specs.Sound.{Sound}
use Rattle.loader.specs.Load.{LoadAnswer, loaded, no_memory, LoadCall}

-- two loads of one text, neither short of memory, give one answer and leave one circuit
abbrev pub OneLoadAnswer : Type 0
OneLoadAnswer = (text : List ℕ) (a b : LoadAnswer) (c d : Circuit) → LoadCall text a c → LoadCall text b d → (a ≢ no_memory) → (b ≢ no_memory) → (a ≡ b) × (c ≡ d)

-- every sound circuit has a text of bytes that loads to it, unless memory fails
abbrev pub EverySoundCircuitLoads : Type 0
EverySoundCircuitLoads = (c : Circuit) → Sound c → (text : List ℕ) × AllByRecursion (λ b. b < 256) text × ((a : LoadAnswer) (d : Circuit) → LoadCall text a d → (a ≡ no_memory) ⊎ ((a ≡ loaded) × (d ≡ c)))
