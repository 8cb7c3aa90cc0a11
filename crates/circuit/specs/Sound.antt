-- When a domain set and a circuit are sound: the limits that no block breaks.
use Rattle.std.specs.Prelude.{◌≡◌, ℕ, ◌+◌, ◌-◌, ◌<◌, ◌≤◌, Bool, true, false, ◌&&◌, ◌||◌, List, [], ◌∷◌, length, ℤ, pos, negsuc, ◌==◌, nat_le, nat_lt, slice_index, slice_index_or}
use Rattle.circuit.specs.Circuit.{FlipFlop, Gate, Place, at_flop, at_gate, Wire, Circuit}
use Rattle.circuit.specs.Limits.{most_flops, most_gates, most_wires, most_domains, most_parts, delay_end, hold_end}

-- each skew is above the one before
abbrev pub Rising : List ℕ → Type 0
Rising skews = (k : ℕ) → k + 1 < length skews → slice_index skews k < slice_index skews (k + 1)

pub record SoundDomains (parts : ℕ) (skews : List ℕ) : Type 0 where
  pub parted : 0 < parts
  pub coarse : parts ≤ most_parts
  pub some_domain : 0 < length skews
  pub few_domains : length skews ≤ most_domains
  pub from_zero : slice_index_or skews 0 0 ≡ 0
  pub rising : Rising skews
  pub last_below : slice_index_or skews (length skews - 1) 0 < parts

abbrev pub every : {X : Type 0} → (X → Bool) → List X → Bool
every test [] = true
every test (x ∷ xs) = test x && every test xs

abbrev pub any : {X : Type 0} → (X → Bool) → List X → Bool
any test [] = false
any test (x ∷ xs) = test x || any test xs

abbrev pub hold_fits_lem : ℤ → Bool
hold_fits_lem (pos n) = nat_lt n hold_end
hold_fits_lem (negsuc n) = nat_lt n hold_end

abbrev pub flop_fits : FlipFlop → Bool
flop_fits f = nat_lt f.setup delay_end && hold_fits_lem f.hold

abbrev pub gate_fits : Gate → Bool
gate_fits g = nat_le g.smaller g.larger && nat_lt g.larger delay_end

-- a place that exists among so many flip-flops and gates
abbrev pub there : ℕ → ℕ → Place → Bool
there flops gates (at_flop n) = nat_lt n flops
there flops gates (at_gate n) = nat_lt n gates

-- a wire between gates starts at the smaller number
abbrev pub forward : Place → Place → Bool
forward (at_flop m) end = true
forward (at_gate m) (at_flop n) = true
forward (at_gate m) (at_gate n) = nat_lt m n

abbrev pub runs : ℕ → ℕ → Wire → Bool
runs flops gates w = (there flops gates w.start && there flops gates w.end) && forward w.start w.end

abbrev pub wire_fits : ℕ → ℕ → Wire → Bool
wire_fits flops gates w = runs flops gates w && nat_lt w.delay delay_end

abbrev pub is_gate : ℕ → Place → Bool
is_gate g (at_flop n) = false
is_gate g (at_gate n) = n == g

abbrev pub enters : ℕ → Wire → Bool
enters g w = is_gate g w.end

abbrev pub leaves : ℕ → Wire → Bool
leaves g w = is_gate g w.start

-- every one of so many gates has a wire in and a wire out
abbrev pub Fed : ℕ → List Wire → Type 0
Fed gates wires = (g : ℕ) → g < gates → any (enters g) wires ≡ true

abbrev pub Drained : ℕ → List Wire → Type 0
Drained gates wires = (g : ℕ) → g < gates → any (leaves g) wires ≡ true

-- no gate is open
abbrev pub Covered : Circuit → Type 0
Covered c = Fed (length c.gates) c.wires × Drained (length c.gates) c.wires

pub record Sound (c : Circuit) : Type 0 where
  pub domains : SoundDomains c.parts c.skews
  pub few_flops : length c.flops ≤ most_flops
  pub few_gates : length c.gates ≤ most_gates
  pub few_wires : length c.wires ≤ most_wires
  pub flops_fit : every flop_fits c.flops ≡ true
  pub gates_fit : every gate_fits c.gates ≡ true
  pub wires_fit : every (wire_fits (length c.flops) (length c.gates)) c.wires ≡ true
  pub fed : Fed (length c.gates) c.wires
  pub drained : Drained (length c.gates) c.wires
