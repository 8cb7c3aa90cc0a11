-- The faults of the block layer are the grounds of the reading.
use Rattle.std.proofs.Common.{◌≡◌, ℕ, Bool, true, false, ◌&&◌, ltb, ◌⊎◌, List, length, Some, None, Option, refl, inl, inr}
use Rattle.std.proofs.lemmas.Bool.{cond-true}
use Rattle.circuit.specs.Circuit.{Circuit}
use Rattle.circuit.specs.Limits.{most_wires}
use Rattle.circuit.specs.Sound.{SoundDomains, Covered, forward}
use Rattle.circuit.specs.Terminal.{Terminal, place, known}
use Rattle.dumps.specs.declared.ground.Ground.{Ground}
use Rattle.dumps.specs.declared.ground.Ground.TheVariants as ground
use Rattle.dumps.specs.Frame.{domains_frame, wire_frame, end_frame}
use Rattle.dumps.specs.Reading.{sound_domains, joined_up, refuse_unless, breach}
use Rattle.dumps.proofs.Tests.{sound_domains_right, sound_domains_all, joined_up_right, joined_up_all}
use Rattle.netlist.specs.declared.faults.BlockFault.{BlockFault}
use Rattle.netlist.specs.declared.faults.BlockFault.TheVariants as block
use Rattle.netlist.specs.Growth.{unless, wire_breach}
use Rattle.loader.specs.Lines.{of_block, Breached}

-- what a test decides, decided by a fact
when_not : (t : Bool) (g : Ground) → (t ≡ true → ⊥) → refuse_unless t g None ≡ Some g
when_not true g h = absurd (h refl)
when_not false g h = refl

pub domains_refused : (c : Circuit) (parts : ℕ) (skews : List ℕ) → (SoundDomains parts skews → ⊥) → breach c (domains_frame parts skews) ≡ Some ground.Domains
domains_refused c parts skews h = when_not (sound_domains parts skews) ground.Domains (λ t. h (sound_domains_right parts skews t))

pub domains_free : (c : Circuit) (parts : ℕ) (skews : List ℕ) → SoundDomains parts skews → breach c (domains_frame parts skews) ≡ None
domains_free c parts skews h = cond-true (sound_domains parts skews) None (Some ground.Domains) (sound_domains_all parts skews h)

pub end_refused : (c : Circuit) → (Covered c → ⊥) → breach c end_frame ≡ Some ground.Open
end_refused c h = when_not (joined_up (length c.gates) c.wires) ground.Open (λ t. h (joined_up_right (length c.gates) c.wires t))

pub end_free : (c : Circuit) → Covered c → breach c end_frame ≡ None
end_free c h = cond-true (joined_up (length c.gates) c.wires) None (Some ground.Open) (joined_up_all (length c.gates) c.wires h.0 h.1)

same_fault : {f g : BlockFault} → ◌≡◌ {A = Option BlockFault} (Some g) (Some f) → f ≡ g
same_fault e = cc

-- the tests of a wire in turn: is there room, are both ends there, does it lead forward
tested : (room present onward : Bool) (f : BlockFault)
    → ((f ≡ block.Memory) × (unless room block.Surplus (unless present block.Absent (unless onward block.Backward None)) ≡ None)) ⊎ (unless room block.Surplus (unless present block.Absent (unless onward block.Backward None)) ≡ Some f)
    → Breached (of_block f) (refuse_unless room ground.Surplus (refuse_unless present ground.Absent (refuse_unless onward ground.Backward None)))
tested true true true f (inl m) = rw m.0 refl
tested true true true f (inr e) = cc
tested true true false f (inl m) = cc m.1
tested true true false f (inr e) = rw (same_fault e) refl
tested true false onward f (inl m) = cc m.1
tested true false onward f (inr e) = rw (same_fault e) refl
tested false present onward f (inl m) = cc m.1
tested false present onward f (inr e) = rw (same_fault e) refl

-- why a wire was not taken
pub wire_refused : (c : Circuit) (start end : Terminal) (delay : ℕ) (f : BlockFault) → ((f ≡ block.Memory) × (wire_breach c start end ≡ None)) ⊎ (wire_breach c start end ≡ Some f) → Breached (of_block f) (breach c (wire_frame start end delay))
wire_refused c start end delay = tested (ltb (length c.wires) most_wires) (known (length c.flops) (length c.gates) start && known (length c.flops) (length c.gates) end) (forward (place start) (place end))
