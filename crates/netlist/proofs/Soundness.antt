-- What the types of a draft and a block keep is what makes a circuit sound.
use Rattle.std.proofs.Common.{◌≡◌, Bool, true, ltb, leb, List, map, length, ◌∙◌}
use Rattle.std.proofs.lemmas.Bool.{and_from, lt-ltb, le-leb}
use Rattle.circuit.specs.Limits.{delay_end}
use Rattle.circuit.specs.Sound.{Sound, every, flop_fits, gate_fits, hold_fits_lem, runs}
use Rattle.circuit.proofs.Every.{every_map, every_all, every_both}
use Rattle.netlist.specs.declared.block.Block.{Block}
use Rattle.netlist.specs.Figures.{flop_of, gate_of, wire_of}
use Rattle.netlist.specs.Circuits.{circuit}

-- a test that each element passes by its type
by_type : {X Y : Type 0} (f : X → Y) (test : Y → Bool) → ((x : X) → test (f x) ≡ true) → (xs : List X) → every test (map f xs) ≡ true
by_type f test w xs = every_map f test xs ∙ every_all (λ x. test (f x)) w xs

pub block_sound : (b : Block) → Sound (circuit b)
block_sound b =
    let c = circuit b in
    let d = b.draft in
    record {
      domains = d.domains.sound;
      few_flops = d.few_flops;
      few_gates = d.few_gates;
      few_wires = d.few_wires;
      flops_fit = by_type flop_of flop_fits (λ f. and_from (ltb f.setup delay_end) (hold_fits_lem f.hold) (lt-ltb f.setup delay_end f.setup_fits) f.hold_fits) d.flops;
      gates_fit = by_type gate_of gate_fits (λ g. and_from (leb g.smaller g.larger) (ltb g.larger delay_end) (le-leb g.smaller g.larger g.ordered) (lt-ltb g.larger delay_end g.fits)) d.gates;
      wires_fit = every_both (runs (length c.flops) (length c.gates)) (λ w. ltb w.delay delay_end) c.wires d.wired (by_type wire_of (λ w. ltb w.delay delay_end) (λ w. lt-ltb w.delay delay_end w.fits) d.wires);
      fed = b.fed;
      drained = b.drained;
    }
