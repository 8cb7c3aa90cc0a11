-- The laws of loading, from those of verdicts.
use Rattle.std.proofs.Common.{◌≡◌, ℕ, ◌⊎◌, List, sym, refl, ◌∙◌, inl, inr}
use Rattle.circuit.specs.Circuit.{Circuit}
use Rattle.dumps.specs.Verdict.{accepted, refused, Judged}
use Rattle.dumps.proofs.Answer.{unique}
use Rattle.dumps.proofs.Dump.{every_sound_circuit_has_a_dump_lem}
use Rattle.loader.specs.Load.{LoadAnswer, loaded, refused_at, no_memory, LoadCall}
use Rattle.loader.specs.Laws.{OneLoadAnswer, EverySoundCircuitLoads}

-- a text has one verdict
pub loads_alike : OneLoadAnswer
loads_alike text loaded loaded c d p q h k = (refl, cc (unique text (accepted c) (accepted d) p q))
loads_alike text loaded (refused_at n l) c d p q h k = cc (unique text (accepted c) (refused n l) p q.0)
loads_alike text loaded no_memory c d p q h k = absurd (k refl)
loads_alike text (refused_at n l) loaded c d p q h k = cc (unique text (accepted d) (refused n l) q p.0)
loads_alike text (refused_at n l) (refused_at m i) c d p q h k = (cc (unique text (refused n l) (refused m i) p.0 q.0), p.1 ∙ sym q.1)
loads_alike text (refused_at n l) no_memory c d p q h k = absurd (k refl)
loads_alike text no_memory b c d p q h k = absurd (h refl)

loads_back : (text : List ℕ) (c : Circuit) → Judged text (accepted c) → (a : LoadAnswer) (d : Circuit) → LoadCall text a d → (a ≡ no_memory) ⊎ ((a ≡ loaded) × (d ≡ c))
loads_back text c h loaded d p = inr (refl, cc (unique text (accepted d) (accepted c) p h))
loads_back text c h (refused_at n l) d p = cc (unique text (accepted c) (refused n l) h p.0)
loads_back text c h no_memory d p = inl refl

-- a dump loads
pub dump_loads : EverySoundCircuitLoads
dump_loads c sound =
    let dump = every_sound_circuit_has_a_dump_lem c sound in
    (dump.0, dump.1, loads_back dump.0 c dump.2)
