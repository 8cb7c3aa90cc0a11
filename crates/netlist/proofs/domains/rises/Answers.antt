use Rattle.std.proofs.Common.{◌≡◌, ℕ, Bool, true, false, ◌↔◌, ltb, List, IsTrue, refl, sym, arith, rules}
use Rattle.std.specs.List.{IsAllAdjacentAnswer}
use Rattle.std.proofs.lemmas.Bool.{false≢true, ltb-true, ltb-false}
use Rattle.std.proofs.lemmas.List.Sorted.{answers_always}
use Rattle.circuit.specs.Sound.{Rising}
use Rattle.netlist.proofs.domains.rises.Goals as goal

Rising-from_adjacent : (xs : List ℕ) (r : Bool) → IsAllAdjacentAnswer (λ x y b. b ≡ ltb x y) xs r → IsTrue r ↔ Rising xs
Rising-from_adjacent xs true h = (λ t k l. ltb-true _ _ (sym (h k 0 l)), λ p. refl)
Rising-from_adjacent xs false h = (λ t. absurd (false≢true t), λ p. absurd (omega (arith, p h.0 h.1, ltb-false _ _ (sym (h.2 0)))))

pub returns : goal.returns
returns c = Rising-from_adjacent c.args.skews.now _ (c.is_sorted_by.ensures.cases ltb (answers_always _ _ _ (λ f a r f' h. search rules)))
