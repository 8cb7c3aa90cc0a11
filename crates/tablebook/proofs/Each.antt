-- What holds of each element of a mapped list, and of each and the next, is told of the list itself.
use Rattle.std.proofs.Common.{ℕ, ◌+◌, ◌<◌, List, [], ◌∷◌, map, length, get_or, sym, subst, arith}
use Rattle.std.specs.List.{All, AllAdjacentBelow}
use Rattle.std.proofs.lemmas.List.{length-map, get_or-map}

pub each_unmapped : {X Y : Type 0} (f : X → Y) (P : Y → Type 0) (xs : List X) (e : Y) → ((k : ℕ) → k < length (map f xs) → P (get_or (map f xs) k e)) → All (λ x. P (f x)) xs
each_unmapped f P xs e all k d l = subst P (get_or-map f xs k d e l) (all k (subst (λ n. k < n) (sym (length-map xs f)) l))

pub neighbours_unmapped : {X Y : Type 0} (f : X → Y) (R : Y → Y → Type 0) (xs : List X) (e : Y) → ((k : ℕ) → k + 1 < length (map f xs) → R (get_or (map f xs) k e) (get_or (map f xs) (k + 1) e)) → AllAdjacentBelow (λ x y. R (f x) (f y)) xs (length xs)
neighbours_unmapped f R xs e all k d l =
    subst (λ y. R (f (get_or xs k d)) y) (get_or-map f xs (k + 1) d e l)
    (subst (λ x. R x (get_or (map f xs) (k + 1) e)) (get_or-map f xs k d e (omega arith))
    (all k (subst (λ n. k + 1 < n) (sym (length-map xs f)) l)))

pub neighbours_mapped : {X Y : Type 0} (f : X → Y) (R : Y → Y → Type 0) (xs : List X) → AllAdjacentBelow (λ x y. R (f x) (f y)) xs (length xs) → AllAdjacentBelow R (map f xs) (length (map f xs))
neighbours_mapped f R [] all k d l = absurd (omega arith)
neighbours_mapped f R (x ∷ xs) all k d l =
    let h : k + 1 < length (x ∷ xs) = subst (λ n. k + 1 < n) (length-map (x ∷ xs) f) l in
    subst (λ y. R (get_or (map f (x ∷ xs)) k d) y) (sym (get_or-map f (x ∷ xs) (k + 1) x d h))
    (subst (λ z. R z (f (get_or (x ∷ xs) (k + 1) x))) (sym (get_or-map f (x ∷ xs) k x d (omega arith)))
    (all k x h))
