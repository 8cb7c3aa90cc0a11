-- The element at a place, where a list is mapped, joined or cut.
use Rattle.std.proofs.Common.{◌≡◌, ℕ, zero, suc, ◌-◌, ◌<◌, ◌≤◌, List, [], ◌∷◌, ◌++◌, map, length, get_or, take, Some, None, refl, ap, ◌∙◌, arith}
use Rattle.std.specs.List.{slice_get}

pub nth_inside : {X : Type 0} (xs : List X) (k : ℕ) (x d : X) → slice_get xs k ≡ Some x → (k < length xs) × (get_or xs k d ≡ x)
nth_inside [] k x d e = absurd (grind arith)
nth_inside (y ∷ ys) zero x d e = (omega arith, grind arith)
nth_inside (y ∷ ys) (suc k) x d e = let p = nth_inside ys k x d e in (omega arith, p.1)

pub mapped_back : {X Y : Type 0} (f : X → Y) (xs : List X) (k : ℕ) (y : Y) → slice_get (map f xs) k ≡ Some y → (x : X) × (slice_get xs k ≡ Some x) × (y ≡ f x)
mapped_back f [] k y e = absurd (grind arith)
mapped_back f (x ∷ xs) zero y e = (x, refl, grind arith)
mapped_back f (x ∷ xs) (suc k) y e = mapped_back f xs k y e

pub nth_mapped : {X Y : Type 0} (f : X → Y) (xs : List X) (k : ℕ) (x : X) → slice_get xs k ≡ Some x → slice_get (map f xs) k ≡ Some (f x)
nth_mapped f [] k x e = absurd (grind arith)
nth_mapped f (y ∷ ys) zero x e = grind arith
nth_mapped f (y ∷ ys) (suc k) x e = nth_mapped f ys k x e

pub nth_left : {X : Type 0} (xs ys : List X) (k : ℕ) → k < length xs → slice_get (xs ++ ys) k ≡ slice_get xs k
nth_left [] ys k l = absurd (omega arith)
nth_left (x ∷ xs) ys zero l = refl
nth_left (x ∷ xs) ys (suc k) l = nth_left xs ys k (omega arith)

nothing : (k : ℕ) → k ≡ k - 0
nothing k = omega arith

less : (k n : ℕ) → k - n ≡ suc k - suc n
less k n = omega arith

pub nth_right : {X : Type 0} (xs ys : List X) (k : ℕ) → length xs ≤ k → slice_get (xs ++ ys) k ≡ slice_get ys (k - length xs)
nth_right [] ys k l = ap (slice_get ys) (nothing k)
nth_right (x ∷ xs) ys zero l = absurd (omega arith)
nth_right (x ∷ xs) ys (suc k) l = nth_right xs ys k (omega arith) ∙ ap (slice_get ys) (less k (length xs))

pub nth_cut : {X : Type 0} (n : ℕ) (xs : List X) (k : ℕ) → k < n → slice_get (take n xs) k ≡ slice_get xs k
nth_cut zero xs k l = absurd (omega arith)
nth_cut (suc n) [] k l = refl
nth_cut (suc n) (x ∷ xs) zero l = refl
nth_cut (suc n) (x ∷ xs) (suc k) l = nth_cut n xs k (omega arith)

pub nth_cut_off : {X : Type 0} (n : ℕ) (xs : List X) (k : ℕ) → n ≤ k → slice_get (take n xs) k ≡ None
nth_cut_off zero xs k l = refl
nth_cut_off (suc n) [] k l = refl
nth_cut_off (suc n) (x ∷ xs) zero l = absurd (omega arith)
nth_cut_off (suc n) (x ∷ xs) (suc k) l = nth_cut_off n xs k (omega arith)
