-- What passes a test at every element.
use Rattle.std.proofs.Common.{◌≡◌, ℕ, zero, suc, ◌<◌, Bool, true, false, ◌&&◌, ◌||◌, List, [], ◌∷◌, ◌++◌, map, length, get_or, set, sym, refl, ap, ◌∙◌, arith}
use Rattle.std.proofs.lemmas.Bool.{and_parts, and_from}
use Rattle.circuit.specs.Sound.{every, any}

pub every_push : {X : Type 0} (test : X → Bool) (xs : List X) (x : X) → every test xs ≡ true → test x ≡ true → every test (xs ++ (x ∷ [])) ≡ true
every_push test [] x h p = and_from (test x) true p refl
every_push test (y ∷ ys) x h p =
    let b = and_parts (test y) (every test ys) h in
    and_from (test y) (every test (ys ++ (x ∷ []))) b.0 (every_push test ys x b.1 p)

pub every_weaker : {X : Type 0} (test other : X → Bool) → ((x : X) → test x ≡ true → other x ≡ true) → (xs : List X) → every test xs ≡ true → every other xs ≡ true
every_weaker test other w [] h = refl
every_weaker test other w (x ∷ xs) h =
    let b = and_parts (test x) (every test xs) h in
    and_from (other x) (every other xs) (w x b.0) (every_weaker test other w xs b.1)

pub every_get_or : {X : Type 0} (test : X → Bool) (xs : List X) (k : ℕ) (d : X) → k < length xs → every test xs ≡ true → test (get_or xs k d) ≡ true
every_get_or test [] k d l h = absurd (omega arith)
every_get_or test (x ∷ xs) zero d l h = (and_parts (test x) (every test xs) h).0
every_get_or test (x ∷ xs) (suc k) d l h = every_get_or test xs k d (omega arith) (and_parts (test x) (every test xs) h).1

pub every_set : {X : Type 0} (test : X → Bool) (xs : List X) (k : ℕ) (x : X) → every test xs ≡ true → test x ≡ true → every test (set xs k x) ≡ true
every_set test [] k x h p = refl
every_set test (y ∷ ys) zero x h p = and_from (test x) (every test ys) p (and_parts (test y) (every test ys) h).1
every_set test (y ∷ ys) (suc k) x h p =
    let b = and_parts (test y) (every test ys) h in
    and_from (test y) (every test (set ys k x)) b.0 (every_set test ys k x b.1 p)

-- a test of mapped elements is a test of the elements
pub every_map : {X Y : Type 0} (f : Y → X) (test : X → Bool) (ys : List Y) → every test (map f ys) ≡ every (λ y. test (f y)) ys
every_map f test [] = refl
every_map f test (y ∷ ys) = ap (λ b. test (f y) && b) (every_map f test ys)

-- every test holds of each element that meets it by its own
pub every_all : {X : Type 0} (test : X → Bool) → ((x : X) → test x ≡ true) → (xs : List X) → every test xs ≡ true
every_all test w [] = refl
every_all test w (x ∷ xs) = and_from (test x) (every test xs) (w x) (every_all test w xs)

or_false : (a : Bool) → (a || false) ≡ (false || a)
or_false true = refl
or_false false = refl

or_assoc : (a b c : Bool) → ((a || b) || c) ≡ (a || (b || c))
or_assoc true b c = refl
or_assoc false b c = refl

-- a test at one element more
pub any_push : {X : Type 0} (test : X → Bool) (xs : List X) (x : X) → any test (xs ++ (x ∷ [])) ≡ (any test xs || test x)
any_push test [] x = or_false (test x)
any_push test (y ∷ ys) x = ap (λ b. test y || b) (any_push test ys x) ∙ sym (or_assoc (test y) (any test ys) (test x))

-- two tests that each hold of every element hold together
pub every_both : {X : Type 0} (test other : X → Bool) (xs : List X) → every test xs ≡ true → every other xs ≡ true → every (λ x. test x && other x) xs ≡ true
every_both test other [] h k = refl
every_both test other (x ∷ xs) h k =
    let a = and_parts (test x) (every test xs) h in
    let b = and_parts (other x) (every other xs) k in
    and_from (test x && other x) (every (λ y. test y && other y) xs) (and_from (test x) (other x) a.0 b.0) (every_both test other xs a.1 b.1)
