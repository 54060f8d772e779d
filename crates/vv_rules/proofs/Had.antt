-- What is in a list, and what holds of each pair of its items in order.
use Rattle.std.proofs.Common.{◌≡◌, ℕ, zero, suc, ◌<◌, ◌≤◌, ◌⊎◌, inl, inr, List, [], ◌∷◌, map, ap, subst, arith, length, get_or}
use Rattle.std.specs.List.{Contains}
use Rattle.std.specs.List.Sorted.{IsPermutation}
use Rattle.std.proofs.lemmas.List.Sorted.{Contains-permutation, IsPermutation-sym}

-- what is in a list
abbrev pub Has : {A : Type 0} → A → List A → Type 0
Has a [] = ⊥
Has a (x ∷ xs) = (x ≡ a) ⊎ Has a xs

contains_more : {A : Type 0} (x a : A) (xs : List A) → Contains xs a → Contains (x ∷ xs) a
contains_more x a xs c = (suc c.0, omega (arith, c.1), c.2)

pub has_contains : {A : Type 0} (a : A) (xs : List A) → Has a xs → Contains xs a
has_contains a [] h = absurd h
has_contains a (x ∷ xs) (inl e) = (0, omega arith, e)
has_contains a (x ∷ xs) (inr h) = contains_more x a xs (has_contains a xs h)

has_at : {A : Type 0} (a : A) (xs : List A) (k : ℕ) → k < length xs → get_or xs k a ≡ a → Has a xs
has_at a [] k h e = absurd (omega arith)
has_at a (x ∷ xs) zero h e = inl e
has_at a (x ∷ xs) (suc k) h e = inr (has_at a xs k (omega arith) e)

pub contains_has : {A : Type 0} (a : A) (xs : List A) → Contains xs a → Has a xs
contains_has a xs c = has_at a xs c.0 c.1 c.2

-- a list in another order has the same items
pub has_permuted : {A : Type 0} (xs ys : List A) (a : A) → IsPermutation xs ys → Has a xs → Has a ys
has_permuted xs ys a p h = contains_has a ys (Contains-permutation xs ys a p (has_contains a xs h))

pub has_back : {A : Type 0} (xs ys : List A) (a : A) → IsPermutation xs ys → Has a ys → Has a xs
has_back xs ys a p h = has_permuted ys xs a (IsPermutation-sym xs ys p) h

pub mapped_has : {A B : Type 0} (f : A → B) (xs : List A) (x : A) → Has x xs → Has (f x) (map f xs)
mapped_has f [] x h = absurd h
mapped_has f (y ∷ ys) x (inl e) = inl (ap f e)
mapped_has f (y ∷ ys) x (inr h) = inr (mapped_has f ys x h)

-- each item with each one behind it
abbrev pub Up : {A : Type 0} → (A → A → Type 0) → List A → Type 0
Up R [] = Unit {0}
Up {A} R (x ∷ xs) = ((y : A) → Has y xs → R x y) × Up R xs

at_place : {A : Type 0} (a : A) (xs : List A) → Has a xs → (k : ℕ) × (k < length xs) × ((d : A) → get_or xs k d ≡ a)
at_place a [] h = absurd h
at_place a (x ∷ xs) (inl e) = (0, omega arith, λ d. e)
at_place a (x ∷ xs) (inr h) = let r = at_place a xs h in (suc r.0, omega (arith, r.1), r.2)

pub up_from : {A : Type 0} (R : A → A → Type 0) (xs : List A) → ((i j : ℕ) (d : A) → i ≤ j → j < length xs → R (get_or xs i d) (get_or xs j d)) → Up R xs
up_from R [] far = tt
up_from R (x ∷ xs) far = (
  λ y h. let r = at_place y xs h in subst (R x) (r.2 x) (far 0 (suc r.0) x (omega arith) (omega (arith, r.1))),
  up_from R xs (λ i j d le lt. far (suc i) (suc j) d (omega arith) (omega arith)),
)
