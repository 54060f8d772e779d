-- Edits of lists go with a function of their items: editing and then mapping is mapping and then editing. The law that
-- a change goes with a function of the chunks rests on these.
use Rattle.std.proofs.Common.{◌≡◌, ℕ, zero, suc, ◌+◌, refl, ap, Bool, true, false, cond, List, [], ◌∷◌, map, replicate, set}
use Rattle.std.specs.Prelude.{Some}
use Rattle.std.specs.List.{find, filter}
use Rattle.std.proofs.lemmas.List.{map-set}
use Rattle.vv_flat.specs.Lists.{if_found, first_changed, put_before, first_removed, put_at, mapped_from}

-- a function of a choice is the choice of its values
pub of_cond : {A B : Type 0} (f : A → B) (b : Bool) {u v : A} {u' v' : B} → f u ≡ u' → f v ≡ v' → f (cond b u v) ≡ cond b u' v'
of_cond f true p q = p
of_cond f false p q = q

module _ {A B : Type 0} (f : A → B) (p : A → Bool) (q : B → Bool) (same : (x : A) → q (f x) ≡ p x) where
  pub map-first_changed : (g : A → A) (h : B → B) → ((x : A) → f (g x) ≡ h (f x)) → (xs : List A)
      → map f (first_changed p g xs) ≡ first_changed q h (map f xs)
  map-first_changed g h goes [] = refl
  map-first_changed g h goes (x ∷ xs) =
      rw (same x) (of_cond (map f) (p x) (ap (λ y. y ∷ map f xs) (goes x))
      (ap (λ ys. f x ∷ ys) (map-first_changed g h goes xs)))

  pub map-put_before : (x : A) (y : B) → f x ≡ y → (xs : List A) → map f (put_before p x xs) ≡ put_before q y (map f xs)
  map-put_before x y e [] = ap (λ z. z ∷ []) e
  map-put_before x y e (w ∷ ws) =
      rw (same w) (of_cond (map f) (p w) (ap (λ z. z ∷ f w ∷ map f ws) e)
      (ap (λ ys. f w ∷ ys) (map-put_before x y e ws)))

  pub map-first_removed : (xs : List A) → map f (first_removed p xs) ≡ first_removed q (map f xs)
  map-first_removed [] = refl
  map-first_removed (x ∷ xs) =
      rw (same x) (of_cond (map f) (p x) refl (ap (λ ys. f x ∷ ys) (map-first_removed xs)))

  pub map-filter : (xs : List A) → map f (filter p xs) ≡ filter q (map f xs)
  map-filter [] = refl
  map-filter (x ∷ xs) =
      rw (same x) (of_cond (map f) (p x) (ap (λ ys. f x ∷ ys) (map-filter xs)) (map-filter xs))

  -- what is made of an item that is found, and of none
  pub map-found : {C D : Type 0} (m : C → D) (g : A → C) (h : B → D) (c : C) (d : D) → ((x : A) → m (g x) ≡ h (f x))
      → m c ≡ d → (xs : List A) → m (if_found (find p xs) g c) ≡ if_found (find q (map f xs)) h d
  map-found m g h c d goes e [] = e
  map-found m g h c d goes e (x ∷ xs) =
      rw (same x) (of_cond_found (p x) (goes x) (map-found m g h c d goes e xs))
    where
      of_cond_found : (b : Bool) → m (g x) ≡ h (f x) → m (if_found (find p xs) g c) ≡ if_found (find q (map f xs)) h d
          → m (if_found (cond b (Some x) (find p xs)) g c) ≡ if_found (cond b (Some (f x)) (find q (map f xs))) h d
      of_cond_found true here there = here
      of_cond_found false here there = there

pub map-put_at : {A B : Type 0} (f : A → B) (is : List ℕ) (vs xs : List A)
    → map f (put_at is vs xs) ≡ put_at is (map f vs) (map f xs)
map-put_at f [] vs xs = refl
map-put_at f (i ∷ is) [] xs = refl
map-put_at f (i ∷ is) (v ∷ vs) xs = rw (← (map-set f xs i v)) (map-put_at f is vs (set xs i v))

pub map-mapped_from : {A B A' B' : Type 0} (f : A → A') (k : B → B') (g : ℕ → A → B) (h : ℕ → A' → B')
    → ((i : ℕ) (x : A) → k (g i x) ≡ h i (f x)) → (i : ℕ) (xs : List A) → map k (mapped_from g i xs) ≡ mapped_from h i (map f xs)
map-mapped_from f k g h goes i [] = refl
map-mapped_from f k g h goes i (x ∷ xs) =
    rw (goes i x) (ap (λ ys. h i (f x) ∷ ys) (map-mapped_from f k g h goes (i + 1) xs))

pub map-replicate : {A B : Type 0} (f : A → B) (n : ℕ) (x : A) → map f (replicate n x) ≡ replicate n (f x)
map-replicate f zero x = refl
map-replicate f (suc n) x = ap (λ ys. f x ∷ ys) (map-replicate f n x)

-- two functions that agree, one of them after a third
pub map-after : {A B C : Type 0} (f : A → B) (g : B → C) (h : A → C) → ((x : A) → g (f x) ≡ h x) → (xs : List A)
    → map g (map f xs) ≡ map h xs
map-after f g h same [] = refl
map-after f g h same (x ∷ xs) = rw (same x) (ap (λ ys. h x ∷ ys) (map-after f g h same xs))

pub map-same : {A : Type 0} (f : A → A) → ((x : A) → f x ≡ x) → (xs : List A) → map f xs ≡ xs
map-same f same [] = refl
map-same f same (x ∷ xs) = rw (same x) (ap (λ ys. x ∷ ys) (map-same f same xs))
