-- What stands in lists that were edited: each item of the new list stood in the old one, or is the new one.
use Rattle.std.proofs.Common.{ℕ, zero, suc, ◌≡◌, ◌+◌, ◌⊎◌, inl, inr, Bool, true, false, cond, List, [], ◌∷◌, ◌++◌, set, replicate, refl, sym, ap, ◌∙◌, subst, ⊎_elim, arith}
use Rattle.std.specs.List.{Contains, flat_map}
use Rattle.std.proofs.lemmas.List.Elements.{Contains-append_left, Contains-append_right, Contains-append_cases}
use Rattle.vv_flat.specs.State.{Piece}
use Rattle.vv_flat.specs.Lists.{first_changed, put_before, first_removed, mapped_from}

-- ---- the first item, or one behind it
pub here : {A : Type 0} (x : A) (xs : List A) → Contains (x ∷ xs) x
here x xs = (0, omega arith, refl)

pub there : {A : Type 0} (x : A) (xs : List A) (a : A) → Contains xs a → Contains (x ∷ xs) a
there x xs a (k, lt, e) = (suc k, omega arith, e)

pub first_or_behind : {A : Type 0} (x : A) (xs : List A) (a : A) → Contains (x ∷ xs) a → (x ≡ a) ⊎ Contains xs a
first_or_behind x xs a (zero, lt, e) = inl e
first_or_behind x xs a (suc k, lt, e) = inr (k, omega arith, e)

pub none_in : {A : Type 0} (a : A) → Contains [] a → ⊥
none_in a (k, lt, e) = absurd (omega arith)

-- ---- edits of lists, seen through what is made of each item
module _ {A B : Type 0} (f : A → List B) where
  pub in_put : (test : A → Bool) (x : A) (xs : List A) (b : B) → Contains (flat_map f (put_before test x xs)) b → Contains (f x) b ⊎ Contains (flat_map f xs) b
  in_put test x [] b h = Contains-append_cases (f x) [] b h
  in_put test x (y ∷ ys) b h = go (test y) (in_put test x ys b) h
    where
      go : (t : Bool) → (Contains (flat_map f (put_before test x ys)) b → Contains (f x) b ⊎ Contains (flat_map f ys) b)
          → Contains (flat_map f (cond t (x ∷ y ∷ ys) (y ∷ put_before test x ys))) b → Contains (f x) b ⊎ Contains (flat_map f (y ∷ ys)) b
      go true later h = Contains-append_cases (f x) (flat_map f (y ∷ ys)) b h
      go false later h = ⊎_elim
          (λ front. inr (Contains-append_left (f y) (flat_map f ys) b front))
          (λ back. ⊎_elim (λ new. inl new) (λ old. inr (Contains-append_right (f y) (flat_map f ys) b old)) (later back))
          (Contains-append_cases (f y) (flat_map f (put_before test x ys)) b h)

  pub in_removed : (test : A → Bool) (xs : List A) (b : B) → Contains (flat_map f (first_removed test xs)) b → Contains (flat_map f xs) b
  in_removed test [] b h = h
  in_removed test (y ∷ ys) b h = go (test y) (in_removed test ys b) h
    where
      go : (t : Bool) → (Contains (flat_map f (first_removed test ys)) b → Contains (flat_map f ys) b)
          → Contains (flat_map f (cond t ys (y ∷ first_removed test ys))) b → Contains (flat_map f (y ∷ ys)) b
      go true later h = Contains-append_right (f y) (flat_map f ys) b h
      go false later h = ⊎_elim
          (λ front. Contains-append_left (f y) (flat_map f ys) b front)
          (λ back. Contains-append_right (f y) (flat_map f ys) b (later back))
          (Contains-append_cases (f y) (flat_map f (first_removed test ys)) b h)

  -- an item that was there, and what it is changed to
  pub in_changed : (test : A → Bool) (g : A → A) (xs : List A) (b : B) → Contains (flat_map f (first_changed test g xs)) b
      → Contains (flat_map f xs) b ⊎ ((x : A) × Contains xs x × Contains (f (g x)) b)
  in_changed test g [] b h = inl h
  in_changed test g (y ∷ ys) b h = go (test y) (in_changed test g ys b) h
    where
      go : (t : Bool) → (Contains (flat_map f (first_changed test g ys)) b → Contains (flat_map f ys) b ⊎ ((x : A) × Contains ys x × Contains (f (g x)) b))
          → Contains (flat_map f (cond t (g y ∷ ys) (y ∷ first_changed test g ys))) b → Contains (flat_map f (y ∷ ys)) b ⊎ ((x : A) × Contains (y ∷ ys) x × Contains (f (g x)) b)
      go true later h = ⊎_elim
          (λ front. inr (y, here y ys, front))
          (λ back. inl (Contains-append_right (f y) (flat_map f ys) b back))
          (Contains-append_cases (f (g y)) (flat_map f ys) b h)
      go false later h = ⊎_elim
          (λ front. inl (Contains-append_left (f y) (flat_map f ys) b front))
          (λ back. ⊎_elim
          (λ old. inl (Contains-append_right (f y) (flat_map f ys) b old))
          (λ (w : (x : A) × Contains ys x × Contains (f (g x)) b). inr (w.0, there y ys w.0 w.1, w.2))
          (later back))
          (Contains-append_cases (f y) (flat_map f (first_changed test g ys)) b h)

  -- what is made of an item stands in what is made of all
  pub in_all : (x : A) (xs : List A) (b : B) → Contains xs x → Contains (f x) b → Contains (flat_map f xs) b
  in_all x [] b at h = absurd (none_in x at)
  in_all x (y ∷ ys) b at h = ⊎_elim
      (λ e. Contains-append_left (f y) (flat_map f ys) b (subst (λ z. Contains (f z) b) (sym e) h))
      (λ rest. Contains-append_right (f y) (flat_map f ys) b (in_all x ys b rest h))
      (first_or_behind y ys x at)

-- ---- entries with their indexes
abbrev pub numbered_from : {X : Type 0} → ℕ → List X → List (Piece X)
numbered_from first xs = mapped_from (λ i x. record { index = i; chunk = x }) first xs

-- an entry of a list is another one
pub in_set : {X : Type 0} (first i : ℕ) (e : X) (xs : List X) (a : Piece X) → Contains (numbered_from first (set xs i e)) a
    → Contains (numbered_from first xs) a ⊎ (record { index = first + i; chunk = e } ≡ a)
in_set first i e [] a h = inl h
in_set first zero e (x ∷ xs) a h = ⊎_elim
    (λ is. inr (ap (λ n. record { index = n; chunk = e }) (omega arith) ∙ is))
    (λ rest. inl (there (record { index = first; chunk = x }) (numbered_from (first + 1) xs) a rest))
    (first_or_behind (record { index = first; chunk = e }) (numbered_from (first + 1) xs) a h)
in_set first (suc i) e (x ∷ xs) a h = ⊎_elim
    (λ is. inl (subst (λ b. Contains (numbered_from first (x ∷ xs)) b) is (here (record { index = first; chunk = x }) (numbered_from (first + 1) xs))))
    (λ rest. ⊎_elim
    (λ old. inl (there (record { index = first; chunk = x }) (numbered_from (first + 1) xs) a old))
    (λ is. inr (ap (λ n. record { index = n; chunk = e }) (omega arith) ∙ is))
    (in_set (first + 1) i e xs a rest))
    (first_or_behind (record { index = first; chunk = x }) (numbered_from (first + 1) (set xs i e)) a h)

-- equal entries behind a list
pub in_longer : {X : Type 0} (first n : ℕ) (e : X) (xs : List X) (a : Piece X) → Contains (numbered_from first (xs ++ replicate n e)) a
    → Contains (numbered_from first xs) a ⊎ (e ≡ a.chunk)
in_longer first zero e [] a h = inl h
in_longer first (suc n) e [] a h = ⊎_elim
    (λ is. inr (ap (λ b. b.chunk) is))
    (λ rest. ⊎_elim (λ bad. absurd (none_in a bad)) (λ is. inr is) (in_longer (first + 1) n e [] a rest))
    (first_or_behind (record { index = first; chunk = e }) (numbered_from (first + 1) (replicate n e)) a h)
in_longer first n e (x ∷ xs) a h = ⊎_elim
    (λ is. inl (subst (λ b. Contains (numbered_from first (x ∷ xs)) b) is (here (record { index = first; chunk = x }) (numbered_from (first + 1) xs))))
    (λ rest. ⊎_elim
    (λ old. inl (there (record { index = first; chunk = x }) (numbered_from (first + 1) xs) a old))
    (λ is. inr is)
    (in_longer (first + 1) n e xs a rest))
    (first_or_behind (record { index = first; chunk = x }) (numbered_from (first + 1) (xs ++ replicate n e)) a h)

-- an entry with its index stands in the list
pub chunk_in : {X : Type 0} (first : ℕ) (xs : List X) (a : Piece X) → Contains (numbered_from first xs) a → Contains xs a.chunk
chunk_in first [] a h = absurd (none_in a h)
chunk_in first (x ∷ xs) a h = ⊎_elim
    (λ is. subst (λ b. Contains (x ∷ xs) b.chunk) is (here x xs))
    (λ rest. there x xs a.chunk (chunk_in (first + 1) xs a rest))
    (first_or_behind (record { index = first; chunk = x }) (numbered_from (first + 1) xs) a h)
