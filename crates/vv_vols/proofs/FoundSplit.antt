-- A list around the first item that passes a test.
use Rattle.std.proofs.Common.{suc, ◌≡◌, ◌+◌, Bool, true, false, cond, not, List, [], ◌∷◌, ◌++◌, map, get_or, set, Some, find, refl, sym, ap, ◌∙◌, subst, arith}
use Rattle.std.specs.Prelude.{IsSome}
use Rattle.std.specs.List.{All, position_or_len}
use Rattle.std.proofs.lemmas.List.Elements.{All-nil, All-cons, All-head, All-tail}
use Rattle.vv_flat.specs.Lists.{first_changed, first_removed}

pub record Split {A : Type 0} (p : A → Bool) (xs : List A) (x : A) : Type 0 where
  pub front : List A
  pub back : List A
  pub whole : xs ≡ front ++ (x ∷ back)
  pub removed : first_removed p xs ≡ front ++ back
  pub put : (y : A) → set xs (position_or_len p xs) y ≡ front ++ (y ∷ back)
  pub misses : All (λ y. p y ≡ false) front
  pub hits : p x ≡ true

module _ {A : Type 0} (p : A → Bool) where
  split_here : (y x : A) (ys : List A) → p y ≡ true → y ≡ x → Split p (y ∷ ys) x
  split_here y x ys passes same = record {
    front = [];
    back = ys;
    whole = ap (λ z. z ∷ ys) same;
    removed = ap (λ b. cond b ys (y ∷ first_removed p ys)) passes;
    put = λ z. ap (λ b. set (y ∷ ys) (cond (not b) (1 + position_or_len p ys) 0) z) passes;
    misses = All-nil (λ w. p w ≡ false);
    hits = ap p (sym same) ∙ passes;
  }

  split_behind : (y x : A) (ys : List A) → p y ≡ false → Split p ys x → Split p (y ∷ ys) x
  split_behind y x ys misses rest = record {
    front = y ∷ rest.front;
    back = rest.back;
    whole = ap (λ zs. y ∷ zs) rest.whole;
    removed = ap (λ b. cond b ys (y ∷ first_removed p ys)) misses ∙ ap (λ zs. y ∷ zs) rest.removed;
    put = λ z.
        let next : 1 + position_or_len p ys ≡ suc (position_or_len p ys) = omega arith in
        ap (λ b. set (y ∷ ys) (cond (not b) (1 + position_or_len p ys) 0) z) misses
        ∙ ap (λ k. set (y ∷ ys) k z) next ∙ ap (λ zs. y ∷ zs) (rest.put z);
    misses = All-cons (λ w. p w ≡ false) y rest.front misses rest.misses;
    hits = rest.hits;
  }

  pub found_split : (xs : List A) (x : A) → find p xs ≡ Some x → Split p xs x
  found_split [] x e = absurd (cc)
  found_split (y ∷ ys) x e = go (p y) refl (found_split ys x) e
    where
      go : (b : Bool) → p y ≡ b → (find p ys ≡ Some x → Split p ys x) → cond b (Some y) (find p ys) ≡ Some x → Split p (y ∷ ys) x
      go true passes later e = let same : y ≡ x = cc in split_here y x ys passes same
      go false misses later e = split_behind y x ys misses (later e)

  -- an item that stands at the place of the first that passes is found
  pub found_there : (xs : List A) (x : A) → IsSome (find p xs) → x ≡ get_or xs (position_or_len p xs) x → find p xs ≡ Some x
  found_there [] x some e = absurd (cc)
  found_there (y ∷ ys) x some e = go (p y) (found_there ys x) some e
    where
      go : (b : Bool) → (IsSome (find p ys) → x ≡ get_or ys (position_or_len p ys) x → find p ys ≡ Some x) → IsSome (cond b (Some y) (find p ys)) → x ≡ get_or (y ∷ ys) (cond (not b) (1 + position_or_len p ys) 0) x → cond b (Some y) (find p ys) ≡ Some x
      go true later some e = ap Some (sym e)
      go false later some e =
          let next : 1 + position_or_len p ys ≡ suc (position_or_len p ys) = omega arith in
          later some (e ∙ ap (λ k. get_or (y ∷ ys) k x) next)

  -- what holds of all items holds of the one that is found
  pub all_found : (P : A → Type 0) (xs : List A) (x : A) → All P xs → find p xs ≡ Some x → P x
  all_found P [] x all e = absurd (cc)
  all_found P (y ∷ ys) x all e = go (p y) (all_found P ys x (All-tail P y ys all)) e
    where
      go : (b : Bool) → (find p ys ≡ Some x → P x) → cond b (Some y) (find p ys) ≡ Some x → P x
      go true later e = let same : y ≡ x = cc in subst P same (All-head P y ys all)
      go false later e = later e

  module _ {B : Type 0} (g : A → B) (q : B → Bool) (same : (y : A) → q (g y) ≡ p y) where
    pub changed_around : (f : B → B) (front : List A) (x : A) (back : List A) → All (λ y. p y ≡ false) front → p x ≡ true
        → first_changed q f (map g (front ++ (x ∷ back))) ≡ map g front ++ (f (g x) ∷ map g back)
    changed_around f [] x back misses hits = ap (λ b. cond b (f (g x) ∷ map g back) (g x ∷ first_changed q f (map g back))) (same x ∙ hits)
    changed_around f (y ∷ ys) x back misses hits =
        ap (λ b. cond b (f (g y) ∷ map g (ys ++ (x ∷ back))) (g y ∷ first_changed q f (map g (ys ++ (x ∷ back))))) (same y ∙ All-head (λ w. p w ≡ false) y ys misses)
        ∙ ap (λ zs. g y ∷ zs) (changed_around f ys x back (All-tail (λ w. p w ≡ false) y ys misses) hits)

    pub found_mapped : (xs : List A) (x : A) → find p xs ≡ Some x → find q (map g xs) ≡ Some (g x)
    found_mapped [] x e = absurd (cc)
    found_mapped (y ∷ ys) x e = ap (λ b. cond b (Some (g y)) (find q (map g ys))) (same y) ∙ go (p y) (found_mapped ys x) e
      where
        go : (b : Bool) → (find p ys ≡ Some x → find q (map g ys) ≡ Some (g x)) → cond b (Some y) (find p ys) ≡ Some x → cond b (Some (g y)) (find q (map g ys)) ≡ Some (g x)
        go true later e = let is : y ≡ x = cc in ap (λ z. Some (g z)) is
        go false later e = later e

    pub some_mapped : (xs : List A) → IsSome (find q (map g xs)) → IsSome (find p xs)
    some_mapped [] h = h
    some_mapped (y ∷ ys) h = go (p y) (some_mapped ys) (subst (λ b. IsSome (cond b (Some (g y)) (find q (map g ys)))) (same y) h)
      where
        go : (b : Bool) → (IsSome (find q (map g ys)) → IsSome (find p ys)) → IsSome (cond b (Some (g y)) (find q (map g ys))) → IsSome (cond b (Some y) (find p ys))
        go true later h = refl
        go false later h = later h
