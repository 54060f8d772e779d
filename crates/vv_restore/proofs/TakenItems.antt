-- For loops that take one item of a list after another: the items ahead of one, the item, and those behind it.
use Rattle.std.proofs.Common.{ℕ, ◌≡◌, ◌+◌, ◌<◌, Bool, true, List, [], ◌∷◌, ◌++◌, length, take, drop, get_or, sym, ap, ◌∙◌}
use Rattle.std.specs.List.{list_all}
use Rattle.std.proofs.lemmas.List.{drop_more, take_more, take-append-drop}
use Rattle.vv_flat.proofs.Shares.{and_left, and_right}

module _ {A : Type 0} (xs : List A) (i : ℕ) (x : A) (lt : i < length xs) (at : x ≡ get_or xs i x) where
  -- all items
  pub item_split : xs ≡ take i xs ++ x ∷ drop (i + 1) xs
  item_split =
      sym (take-append-drop i xs)
      ∙ ap (λ (ys : List A). take i xs ++ ys) (drop_more xs i x lt)
      ∙ ap (λ (y : A). take i xs ++ y ∷ drop (i + 1) xs) (sym at)

  -- the items so far, and the item
  pub item_next : take i xs ++ x ∷ [] ≡ take (i + 1) xs
  item_next = ap (λ (y : A). take i xs ++ y ∷ []) at ∙ sym (take_more xs i x lt)

-- what all items pass, one of them passes
pub item_passes : {A : Type 0} (p : A → Bool) (front : List A) (x : A) (back : List A) → list_all p (front ++ x ∷ back) ≡ true → p x ≡ true
item_passes p [] x back all = and_left (p x) (list_all p back) all
item_passes p (y ∷ front) x back all = item_passes p front x back (and_right (p y) (list_all p (front ++ x ∷ back)) all)
