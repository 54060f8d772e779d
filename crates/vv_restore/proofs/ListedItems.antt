-- An item of a list between those ahead of it and those behind it, as a loop over a list that was lent meets it: for tables whose
-- items are added one after the other.
use Rattle.std.proofs.Common.{ℕ, ◌≡◌, ◌+◌, ◌<◌, ◌≤◌, List, ◌∷◌, ◌++◌, length, take, drop, get_or, ap, ◌∙◌, subst, arith, length-append}
use Rattle.vv_restore.proofs.TakenItems.{item_split}

-- the list around the item at an index of what was lent
pub listed_row : {A : Type 0} (xs lent : List A) (i : ℕ) (x : A) → lent ≡ xs → i < length lent → x ≡ get_or lent i x
    → xs ≡ take i xs ++ x ∷ drop (i + 1) xs
listed_row xs lent i x same lt is = item_split xs i x (subst (λ ys. i < length ys) same lt) (is ∙ ap (λ ys. get_or ys i x) same)

-- there are fewer ahead of it than in all
pub listed_fewer : {A : Type 0} (most : ℕ) (front : List A) (x : A) (back : List A) → length (front ++ x ∷ back) ≤ most → length front < most
listed_fewer most front x back few =
    let all : length (front ++ x ∷ back) ≡ length front + length (x ∷ back) = length-append front (x ∷ back) in
    omega (arith, few, all)
