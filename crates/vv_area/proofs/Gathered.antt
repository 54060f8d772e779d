-- Lists that are gathered in loops, one part behind the other.
use Rattle.std.proofs.Common.{◌≡◌, ℕ, suc, ◌+◌, ◌<◌, ◌++◌, ◌==◌, not, cond, Bool, true, false, List, [], ◌∷◌, map, length, take, get_or, sym, ap, ◌∙◌, arith, append_assoc}
use Rattle.std.specs.Prelude.{Option}
use Rattle.std.specs.List.{flat_map}
use Rattle.std.proofs.lemmas.List.{map-append, append-nil, take_more, length-take}
use Rattle.vv_flat.specs.Lists.{mapped_from, indexes_from}
use Rattle.vv_flat.specs.State.{Piece, indexed}
use Rattle.vv_flat.specs.Chunks.{Entry}
use Rattle.vv_flat.specs.Sharing.{standing}
use Rattle.vv_area.specs.Ruled.{allocated_places}

-- one part more
pub gathers : {A : Type 0} (before all next front more joined : List A) → all ≡ before ++ front → next ≡ all ++ more → joined ≡ front ++ more → next ≡ before ++ joined
gathers before all next front more joined a b e = b ∙ ap (λ l. l ++ more) a ∙ append_assoc before front more ∙ ap (λ l. before ++ l) (sym e)

flat_joined : {A B : Type 0} (f : A → List B) (xs : List A) (x : A) → flat_map f (xs ++ x ∷ []) ≡ flat_map f xs ++ f x
flat_joined f [] x = append-nil (f x)
flat_joined f (y ∷ ys) x = ap (λ l. f y ++ l) (flat_joined f ys x) ∙ sym (append_assoc (f y) (flat_map f ys) (f x))

pub flat_more : {A B : Type 0} (f : A → List B) (xs : List A) (i : ℕ) (x : A) → i < length xs → x ≡ get_or xs i x → flat_map f (take (i + 1) xs) ≡ flat_map f (take i xs) ++ f x
flat_more f xs i x lt is = ap (flat_map f) (take_more xs i x lt) ∙ flat_joined f (take i xs) (get_or xs i x) ∙ ap (λ y. flat_map f (take i xs) ++ f y) (sym is)

pub map_more : {A B : Type 0} (f : A → B) (xs : List A) (i : ℕ) (x : A) → i < length xs → x ≡ get_or xs i x → map f (take (i + 1) xs) ≡ map f (take i xs) ++ f x ∷ []
map_more f xs i x lt is = ap (map f) (take_more xs i x lt) ∙ map-append f (take i xs) (get_or xs i x ∷ []) ∙ ap (λ y. map f (take i xs) ++ f y ∷ []) (sym is)

mapped_joined : {A B : Type 0} (f : ℕ → A → B) (k : ℕ) (xs : List A) (x : A) → mapped_from f k (xs ++ x ∷ []) ≡ mapped_from f k xs ++ f (k + length xs) x ∷ []
mapped_joined f k [] x = let e : k ≡ k + 0 = omega arith in ap (λ n. f n x ∷ []) e
mapped_joined f k (y ∷ ys) x =
    let e : k + 1 + length ys ≡ k + suc (length ys) = omega arith in
    ap (λ l. f k y ∷ l) (mapped_joined f (k + 1) ys x ∙ ap (λ n. mapped_from f (k + 1) ys ++ f n x ∷ []) e)

pub indexed_more : (o : Option ℕ) (xs : List Entry) (i : ℕ) (x : Entry) → i < length xs → x ≡ get_or xs i x
    → standing o (indexed (take (i + 1) xs)) ≡ standing o (indexed (take i xs)) ++ record { target_of = o; piece = record { index = i; chunk = x } } ∷ []
indexed_more o xs i x lt is =
    let long : 0 + length (take i xs) ≡ i = omega (arith, length-take {A = Entry}) in
    ap (λ l. standing o (indexed l)) (take_more xs i x lt)
    ∙ ap (standing o) (mapped_joined (λ i x. record { index = i; chunk = x }) 0 (take i xs) (get_or xs i x))
    ∙ map-append (λ (a : Piece Entry). record { target_of = o; piece = a }) (indexed (take i xs)) _
    ∙ ap (λ n. standing o (indexed (take i xs)) ++ record { target_of = o; piece = record { index = n; chunk = get_or xs i x } } ∷ []) long
    ∙ ap (λ y. standing o (indexed (take i xs)) ++ record { target_of = o; piece = record { index = i; chunk = y } } ∷ []) (sym is)

indexes_joined : {A : Type 0} (f : ℕ → A → Bool) (k : ℕ) (xs : List A) (x : A) → indexes_from f k (xs ++ x ∷ []) ≡ indexes_from f k xs ++ cond (f (k + length xs) x) ((k + length xs) ∷ []) []
indexes_joined f k [] x = let e : k ≡ k + 0 = omega arith in ap (λ n. cond (f n x) (n ∷ []) []) e
indexes_joined f k (y ∷ ys) x =
    let e : k + 1 + length ys ≡ k + suc (length ys) = omega arith in
    step (f k y) (indexes_joined f (k + 1) ys x ∙ ap (λ n. indexes_from f (k + 1) ys ++ cond (f n x) (n ∷ []) []) e)
  where
    step : (b : Bool) → indexes_from f (k + 1) (ys ++ x ∷ []) ≡ indexes_from f (k + 1) ys ++ cond (f (k + suc (length ys)) x) ((k + suc (length ys)) ∷ []) []
        → cond b (k ∷ indexes_from f (k + 1) (ys ++ x ∷ [])) (indexes_from f (k + 1) (ys ++ x ∷ []))
        ≡ cond b (k ∷ indexes_from f (k + 1) ys) (indexes_from f (k + 1) ys) ++ cond (f (k + suc (length ys)) x) ((k + suc (length ys)) ∷ []) []
    step true h = ap (λ l. k ∷ l) h
    step false h = h

pub places_more : (xs : List Entry) (i : ℕ) (x : Entry) → i < length xs → x ≡ get_or xs i x → allocated_places (take (i + 1) xs) ≡ allocated_places (take i xs) ++ cond (not (x.stamp == 0)) (i ∷ []) []
places_more xs i x lt is =
    let long : 0 + length (take i xs) ≡ i = omega (arith, length-take {A = Entry}) in
    ap allocated_places (take_more xs i x lt)
    ∙ indexes_joined (λ i (e : Entry). not (e.stamp == 0)) 0 (take i xs) (get_or xs i x)
    ∙ ap (λ n. allocated_places (take i xs) ++ cond (not ((get_or xs i x).stamp == 0)) (n ∷ []) []) long
    ∙ ap (λ (y : Entry). allocated_places (take i xs) ++ cond (not (y.stamp == 0)) (i ∷ []) []) (sym is)

pub places_go_on : (xs : List Entry) (i : ℕ) (x : Entry) (places next : List ℕ) → i < length xs → x ≡ get_or xs i x → places ≡ allocated_places (take i xs)
    → next ≡ places ++ cond (not (x.stamp == 0)) (i ∷ []) [] → next ≡ allocated_places (take (i + 1) xs)
places_go_on xs i x places next lt is before step = step ∙ ap (λ l. l ++ cond (not (x.stamp == 0)) (i ∷ []) []) before ∙ sym (places_more xs i x lt is)
