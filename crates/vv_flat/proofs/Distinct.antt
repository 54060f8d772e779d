-- How many distinct pieces a list has. Where each piece of one list is in another, the first has no more of them.
use Rattle.std.proofs.Common.{◌≡◌, ◌≤◌, ℕ, suc, ◌+◌, ◌==◌, ◌&&◌, ◌||◌, not, refl, ap, sym, ◌∙◌, Bool, true, false, cond, List, [], ◌∷◌, ◌++◌, length, arith}
use Rattle.std.specs.List.{list_any, list_all, filter}
use Rattle.std.proofs.lemmas.List.{append-nil}
use Rattle.std.proofs.lemmas.Bool.{eqb-true, eq-eqb}
use Rattle.vv_flat.specs.State.{Piece, Durable, all_pieces}
use Rattle.vv_flat.specs.Space.{distinct, used}
use Rattle.vv_flat.proofs.Shares.{and_left, and_right, and_both}

abbrev pub same_piece : Piece ℕ → Piece ℕ → Bool
same_piece p q = (p.index == q.index) && (p.chunk == q.chunk)

abbrev pub member : Piece ℕ → List (Piece ℕ) → Bool
member p ps = list_any (same_piece p) ps

count : List (Piece ℕ) → ℕ
count ps = length (distinct ps)

-- one more, or no more
more : Bool → ℕ → ℕ
more true n = n
more false n = suc n

length-cond : (b : Bool) (p : Piece ℕ) (ps : List (Piece ℕ)) → length (cond b ps (p ∷ ps)) ≡ more b (length ps)
unfolding more
length-cond true p ps = refl
length-cond false p ps = refl

count-cons : (p : Piece ℕ) (ps : List (Piece ℕ)) → count (p ∷ ps) ≡ more (member p ps) (count ps)
unfolding count
count-cons p ps = length-cond (member p ps) p (distinct ps)

more_member : (b : Bool) (n : ℕ) → b ≡ true → more b n ≡ n
unfolding more
more_member true n e = refl
more_member false n e = cc

more_least : (b : Bool) (n : ℕ) → n ≤ more b n
unfolding more
more_least true n = omega arith
more_least false n = omega arith

more_most : (b : Bool) (n : ℕ) → more b n ≤ suc n
unfolding more
more_most true n = omega arith
more_most false n = omega arith

or_false : (a : Bool) → (a || false) ≡ a
or_false true = refl
or_false false = refl

or_swap : (a b c : Bool) → (a || (b || c)) ≡ (b || (a || c))
or_swap true true c = refl
or_swap true false c = refl
or_swap false b c = refl

-- a piece put in elsewhere
member-put : (p q : Piece ℕ) (xs ys : List (Piece ℕ)) → member p (xs ++ q ∷ ys) ≡ (same_piece p q || member p (xs ++ ys))
member-put p q [] ys = refl
member-put p q (x ∷ xs) ys =
    ap (λ b. same_piece p x || b) (member-put p q xs ys) ∙ or_swap (same_piece p x) (same_piece p q) (member p (xs ++ ys))

same_is : (p q : Piece ℕ) → same_piece p q ≡ true → p ≡ q
same_is p q e =
    let i : p.index ≡ q.index = eqb-true p.index q.index (and_left (p.index == q.index) (p.chunk == q.chunk) e) in
    let c : p.chunk ≡ q.chunk = eqb-true p.chunk q.chunk (and_right (p.index == q.index) (p.chunk == q.chunk) e) in
    ap (λ k. record { index = k; chunk = p.chunk }) i ∙ ap (λ k. record { index = q.index; chunk = k }) c

pub same_refl : (p : Piece ℕ) → same_piece p p ≡ true
same_refl p = and_both (p.index == p.index) (p.chunk == p.chunk) (eq-eqb p.index p.index refl) (eq-eqb p.chunk p.chunk refl)

same_turn : (p q : Piece ℕ) → same_piece p q ≡ true → same_piece q p ≡ true
same_turn p q e = let s : p ≡ q = same_is p q e in rw s (same_refl q)

-- two pieces put in, in either order
swap_more : (e e' m k : Bool) (n : ℕ) → (e ≡ true → e' ≡ true) → (e' ≡ true → e ≡ true) → (e ≡ true → m ≡ k)
    → more (e || m) (more k n) ≡ more (e' || k) (more m n)
unfolding more
swap_more true true m k n to from same = ap (λ b. more b n) (sym (same refl))
swap_more true false m k n to from same = let f : false ≡ true = to refl in cc
swap_more false true m k n to from same = let f : false ≡ true = from refl in cc
swap_more false false true true n to from same = refl
swap_more false false true false n to from same = refl
swap_more false false false true n to from same = refl
swap_more false false false false n to from same = refl

count-put : (y : Piece ℕ) (xs ys : List (Piece ℕ)) → count (xs ++ y ∷ ys) ≡ count (y ∷ xs ++ ys)
count-put y [] ys = refl
count-put y (x ∷ xs) ys =
    count-cons x (xs ++ y ∷ ys)
    ∙ ap (λ b. more b (count (xs ++ y ∷ ys))) (member-put x y xs ys)
    ∙ ap (λ n. more (same_piece x y || member x (xs ++ ys)) n) (count-put y xs ys ∙ count-cons y (xs ++ ys))
    ∙ swap_more (same_piece x y) (same_piece y x) (member x (xs ++ ys)) (member y (xs ++ ys)) (count (xs ++ ys))
    (same_turn x y) (same_turn y x) (λ e. ap (λ z. member z (xs ++ ys)) (same_is x y e))
    ∙ ap (λ n. more (same_piece y x || member y (xs ++ ys)) n) (sym (count-cons x (xs ++ ys)))
    ∙ sym (count-cons y (x ∷ xs ++ ys))

member-left : (p : Piece ℕ) (xs ys : List (Piece ℕ)) → member p xs ≡ true → member p (xs ++ ys) ≡ true
member-left p [] ys e = cc
member-left p (x ∷ xs) ys e = go (same_piece p x) e (member-left p xs ys)
  where
    go : (b : Bool) → (b || member p xs) ≡ true → (member p xs ≡ true → member p (xs ++ ys) ≡ true) → (b || member p (xs ++ ys)) ≡ true
    go true f there = refl
    go false f there = there f

-- pieces that are there already add nothing
count-members : (ys xs : List (Piece ℕ)) → list_all (λ p. member p ys) xs ≡ true → count (ys ++ xs) ≡ count ys
count-members ys [] e = ap count (append-nil ys)
count-members ys (x ∷ xs) e =
    count-put x ys xs ∙ count-cons x (ys ++ xs)
    ∙ more_member (member x (ys ++ xs)) (count (ys ++ xs)) (member-left x ys xs (and_left (member x ys) (list_all (λ p. member p ys) xs) e))
    ∙ count-members ys xs (and_right (member x ys) (list_all (λ p. member p ys) xs) e)

count-more : (ys xs : List (Piece ℕ)) → count xs ≤ count (ys ++ xs)
count-more [] xs = omega arith
count-more (y ∷ ys) xs =
    let c : count (y ∷ ys ++ xs) ≡ more (member y (ys ++ xs)) (count (ys ++ xs)) = count-cons y (ys ++ xs) in
    let m : count (ys ++ xs) ≤ more (member y (ys ++ xs)) (count (ys ++ xs)) = more_least (member y (ys ++ xs)) (count (ys ++ xs)) in
    let h : count xs ≤ count (ys ++ xs) = count-more ys xs in
    omega (arith, c, m, h)

count-new : (ns ys : List (Piece ℕ)) → count (ns ++ ys) ≤ length ns + count ys
count-new [] ys = omega arith
count-new (n ∷ ns) ys =
    let c : count (n ∷ ns ++ ys) ≡ more (member n (ns ++ ys)) (count (ns ++ ys)) = count-cons n (ns ++ ys) in
    let m : more (member n (ns ++ ys)) (count (ns ++ ys)) ≤ suc (count (ns ++ ys)) = more_most (member n (ns ++ ys)) (count (ns ++ ys)) in
    let h : count (ns ++ ys) ≤ length ns + count ys = count-new ns ys in
    omega (arith, c, m, h)

-- where each piece of one list is in another, the first has no more distinct ones
count-within : (xs ys : List (Piece ℕ)) → list_all (λ p. member p ys) xs ≡ true → count xs ≤ count ys
count-within xs ys e =
    let c : count (ys ++ xs) ≡ count ys = count-members ys xs e in
    let m : count xs ≤ count (ys ++ xs) = count-more ys xs in
    omega (arith, c, m)

abbrev pub is_some_piece : Piece ℕ → Bool
is_some_piece p = not (p.chunk == 0)

-- a piece that is unmapped, or new, or was there
abbrev pub is_known : List (Piece ℕ) → Piece ℕ → Bool
is_known known p = (p.chunk == 0) || member p known

kept_step : (known : List (Piece ℕ)) (x : Piece ℕ) (xs : List (Piece ℕ)) (z : Bool) → (z || member x known) ≡ true
    → list_all (λ p. member p known) xs ≡ true → list_all (λ p. member p known) (cond (not z) (x ∷ xs) xs) ≡ true
kept_step known x xs true e h = h
kept_step known x xs false e h = and_both (member x known) (list_all (λ p. member p known) xs) e h

some_known : (known ps : List (Piece ℕ)) → list_all (is_known known) ps ≡ true
    → list_all (λ p. member p known) (filter is_some_piece ps) ≡ true
some_known known [] e = refl
some_known known (x ∷ xs) e =
    kept_step known x (filter is_some_piece xs) (x.chunk == 0) (and_left (is_known known x) (list_all (is_known known) xs) e)
    (some_known known xs (and_right (is_known known x) (list_all (is_known known) xs) e))

-- the pool that is used grows by no more than the new pieces
pub used_within : (d e : Durable ℕ) (new : List (Piece ℕ))
    → list_all (is_known (new ++ filter is_some_piece (all_pieces d))) (all_pieces e) ≡ true
    → used e ≤ length new + used d
unfolding used count
used_within d e new h =
    let w : count (filter is_some_piece (all_pieces e)) ≤ count (new ++ filter is_some_piece (all_pieces d)) =
    count-within (filter is_some_piece (all_pieces e)) (new ++ filter is_some_piece (all_pieces d))
    (some_known (new ++ filter is_some_piece (all_pieces d)) (all_pieces e) h) in
    let n : count (new ++ filter is_some_piece (all_pieces d)) ≤ length new + count (filter is_some_piece (all_pieces d)) =
    count-new new (filter is_some_piece (all_pieces d)) in
    omega (arith, w, n)
