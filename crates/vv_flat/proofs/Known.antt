-- Which pieces an edit of an array can bring in: those that were there, those that are unmapped, and those that are
-- named as new.
use Rattle.std.proofs.Common.{◌≡◌, ℕ, zero, suc, ◌+◌, ◌==◌, ◌&&◌, ◌||◌, not, refl, ap, sym, ◌∙◌, Bool, true, false, cond, List, [], ◌∷◌, ◌++◌, map, replicate, set, arith}
use Rattle.std.specs.Prelude.{Some}
use Rattle.std.specs.List.{find, list_all, filter, flat_map}
use Rattle.std.proofs.lemmas.List.Folds.{list_all-append}
use Rattle.vv_flat.specs.Lists.{first_changed, put_before, first_removed, put_at, mapped_from}
use Rattle.vv_flat.specs.State.{Durable, Volume, RunningClone, RunningCopy, Piece, indexed, all_pieces}
use Rattle.vv_flat.specs.Chunks.{is_in_ranges}
use Rattle.vv_flat.specs.Tasks.{pieces_put}
use Rattle.vv_flat.proofs.Shares.{and_left, and_right, and_both, list_all-follows}
use Rattle.vv_flat.proofs.Distinct.{same_piece, same_refl, member, is_some_piece, is_known}

-- what holds of each item of a list, and the list edited
module _ {A : Type 0} (r : A → Bool) (p : A → Bool) where
  put_all : (x y : A) (ys : List A) (b : Bool) → r x ≡ true → r y ≡ true → list_all r ys ≡ true
      → list_all r (put_before p x ys) ≡ true → list_all r (cond b (x ∷ y ∷ ys) (y ∷ put_before p x ys)) ≡ true
  put_all x y ys true e f g h = and_both (r x) (r y && list_all r ys) e (and_both (r y) (list_all r ys) f g)
  put_all x y ys false e f g h = and_both (r y) (list_all r (put_before p x ys)) f h

  pub all-put : (x : A) (xs : List A) → r x ≡ true → list_all r xs ≡ true → list_all r (put_before p x xs) ≡ true
  all-put x [] e h = and_both (r x) true e refl
  all-put x (y ∷ ys) e h =
      put_all x y ys (p y) e (and_left (r y) (list_all r ys) h) (and_right (r y) (list_all r ys) h)
      (all-put x ys e (and_right (r y) (list_all r ys) h))

  removed_all : (x : A) (xs : List A) (b : Bool) → r x ≡ true → list_all r xs ≡ true → list_all r (first_removed p xs) ≡ true
      → list_all r (cond b xs (x ∷ first_removed p xs)) ≡ true
  removed_all x xs true e h k = h
  removed_all x xs false e h k = and_both (r x) (list_all r (first_removed p xs)) e k

  pub all-removed : (xs : List A) → list_all r xs ≡ true → list_all r (first_removed p xs) ≡ true
  all-removed [] h = refl
  all-removed (x ∷ xs) h =
      removed_all x xs (p x) (and_left (r x) (list_all r xs) h) (and_right (r x) (list_all r xs) h)
      (all-removed xs (and_right (r x) (list_all r xs) h))

  changed_all : (g : A → A) (x : A) (xs : List A) (b : Bool) → p x ≡ b → r x ≡ true → list_all r xs ≡ true
      → (b ≡ true → r x ≡ true → r (g x) ≡ true) → (b ≡ false → list_all r (first_changed p g xs) ≡ true)
      → list_all r (cond b (g x ∷ xs) (x ∷ first_changed p g xs)) ≡ true
  changed_all g x xs true is e h here there = and_both (r (g x)) (list_all r xs) (here refl e) h
  changed_all g x xs false is e h here there = and_both (r x) (list_all r (first_changed p g xs)) e (there refl)

  pub all-changed : (g : A → A) (xs : List A) → list_all r xs ≡ true
      → ((x : A) → find p xs ≡ Some x → r x ≡ true → r (g x) ≡ true) → list_all r (first_changed p g xs) ≡ true
  all-changed g [] h k = refl
  all-changed g (x ∷ xs) h k =
      changed_all g x xs (p x) refl (and_left (r x) (list_all r xs) h) (and_right (r x) (list_all r xs) h)
      (λ e. k x (rw e)) (λ e. all-changed g xs (and_right (r x) (list_all r xs) h) (λ y found. k y (rw e found)))

  found_all : (x y : A) (xs : List A) (b : Bool) → cond b (Some x) (find p xs) ≡ Some y → r x ≡ true
      → (find p xs ≡ Some y → r y ≡ true) → r y ≡ true
  found_all x y xs true e h there = let same : x ≡ y = cc in rw same at h
  found_all x y xs false e h there = there e

  pub all-found : (y : A) (xs : List A) → list_all r xs ≡ true → find p xs ≡ Some y → r y ≡ true
  all-found y [] h e = cc
  all-found y (x ∷ xs) h e =
      found_all x y xs (p x) e (and_left (r x) (list_all r xs) h) (all-found y xs (and_right (r x) (list_all r xs) h))

  filtered_all : (x : A) (xs : List A) (b : Bool) → r x ≡ true → list_all r (filter p xs) ≡ true
      → list_all r (cond b (x ∷ filter p xs) (filter p xs)) ≡ true
  filtered_all x xs true e h = and_both (r x) (list_all r (filter p xs)) e h
  filtered_all x xs false e h = h

  pub all-filter : (xs : List A) → list_all r xs ≡ true → list_all r (filter p xs) ≡ true
  all-filter [] h = refl
  all-filter (x ∷ xs) h =
      filtered_all x xs (p x) (and_left (r x) (list_all r xs) h) (all-filter xs (and_right (r x) (list_all r xs) h))

pub all-flat_map : {A B : Type 0} (r : B → Bool) (h : A → List B) (xs : List A)
    → list_all r (flat_map h xs) ≡ list_all (λ x. list_all r (h x)) xs
all-flat_map r h [] = refl
all-flat_map r h (x ∷ xs) =
    list_all-append r (h x) (flat_map h xs) ∙ ap (λ b. list_all r (h x) && b) (all-flat_map r h xs)

mk : ℕ → ℕ → Piece ℕ
mk i s = record { index = i; chunk = s }

-- the pieces of some indexes and stamps
abbrev pub pieces_of : List ℕ → List ℕ → List (Piece ℕ)
pieces_of [] vs = []
pieces_of (i ∷ is) [] = []
pieces_of (i ∷ is) (v ∷ vs) = record { index = i; chunk = v } ∷ pieces_of is vs

-- lists of chunks whose pieces are known
module _ (known : List (Piece ℕ)) where
  abbrev pub all_at : ℕ → List ℕ → Bool
  all_at i xs = list_all (is_known known) (mapped_from (λ i x. record { index = i; chunk = x }) i xs)

  pub known-replicate : (i n : ℕ) → all_at i (replicate n 0) ≡ true
  known-replicate i zero = refl
  known-replicate i (suc n) = known-replicate (i + 1) n

  pub known-append : (i n : ℕ) (xs : List ℕ) → all_at i xs ≡ true → all_at i (xs ++ replicate n 0) ≡ true
  known-append i n [] h = known-replicate i n
  known-append i n (x ∷ xs) h =
      and_both (is_known known (record { index = i; chunk = x })) _ (and_left (is_known known (record { index = i; chunk = x })) _ h)
      (known-append (i + 1) n xs (and_right (is_known known (record { index = i; chunk = x })) _ h))

  pub known-set : (j i k : ℕ) (v : ℕ) (xs : List ℕ) → j + i ≡ k → is_known known (record { index = k; chunk = v }) ≡ true
      → all_at j xs ≡ true → all_at j (set xs i v) ≡ true
  known-set j i k v [] e q h = refl
  known-set j zero k v (x ∷ xs) e q h =
      let same : j ≡ k = omega arith in
      and_both (is_known known (record { index = j; chunk = v })) _ (rw same q) (and_right (is_known known (record { index = j; chunk = x })) _ h)
  known-set j (suc i) k v (x ∷ xs) e q h =
      and_both (is_known known (record { index = j; chunk = x })) _ (and_left (is_known known (record { index = j; chunk = x })) _ h)
      (known-set (j + 1) i k v xs (omega arith) q (and_right (is_known known (record { index = j; chunk = x })) _ h))

  pub known-put_at : (is vs xs : List ℕ) → list_all (is_known known) (pieces_of is vs) ≡ true → all_at 0 xs ≡ true
      → all_at 0 (put_at is vs xs) ≡ true
  known-put_at [] vs xs q h = h
  known-put_at (i ∷ is) [] xs q h = h
  known-put_at (i ∷ is) (v ∷ vs) xs q h =
      known-put_at is vs (set xs i v) (and_right (is_known known (record { index = i; chunk = v })) _ q)
      (known-set 0 i i v xs (omega arith) (and_left (is_known known (record { index = i; chunk = v })) _ q) h)

  unmapped_step : (i x : ℕ) (b : Bool) → is_known known (record { index = i; chunk = x }) ≡ true
      → is_known known (record { index = i; chunk = (cond b 0 x) }) ≡ true
  unmapped_step i x true h = refl
  unmapped_step i x false h = h

  pub known-unmapped : (ranges : List (ℕ × ℕ)) (i : ℕ) (xs : List ℕ) → all_at i xs ≡ true
      → all_at i (mapped_from (λ i x. cond (is_in_ranges ranges i && not (x == 0)) 0 x) i xs) ≡ true
  known-unmapped ranges i [] h = refl
  known-unmapped ranges i (x ∷ xs) h =
      and_both (is_known known (record { index = i; chunk = (cond (is_in_ranges ranges i && not (x == 0)) 0 x) })) _
      (unmapped_step i x (is_in_ranges ranges i && not (x == 0)) (and_left (is_known known (record { index = i; chunk = x })) _ h))
      (known-unmapped ranges (i + 1) xs (and_right (is_known known (record { index = i; chunk = x })) _ h))

pieces_again : (ps : List (Piece ℕ)) → pieces_of (map (λ (p : Piece ℕ). p.index) ps) (map (λ (p : Piece ℕ). p.chunk) ps) ≡ ps
pieces_again [] = refl
pieces_again (p ∷ ps) = ap (λ qs. p ∷ qs) (pieces_again ps)

pub known-pieces_put : (known : List (Piece ℕ)) (ps : List (Piece ℕ)) (xs : List ℕ) → list_all (is_known known) ps ≡ true
    → all_at known 0 xs ≡ true → all_at known 0 (pieces_put ps xs) ≡ true
known-pieces_put known ps xs q h =
    known-put_at known (map (λ (p : Piece ℕ). p.index) ps) (map (λ (p : Piece ℕ). p.chunk) ps) xs (rw (pieces_again ps) q) h

-- the new pieces of some indexes with one stamp
abbrev pub new_pieces : List ℕ → ℕ → List (Piece ℕ)
new_pieces is stamp = map (λ i. record { index = i; chunk = stamp }) is

pub new_of : (is : List ℕ) (stamp : ℕ) → pieces_of is (map (λ _. stamp) is) ≡ new_pieces is stamp
new_of [] stamp = refl
new_of (i ∷ is) stamp = ap (λ ps. record { index = i; chunk = stamp } ∷ ps) (new_of is stamp)

or_right : (a b : Bool) → b ≡ true → (a || b) ≡ true
or_right true b e = refl
or_right false b e = e

or_left : (a b : Bool) → a ≡ true → (a || b) ≡ true
or_left true b e = refl
or_left false b e = cc

-- what is known stays known when one more is
weaker : (q : Piece ℕ) (known : List (Piece ℕ)) (p : Piece ℕ) → is_known known p ≡ true → is_known (q ∷ known) p ≡ true
weaker q known p h = go (p.chunk == 0) h
  where
    go : (b : Bool) → (b || member p known) ≡ true → (b || (same_piece p q || member p known)) ≡ true
    go true e = refl
    go false e = or_right (same_piece p q) (member p known) e

pub weaker_all : (qs known ps : List (Piece ℕ)) → list_all (is_known known) ps ≡ true → list_all (is_known (qs ++ known)) ps ≡ true
weaker_all [] known ps h = h
weaker_all (q ∷ qs) known ps h =
    list_all-follows (is_known (qs ++ known)) (is_known (q ∷ qs ++ known)) (weaker q (qs ++ known)) ps (weaker_all qs known ps h)

-- the new ones are known
pub new_known : (ns known : List (Piece ℕ)) → list_all (is_known (ns ++ known)) ns ≡ true
new_known [] known = refl
new_known (n ∷ ns) known =
    and_both (is_known (n ∷ ns ++ known) n) _
    (or_right (n.chunk == 0) (same_piece n n || member n (ns ++ known)) (or_left (same_piece n n) (member n (ns ++ known)) (same_refl n)))
    (list_all-follows (is_known (ns ++ known)) (is_known (n ∷ ns ++ known)) (weaker n (ns ++ known)) ns (new_known ns known))

-- and those that were there
before_step : (x : Piece ℕ) (xs known : List (Piece ℕ)) (b : Bool) → (x.chunk == 0) ≡ b → list_all (is_known known) xs ≡ true
    → list_all (is_known (cond (not b) (x ∷ known) known)) (x ∷ xs) ≡ true
before_step x xs known true e h = and_both (is_known known x) _ (or_left (x.chunk == 0) (member x known) e) h
before_step x xs known false e h =
    and_both (is_known (x ∷ known) x) _
    (or_right (x.chunk == 0) (same_piece x x || member x known) (or_left (same_piece x x) (member x known) (same_refl x)))
    (list_all-follows (is_known known) (is_known (x ∷ known)) (weaker x known) xs h)

pub before_known : (ps : List (Piece ℕ)) → list_all (is_known (filter is_some_piece ps)) ps ≡ true
before_known [] = refl
before_known (x ∷ xs) = before_step x xs (filter is_some_piece xs) (x.chunk == 0) refl (before_known xs)

-- the pieces of an array, kind by kind
pub record AllKnown (known : List (Piece ℕ)) (d : Durable ℕ) : Type 0 where
  pub volumes : list_all (λ (v : Volume ℕ). list_all (is_known known) (indexed v.chunks)) d.volumes ≡ true
  pub clones : list_all (λ (c : RunningClone ℕ). list_all (is_known known) (indexed c.image) && list_all (is_known known) (indexed c.target)) d.clones ≡ true
  pub copies : list_all (λ (c : RunningCopy ℕ). list_all (is_known known) c.pieces) d.copies ≡ true

all_clones : (known : List (Piece ℕ)) (cs : List (RunningClone ℕ))
    → list_all (is_known known) (flat_map (λ (c : RunningClone ℕ). indexed c.image ++ indexed c.target) cs)
    ≡ list_all (λ (c : RunningClone ℕ). list_all (is_known known) (indexed c.image) && list_all (is_known known) (indexed c.target)) cs
all_clones known [] = refl
all_clones known (c ∷ cs) =
    list_all-append (is_known known) (indexed c.image ++ indexed c.target) (flat_map (λ (c : RunningClone ℕ). indexed c.image ++ indexed c.target) cs)
    ∙ ap (λ b. b && list_all (is_known known) (flat_map (λ (c : RunningClone ℕ). indexed c.image ++ indexed c.target) cs))
    (list_all-append (is_known known) (indexed c.image) (indexed c.target))
    ∙ ap (λ b. (list_all (is_known known) (indexed c.image) && list_all (is_known known) (indexed c.target)) && b) (all_clones known cs)

parts : (known : List (Piece ℕ)) (d : Durable ℕ)
    → list_all (is_known known) (all_pieces d)
    ≡ ((list_all (λ (v : Volume ℕ). list_all (is_known known) (indexed v.chunks)) d.volumes
    && list_all (λ (c : RunningClone ℕ). list_all (is_known known) (indexed c.image) && list_all (is_known known) (indexed c.target)) d.clones)
    && list_all (λ (c : RunningCopy ℕ). list_all (is_known known) c.pieces) d.copies)
parts known d =
    list_all-append (is_known known)
    (flat_map (λ (v : Volume ℕ). indexed v.chunks) d.volumes ++ flat_map (λ (c : RunningClone ℕ). indexed c.image ++ indexed c.target) d.clones)
    (flat_map (λ (c : RunningCopy ℕ). c.pieces) d.copies)
    ∙ ap (λ b. b && list_all (is_known known) (flat_map (λ (c : RunningCopy ℕ). c.pieces) d.copies))
    (list_all-append (is_known known) (flat_map (λ (v : Volume ℕ). indexed v.chunks) d.volumes)
    (flat_map (λ (c : RunningClone ℕ). indexed c.image ++ indexed c.target) d.clones))
    ∙ rw (
      all-flat_map (is_known known) (λ (v : Volume ℕ). indexed v.chunks) d.volumes,
      all_clones known d.clones,
      all-flat_map (is_known known) (λ (c : RunningCopy ℕ). c.pieces) d.copies,
    )

pub by_kind : (known : List (Piece ℕ)) (d : Durable ℕ) → list_all (is_known known) (all_pieces d) ≡ true → AllKnown known d
by_kind known d h =
    let e = sym (parts known d) ∙ h in
    record {
      volumes = and_left _ (list_all (λ (c : RunningClone ℕ). list_all (is_known known) (indexed c.image) && list_all (is_known known) (indexed c.target)) d.clones)
          (and_left _ (list_all (λ (c : RunningCopy ℕ). list_all (is_known known) c.pieces) d.copies) e);
      clones = and_right (list_all (λ (v : Volume ℕ). list_all (is_known known) (indexed v.chunks)) d.volumes) _
          (and_left _ (list_all (λ (c : RunningCopy ℕ). list_all (is_known known) c.pieces) d.copies) e);
      copies = and_right (list_all (λ (v : Volume ℕ). list_all (is_known known) (indexed v.chunks)) d.volumes
          && list_all (λ (c : RunningClone ℕ). list_all (is_known known) (indexed c.image) && list_all (is_known known) (indexed c.target)) d.clones) _ e;
    }

pub of_kinds : (known : List (Piece ℕ)) (d : Durable ℕ) → AllKnown known d → list_all (is_known known) (all_pieces d) ≡ true
of_kinds known d k =
    parts known d
    ∙ and_both (list_all (λ (v : Volume ℕ). list_all (is_known known) (indexed v.chunks)) d.volumes
    && list_all (λ (c : RunningClone ℕ). list_all (is_known known) (indexed c.image) && list_all (is_known known) (indexed c.target)) d.clones)
    (list_all (λ (c : RunningCopy ℕ). list_all (is_known known) c.pieces) d.copies)
    (and_both (list_all (λ (v : Volume ℕ). list_all (is_known known) (indexed v.chunks)) d.volumes)
    (list_all (λ (c : RunningClone ℕ). list_all (is_known known) (indexed c.image) && list_all (is_known known) (indexed c.target)) d.clones)
    k.volumes k.clones) k.copies
