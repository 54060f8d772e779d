-- The counts of a shelf are those of the tables: its entries, the pairs that are used, and whether entries share rightly.
use Rattle.std.proofs.Common.{ℕ, suc, ◌≡◌, ◌+◌, ◌==◌, ◌&&◌, not, Bool, true, false, cond, List, [], ◌∷◌, ◌++◌, map, length, sum_by, count_by, refl, sym, ap, ◌∙◌, arith}
use Rattle.std.specs.List.{flat_map, list_all, list_any}
use Rattle.std.proofs.lemmas.List.Sums.{sum_by-cons, sum_by-append}
use Rattle.std.proofs.lemmas.Bool.{ne_eqb}
use Rattle.vv_flat.specs.Lists.{numbers_from, mapped_from}
use Rattle.vv_flat.specs.State.{Volume, Piece, RunningClone, RunningCopy, Task, Durable, indexed, all_pieces}
use Rattle.vv_flat.specs.Chunks.{Entry, shape_of_tables}
use Rattle.vv_flat.specs.Space.{used, entries}
use Rattle.vv_flat.specs.Sharing.{is_placed, agrees, names_place, shares_places}
use Rattle.vv_flat.specs.NamedPlaces.{is_named, named_count, used_by}
use Rattle.vv_flat.specs.WellFormed.{is_well_formed}
use Rattle.vv_flat.proofs.Shares.{shares-places}
use Rattle.vv_flat.proofs.NamedPlaces.{any-counted, used_named, used-pieces}
use Rattle.vv_laws.proofs.WellFormed.{well_formed_sharing}
use Rattle.vv_container.specs.Table.{ChargedContainer}
use Rattle.vv_bind.specs.Table.{BindState}
use Rattle.vv_vols.specs.Shelf.{HeldList, ShelfState, shelf_pieces, shelf_entries, shelf_used, shares_rightly}
use Rattle.vv_tables.specs.declared.rows.CloneRow.{CloneRow}
use Rattle.vv_tables.specs.declared.rows.CopyRow.{CopyRow}
use Rattle.vv_tables.specs.Seen.{seen_clone, seen_copy, seen_durable}
use Rattle.vv_tables.specs.Kept.{AreHeld}
use Rattle.vv_tables.proofs.HeldSums.{sum_same, sum_flat, held_sum}

length-from : {A B : Type 0} (f : ℕ → A → B) (i : ℕ) (xs : List A) → length (mapped_from f i xs) ≡ length xs
length-from f i [] = refl
length-from f i (x ∷ xs) = ap suc (length-from f (i + 1) xs)

pub length-indexed : (xs : List Entry) → length (indexed xs) ≡ length xs
length-indexed xs = length-from (λ i x. record { index = i; chunk = x }) 0 xs

-- ---- tests and counts
none_counted : {A : Type 0} (p : A → Bool) (xs : List A) → list_all p xs ≡ (count_by (λ x. not (p x)) xs == 0)
none_counted p [] = refl
none_counted p (x ∷ xs) = go (p x) (none_counted p xs) ∙ ap (λ n. n == 0) (sym (sum_by-cons (λ y. cond (not (p y)) 1 0) x xs))
  where
    go : (b : Bool) → list_all p xs ≡ (count_by (λ y. not (p y)) xs == 0)
        → (b && list_all p xs) ≡ ((cond (not b) 1 0 + count_by (λ y. not (p y)) xs) == 0)
    go true e = e ∙ ap (λ n. n == 0) (omega arith)
    go false e = sym (ne_eqb (1 + count_by (λ y. not (p y)) xs) 0 (λ g. omega arith))

-- Two lists with equal counts of every test.
abbrev pub SameCounts : {A : Type 0} → List A → List A → Type 0
SameCounts {A} xs ys = (p : A → Bool) → count_by p xs ≡ count_by p ys

same_all : {A : Type 0} (xs ys : List A) → SameCounts xs ys → (p : A → Bool) → list_all p xs ≡ list_all p ys
same_all xs ys same p = none_counted p xs ∙ ap (λ n. n == 0) (same (λ x. not (p x))) ∙ sym (none_counted p ys)

same_any : {A : Type 0} (xs ys : List A) → SameCounts xs ys → (p : A → Bool) → list_any p xs ≡ list_any p ys
same_any xs ys same p = any-counted p xs ∙ ap (λ n. not (n == 0)) (same p) ∙ sym (any-counted p ys)

all_both : {A : Type 0} (p q : A → Bool) (xs : List A) → ((x : A) → p x ≡ q x) → list_all p xs ≡ list_all q xs
all_both p q [] e = refl
all_both p q (x ∷ xs) e = ap (λ b. b && list_all p xs) (e x) ∙ ap (λ b. q x && b) (all_both p q xs e)

pub same_sharing : (pool : ℕ) (xs ys : List (Piece Entry)) → SameCounts xs ys → shares_places pool xs ≡ shares_places pool ys
unfolding shares_places
same_sharing pool xs ys same =
    all_both (λ (a : Piece Entry). is_placed pool a.chunk && list_all (agrees a) xs) (λ (a : Piece Entry). is_placed pool a.chunk && list_all (agrees a) ys) xs
    (λ a. ap (λ b. is_placed pool a.chunk && b) (same_all xs ys same (agrees a)))
    ∙ same_all xs ys same (λ (a : Piece Entry). is_placed pool a.chunk && list_all (agrees a) ys)

count_both : (p q : ℕ → Bool) (xs : List ℕ) → ((x : ℕ) → p x ≡ q x) → count_by p xs ≡ count_by q xs
count_both p q xs e = sum_same (λ x. cond (p x) 1 0) (λ x. cond (q x) 1 0) xs (λ i x at. ap (λ b. cond b 1 0) (e x))

same_named : (pool : ℕ) (xs ys : List (Piece Entry)) → SameCounts xs ys → named_count pool xs ≡ named_count pool ys
unfolding named_count
same_named pool xs ys same = count_both (is_named xs) (is_named ys) (numbers_from 0 pool) (λ p. same_any xs ys same (names_place p))

module _ (lsn : ℕ) (s : ShelfState) (containers : List ChargedContainer) (bindings : BindState) (tasks : List Task) (clones : List CloneRow) (copies : List CopyRow) (held : AreHeld s clones copies) where
  tables : Durable Entry
  tables = seen_durable lsn s containers bindings tasks clones copies

  pub shelf_entries_are : shelf_entries s ≡ entries (seen_durable lsn s containers bindings tasks clones copies)
  unfolding entries
  shelf_entries_are =
      let lists : sum_by (λ (h : HeldList). length h.pieces) s.held
      ≡ sum_by (λ (c : RunningClone Entry). length (indexed c.image) + length (indexed c.target)) (map (seen_clone s) clones)
      + sum_by (λ (c : RunningCopy Entry). length c.pieces) (map (seen_copy s) copies) = held_sum s clones copies held length in
      let images : sum_by (λ (c : RunningClone Entry). length (indexed c.image) + length (indexed c.target)) (map (seen_clone s) clones)
      ≡ sum_by (λ (c : RunningClone Entry). length c.image + length c.target) (map (seen_clone s) clones) =
      sum_same (λ (c : RunningClone Entry). length (indexed c.image) + length (indexed c.target)) (λ (c : RunningClone Entry). length c.image + length c.target) (map (seen_clone s) clones)
      (λ i c at. ap (λ n. n + length (indexed c.target)) (length-indexed c.image) ∙ ap (λ n. length c.image + n) (length-indexed c.target)) in
      omega (arith, lists, images)

  -- what all entries of the shelf and all entries of the tables count, by any number
  pub shelf_sum : (f : Piece Entry → ℕ) → sum_by f (shelf_pieces s) ≡ sum_by f (all_pieces (seen_durable lsn s containers bindings tasks clones copies))
  shelf_sum f =
      let d = seen_durable lsn s containers bindings tasks clones copies in
      let of_shelf : sum_by f (shelf_pieces s) ≡ sum_by f (flat_map (λ (v : Volume Entry). indexed v.chunks) s.volumes) + sum_by f (flat_map (λ (h : HeldList). h.pieces) s.held) =
      sum_by-append f (flat_map (λ (v : Volume Entry). indexed v.chunks) s.volumes) (flat_map (λ (h : HeldList). h.pieces) s.held) in
      let flat : sum_by f (flat_map (λ (h : HeldList). h.pieces) s.held) ≡ sum_by (λ (h : HeldList). sum_by f h.pieces) s.held = sum_flat f (λ (h : HeldList). h.pieces) s.held in
      let lists : sum_by (λ (h : HeldList). sum_by f h.pieces) s.held
      ≡ sum_by (λ (c : RunningClone Entry). sum_by f (indexed c.image) + sum_by f (indexed c.target)) (map (seen_clone s) clones)
      + sum_by (λ (c : RunningCopy Entry). sum_by f c.pieces) (map (seen_copy s) copies) = held_sum s clones copies held (sum_by f) in
      let images : sum_by f (flat_map (λ (c : RunningClone Entry). indexed c.image ++ indexed c.target) (map (seen_clone s) clones))
      ≡ sum_by (λ (c : RunningClone Entry). sum_by f (indexed c.image) + sum_by f (indexed c.target)) (map (seen_clone s) clones) =
      sum_flat f (λ (c : RunningClone Entry). indexed c.image ++ indexed c.target) (map (seen_clone s) clones)
      ∙ sum_same (λ (c : RunningClone Entry). sum_by f (indexed c.image ++ indexed c.target)) (λ (c : RunningClone Entry). sum_by f (indexed c.image) + sum_by f (indexed c.target)) (map (seen_clone s) clones)
      (λ i c at. sum_by-append f (indexed c.image) (indexed c.target)) in
      let pieces : sum_by f (flat_map (λ (c : RunningCopy Entry). c.pieces) (map (seen_copy s) copies))
      ≡ sum_by (λ (c : RunningCopy Entry). sum_by f c.pieces) (map (seen_copy s) copies) = sum_flat f (λ (c : RunningCopy Entry). c.pieces) (map (seen_copy s) copies) in
      let of_tables : sum_by f (all_pieces d)
      ≡ sum_by f (flat_map (λ (v : Volume Entry). indexed v.chunks) s.volumes)
      + sum_by f (flat_map (λ (c : RunningClone Entry). indexed c.image ++ indexed c.target) (map (seen_clone s) clones))
      + sum_by f (flat_map (λ (c : RunningCopy Entry). c.pieces) (map (seen_copy s) copies)) =
      sum_by-append f (flat_map (λ (v : Volume Entry). indexed v.chunks) s.volumes ++ flat_map (λ (c : RunningClone Entry). indexed c.image ++ indexed c.target) (map (seen_clone s) clones))
      (flat_map (λ (c : RunningCopy Entry). c.pieces) (map (seen_copy s) copies))
      ∙ ap (λ n. n + sum_by f (flat_map (λ (c : RunningCopy Entry). c.pieces) (map (seen_copy s) copies)))
      (sum_by-append f (flat_map (λ (v : Volume Entry). indexed v.chunks) s.volumes) (flat_map (λ (c : RunningClone Entry). indexed c.image ++ indexed c.target) (map (seen_clone s) clones))) in
      omega (arith, of_shelf, flat, lists, images, pieces, of_tables)

  pub same_counts : SameCounts (shelf_pieces s) (all_pieces (seen_durable lsn s containers bindings tasks clones copies))
  same_counts p = shelf_sum (λ a. cond (p a) 1 0)

  pub shelf_shares : is_well_formed (seen_durable lsn s containers bindings tasks clones copies) ≡ true → shares_rightly s ≡ true
  shelf_shares well =
      same_sharing s.geometry.pool_chunks (shelf_pieces s) (all_pieces (seen_durable lsn s containers bindings tasks clones copies)) same_counts
      ∙ shares-places (seen_durable lsn s containers bindings tasks clones copies) (well_formed_sharing (seen_durable lsn s containers bindings tasks clones copies) well)

  pub shelf_used_is : is_well_formed (seen_durable lsn s containers bindings tasks clones copies) ≡ true
      → shelf_used s ≡ used (shape_of_tables (seen_durable lsn s containers bindings tasks clones copies)) + length s.fresh
  shelf_used_is well =
      let d = seen_durable lsn s containers bindings tasks clones copies in
      let pool = s.geometry.pool_chunks in
      let same : used_by (shelf_pieces s) ≡ used (shape_of_tables d) =
      used_named pool (shelf_pieces s) (shelf_shares well)
      ∙ same_named pool (shelf_pieces s) (all_pieces d) same_counts
      ∙ sym (used_named pool (all_pieces d) (shares-places d (well_formed_sharing d well)))
      ∙ used-pieces d in
      ap (λ n. n + length s.fresh) same

  -- .. where no place is fresh
  pub shelf_used_all : is_well_formed (seen_durable lsn s containers bindings tasks clones copies) ≡ true → s.fresh ≡ []
      → shelf_used s ≡ used (shape_of_tables (seen_durable lsn s containers bindings tasks clones copies))
  shelf_used_all well none =
      let is : shelf_used s ≡ used (shape_of_tables (seen_durable lsn s containers bindings tasks clones copies)) + length s.fresh = shelf_used_is well in
      let zero : length s.fresh ≡ 0 = ap (λ (ps : List ℕ). length ps) none in
      omega (arith, is, zero)
