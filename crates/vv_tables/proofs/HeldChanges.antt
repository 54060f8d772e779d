-- How the lists that a shelf holds change, call by call: one more, one less, one with other pieces. Other lists stay, and
-- running clones and copies that hold no changed list are seen as before.
use Rattle.std.proofs.Common.{ℕ, ◌≡◌, ◌==◌, not, Bool, true, false, cond, List, [], ◌∷◌, map, Option, Some, option_map, refl, sym, ap, subst, ◌∙◌}
use Rattle.std.specs.Prelude.{nat_lt}
use Rattle.std.specs.List.{find, flat_map, list_all, All}
use Rattle.std.specs.List.Sorted.{IsPermutation}
use Rattle.std.proofs.lemmas.Bool.{eq-eqb, eqb-true, eqb-false, ne_eqb}
use Rattle.std.proofs.lemmas.List.Elements.{All-nil, All-cons, All-head, All-tail}
use Rattle.std.proofs.lemmas.List.Sorted.{IsPermutation-map}
use Rattle.vv_flat.specs.Lists.{if_found, put_before, first_removed, first_changed, all_rising}
use Rattle.vv_flat.specs.State.{Piece, RunningClone, indexed}
use Rattle.vv_flat.specs.Chunks.{Entry}
use Rattle.vv_flat.proofs.Steps.{find-passes}
use Rattle.vv_flat.proofs.RisingRows.{keys-changed}
use Rattle.vv_flat.proofs.KeepLists.{rising-put, rising-removed}
use Rattle.vv_flat.proofs.Lookups.{find-put_other, find-put_new, find-removed_other, find-changed}
use Rattle.vv_vols.specs.Shelf.{HeldList, ShelfState, is_held, held_in, pieces_in, next_held}
use Rattle.vv_vols.specs.Calls.{with_held, without_held, with_pieces}
use Rattle.vv_vols.proofs.HeldNumbers.{gap_new}
use Rattle.vv_tables.specs.declared.rows.CloneRow.{CloneRow}
use Rattle.vv_tables.specs.declared.rows.CopyRow.{CopyRow}
use Rattle.vv_tables.specs.Seen.{seen_clone, seen_copy}
use Rattle.vv_tables.specs.Kept.{numbers_held, clone_lists, IsIndexed, IsCloneHeld, IsCopyHeld}
use Rattle.vv_tables.proofs.Permuted.{put_permutes, removed_permutes}

other_number : (n m k : ℕ) → (m == n) ≡ false → (k == n) ≡ true → (k == m) ≡ false
other_number n m k other is =
    let same : k ≡ n = eqb-true k n is in
    ne_eqb k m (λ e. eqb-false m n other (sym e ∙ same))

-- ---- one more list
module _ (s : ShelfState) (h : HeldList) where
  pub added_other : (m : ℕ) → (h.number == m) ≡ false → held_in (with_held s h) m ≡ held_in s m
  added_other m other = find-put_other (λ (k : HeldList). nat_lt h.number k.number) (is_held m) h s.held other

  pub added_found : list_all (λ (k : HeldList). not (k.number == h.number)) s.held ≡ true → held_in (with_held s h) h.number ≡ Some h
  added_found new = find-put_new (λ (k : HeldList). nat_lt h.number k.number) (is_held h.number) h s.held (eq-eqb h.number h.number refl) new

  pub added_numbers : IsPermutation (h.number ∷ numbers_held s) (numbers_held (with_held s h))
  added_numbers =
      IsPermutation-map (λ (k : HeldList). k.number) (h ∷ s.held) (put_before (λ (k : HeldList). nat_lt h.number k.number) h s.held)
      (put_permutes (λ (k : HeldList). nat_lt h.number k.number) h s.held)

  pub added_rising : list_all (λ (k : HeldList). not (k.number == h.number)) s.held ≡ true → all_rising (numbers_held s) ≡ true
      → all_rising (numbers_held (with_held s h)) ≡ true
  added_rising new rising = rising-put (λ (k : HeldList). k.number) h s.held new rising

-- no list has the number that the next one gets
pub next_new : (s : ShelfState) → all_rising (numbers_held s) ≡ true → list_all (λ (k : HeldList). not (k.number == next_held s)) s.held ≡ true
next_new s rising = gap_new (λ (k : HeldList). k.number) s.held rising

-- ---- one list less
module _ (s : ShelfState) (n : ℕ) where
  pub left_other : (m : ℕ) → (m == n) ≡ false → held_in (without_held s n) m ≡ held_in s m
  left_other m other = find-removed_other (is_held n) (is_held m) (λ (k : HeldList) is. other_number n m k.number other is) s.held

  pub left_numbers : (h : HeldList) → held_in s n ≡ Some h → IsPermutation (numbers_held s) (n ∷ numbers_held (without_held s n))
  left_numbers h found =
      subst (λ k. IsPermutation (numbers_held s) (k ∷ numbers_held (without_held s n))) (eqb-true h.number n (find-passes (is_held n) s.held h found))
      (IsPermutation-map (λ (k : HeldList). k.number) s.held (h ∷ first_removed (is_held n) s.held) (removed_permutes (is_held n) s.held h found))

  pub left_rising : all_rising (numbers_held s) ≡ true → all_rising (numbers_held (without_held s n)) ≡ true
  left_rising rising = rising-removed (λ (k : HeldList). k.number) (is_held n) s.held rising

-- ---- one list with other pieces
module _ (s : ShelfState) (n : ℕ) (f : List (Piece Entry) → List (Piece Entry)) where
  abbrev changed : HeldList → HeldList
  changed h = record h { pieces = f h.pieces }

  pub changed_other : (m : ℕ) → (m == n) ≡ false → held_in (with_pieces s n f) m ≡ held_in s m
  changed_other m other =
      find-changed (is_held n) (is_held m) (λ (o : Option HeldList). o) changed s.held (λ (h : HeldList) found. refl)
      (λ (h : HeldList) found is.
      let wrong : (h.number == m) ≡ false = other_number n m h.number other (find-passes (is_held n) s.held h found) in
      absurd (cc))

  found_changed : (hs : List HeldList) → find (is_held n) (first_changed (is_held n) changed hs) ≡ option_map changed (find (is_held n) hs)
  found_changed [] = refl
  found_changed (h ∷ hs) = go (h.number == n) refl (found_changed hs)
    where
      go : (b : Bool) → (h.number == n) ≡ b → find (is_held n) (first_changed (is_held n) changed hs) ≡ option_map changed (find (is_held n) hs)
          → find (is_held n) (cond b (changed h ∷ hs) (h ∷ first_changed (is_held n) changed hs)) ≡ option_map changed (cond b (Some h) (find (is_held n) hs))
      go true is rest = ap (λ b. cond b (Some (changed h)) (find (is_held n) hs)) is
      go false is rest = ap (λ b. cond b (Some h) (find (is_held n) (first_changed (is_held n) changed hs))) is ∙ rest

  pub changed_found : held_in (with_pieces s n f) n ≡ option_map changed (held_in s n)
  changed_found = found_changed s.held

  pub changed_numbers : numbers_held (with_pieces s n f) ≡ numbers_held s
  changed_numbers = keys-changed (λ (k : HeldList). k.number) (is_held n) changed (λ h is. refl) s.held

-- ---- rows
-- a list is held as before
abbrev pub IsSameHeld : ShelfState → ShelfState → ℕ → Type 0
IsSameHeld s s' n = held_in s' n ≡ held_in s n

module _ (s s' : ShelfState) where
  pub clone_seen : (row : CloneRow) → IsSameHeld s s' row.image.number → IsSameHeld s s' row.target.number → seen_clone s' row ≡ seen_clone s row
  clone_seen row image target =
      ap (λ (o : Option HeldList). record (seen_clone s' row) { image = map (λ (a : Piece Entry). a.chunk) (if_found o (λ (h : HeldList). h.pieces) []) }) image
      ∙ ap (λ (o : Option HeldList). record (seen_clone s row) { target = map (λ (a : Piece Entry). a.chunk) (if_found o (λ (h : HeldList). h.pieces) []) }) target

  pub clones_seen : (rows : List CloneRow) → All (IsSameHeld s s') (flat_map clone_lists rows) → map (seen_clone s') rows ≡ map (seen_clone s) rows
  clones_seen [] same = refl
  clones_seen (row ∷ rows) same =
      let image = All-head (IsSameHeld s s') row.image.number (row.target.number ∷ flat_map clone_lists rows) same in
      let behind = All-tail (IsSameHeld s s') row.image.number (row.target.number ∷ flat_map clone_lists rows) same in
      let target = All-head (IsSameHeld s s') row.target.number (flat_map clone_lists rows) behind in
      ap (λ (c : RunningClone Entry). c ∷ map (seen_clone s') rows) (clone_seen row image target)
      ∙ ap (λ cs. seen_clone s row ∷ cs) (clones_seen rows (All-tail (IsSameHeld s s') row.target.number (flat_map clone_lists rows) behind))

  pub copies_seen : (rows : List CopyRow) → All (IsSameHeld s s') (map (λ (row : CopyRow). row.pieces.number) rows) → map (seen_copy s') rows ≡ map (seen_copy s) rows
  copies_seen [] same = refl
  copies_seen (row ∷ rows) same =
      let here = All-head (IsSameHeld s s') row.pieces.number (map (λ (r : CopyRow). r.pieces.number) rows) same in
      ap (λ (o : Option HeldList). record { number = row.id.0; pieces = if_found o (λ (h : HeldList). h.pieces) [] } ∷ map (seen_copy s') rows) here
      ∙ ap (λ cs. seen_copy s row ∷ cs) (copies_seen rows (All-tail (IsSameHeld s s') row.pieces.number (map (λ (r : CopyRow). r.pieces.number) rows) same))

  -- .. and so are what the shelf holds for them
  pub clone_stays : (row : CloneRow) → IsSameHeld s s' row.image.number → IsSameHeld s s' row.target.number → IsCloneHeld s row → IsCloneHeld s' row
  clone_stays row image target is = record {
    image = ap (option_map (λ (h : HeldList). h.is_image)) image ∙ is.image;
    image_indexed = indexed_stays row.image.number image is.image_indexed;
    target = ap (option_map (λ (h : HeldList). h.is_image)) target ∙ is.target;
    target_indexed = indexed_stays row.target.number target is.target_indexed;
  }
    where
      indexed_stays : (n : ℕ) → IsSameHeld s s' n → IsIndexed s n → IsIndexed s' n
      indexed_stays n same is =
          let ps : pieces_in s' n ≡ pieces_in s n = ap (λ (o : Option HeldList). if_found o (λ (h : HeldList). h.pieces) []) same in
          ps ∙ is ∙ ap (λ qs. indexed (map (λ (a : Piece Entry). a.chunk) qs)) (sym ps)

  pub clones_stay : (rows : List CloneRow) → All (IsSameHeld s s') (flat_map clone_lists rows) → All (IsCloneHeld s) rows → All (IsCloneHeld s') rows
  clones_stay [] same all = All-nil (IsCloneHeld s')
  clones_stay (row ∷ rows) same all =
      let image = All-head (IsSameHeld s s') row.image.number (row.target.number ∷ flat_map clone_lists rows) same in
      let behind = All-tail (IsSameHeld s s') row.image.number (row.target.number ∷ flat_map clone_lists rows) same in
      let target = All-head (IsSameHeld s s') row.target.number (flat_map clone_lists rows) behind in
      All-cons (IsCloneHeld s') row rows (clone_stays row image target (All-head (IsCloneHeld s) row rows all))
      (clones_stay rows (All-tail (IsSameHeld s s') row.target.number (flat_map clone_lists rows) behind) (All-tail (IsCloneHeld s) row rows all))

  pub copies_stay : (rows : List CopyRow) → All (IsSameHeld s s') (map (λ (row : CopyRow). row.pieces.number) rows) → All (IsCopyHeld s) rows → All (IsCopyHeld s') rows
  copies_stay [] same all = All-nil (IsCopyHeld s')
  copies_stay (row ∷ rows) same all =
      let here = All-head (IsSameHeld s s') row.pieces.number (map (λ (r : CopyRow). r.pieces.number) rows) same in
      All-cons (IsCopyHeld s') row rows (ap (option_map (λ (h : HeldList). h.is_image)) here ∙ All-head (IsCopyHeld s) row rows all)
      (copies_stay rows (All-tail (IsSameHeld s s') row.pieces.number (map (λ (r : CopyRow). r.pieces.number) rows) same) (All-tail (IsCopyHeld s) row rows all))
