-- What a call on one held list knows of its row.
use Rattle.std.proofs.Common.{ℕ, zero, suc, ◌≡◌, ◌+◌, ◌<◌, ◌≤◌, Bool, true, false, cond, List, [], ◌∷◌, map, length, sum_by, Some, find, slice_get, option_map, refl, sym, ap, ◌∙◌, arith}
use Rattle.std.specs.Prelude.{IsSome, slice_index}
use Rattle.std.specs.List.{All}
use Rattle.std.proofs.lemmas.List.{length-map}
use Rattle.std.proofs.lemmas.List.Elements.{All-nil, All-cons, All-head, All-tail}
use Rattle.std.proofs.lemmas.List.Sums.{sum_by-cons}
use Rattle.vv_units.specs.declared.geometry.Geometry.{Geometry}
use Rattle.vv_map.specs.Rooms.{MapState}
use Rattle.vv_map.specs.Pages.{StoreState, list_of, IsMapOf}
use Rattle.vv_entries.specs.declared.entry.Entry.{Entry as PlacedEntry}
use Rattle.vv_entries.specs.Entries.{EntriesState}
use Rattle.vv_entries.proofs.Owners.{All-back}
use Rattle.vv_flat.specs.Lists.{if_found, numbers_from}
use Rattle.vv_flat.specs.State.{Piece}
use Rattle.vv_flat.specs.Chunks.{Entry}
use Rattle.vv_vols.specs.declared.row.VolumeRow.{VolumeRow}
use Rattle.vv_vols.specs.declared.row.HeldRow.{HeldRow}
use Rattle.vv_vols.specs.Shelf.{HeldList, is_held, held_in, held_size, pieces_in, piece_at}
use Rattle.vv_vols.specs.Rows.{is_held_row, seen_entry, seen_entries, seen_held, seen_shelf, volume_map, held_map, held_indexes, with_indexes, IsFilled, IsCountedHeld, IsShelf}
use Rattle.vv_vols.proofs.OwnKept.{list_len}
use Rattle.vv_vols.proofs.HeldSpliced.{IsIndexed, HasItsRoom}
use Rattle.vv_vols.proofs.HeldPieces.{with_at}
use Rattle.vv_vols.proofs.AddedHeld.{pieces_len}
use Rattle.vv_vols.proofs.FoundSplit.{found_mapped, some_mapped, all_found}

held_maps : (store : StoreState PlacedEntry) (rows : List HeldRow) → All (λ (m : MapState). IsMapOf store m) (map held_map rows) → All (λ (r : HeldRow). IsMapOf store r.map) rows
held_maps store [] maps = All-nil (λ (r : HeldRow). IsMapOf store r.map)
held_maps store (r ∷ rows) maps = All-cons (λ (r : HeldRow). IsMapOf store r.map) r rows
    (All-head (λ (m : MapState). IsMapOf store m) (held_map r) (map held_map rows) maps)
    (held_maps store rows (All-tail (λ (m : MapState). IsMapOf store m) (held_map r) (map held_map rows) maps))

-- a held list that is seen has a row
pub held_row_found : (store : StoreState PlacedEntry) (n : ℕ) (rows : List HeldRow) → IsSome (find (is_held n) (map (seen_held store) rows)) → IsSome (find (is_held_row n) rows)
held_row_found store n rows = some_mapped (is_held_row n) (seen_held store) (is_held n) (λ r. refl) rows

found_sum : {A : Type 0} (p : A → Bool) (f : A → ℕ) (xs : List A) (x : A) → find p xs ≡ Some x → f x ≤ sum_by f xs
found_sum p f [] x e = absurd (cc)
found_sum p f (y ∷ ys) x e = go (p y) (found_sum p f ys x) e
  where
    go : (b : Bool) → (find p ys ≡ Some x → f x ≤ sum_by f ys) → cond b (Some y) (find p ys) ≡ Some x → f x ≤ sum_by f (y ∷ ys)
    go true later e = let same : y ≡ x = cc in let is = ap f same in let sums = sum_by-cons f y ys in omega arith
    go false later e = let rest = later e in let sums = sum_by-cons f y ys in omega arith

pub sum_mapped : {A B : Type 0} (g : A → B) (f : B → ℕ) (xs : List A) → sum_by f (map g xs) ≡ sum_by (λ x. f (g x)) xs
sum_mapped g f [] = refl
sum_mapped g f (x ∷ xs) = sum_by-cons f (g x) (map g xs) ∙ ap (λ n. f (g x) + n) (sum_mapped g f xs) ∙ sym (sum_by-cons (λ y. f (g y)) x xs)

slice_mapped : {A B : Type 0} (f : A → B) (xs : List A) (at : ℕ) (x : A) → slice_get xs at ≡ Some x → slice_get (map f xs) at ≡ Some (f x)
slice_mapped f [] at x e = absurd (cc)
slice_mapped f (y ∷ ys) zero x e = let same : y ≡ x = cc in ap (λ z. Some (f z)) same
slice_mapped f (y ∷ ys) (suc at) x e = slice_mapped f ys at x e

pub some_at : {A : Type 0} (xs : List A) (at : ℕ) → at < length xs → (x : A) × (slice_get xs at ≡ Some x)
some_at [] at lt = absurd (omega arith)
some_at (y ∷ ys) zero lt = (y, refl)
some_at (y ∷ ys) (suc at) lt = some_at ys at (omega arith)

pub number_at : (first n at : ℕ) → at < n → slice_index (numbers_from first n) at ≡ first + at
number_at first zero at lt = absurd (omega arith)
number_at first (suc n) zero lt = omega arith
number_at first (suc n) (suc at) lt = number_at (first + 1) n at (omega arith) ∙ omega arith

module _ (geometry : Geometry) (old : EntriesState) (volumes : List VolumeRow) (held : List HeldRow) (total rooms volume_memory held_memory n : ℕ) (row : HeldRow)
    (found : find (is_held_row n) held ≡ Some row) (kept : IsShelf geometry old volumes held total rooms volume_memory held_memory) where
  pub held_seen_found : held_in (seen_shelf geometry old volumes held) n ≡ Some (seen_held old.store row)
  held_seen_found = found_mapped (is_held_row n) (seen_held old.store) (is_held n) (λ r. refl) held row found

  pub held_pieces : pieces_in (seen_shelf geometry old volumes held) n ≡ with_indexes (held_indexes row.indexes row.map.len) (seen_entries (list_of old.store row.map))
  held_pieces = ap (λ o. if_found o (λ (h : HeldList). h.pieces) []) held_seen_found

  pub held_of : IsMapOf old.store row.map
  held_of = all_found (is_held_row n) (λ (r : HeldRow). IsMapOf old.store r.map) held row
      (held_maps old.store held (All-back (λ (m : MapState). IsMapOf old.store m) (map volume_map volumes) (map held_map held) kept.lists.lists.maps)) found

  pub held_indexed : IsIndexed row
  held_indexed = all_found (is_held_row n) IsIndexed held row kept.indexed found

  pub held_filled : IsFilled old.store row
  held_filled = all_found (is_held_row n) (IsFilled old.store) held row kept.filled found

  pub held_counted : IsCountedHeld old.store row
  held_counted = all_found (is_held_row n) (IsCountedHeld old.store) held row kept.held_counts found

  pub held_room : HasItsRoom row
  held_room = all_found (is_held_row n) HasItsRoom held row kept.held_room found

  pub held_entries : length (seen_entries (list_of old.store row.map)) ≡ row.map.len
  held_entries = length-map (list_of old.store row.map) seen_entry ∙ list_len old.store row.map held_of

  pub held_len_is : held_size (seen_shelf geometry old volumes held) n ≡ row.map.len
  held_len_is = ap length held_pieces ∙ pieces_len old.store row held_of held_indexed

  -- the piece at a position
  pub held_piece : (at : ℕ) (e : PlacedEntry) → slice_get (list_of old.store row.map) at ≡ Some e
      → piece_at (seen_shelf geometry old volumes held) n at ≡ Some (record { index = slice_index (held_indexes row.indexes row.map.len) at; chunk = seen_entry e })
  held_piece at e there =
      ap (λ ps. slice_get ps at) held_pieces
      ∙ with_at (held_indexes row.indexes row.map.len) (seen_entries (list_of old.store row.map)) at (seen_entry e) (held_indexed ∙ sym held_entries)
      (slice_mapped seen_entry (list_of old.store row.map) at e there)

  pub held_index_is : (at : ℕ) → at < row.map.len
      → option_map (λ (a : Piece Entry). a.index) (piece_at (seen_shelf geometry old volumes held) n at) ≡ Some (slice_index (held_indexes row.indexes row.map.len) at)
  held_index_is at lt =
      let some = some_at (list_of old.store row.map) at (let l = list_len old.store row.map held_of in omega arith) in
      ap (option_map (λ (a : Piece Entry). a.index)) (held_piece at some.0 some.1)

  -- no held list has more entries than all lists
  pub held_few : row.map.len ≤ total
  held_few =
      let one = found_sum (is_held_row n) (λ (r : HeldRow). length (seen_held old.store r).pieces) held row found in
      let all = sum_mapped (seen_held old.store) (λ (h : HeldList). length h.pieces) held in
      let len = pieces_len old.store row held_of held_indexed in
      let sum = kept.lists.summed in
      omega arith
