-- An unmapped entry of a held list is filled: what a shelf keeps, and what is seen of it.
use Rattle.std.proofs.Common.{ℕ, zero, suc, ◌≡◌, ◌+◌, ◌/◌, ◌<◌, ◌^◌, ◌==◌, not, true, false, cond, List, [], ◌∷◌, map, length, set, Option, Some, None, find, slice_get, option_map, refl, sym, ap, ◌∙◌, subst, arith}
use Rattle.std.specs.Prelude.{slice_index}
use Rattle.std.specs.List.{position_or_len}
use Rattle.std.proofs.lemmas.List.{map-set}
use Rattle.std.proofs.lemmas.List.Sums.{count_by-le-length}
use Rattle.vv_units.specs.declared.geometry.Geometry.{Geometry}
use Rattle.vv_map.specs.Rooms.{MapState}
use Rattle.vv_map.specs.Pages.{list_of, count_at, IsMapOf}
use Rattle.vv_map.proofs.MapLemmas.{page_within}
use Rattle.vv_entries.specs.declared.entry.Entry.{Entry as PlacedEntry}
use Rattle.vv_entries.specs.Entries.{EntriesState}
use Rattle.vv_entries.specs.Changes.{times, Exchanges, TakesUnused}
use Rattle.vv_flat.specs.Lists.{if_found}
use Rattle.vv_flat.specs.State.{Piece}
use Rattle.vv_flat.specs.Chunks.{Entry, unmapped_entry}
use Rattle.vv_vols.specs.declared.row.VolumeRow.{VolumeRow}
use Rattle.vv_vols.specs.declared.row.HeldRow.{HeldRow}
use Rattle.vv_vols.specs.Shelf.{HeldList, is_image_in, piece_at, entry_at, shares_rightly}
use Rattle.vv_vols.specs.Calls.{piece_set, with_piece}
use Rattle.vv_vols.specs.Rows.{is_held_row, seen_entry, seen_entries, seen_held, seen_pages, seen_shelf, own_in, held_indexes, further, with_indexes, fresh_from, allocated_in, HasRoom, IsShelf}
use Rattle.vv_vols.proofs.OwnKept.{list_len}
use Rattle.vv_vols.proofs.Numbers.{allocated_put}
use Rattle.vv_vols.proofs.HeldPieces.{with_set}
use Rattle.vv_vols.proofs.HeldRead.{some_at, held_of, held_indexed, held_filled, held_counted, held_room, held_seen_found, held_len_is, held_piece, held_few}
use Rattle.vv_vols.proofs.ChangedHeld.{changed_held_seen, changed_held_kept, changed_held_own}

slice_within : {A : Type 0} (xs : List A) (at : ℕ) (x : A) → slice_get xs at ≡ Some x → at < length xs
slice_within [] at x e = absurd (cc)
slice_within (y ∷ ys) zero x e = omega arith
slice_within (y ∷ ys) (suc at) x e = let rest = slice_within ys at x e in omega arith

some_of_mapped : {A B : Type 0} (f : A → B) (o : Option A) (y : B) → option_map f o ≡ Some y → (x : A) × (o ≡ Some x)
some_of_mapped f None y e = absurd (cc)
some_of_mapped f (Some x) y e = (x, refl)

module _ (geometry : Geometry) (old : EntriesState) (volumes : List VolumeRow) (held : List HeldRow) (total rooms volume_memory held_memory n : ℕ) (row : HeldRow)
    (found : find (is_held_row n) held ≡ Some row) (kept : IsShelf geometry old volumes held total rooms volume_memory held_memory) where
  -- a position that has an entry is inside
  pub filled_within : (at : ℕ) (e : Entry) → entry_at (seen_shelf geometry old volumes held) n at ≡ Some e → at < row.map.len
  filled_within at e there =
      let some = some_of_mapped (λ (a : Piece Entry). a.chunk) (piece_at (seen_shelf geometry old volumes held) n at) e there in
      let lt = slice_within _ at some.0 some.1 in
      let len = held_len_is geometry old volumes held total rooms volume_memory held_memory n row found kept in
      omega arith

  -- a page of a list that tasks fill is its own
  pub filled_alone : (at : ℕ) → is_image_in (seen_shelf geometry old volumes held) n ≡ false → at < row.map.len → count_at old.store (slice_index row.map.numbers (at / 64)) ≡ 1
  filled_alone at image lt =
      let is : row.is_image ≡ false = sym (ap (λ o. if_found o (λ (h : HeldList). h.is_image) true) (held_seen_found geometry old volumes held total rooms volume_memory held_memory n row found kept)) ∙ image in
      held_filled geometry old volumes held total rooms volume_memory held_memory n row found kept is (at / 64)
      (page_within old.store row.map (held_of geometry old volumes held total rooms volume_memory held_memory n row found kept) at lt)

  pub few_filled : row.allocated + 1 < 2 ^ 32
  few_filled =
      let is = held_counted geometry old volumes held total rooms volume_memory held_memory n row found kept in
      let of = held_of geometry old volumes held total rooms volume_memory held_memory n row found kept in
      let len = list_len old.store row.map of in
      let most = count_by-le-length (λ e. not (e.stamp == 0)) (list_of old.store row.map) in
      let few = held_few geometry old volumes held total rooms volume_memory held_memory n row found kept in
      let all = kept.lists.few in
      let limit = geometry.map_to in
      omega arith

  module _ (new : EntriesState) (held' : List HeldRow) (m' : MapState) (a' at : ℕ) (e : PlacedEntry) (is : held' ≡ set held (position_or_len (is_held_row n) held) (record { number = row.number; map = m'; indexes = row.indexes; is_image = row.is_image; allocated = a' }))
      (unmapped : entry_at (seen_shelf geometry old volumes held) n at ≡ Some unmapped_entry) (mapped : (e.stamp == 0) ≡ false)
      (list : list_of new.store m' ≡ set (list_of old.store row.map) at e) (same : m' ≡ row.map) (of' : IsMapOf new.store m')
      (ex : Exchanges old.store new.store row.map.numbers m'.numbers) (places : length new.pool.places ≡ length old.pool.places) (reserved : new.pool.reserved ≡ old.pool.reserved)
      (fresh : List ℕ) (fresh_is : fresh_from 0 new.pool.places ≡ fresh) (allocated : a' ≡ row.allocated + 1) where
    abbrev row' : HeldRow
    row' = record { number = row.number; map = m'; indexes = row.indexes; is_image = row.is_image; allocated = a' }

    abbrev put : HeldList → HeldList
    put h = record h { pieces = piece_set at (seen_entry e) h.pieces }

    taken : TakesUnused old.store row.map.numbers m'.numbers
    taken k some = let t = ap (λ (m : MapState). times k m.numbers) same in omega arith

    seen_is : seen_held new.store row' ≡ put (seen_held old.store row)
    seen_is =
        ap (λ (es : List PlacedEntry). let h : HeldList = record { number = row.number; pieces = with_indexes (held_indexes row.indexes m'.len) (seen_entries es); is_image = row.is_image; left = further row.indexes } in h) list
        ∙ ap (λ (es : List Entry). let h : HeldList = record { number = row.number; pieces = with_indexes (held_indexes row.indexes m'.len) es; is_image = row.is_image; left = further row.indexes } in h) (map-set seen_entry (list_of old.store row.map) at e)
        ∙ ap (λ (m : MapState). let h : HeldList = record { number = row.number; pieces = with_indexes (held_indexes row.indexes m.len) (set (seen_entries (list_of old.store row.map)) at (seen_entry e)); is_image = row.is_image; left = further row.indexes } in h) same
        ∙ ap (λ ps. let h : HeldList = record { number = row.number; pieces = ps; is_image = row.is_image; left = further row.indexes } in h) (with_set (held_indexes row.indexes row.map.len) (seen_entries (list_of old.store row.map)) at (seen_entry e))

    pub filled_seen : seen_shelf geometry new volumes held' ≡ record (with_piece (seen_shelf geometry old volumes held) n at (seen_entry e)) { fresh = fresh }
    filled_seen = changed_held_seen geometry old new volumes held held' total rooms volume_memory held_memory n row row' found is refl refl ex taken of' places reserved fresh fresh_is put seen_is kept

    counted : a' ≡ allocated_in (list_of new.store m')
    counted =
        let lt = filled_within at unmapped_entry unmapped in
        let of = held_of geometry old volumes held total rooms volume_memory held_memory n row found kept in
        let len = list_len old.store row.map of in
        let here = some_at (list_of old.store row.map) at (omega arith) in
        let piece = held_piece geometry old volumes held total rooms volume_memory held_memory n row found kept at here.0 here.1 in
        let chunk : Some (seen_entry here.0) ≡ Some unmapped_entry = sym (ap (option_map (λ (a : Piece Entry). a.chunk)) piece) ∙ unmapped in
        let stamp : here.0.stamp ≡ 0 = ap (λ o. if_found o (λ (x : Entry). x.stamp) 0) chunk in
        let none : (here.0.stamp == 0) ≡ true = ap (λ k. k == 0) stamp in
        allocated_put (list_of old.store row.map) at row.allocated a' e here.0 (omega arith) here.1 mapped (held_counted geometry old volumes held total rooms volume_memory held_memory n row found kept)
        (allocated ∙ ap (λ b. cond b (row.allocated + 1) row.allocated) (sym none))
        ∙ ap allocated_in (sym list)

    pub filled_kept : shares_rightly (record (with_piece (seen_shelf geometry old volumes held) n at (seen_entry e)) { fresh = fresh }) ≡ true → IsShelf geometry new volumes held' total rooms volume_memory held_memory
    filled_kept shares = changed_held_kept geometry old new volumes held held' total rooms volume_memory held_memory n row row' found is refl refl ex taken of' places reserved fresh fresh_is put seen_is kept
        total (ap (λ (m : MapState). total + m.len) (sym same)) kept.lists.few shares
        (subst (λ (m : MapState). length (held_indexes row.indexes m.len) ≡ m.len) (sym same) (held_indexed geometry old volumes held total rooms volume_memory held_memory n row found kept))
        counted
        (subst (λ (m : MapState). HasRoom row.indexes m) (sym same) (held_room geometry old volumes held total rooms volume_memory held_memory n row found kept))

    pub filled_own : (v k : ℕ) → own_in (map (seen_pages old.store) volumes) v k ≡ true → own_in (map (seen_pages new.store) volumes) v k ≡ true
    filled_own = changed_held_own geometry old new volumes held held' total rooms volume_memory held_memory n row row' found is refl refl ex taken of' places reserved fresh fresh_is put seen_is kept
