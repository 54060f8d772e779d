-- A held list without an entry, and one that is appended to: what a shelf keeps, and what is seen of it.
use Rattle.std.proofs.Common.{ℕ, ◌≡◌, ◌+◌, ◌-◌, ◌/◌, ◌%◌, ◌<◌, ◌≤◌, true, false, List, [], ◌∷◌, ◌++◌, map, length, set, vec_capacity, Some, find, refl, sym, ap, ◌∙◌, subst, arith}
use Rattle.std.specs.Prelude.{slice_index}
use Rattle.std.specs.List.{position_or_len}
use Rattle.std.proofs.lemmas.List.{map-append, length_push}
use Rattle.std.proofs.lemmas.List.Sums.{sum_by-append}
use Rattle.vv_units.specs.declared.geometry.Geometry.{Geometry}
use Rattle.vv_map.specs.Rooms.{MapState}
use Rattle.vv_map.specs.Pages.{list_of, count_at, IsMapOf}
use Rattle.vv_entries.specs.Entries.{EntriesState, unmapped}
use Rattle.vv_entries.specs.Changes.{Exchanges, TakesUnused}
use Rattle.vv_entries.proofs.Written.{exchanges-same}
use Rattle.vv_flat.specs.Lists.{if_found, put_before}
use Rattle.vv_flat.specs.State.{Piece}
use Rattle.vv_flat.specs.Chunks.{Entry, unmapped_entry}
use Rattle.vv_vols.specs.declared.row.VolumeRow.{VolumeRow}
use Rattle.vv_vols.specs.declared.row.HeldRow.{HeldRow}
use Rattle.vv_vols.specs.declared.row.HeldIndexes.TheVariants.{Listed}
use Rattle.vv_vols.specs.declared.row.ListedIndexes.{ListedIndexes}
use Rattle.vv_vols.specs.Shelf.{HeldList, is_image_in, left_in, first_gap, next_held, shares_rightly}
use Rattle.vv_vols.specs.Calls.{with_held, new_held, with_appended}
use Rattle.vv_vols.specs.Rows.{is_held_row, is_held_above, seen_entry, seen_entries, seen_held, seen_pages, seen_shelf, own_in, held_numbers, held_indexes, further, with_indexes, fresh_from, allocated_in, HasRoom, IsShelf}
use Rattle.vv_vols.proofs.Kept.{held_shares}
use Rattle.vv_vols.proofs.Members.{none_in}
use Rattle.vv_vols.proofs.Numbers.{none_allocated}
use Rattle.vv_vols.proofs.HeldPieces.{with_more}
use Rattle.vv_vols.proofs.HeldShares.{held_longer_shares}
use Rattle.vv_vols.proofs.HeldTarget.{held_numbers_seen}
use Rattle.vv_vols.proofs.HeldSpliced.{IsIndexed}
use Rattle.vv_vols.proofs.HeldRead.{held_of, held_indexed, held_filled, held_counted, held_entries, held_seen_found}
use Rattle.vv_vols.proofs.AddedHeld.{added_held_seen, added_held_kept}
use Rattle.vv_vols.proofs.ChangedHeld.{changed_held_seen, changed_held_kept, changed_held_own}

-- ---- a list without an entry
module _ (geometry : Geometry) (old : EntriesState) (volumes : List VolumeRow) (held : List HeldRow) (total rooms volume_memory held_memory held_memory' n memory : ℕ) (listed : ListedIndexes)
    (number : n ≡ first_gap 0 (held_numbers held)) (none : listed.indexes.items ≡ [])
    (numbers : (vec_capacity listed.indexes + 63) / 64 ≤ memory) (pages : (vec_capacity listed.indexes + 63) / 64 ≤ listed.room.pages)
    (some : 1 ≤ rooms) (more : held_memory ≤ held_memory')
    (kept : IsShelf geometry old volumes held total rooms volume_memory held_memory) where
  abbrev m : MapState
  m = record { numbers = []; len = 0; memory = memory }

  abbrev row' : HeldRow
  row' = record { number = n; map = m; indexes = Listed listed; is_image = false; allocated = 0 }

  of : IsMapOf old.store m
  of = record { counted = λ i lt. absurd (omega arith); apart = λ i j lt h. absurd (omega arith); sizes = λ i lt. absurd (omega arith); size = refl }

  ex : Exchanges old.store old.store [] []
  ex = exchanges-same old.store []

  taken : TakesUnused old.store [] []
  taken k some = omega arith

  indexed : IsIndexed row'
  indexed = ap length none

  has_room : HasRoom (Listed listed) m
  has_room = (numbers, omega arith)

  fits : total + 0 ≤ geometry.map_chunks
  fits = let f = kept.lists.few in omega arith

  next : n ≡ next_held (seen_shelf geometry old volumes held)
  next = number ∙ ap (first_gap 0) (sym (held_numbers_seen old.store held))

  is_new : seen_held old.store row' ≡ new_held (seen_shelf geometry old volumes held) [] false (vec_capacity listed.indexes)
  is_new =
      let left : vec_capacity listed.indexes - length listed.indexes.items ≡ vec_capacity listed.indexes = let z = ap length none in omega arith in
      ap (λ (xs : List ℕ). let h : HeldList = record { number = n; pieces = with_indexes xs []; is_image = false; left = vec_capacity listed.indexes - length listed.indexes.items } in h) none
      ∙ ap (λ k. let h : HeldList = record { number = n; pieces = []; is_image = false; left = k } in h) left
      ∙ ap (λ k. let h : HeldList = record { number = k; pieces = []; is_image = false; left = vec_capacity listed.indexes } in h) next

  shares : shares_rightly (with_held (seen_shelf geometry old volumes held) (seen_held old.store row')) ≡ true
  shares = subst (λ h. shares_rightly (with_held (seen_shelf geometry old volumes held) h) ≡ true) (sym is_new)
      (held_shares (seen_shelf geometry old volumes held) kept.lists.shares (new_held (seen_shelf geometry old volumes held) [] false (vec_capacity listed.indexes)) (λ a at. absurd (none_in a at)))

  pub none_seen : seen_shelf geometry old volumes (put_before (is_held_above n) row' held) ≡ with_held (seen_shelf geometry old volumes held) (new_held (seen_shelf geometry old volumes held) [] false (vec_capacity listed.indexes))
  none_seen =
      added_held_seen geometry old old volumes held total rooms volume_memory held_memory held_memory' row' number of ex refl refl indexed has_room fits some more kept
      ∙ ap (with_held (seen_shelf geometry old volumes held)) is_new

  pub none_kept : IsShelf geometry old volumes (put_before (is_held_above n) row' held) total (rooms - 1) volume_memory held_memory'
  none_kept = subst (λ k. IsShelf geometry old volumes (put_before (is_held_above n) row' held) k (rooms - 1) volume_memory held_memory') (omega arith)
      (added_held_kept geometry old old volumes held total rooms volume_memory held_memory held_memory' row' number of ex refl refl indexed has_room fits some more kept
      kept.filled (λ image i lt. absurd (omega arith)) shares)

-- ---- a list with an entry more
module _ (geometry : Geometry) (old : EntriesState) (volumes : List VolumeRow) (held : List HeldRow) (total rooms volume_memory held_memory n : ℕ) (row : HeldRow)
    (found : find (is_held_row n) held ≡ Some row) (kept : IsShelf geometry old volumes held total rooms volume_memory held_memory) where
  pub appended_left : left_in (seen_shelf geometry old volumes held) n ≡ further row.indexes
  appended_left = ap (λ o. if_found o (λ (h : HeldList). h.left) 0) (held_seen_found geometry old volumes held total rooms volume_memory held_memory n row found kept)

  pub appended_alone : is_image_in (seen_shelf geometry old volumes held) n ≡ false → 0 < row.map.len % 64 → count_at old.store (slice_index row.map.numbers (row.map.len / 64)) ≡ 1
  appended_alone image part =
      let is : row.is_image ≡ false = sym (ap (λ o. if_found o (λ (h : HeldList). h.is_image) true) (held_seen_found geometry old volumes held total rooms volume_memory held_memory n row found kept)) ∙ image in
      let of = held_of geometry old volumes held total rooms volume_memory held_memory n row found kept in
      let size = of.size in
      held_filled geometry old volumes held total rooms volume_memory held_memory n row found kept is (row.map.len / 64) (omega arith)

  module _ (new : EntriesState) (held' : List HeldRow) (row' : HeldRow) (index : ℕ) (is : held' ≡ set held (position_or_len (is_held_row n) held) row')
      (number : row'.number ≡ row.number) (image : row'.is_image ≡ row.is_image) (allocated : row'.allocated ≡ row.allocated)
      (list : list_of new.store row'.map ≡ list_of old.store row.map ++ unmapped ∷ []) (len : row'.map.len ≡ row.map.len + 1) (of' : IsMapOf new.store row'.map)
      (ex : Exchanges old.store new.store row.map.numbers row'.map.numbers) (taken : TakesUnused old.store row.map.numbers row'.map.numbers) (pool : new.pool ≡ old.pool)
      (indexes : held_indexes row'.indexes row'.map.len ≡ held_indexes row.indexes row.map.len ++ index ∷ []) (left : further row'.indexes + 1 ≡ further row.indexes)
      (has_room : HasRoom row'.indexes row'.map) (few : total + 1 ≤ geometry.map_chunks) where
    abbrev longer : HeldList → HeldList
    longer h = let last : Piece Entry = record { index = index; chunk = unmapped_entry } in record h { pieces = h.pieces ++ last ∷ []; left = h.left - 1 }

    was_indexed : IsIndexed row
    was_indexed = held_indexed geometry old volumes held total rooms volume_memory held_memory n row found kept

    indexed' : IsIndexed row'
    indexed' = ap length indexes ∙ length_push (held_indexes row.indexes row.map.len) index ∙ ap (λ k. k + 1) was_indexed ∙ sym len

    counted' : row'.allocated ≡ allocated_in (list_of new.store row'.map)
    counted' =
        let was = held_counted geometry old volumes held total rooms volume_memory held_memory n row found kept in
        let last = none_allocated 1 in
        let both : allocated_in (list_of old.store row.map ++ unmapped ∷ []) ≡ allocated_in (list_of old.store row.map) + allocated_in (unmapped ∷ []) = sum_by-append _ (list_of old.store row.map) (unmapped ∷ []) in
        let now = ap allocated_in list in
        omega arith

    entries : seen_entries (list_of new.store row'.map) ≡ seen_entries (list_of old.store row.map) ++ unmapped_entry ∷ []
    entries = ap seen_entries list ∙ map-append seen_entry (list_of old.store row.map) (unmapped ∷ [])

    seen_is : seen_held new.store row' ≡ longer (seen_held old.store row)
    seen_is =
        ap (λ k. let h : HeldList = record { number = k; pieces = with_indexes (held_indexes row'.indexes row'.map.len) (seen_entries (list_of new.store row'.map)); is_image = row'.is_image; left = further row'.indexes } in h) number
        ∙ ap (λ b. let h : HeldList = record { number = row.number; pieces = with_indexes (held_indexes row'.indexes row'.map.len) (seen_entries (list_of new.store row'.map)); is_image = b; left = further row'.indexes } in h) image
        ∙ ap (λ k. let h : HeldList = record { number = row.number; pieces = with_indexes (held_indexes row'.indexes row'.map.len) (seen_entries (list_of new.store row'.map)); is_image = row.is_image; left = k } in h) (let l : further row'.indexes ≡ further row.indexes - 1 = omega arith in l)
        ∙ ap (λ xs. let h : HeldList = record { number = row.number; pieces = with_indexes xs (seen_entries (list_of new.store row'.map)); is_image = row.is_image; left = further row.indexes - 1 } in h) indexes
        ∙ ap (λ es. let h : HeldList = record { number = row.number; pieces = with_indexes (held_indexes row.indexes row.map.len ++ index ∷ []) es; is_image = row.is_image; left = further row.indexes - 1 } in h) entries
        ∙ ap (λ ps. let h : HeldList = record { number = row.number; pieces = ps; is_image = row.is_image; left = further row.indexes - 1 } in h)
        (with_more (held_indexes row.indexes row.map.len) (seen_entries (list_of old.store row.map)) index unmapped_entry (was_indexed ∙ sym (held_entries geometry old volumes held total rooms volume_memory held_memory n row found kept)))

    fresh_is : fresh_from 0 new.pool.places ≡ fresh_from 0 old.pool.places
    fresh_is = ap (λ p. fresh_from 0 p.places) pool

    pub appended_seen : seen_shelf geometry new volumes held' ≡ with_appended (seen_shelf geometry old volumes held) n index
    appended_seen = changed_held_seen geometry old new volumes held held' total rooms volume_memory held_memory n row row' found is number image ex taken of' (ap (λ p. length p.places) pool) (ap (λ p. p.reserved) pool) (fresh_from 0 old.pool.places) fresh_is longer seen_is kept

    pub appended_kept : IsShelf geometry new volumes held' (total + 1) rooms volume_memory held_memory
    appended_kept = changed_held_kept geometry old new volumes held held' total rooms volume_memory held_memory n row row' found is number image ex taken of' (ap (λ p. length p.places) pool) (ap (λ p. p.reserved) pool) (fresh_from 0 old.pool.places) fresh_is longer seen_is kept
        (total + 1) (omega arith) few
        (held_longer_shares (seen_shelf geometry old volumes held) kept.lists.shares n index longer (λ k. refl))
        indexed' counted' has_room

    pub appended_own : (v k : ℕ) → own_in (map (seen_pages old.store) volumes) v k ≡ true → own_in (map (seen_pages new.store) volumes) v k ≡ true
    appended_own = changed_held_own geometry old new volumes held held' total rooms volume_memory held_memory n row row' found is number image ex taken of' (ap (λ p. length p.places) pool) (ap (λ p. p.reserved) pool) (fresh_from 0 old.pool.places) fresh_is longer seen_is kept
