-- A write to one volume's list: what a shelf keeps, and what is seen of it.
use Rattle.std.proofs.Common.{ℕ, zero, suc, ◌≡◌, ◌≢◌, ◌+◌, ◌/◌, ◌<◌, Bool, true, false, cond, not, List, [], ◌∷◌, map, length, get_or, set, Some, option_map, find, sym, ap, ◌∙◌, subst, arith, length-set}
use Rattle.std.specs.Prelude.{slice_index}
use Rattle.std.specs.List.{position, position_or_len}
use Rattle.std.proofs.lemmas.List.{map-set, length-map}
use Rattle.vv_units.specs.declared.geometry.Geometry.{Geometry}
use Rattle.vv_map.specs.Rooms.{MapState}
use Rattle.vv_map.specs.Pages.{StoreState, list_of, count_at, IsMapOf}
use Rattle.vv_map.proofs.MapLemmas.{page_within}
use Rattle.vv_entries.specs.declared.entry.Entry.{Entry as PlacedEntry}
use Rattle.vv_entries.specs.Entries.{EntriesState}
use Rattle.vv_entries.specs.Changes.{Exchanges, TakesUnused}
use Rattle.vv_flat.specs.State.{Volume}
use Rattle.vv_flat.specs.Chunks.{Entry}
use Rattle.vv_flat.specs.Lists.{if_found}
use Rattle.vv_flat.proofs.Positions.{found_is, found_passes, position_some}
use Rattle.vv_vols.specs.declared.row.VolumeRow.{VolumeRow}
use Rattle.vv_vols.specs.declared.row.HeldRow.{HeldRow}
use Rattle.vv_vols.specs.Shelf.{is_volume, size_in, shares_rightly}
use Rattle.vv_vols.specs.Calls.{with_entry}
use Rattle.vv_vols.specs.Rows.{is_row, seen_entry, seen_entries, volume_with, seen_volume, seen_shelf, fresh_from, own_pages, own_in, seen_pages, allocated_in, IsShelf}
use Rattle.vv_vols.proofs.RowCalls.{row_within, row_is, row_of}
use Rattle.vv_vols.proofs.KeptRow.{kept_row}
use Rattle.vv_vols.proofs.KeptShelf.{shelf_row, own_row_but}
use Rattle.vv_vols.proofs.SeenShelf.{shelf_seen}
use Rattle.vv_vols.proofs.OwnKept.{list_len, own_found, own_from}

-- an item put where the first stood that passes is the first
found_set : {A : Type 0} (p : A → Bool) (xs : List A) (i : ℕ) (y : A) → position_or_len p xs ≡ i → i < length xs → p y ≡ true → find p (set xs i y) ≡ Some y
found_set p [] i y e lt passes = absurd (omega arith)
found_set p (x ∷ xs) zero y e lt passes = ap (λ b. cond b (Some y) (find p xs)) passes
found_set p (x ∷ xs) (suc i) y e lt passes = go (p x) e (λ place. found_set p xs i y place (omega arith) passes)
  where
    go : (b : Bool) → cond (not b) (1 + position_or_len p xs) 0 ≡ suc i → (position_or_len p xs ≡ i → find p (set xs i y) ≡ Some y) → cond b (Some x) (find p (set xs i y)) ≡ Some y
    go true e later = absurd (omega arith)
    go false e later = later (omega arith)

-- the volume that is seen of a row
pub volume_found : (store : StoreState PlacedEntry) (n : ℕ) (rows : List VolumeRow) (row : VolumeRow) → find (is_row n) rows ≡ Some row → find (is_volume n) (map (seen_volume store) rows) ≡ Some (seen_volume store row)
volume_found store n [] row e = absurd (cc)
volume_found store n (r ∷ rows) row e = go (is_row n r) (volume_found store n rows row) e
  where
    go : (b : Bool) → (find (is_row n) rows ≡ Some row → find (is_volume n) (map (seen_volume store) rows) ≡ Some (seen_volume store row))
        → cond b (Some r) (find (is_row n) rows) ≡ Some row → cond b (Some (seen_volume store r)) (find (is_volume n) (map (seen_volume store) rows)) ≡ Some (seen_volume store row)
    go true later e = ap (option_map (seen_volume store)) e
    go false later e = later e

module _ (geometry : Geometry) (old : EntriesState) (volumes : List VolumeRow) (held : List HeldRow) (total rooms volume_memory held_memory i n : ℕ) (row : VolumeRow)
    (at : position (is_row n) volumes ≡ Some i) (here : row ≡ get_or volumes i row) (kept : IsShelf geometry old volumes held total rooms volume_memory held_memory) where
  pub here_found : find (is_row n) volumes ≡ Some row
  here_found = found_is (is_row n) volumes i row at here

  pub here_of : IsMapOf old.store row.map
  here_of = row_of geometry old volumes held total i n row row at here kept.lists

  pub here_size : size_in (seen_shelf geometry old volumes held) n ≡ row.map.len
  here_size =
      ap (λ o. if_found o (λ (v : Volume Entry). length v.chunks) 0) (volume_found old.store n volumes row here_found)
      ∙ length-map (list_of old.store row.map) seen_entry ∙ list_len old.store row.map here_of

  pub here_own : (k : ℕ) → own_in (map (seen_pages old.store) volumes) n k ≡ get_or (own_pages old.store row.map) k false
  here_own k = own_found old.store volumes n k row here_found

  module _ (new : EntriesState) (m' : MapState) (a' index : ℕ) (e : PlacedEntry) (within : index < row.map.len)
      (list : list_of new.store m' ≡ set (list_of old.store row.map) index e) (len : m'.len ≡ row.map.len) (of' : IsMapOf new.store m')
      (others : Exchanges old.store new.store row.map.numbers m'.numbers) (takes : TakesUnused old.store row.map.numbers m'.numbers)
      (alone : count_at new.store (slice_index m'.numbers (index / 64)) ≡ 1) (pages : (j : ℕ) → j ≢ index / 64 → slice_index m'.numbers j ≡ slice_index row.map.numbers j)
      (places : length new.pool.places ≡ length old.pool.places) (reserved : new.pool.reserved ≡ old.pool.reserved) (fresh : List ℕ) (fresh_is : fresh_from 0 new.pool.places ≡ fresh)
      (allocated : a' ≡ allocated_in (set (list_of old.store row.map) index e)) where
    abbrev row' : VolumeRow
    row' = record { id = row.id; head = row.head; map = m'; allocated = a' }

    lt : i < length volumes
    lt = row_within geometry old volumes held total i n row row' at here kept.lists

    was : get_or volumes i row' ≡ row
    was = row_is geometry old volumes held total i n row row' at here kept.lists

    ex : Exchanges old.store new.store (get_or volumes i row').map.numbers m'.numbers
    ex = subst (λ (r : VolumeRow). Exchanges old.store new.store r.map.numbers m'.numbers) (sym was) others

    taken : TakesUnused old.store (get_or volumes i row').map.numbers m'.numbers
    taken = subst (λ (r : VolumeRow). TakesUnused old.store r.map.numbers m'.numbers) (sym was) takes

    number : row.id.0 ≡ (get_or volumes i row').id.0
    number = ap (λ (r : VolumeRow). r.id.0) (sym was)

    pub written_seen : seen_shelf geometry new (set volumes i row') held ≡ record (with_entry (seen_shelf geometry old volumes held) n index (seen_entry e)) { fresh = fresh }
    written_seen = shelf_seen geometry old new volumes held total i n row' at ex of' kept.lists
        (λ (v : Volume Entry). record v { chunks = set v.chunks index (seen_entry e) })
        (ap (λ es. volume_with row.id.0 row.head (seen_entries es)) list
        ∙ ap (λ es. volume_with row.id.0 row.head es) (map-set seen_entry (list_of old.store row.map) index e)
        ∙ ap (λ (r : VolumeRow). let v = seen_volume old.store r in record v { chunks = set v.chunks index (seen_entry e) }) (sym was))
        fresh fresh_is reserved

    pub written_kept : shares_rightly (record (with_entry (seen_shelf geometry old volumes held) n index (seen_entry e)) { fresh = fresh }) ≡ true
        → IsShelf geometry new (set volumes i row') held total rooms volume_memory held_memory
    written_kept shares = shelf_row geometry old new volumes held total total rooms volume_memory held_memory i row' lt ex taken of' number kept
        (kept_row geometry old new volumes held total total i row' lt ex of' kept.lists places
        (let now : length (list_of new.store m') ≡ length (list_of old.store row.map) = ap length list ∙ length-set (list_of old.store row.map) index e in
        let before : length (list_of old.store (get_or volumes i row').map) ≡ length (list_of old.store row.map) = ap (λ (r : VolumeRow). length (list_of old.store r.map)) was in
        omega arith)
        kept.lists.few
        (allocated ∙ ap allocated_in (sym list))
        (ap shares_rightly written_seen ∙ shares))

    pub written_own_kept : (m k : ℕ) → own_in (map (seen_pages old.store) volumes) m k ≡ true → own_in (map (seen_pages new.store) (set volumes i row')) m k ≡ true
    written_own_kept = own_row_but geometry old new volumes held total total rooms volume_memory held_memory i row' lt ex taken of' number kept (index / 64)
        (let was_size : length (get_or volumes i row').map.numbers ≡ length row.map.numbers = ap (λ (r : VolumeRow). length r.map.numbers) was in
        let old_size = here_of.size in let new_size = of'.size in cc)
        (λ j ne. pages j ne ∙ ap (λ (r : VolumeRow). slice_index r.map.numbers j) (sym was)) alone

    -- the page that was written is own
    pub written_own : own_in (map (seen_pages new.store) (set volumes i row')) n (index / 64) ≡ true
    written_own =
        own_found new.store (set volumes i row') n (index / 64) row'
        (let place = position_some (is_row n) volumes i at in found_set (is_row n) volumes i row' place.0 lt (found_passes (is_row n) volumes i row at here))
        ∙ own_from new.store m'.numbers (index / 64) (page_within new.store m' of' index (omega arith)) alone
