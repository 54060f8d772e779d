-- One volume's list became another one, of any length: what a shelf keeps, and what is seen of it.
use Rattle.std.proofs.Common.{ℕ, ◌≡◌, ◌≢◌, ◌+◌, ◌-◌, ◌/◌, ◌%◌, ◌<◌, ◌≤◌, true, false, List, ◌++◌, map, length, get_or, set, replicate, Some, sym, ap, ◌∙◌, subst, ⊎_elim, arith}
use Rattle.std.specs.Prelude.{slice_index}
use Rattle.std.specs.List.{position}
use Rattle.std.proofs.lemmas.Bool.{cases_eq, cases_lt}
use Rattle.std.proofs.lemmas.List.{map-append, length-map}
use Rattle.vv_units.specs.declared.geometry.Geometry.{Geometry}
use Rattle.vv_map.specs.Rooms.{MapState}
use Rattle.vv_map.specs.Pages.{list_of, count_at, IsMapOf}
use Rattle.vv_entries.specs.Entries.{EntriesState, unmapped}
use Rattle.vv_entries.specs.Changes.{Exchanges, TakesUnused}
use Rattle.vv_flat.specs.State.{Volume}
use Rattle.vv_flat.specs.Chunks.{Entry, unmapped_entry}
use Rattle.vv_flat.proofs.MapLists.{map-replicate}
use Rattle.vv_vols.specs.declared.row.VolumeRow.{VolumeRow}
use Rattle.vv_vols.specs.declared.row.HeldRow.{HeldRow}
use Rattle.vv_vols.specs.Shelf.{shares_rightly}
use Rattle.vv_vols.specs.Calls.{with_chunks}
use Rattle.vv_vols.specs.Rows.{is_row, seen_entry, seen_entries, volume_with, seen_volume, seen_shelf, fresh_from, own_pages, own_in, seen_pages, allocated_in, IsShelf}
use Rattle.vv_vols.proofs.RowCalls.{row_within, row_is}
use Rattle.vv_vols.proofs.KeptRow.{kept_row}
use Rattle.vv_vols.proofs.KeptShelf.{shelf_row, own_row}
use Rattle.vv_vols.proofs.SeenShelf.{shelf_seen}
use Rattle.vv_vols.proofs.OwnKept.{list_len, own_is, own_from, one_stays, own_stays}

-- memory for fewer rows
pub fewer_rooms : (geometry : Geometry) (entries : EntriesState) (volumes : List VolumeRow) (held : List HeldRow) (total rooms rooms' volume_memory held_memory : ℕ) → rooms' ≤ rooms
    → IsShelf geometry entries volumes held total rooms volume_memory held_memory → IsShelf geometry entries volumes held total rooms' volume_memory held_memory
fewer_rooms geometry entries volumes held total rooms rooms' volume_memory held_memory few kept = record {
  lists = kept.lists;
  rising = kept.rising;
  held_rising = kept.held_rising;
  indexed = kept.indexed;
  filled = kept.filled;
  volume_rows = let m = kept.volume_rows in omega arith;
  held_rows = let m = kept.held_rows in omega arith;
  held_counts = kept.held_counts;
  held_room = kept.held_room;
}

module _ (geometry : Geometry) (old : EntriesState) (volumes : List VolumeRow) (held : List HeldRow) (total rooms volume_memory held_memory i n : ℕ) (row : VolumeRow)
    (at : position (is_row n) volumes ≡ Some i) (here : row ≡ get_or volumes i row) (kept : IsShelf geometry old volumes held total rooms volume_memory held_memory)
    (new : EntriesState) (m' : MapState) (a' total' : ℕ) (f : List Entry → List Entry) (list : seen_entries (list_of new.store m') ≡ f (seen_entries (list_of old.store row.map))) (of' : IsMapOf new.store m')
    (others : Exchanges old.store new.store row.map.numbers m'.numbers) (takes : TakesUnused old.store row.map.numbers m'.numbers)
    (own : (k : ℕ) → get_or (own_pages old.store row.map) k false ≡ true → get_or (own_pages new.store m') k false ≡ true)
    (places : length new.pool.places ≡ length old.pool.places) (reserved : new.pool.reserved ≡ old.pool.reserved) (fresh : fresh_from 0 new.pool.places ≡ fresh_from 0 old.pool.places)
    (sizes : total' + length (list_of old.store row.map) ≡ total + length (list_of new.store m')) (few : total' ≤ geometry.map_chunks)
    (allocated : a' ≡ allocated_in (list_of new.store m')) where
  abbrev row' : VolumeRow
  row' = record { id = row.id; head = row.head; map = m'; allocated = a' }

  lt : i < length volumes
  lt = row_within geometry old volumes held total i n row row' at here kept.lists

  was : get_or volumes i row' ≡ row
  was = row_is geometry old volumes held total i n row row' at here kept.lists

  ex : Exchanges old.store new.store (get_or volumes i row').map.numbers m'.numbers
  ex = subst (λ (r : VolumeRow). Exchanges old.store new.store r.map.numbers m'.numbers) (sym was) others

  taken : TakesUnused old.store (get_or volumes i row').map.numbers m'.numbers
  taken = subst (λ (r : VolumeRow). TakesUnused old.store r.map.numbers m'.numbers) (sym was) takes

  number : row.id.0 ≡ (get_or volumes i row').id.0
  number = ap (λ (r : VolumeRow). r.id.0) (sym was)

  pub list_seen : seen_shelf geometry new (set volumes i row') held ≡ with_chunks (seen_shelf geometry old volumes held) n f
  list_seen = shelf_seen geometry old new volumes held total i n row' at ex of' kept.lists
      (λ (v : Volume Entry). record v { chunks = f v.chunks })
      (ap (λ es. volume_with row.id.0 row.head es) list
      ∙ ap (λ (r : VolumeRow). let v = seen_volume old.store r in record v { chunks = f v.chunks }) (sym was))
      (fresh_from 0 old.pool.places) fresh reserved

  pub list_kept : shares_rightly (with_chunks (seen_shelf geometry old volumes held) n f) ≡ true → IsShelf geometry new (set volumes i row') held total' rooms volume_memory held_memory
  list_kept shares = shelf_row geometry old new volumes held total total' rooms volume_memory held_memory i row' lt ex taken of' number kept
      (kept_row geometry old new volumes held total total' i row' lt ex of' kept.lists places
      (let before : length (list_of old.store (get_or volumes i row').map) ≡ length (list_of old.store row.map) = ap (λ (r : VolumeRow). length (list_of old.store r.map)) was in
      omega arith)
      few allocated (ap shares_rightly list_seen ∙ shares))

  pub list_own_kept : (m k : ℕ) → own_in (map (seen_pages old.store) volumes) m k ≡ true → own_in (map (seen_pages new.store) (set volumes i row')) m k ≡ true
  list_own_kept = own_row geometry old new volumes held total total' rooms volume_memory held_memory i row' lt ex taken of' number kept
      (λ k was_own. own k (ap (λ (r : VolumeRow). get_or (own_pages old.store r.map) k false) (sym was) ∙ was_own))

-- ---- a list that grew
module _ (old new : EntriesState) (m m' : MapState) (chunks : ℕ) (of : IsMapOf old.store m) (of' : IsMapOf new.store m') (more : m.len ≤ chunks)
    (list : list_of new.store m' ≡ list_of old.store m ++ replicate (chunks - m.len) unmapped) (len : m'.len ≡ chunks)
    (others : Exchanges old.store new.store m.numbers m'.numbers) (takes : TakesUnused old.store m.numbers m'.numbers)
    (pages : (j : ℕ) → j < length m.numbers → j ≢ m.len / 64 → slice_index m'.numbers j ≡ slice_index m.numbers j) (same : m.len ≡ chunks → m' ≡ m)
    (alone : 0 < m.len % 64 → m.len < chunks → count_at new.store (slice_index m'.numbers (m.len / 64)) ≡ 1) where
  pub grown_seen : seen_entries (list_of new.store m') ≡ seen_entries (list_of old.store m) ++ replicate (chunks - length (seen_entries (list_of old.store m))) unmapped_entry
  grown_seen =
      let size : m.len ≡ length (seen_entries (list_of old.store m)) = sym (length-map (list_of old.store m) seen_entry ∙ list_len old.store m of) in
      ap seen_entries list
      ∙ map-append seen_entry (list_of old.store m) (replicate (chunks - m.len) unmapped)
      ∙ ap (λ es. seen_entries (list_of old.store m) ++ es) (map-replicate seen_entry (chunks - m.len) unmapped)
      ∙ ap (λ k. seen_entries (list_of old.store m) ++ replicate (chunks - k) unmapped_entry) size

  pub grown_own : (k : ℕ) → get_or (own_pages old.store m) k false ≡ true → get_or (own_pages new.store m') k false ≡ true
  grown_own k was_own =
      let o = own_is old.store m.numbers k was_own in
      let k_lt = o.0 in
      let size = of.size in
      let size' = of'.size in
      let lt' : k < length m'.numbers = omega arith in
      ⊎_elim
      (λ e. ⊎_elim
      (λ longer. own_from new.store m'.numbers k lt' (ap (λ j. count_at new.store (slice_index m'.numbers j)) e ∙ alone (omega arith) longer))
      (λ no_longer. let eq = same (omega arith) in
      own_stays old.store new.store m.numbers m'.numbers others takes m' of' k (ap (λ (x : MapState). get_or (own_pages old.store x) k false) eq ∙ was_own))
      (cases_lt m.len chunks))
      (λ ne. own_from new.store m'.numbers k lt'
      (one_stays old.store new.store m.numbers m'.numbers others takes (slice_index m'.numbers k) (ap (count_at old.store) (pages k k_lt ne) ∙ o.1) (of'.counted k lt')))
      (cases_eq k (m.len / 64))
