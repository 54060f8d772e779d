-- One volume got the list of another one, and its own list ended: what a shelf keeps, and what is seen of it.
use Rattle.std.proofs.Common.{ℕ, zero, suc, ◌≡◌, ◌≢◌, ◌+◌, ◌<◌, ◌≤◌, ◌==◌, Bool, true, false, cond, List, [], ◌∷◌, ◌++◌, map, length, get_or, set, Some, find, refl, sym, ap, ◌∙◌, subst, arith, length-set}
use Rattle.std.specs.List.{All, position}
use Rattle.vv_units.specs.declared.geometry.Geometry.{Geometry}
use Rattle.vv_map.specs.Rooms.{MapState}
use Rattle.vv_map.specs.Pages.{StoreState, list_of, IsMapOf}
use Rattle.vv_entries.specs.declared.entry.Entry.{Entry as PlacedEntry}
use Rattle.vv_entries.specs.Entries.{EntriesState}
use Rattle.vv_entries.specs.Changes.{Exchanges, TakesUnused}
use Rattle.vv_entries.specs.Owners.{IsLeft}
use Rattle.vv_entries.proofs.Owners.{left_one, All-front, All-back}
use Rattle.vv_entries.specs.Changes.{times}
use Rattle.vv_entries.proofs.Times.{times-nil}
use Rattle.vv_flat.specs.Lists.{if_found}
use Rattle.vv_flat.specs.State.{Volume}
use Rattle.vv_flat.specs.Chunks.{Entry}
use Rattle.vv_vols.specs.declared.row.VolumeRow.{VolumeRow}
use Rattle.vv_vols.specs.declared.row.HeldRow.{HeldRow}
use Rattle.vv_vols.specs.Shelf.{chunks_in, shares_rightly}
use Rattle.vv_vols.specs.Calls.{with_chunks}
use Rattle.vv_vols.specs.Rows.{OwnPages, is_row, seen_entries, volume_with, seen_volume, seen_shelf, seen_pages, own_in, volume_map, held_map, rises, fresh_from, allocated_in, IsShelf}
use Rattle.vv_vols.proofs.RowCalls.{row_within, row_is, row_allocated}
use Rattle.vv_vols.proofs.ChangedRow.{row_known, counts_left, held_left}
use Rattle.vv_vols.proofs.KeptRow.{kept_row}
use Rattle.vv_vols.proofs.KeptShelf.{numbers_same}
use Rattle.vv_vols.proofs.SeenShelf.{shelf_seen}
use Rattle.vv_vols.proofs.OwnKept.{own_rows, filled_stays}
use Rattle.vv_vols.proofs.ReadRow.{here_chunks}
use Rattle.vv_vols.proofs.SharedPages.{row_counted, row_number, shared_filled, shared_own, own_past}

-- the own pages of a volume of another number, where one row changed
own_elsewhere : (store : StoreState PlacedEntry) (rows : List VolumeRow) (i : ℕ) (row' : VolumeRow) (n k : ℕ) → row'.id.0 ≡ (get_or rows i row').id.0 → n ≢ row'.id.0
    → own_in (map (seen_pages store) (set rows i row')) n k ≡ own_in (map (seen_pages store) rows) n k
own_elsewhere store [] i row' n k number ne = refl
own_elsewhere store (r ∷ rows) zero row' n k number ne = own_past store row' rows n k ne ∙ sym (own_past store r rows n k (λ e. ne (e ∙ sym number)))
own_elsewhere store (r ∷ rows) (suc i) row' n k number ne = go (is_row n r) (own_elsewhere store rows i row' n k number ne)
  where
    go : (b : Bool) → own_in (map (seen_pages store) (set rows i row')) n k ≡ own_in (map (seen_pages store) rows) n k
        → if_found (cond b (Some (seen_pages store r)) (find (λ (p : OwnPages). p.number == n) (map (seen_pages store) (set rows i row')))) (λ (p : OwnPages). get_or p.own k false) false
        ≡ if_found (cond b (Some (seen_pages store r)) (find (λ (p : OwnPages). p.number == n) (map (seen_pages store) rows))) (λ (p : OwnPages). get_or p.own k false) false
    go true rest = refl
    go false rest = rest

module _ (geometry : Geometry) (old shared new : EntriesState) (volumes : List VolumeRow) (held : List HeldRow) (total total' rooms volume_memory held_memory i n j s : ℕ) (row source : VolumeRow)
    (at : position (is_row n) volumes ≡ Some i) (here : row ≡ get_or volumes i row) (source_at : position (is_row s) volumes ≡ Some j) (source_here : source ≡ get_or volumes j source)
    (kept : IsShelf geometry old volumes held total rooms volume_memory held_memory)
    (ex : Exchanges old.store shared.store [] source.map.numbers) (m : MapState) (named : m.numbers ≡ source.map.numbers) (shared_of : IsMapOf shared.store m) (shared_list : list_of shared.store m ≡ list_of old.store source.map)
    (ended : Exchanges shared.store new.store row.map.numbers [])
    (places : length new.pool.places ≡ length old.pool.places) (reserved : new.pool.reserved ≡ old.pool.reserved) (fresh : fresh_from 0 new.pool.places ≡ fresh_from 0 old.pool.places)
    (sizes : total' + length (list_of old.store row.map) ≡ total + length (list_of old.store source.map)) (few : total' ≤ geometry.map_chunks) where
  abbrev row' : VolumeRow
  row' = record { id = row.id; head = row.head; map = m; allocated = source.allocated }

  lt : i < length volumes
  lt = row_within geometry old volumes held total i n row row' at here kept.lists

  was : get_or volumes i row' ≡ row
  was = row_is geometry old volumes held total i n row row' at here kept.lists

  number : row.id.0 ≡ (get_or volumes i row').id.0
  number = ap (λ (r : VolumeRow). r.id.0) (sym was)

  -- the shared list stays where the other one ends
  left : IsLeft shared.store new.store m
  left = left_one shared.store new.store row.map.numbers [] ended m shared_of (λ p.
      let counts = ex.counts p in
      let same : times p m.numbers ≡ times p source.map.numbers = ap (times p) named in
      let none = times-nil p in
      let counted = row_counted geometry old volumes held total rooms volume_memory held_memory i n row at here kept p in
      omega arith)

  list : list_of new.store m ≡ list_of old.store source.map
  list = left.same ∙ shared_list

  both : Exchanges old.store new.store row.map.numbers m.numbers
  both = record {
    counts = λ p. let one = ex.counts p in let two = ended.counts p in let none = times-nil p in let same : times p m.numbers ≡ times p source.map.numbers = ap (times p) named in omega arith;
    pages = λ p h. let one = ex.counts p in let none = times-nil p in ended.pages p (omega arith) ∙ ex.pages p (omega arith);
    size = ended.size ∙ ex.size;
  }

  exchanged : Exchanges old.store new.store (get_or volumes i row').map.numbers m.numbers
  exchanged = subst (λ (r : VolumeRow). Exchanges old.store new.store r.map.numbers m.numbers) (sym was) both

  maps : All (λ (x : MapState). IsMapOf new.store x) (map volume_map (set volumes i row') ++ map held_map held)
  maps = (row_known old.store new.store volumes held i row' lt exchanged left.of kept.lists.lists).maps

  taken : TakesUnused shared.store row.map.numbers []
  taken k some = let none = times-nil k in omega arith

  pub reverted_seen : seen_shelf geometry new (set volumes i row') held ≡ with_chunks (seen_shelf geometry old volumes held) n (λ _. chunks_in (seen_shelf geometry old volumes held) s)
  reverted_seen =
      let chunks = here_chunks geometry old volumes held total rooms volume_memory held_memory j s source source_at source_here kept in
      shelf_seen geometry old new volumes held total i n row' at exchanged left.of kept.lists
      (λ (v : Volume Entry). record v { chunks = chunks_in (seen_shelf geometry old volumes held) s })
      (ap (λ es. volume_with row.id.0 row.head es) (ap seen_entries list ∙ sym chunks)
      ∙ ap (λ (r : VolumeRow). let v = seen_volume old.store r in record v { chunks = chunks_in (seen_shelf geometry old volumes held) s }) (sym was))
      (fresh_from 0 old.pool.places) fresh reserved

  pub reverted_kept : shares_rightly (with_chunks (seen_shelf geometry old volumes held) n (λ _. chunks_in (seen_shelf geometry old volumes held) s)) ≡ true → IsShelf geometry new (set volumes i row') held total' rooms volume_memory held_memory
  reverted_kept shares = record {
    lists = kept_row geometry old new volumes held total total' i row' lt exchanged left.of kept.lists places
        (let before : length (list_of old.store (get_or volumes i row').map) ≡ length (list_of old.store row.map) = ap (λ (r : VolumeRow). length (list_of old.store r.map)) was in
        let after = ap length list in
        omega arith)
        few
        (row_allocated geometry old volumes held total j s source source source_at source_here kept.lists ∙ ap allocated_in (sym list))
        (ap shares_rightly reverted_seen ∙ shares);
    rising = ap rises (numbers_same volumes i row' number) ∙ kept.rising;
    held_rising = kept.held_rising;
    indexed = kept.indexed;
    filled = filled_stays shared.store new.store row.map.numbers [] ended taken held
        (All-back (λ (x : MapState). IsMapOf new.store x) (map volume_map (set volumes i row')) (map held_map held) maps)
        (shared_filled geometry old volumes held total rooms volume_memory held_memory j s source source_at source_here kept shared ex);
    volume_rows = let l = length-set volumes i row' in let rows = kept.volume_rows in omega arith;
    held_rows = let l = length-set volumes i row' in let rows = kept.held_rows in omega arith;
    held_counts = counts_left old.store new.store held (held_left old.store new.store volumes held i row' lt exchanged left.of kept.lists.lists) kept.held_counts;
    held_room = kept.held_room;
  }

  pub reverted_own_kept : (o k : ℕ) → o ≢ n → o ≢ s → own_in (map (seen_pages old.store) volumes) o k ≡ true → own_in (map (seen_pages new.store) (set volumes i row')) o k ≡ true
  reverted_own_kept o k ne ne_source own =
      own_rows shared.store new.store row.map.numbers [] ended taken (set volumes i row')
      (All-front (λ (x : MapState). IsMapOf new.store x) (map volume_map (set volumes i row')) (map held_map held) maps) o k
      (own_elsewhere shared.store volumes i row' o k number (λ e. ne (e ∙ row_number geometry old volumes held total rooms volume_memory held_memory i n row at here kept))
      ∙ shared_own geometry old volumes held total rooms volume_memory held_memory j s source source_at source_here kept shared ex o k ne_source own)
