-- One more held list: what a shelf keeps, and what is seen of it.
use Rattle.std.proofs.Common.{ℕ, ◌≡◌, ◌+◌, ◌-◌, ◌≤◌, ◌==◌, not, true, List, [], ◌∷◌, ◌++◌, map, length, take, drop, refl, sym, ap, ◌∙◌, subst, arith, take-append-drop}
use Rattle.std.specs.Prelude.{nat_lt}
use Rattle.std.specs.List.{All, list_all, position_or_len}
use Rattle.std.proofs.lemmas.List.{append-nil, map-append, length-map}
use Rattle.std.proofs.lemmas.List.Elements.{All-nil, All-cons, All-append, All-weaker}
use Rattle.std.proofs.lemmas.List.Sums.{sum_by-cons}
use Rattle.vv_units.specs.declared.geometry.Geometry.{Geometry}
use Rattle.vv_map.specs.Rooms.{MapState}
use Rattle.vv_map.specs.Pages.{StoreState, list_of, IsMapOf}
use Rattle.vv_entries.specs.declared.entry.Entry.{Entry as PlacedEntry}
use Rattle.vv_entries.specs.Entries.{EntriesState}
use Rattle.vv_entries.specs.Changes.{Exchanges, TakesUnused}
use Rattle.vv_entries.specs.Owners.{all_numbers, IsLeft}
use Rattle.vv_flat.specs.State.{Volume}
use Rattle.vv_flat.specs.Chunks.{Entry}
use Rattle.vv_flat.specs.Lists.{put_before}
use Rattle.vv_flat.proofs.Positions.{put_at_first, length-put_before}
use Rattle.vv_flat.proofs.MapLists.{map-put_before}
use Rattle.vv_flat.proofs.KeepLists.{rising-put}
use Rattle.vv_vols.specs.declared.row.VolumeRow.{VolumeRow}
use Rattle.vv_vols.specs.declared.row.HeldRow.{HeldRow}
use Rattle.vv_vols.specs.Shelf.{HeldList, ShelfState, shares_rightly, first_gap}
use Rattle.vv_vols.specs.Calls.{with_held}
use Rattle.vv_vols.specs.Rows.{is_held_above, seen_entry, seen_entries, seen_volume, seen_held, seen_pages, seen_shelf, own_in, volume_map, held_map, held_numbers, held_indexes, fresh_from, IsFilled, IsCountedHeld, IsShelf}
use Rattle.vv_vols.proofs.OwnedRows.{seen_left}
use Rattle.vv_vols.proofs.ChangedRow.{held_decided}
use Rattle.vv_vols.proofs.OwnKept.{own_rows, filled_stays, list_len}
use Rattle.vv_vols.proofs.AddedRow.{All-put}
use Rattle.vv_vols.proofs.HeldPieces.{with_len}
use Rattle.vv_vols.proofs.HeldNumbers.{gap_new}
use Rattle.vv_vols.proofs.HeldSpliced.{IsIndexed, HasItsRoom, pieces_sum, xs_left, ys_left, volumes_left, volumes_seen, spliced_kept}

-- how many pieces a held row is seen to have
pub pieces_len : (store : StoreState PlacedEntry) (row : HeldRow) → IsMapOf store row.map → IsIndexed row → length (seen_held store row).pieces ≡ row.map.len
pieces_len store row of indexed =
    let size : length (seen_entries (list_of store row.map)) ≡ row.map.len = length-map (list_of store row.map) seen_entry ∙ list_len store row.map of in
    with_len (held_indexes row.indexes row.map.len) (seen_entries (list_of store row.map)) (indexed ∙ sym size) ∙ size

module _ (geometry : Geometry) (old new : EntriesState) (volumes : List VolumeRow) (held : List HeldRow) (total rooms volume_memory held_memory held_memory' : ℕ) (row' : HeldRow)
    (number : row'.number ≡ first_gap 0 (held_numbers held)) (of : IsMapOf new.store row'.map) (ex : Exchanges old.store new.store [] row'.map.numbers) (pool : new.pool ≡ old.pool)
    (counted : IsCountedHeld new.store row') (indexed : IsIndexed row') (has_room : HasItsRoom row')
    (few : total + row'.map.len ≤ geometry.map_chunks) (some : 1 ≤ rooms) (memory : held_memory ≤ held_memory')
    (kept : IsShelf geometry old volumes held total rooms volume_memory held_memory) where
  abbrev now : List HeldRow
  now = put_before (is_held_above row'.number) row' held

  abbrev i : ℕ
  i = position_or_len (is_held_above row'.number) held

  split : held ≡ take i held ++ ([] ++ drop i held)
  split = sym (take-append-drop i held)

  split' : now ≡ take i held ++ ((row' ∷ []) ++ drop i held)
  split' = put_at_first (is_held_above row'.number) row' held

  ex_lists : Exchanges old.store new.store (all_numbers (map held_map [])) (all_numbers (map held_map (row' ∷ [])))
  ex_lists = subst (Exchanges old.store new.store []) (sym (append-nil row'.map.numbers)) ex

  of_lists : All (λ (m : MapState). IsMapOf new.store m) (map held_map (row' ∷ []))
  of_lists = All-cons (λ (m : MapState). IsMapOf new.store m) row'.map [] of (All-nil (λ (m : MapState). IsMapOf new.store m))

  pub added_held_left : All (IsLeft old.store new.store) (map held_map held)
  added_held_left = subst (All (IsLeft old.store new.store)) (sym (map-append held_map (take i held) (drop i held)) ∙ ap (map held_map) (take-append-drop i held))
      (All-append (IsLeft old.store new.store) (map held_map (take i held)) (map held_map (drop i held))
      (xs_left geometry old new volumes held now (take i held) [] (row' ∷ []) (drop i held) total rooms volume_memory held_memory split split' ex_lists of_lists kept)
      (ys_left geometry old new volumes held now (take i held) [] (row' ∷ []) (drop i held) total rooms volume_memory held_memory split split' ex_lists of_lists kept))

  vols_left : All (IsLeft old.store new.store) (map volume_map volumes)
  vols_left = volumes_left geometry old new volumes held now (take i held) [] (row' ∷ []) (drop i held) total rooms volume_memory held_memory split split' ex_lists of_lists kept

  pub added_held_seen : seen_shelf geometry new volumes now ≡ with_held (seen_shelf geometry old volumes held) (seen_held new.store row')
  added_held_seen =
      let hs : map (seen_held new.store) now ≡ put_before (λ (k : HeldList). nat_lt row'.number k.number) (seen_held new.store row') (map (seen_held old.store) held) =
      map-put_before (seen_held new.store) (is_held_above row'.number) (λ (k : HeldList). nat_lt row'.number k.number) (λ r. refl) row' (seen_held new.store row') refl held
      ∙ ap (put_before (λ (k : HeldList). nat_lt row'.number k.number) (seen_held new.store row')) (seen_left held_map seen_held held_decided old.store new.store held added_held_left) in
      let vs = volumes_seen geometry old new volumes held now (take i held) [] (row' ∷ []) (drop i held) total rooms volume_memory held_memory split split' ex_lists of_lists kept in
      ap (λ (ws : List (Volume Entry)). let s : ShelfState = record { geometry = geometry; volumes = ws; held = map (seen_held new.store) now; fresh = fresh_from 0 new.pool.places; reserved = new.pool.reserved } in s) vs
      ∙ ap (λ (ks : List HeldList). let s : ShelfState = record { geometry = geometry; volumes = map (seen_volume old.store) volumes; held = ks; fresh = fresh_from 0 new.pool.places; reserved = new.pool.reserved } in s) hs
      ∙ ap (λ p. let s : ShelfState = record { geometry = geometry; volumes = map (seen_volume old.store) volumes; held = put_before (λ (k : HeldList). nat_lt row'.number k.number) (seen_held new.store row') (map (seen_held old.store) held); fresh = fresh_from 0 p.places; reserved = p.reserved } in s) pool

  pub added_held_kept : All (IsFilled new.store) held → IsFilled new.store row' → shares_rightly (with_held (seen_shelf geometry old volumes held) (seen_held new.store row')) ≡ true
      → IsShelf geometry new volumes now (total + row'.map.len) (rooms - 1) volume_memory held_memory'
  added_held_kept filled own shares =
      let len = pieces_len new.store row' of indexed in
      let sum : pieces_sum (map (seen_held new.store) (row' ∷ [])) ≡ length (seen_held new.store row').pieces + 0 = sum_by-cons (λ (h : HeldList). length h.pieces) (seen_held new.store row') [] in
      let size = length-put_before (is_held_above row'.number) row' held in
      spliced_kept geometry old new volumes held now (take i held) [] (row' ∷ []) (drop i held) total rooms volume_memory held_memory split split' ex_lists of_lists kept
      (total + row'.map.len) (rooms - 1) held_memory' (ap (λ p. length p.places) pool) (omega arith) few
      (ap shares_rightly added_held_seen ∙ shares)
      (rising-put (λ (r : HeldRow). r.number) row' held (subst (λ n. list_all (λ (r : HeldRow). not (r.number == n)) held ≡ true) (sym number) (gap_new (λ (r : HeldRow). r.number) held kept.held_rising)) kept.held_rising)
      (All-cons IsIndexed row' [] indexed (All-nil IsIndexed))
      (All-put (IsFilled new.store) (is_held_above row'.number) row' held own filled)
      (All-cons (IsCountedHeld new.store) row' [] counted (All-nil (IsCountedHeld new.store)))
      (All-cons HasItsRoom row' [] has_room (All-nil HasItsRoom))
      (let m = kept.volume_rows in omega arith) (let m = kept.held_rows in omega arith)

  -- where the new list took unused pages alone
  module _ (taken : TakesUnused old.store [] row'.map.numbers) where
    pub added_held_filled : All (IsFilled new.store) held
    added_held_filled = filled_stays old.store new.store [] row'.map.numbers ex taken held
        (All-weaker (IsLeft old.store new.store) (λ (m : MapState). IsMapOf new.store m) (λ m h. h.of) (map held_map held) added_held_left) kept.filled

    pub added_held_own : (n k : ℕ) → own_in (map (seen_pages old.store) volumes) n k ≡ true → own_in (map (seen_pages new.store) volumes) n k ≡ true
    added_held_own = own_rows old.store new.store [] row'.map.numbers ex taken volumes
        (All-weaker (IsLeft old.store new.store) (λ (m : MapState). IsMapOf new.store m) (λ m h. h.of) (map volume_map volumes) vols_left)
