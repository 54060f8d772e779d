-- One held list less, which ended: what a shelf keeps, and what is seen of it.
use Rattle.std.proofs.Common.{ℕ, ◌≡◌, ◌+◌, true, List, [], ◌∷◌, ◌++◌, map, length, Some, find, is_some, refl, sym, ap, ◌∙◌, subst, arith}
use Rattle.std.specs.List.{All}
use Rattle.std.proofs.lemmas.List.{append-nil, map-append}
use Rattle.std.proofs.lemmas.List.Elements.{All-nil, All-weaker}
use Rattle.std.proofs.lemmas.List.Sums.{sum_by-cons}
use Rattle.vv_units.specs.declared.geometry.Geometry.{Geometry}
use Rattle.vv_map.specs.Rooms.{MapState}
use Rattle.vv_map.specs.Pages.{IsMapOf}
use Rattle.vv_entries.specs.Entries.{EntriesState}
use Rattle.vv_entries.specs.Changes.{Exchanges, TakesUnused}
use Rattle.vv_entries.specs.Owners.{all_numbers, IsLeft}
use Rattle.vv_entries.proofs.Times.{times-nil}
use Rattle.vv_flat.specs.State.{Volume}
use Rattle.vv_flat.specs.Chunks.{Entry}
use Rattle.vv_flat.specs.Lists.{first_removed}
use Rattle.vv_flat.proofs.Positions.{length-removed}
use Rattle.vv_flat.proofs.MapLists.{map-first_removed}
use Rattle.vv_flat.proofs.KeepLists.{rising-removed}
use Rattle.vv_vols.specs.declared.row.VolumeRow.{VolumeRow}
use Rattle.vv_vols.specs.declared.row.HeldRow.{HeldRow}
use Rattle.vv_vols.specs.Shelf.{HeldList, ShelfState, is_held, shares_rightly}
use Rattle.vv_vols.specs.Calls.{without_held}
use Rattle.vv_vols.specs.Rows.{is_held_row, seen_volume, seen_held, seen_pages, seen_shelf, own_in, volume_map, held_map, held_numbers, rises, fresh_from, IsFilled, IsCountedHeld, IsShelf}
use Rattle.vv_vols.proofs.Kept.{dropped_shares}
use Rattle.vv_vols.proofs.OwnKept.{own_rows, filled_stays}
use Rattle.vv_vols.proofs.HeldSpliced.{IsIndexed, HasItsRoom, pieces_sum, volumes_left, volumes_seen, spliced_seen, spliced_kept, around_all}
use Rattle.vv_vols.proofs.AddedHeld.{pieces_len}
use Rattle.vv_vols.proofs.FoundSplit.{Split, found_split}
use Rattle.vv_vols.proofs.HeldRead.{held_of, held_indexed}

-- the maps of lists that are left
pub maps_left : (old new : EntriesState) (ms : List MapState) → All (IsLeft old.store new.store) ms → All (λ (m : MapState). IsMapOf new.store m) ms
maps_left old new ms left = All-weaker (IsLeft old.store new.store) (λ (m : MapState). IsMapOf new.store m) (λ m h. h.of) ms left

module _ (geometry : Geometry) (old new : EntriesState) (volumes : List VolumeRow) (held held' : List HeldRow) (total total' rooms volume_memory held_memory n : ℕ) (row : HeldRow)
    (found : find (is_held_row n) held ≡ Some row) (is : held' ≡ first_removed (is_held_row n) held)
    (ex : Exchanges old.store new.store row.map.numbers []) (places : length new.pool.places ≡ length old.pool.places) (reserved : new.pool.reserved ≡ old.pool.reserved)
    (fresh : fresh_from 0 new.pool.places ≡ fresh_from 0 old.pool.places) (less : total' + row.map.len ≡ total)
    (kept : IsShelf geometry old volumes held total rooms volume_memory held_memory) where
  s : Split (is_held_row n) held row
  s = found_split (is_held_row n) held row found

  split' : held' ≡ s.front ++ ([] ++ s.back)
  split' = is ∙ s.removed

  ex_lists : Exchanges old.store new.store (all_numbers (map held_map (row ∷ []))) (all_numbers (map held_map []))
  ex_lists = subst (λ ns. Exchanges old.store new.store ns []) (sym (append-nil row.map.numbers)) ex

  none : All (λ (m : MapState). IsMapOf new.store m) (map held_map [])
  none = All-nil (λ (m : MapState). IsMapOf new.store m)

  taken : TakesUnused old.store row.map.numbers []
  taken k some = let z = times-nil k in omega arith

  vols_left : All (IsLeft old.store new.store) (map volume_map volumes)
  vols_left = volumes_left geometry old new volumes held held' s.front (row ∷ []) [] s.back total rooms volume_memory held_memory s.whole split' ex_lists none kept

  pub removed_held_seen : seen_shelf geometry new volumes held' ≡ without_held (seen_shelf geometry old volumes held) n
  removed_held_seen =
      let vs = volumes_seen geometry old new volumes held held' s.front (row ∷ []) [] s.back total rooms volume_memory held_memory s.whole split' ex_lists none kept in
      let hs : map (seen_held new.store) held' ≡ first_removed (is_held n) (map (seen_held old.store) held) =
      spliced_seen geometry old new volumes held held' s.front (row ∷ []) [] s.back total rooms volume_memory held_memory s.whole split' ex_lists none kept
      ∙ sym (map-append (seen_held old.store) s.front s.back) ∙ ap (map (seen_held old.store)) (sym s.removed)
      ∙ map-first_removed (seen_held old.store) (is_held_row n) (is_held n) (λ r. refl) held in
      ap (λ (ws : List (Volume Entry)). let t : ShelfState = record { geometry = geometry; volumes = ws; held = map (seen_held new.store) held'; fresh = fresh_from 0 new.pool.places; reserved = new.pool.reserved } in t) vs
      ∙ ap (λ (ks : List HeldList). let t : ShelfState = record { geometry = geometry; volumes = map (seen_volume old.store) volumes; held = ks; fresh = fresh_from 0 new.pool.places; reserved = new.pool.reserved } in t) hs
      ∙ ap (λ ps. let t : ShelfState = record { geometry = geometry; volumes = map (seen_volume old.store) volumes; held = first_removed (is_held n) (map (seen_held old.store) held); fresh = ps; reserved = new.pool.reserved } in t) fresh
      ∙ ap (λ k. let t : ShelfState = record { geometry = geometry; volumes = map (seen_volume old.store) volumes; held = first_removed (is_held n) (map (seen_held old.store) held); fresh = fresh_from 0 old.pool.places; reserved = k } in t) reserved

  pub removed_held_kept : IsShelf geometry new volumes held' total' rooms volume_memory held_memory
  removed_held_kept =
      let of = held_of geometry old volumes held total rooms volume_memory held_memory n row found kept in
      let indexed = held_indexed geometry old volumes held total rooms volume_memory held_memory n row found kept in
      let len = pieces_len old.store row of indexed in
      let sum : pieces_sum (map (seen_held old.store) (row ∷ [])) ≡ length (seen_held old.store row).pieces + 0 = sum_by-cons (λ (h : HeldList). length h.pieces) (seen_held old.store row) [] in
      let size : length held' + 1 ≡ length held = ap (λ (hs : List HeldRow). length hs + 1) is ∙ length-removed (is_held_row n) held (ap (λ o. is_some o) found) in
      spliced_kept geometry old new volumes held held' s.front (row ∷ []) [] s.back total rooms volume_memory held_memory s.whole split' ex_lists none kept
      total' rooms held_memory places (omega arith) (let f = kept.lists.few in omega arith)
      (ap shares_rightly removed_held_seen ∙ dropped_shares (seen_shelf geometry old volumes held) kept.lists.shares n)
      (ap (λ hs. rises (held_numbers hs)) is ∙ rising-removed (λ (r : HeldRow). r.number) (is_held_row n) held kept.held_rising)
      (All-nil IsIndexed)
      (around_all geometry old new volumes held held' s.front (row ∷ []) [] s.back total rooms volume_memory held_memory s.whole split' ex_lists none kept (IsFilled old.store) (IsFilled new.store) kept.filled
      (λ zs left was. filled_stays old.store new.store row.map.numbers [] ex taken zs (maps_left old new (map held_map zs) left) was) (All-nil (IsFilled new.store)))
      (All-nil (IsCountedHeld new.store)) (All-nil HasItsRoom)
      (let m = kept.volume_rows in omega arith) (let m = kept.held_rows in omega arith)

  pub removed_held_own : (v k : ℕ) → own_in (map (seen_pages old.store) volumes) v k ≡ true → own_in (map (seen_pages new.store) volumes) v k ≡ true
  removed_held_own = own_rows old.store new.store row.map.numbers [] ex taken volumes (maps_left old new (map volume_map volumes) vols_left)
