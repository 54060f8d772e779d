-- One held list became another one: what a shelf keeps, and what is seen of it.
use Rattle.std.proofs.Common.{ℕ, ◌≡◌, ◌+◌, ◌≤◌, true, List, [], ◌∷◌, ◌++◌, map, length, set, Some, find, refl, sym, ap, ◌∙◌, subst, arith, length-append}
use Rattle.std.specs.List.{All, position_or_len}
use Rattle.std.proofs.lemmas.List.{append-nil, map-append}
use Rattle.std.proofs.lemmas.List.Elements.{All-nil, All-cons}
use Rattle.std.proofs.lemmas.List.Sums.{sum_by-cons}
use Rattle.vv_units.specs.declared.geometry.Geometry.{Geometry}
use Rattle.vv_map.specs.Rooms.{MapState}
use Rattle.vv_map.specs.Pages.{IsMapOf}
use Rattle.vv_entries.specs.Entries.{EntriesState}
use Rattle.vv_entries.specs.Changes.{Exchanges, TakesUnused}
use Rattle.vv_entries.specs.Owners.{all_numbers}
use Rattle.vv_flat.specs.State.{Volume}
use Rattle.vv_flat.specs.Chunks.{Entry}
use Rattle.vv_flat.specs.Lists.{first_changed}
use Rattle.vv_vols.specs.declared.row.VolumeRow.{VolumeRow}
use Rattle.vv_vols.specs.declared.row.HeldRow.{HeldRow}
use Rattle.vv_vols.specs.Shelf.{HeldList, ShelfState, is_held, shares_rightly}
use Rattle.vv_vols.specs.Rows.{is_held_row, seen_volume, seen_held, seen_pages, seen_shelf, own_in, volume_map, held_map, held_numbers, rises, fresh_from, IsFilled, IsCountedHeld, IsShelf}
use Rattle.vv_vols.proofs.OwnKept.{own_rows, filled_stays}
use Rattle.vv_vols.proofs.HeldOwn.{own_numbers, own_all}
use Rattle.vv_vols.proofs.HeldSpliced.{IsIndexed, HasItsRoom, pieces_sum, volumes_left, volumes_seen, spliced_seen, spliced_kept, around_all}
use Rattle.vv_vols.proofs.AddedHeld.{pieces_len}
use Rattle.vv_vols.proofs.FoundSplit.{Split, found_split, changed_around}
use Rattle.vv_vols.proofs.HeldRead.{held_of, held_indexed, held_filled}
use Rattle.vv_vols.proofs.RemovedHeld.{maps_left}

module _ (geometry : Geometry) (old new : EntriesState) (volumes : List VolumeRow) (held held' : List HeldRow) (total rooms volume_memory held_memory n : ℕ) (row row' : HeldRow)
    (found : find (is_held_row n) held ≡ Some row) (is : held' ≡ set held (position_or_len (is_held_row n) held) row') (number : row'.number ≡ row.number) (image : row'.is_image ≡ row.is_image)
    (ex : Exchanges old.store new.store row.map.numbers row'.map.numbers) (taken : TakesUnused old.store row.map.numbers row'.map.numbers) (of' : IsMapOf new.store row'.map)
    (places : length new.pool.places ≡ length old.pool.places) (reserved : new.pool.reserved ≡ old.pool.reserved) (fresh : List ℕ) (fresh_is : fresh_from 0 new.pool.places ≡ fresh)
    (f : HeldList → HeldList) (seen_is : seen_held new.store row' ≡ f (seen_held old.store row))
    (kept : IsShelf geometry old volumes held total rooms volume_memory held_memory) where
  s : Split (is_held_row n) held row
  s = found_split (is_held_row n) held row found

  split' : held' ≡ s.front ++ ((row' ∷ []) ++ s.back)
  split' = is ∙ s.put row'

  ex_lists : Exchanges old.store new.store (all_numbers (map held_map (row ∷ []))) (all_numbers (map held_map (row' ∷ [])))
  ex_lists = subst (λ ns. Exchanges old.store new.store ns (row'.map.numbers ++ [])) (sym (append-nil row.map.numbers))
      (subst (Exchanges old.store new.store row.map.numbers) (sym (append-nil row'.map.numbers)) ex)

  of_lists : All (λ (m : MapState). IsMapOf new.store m) (map held_map (row' ∷ []))
  of_lists = All-cons (λ (m : MapState). IsMapOf new.store m) row'.map [] of' (All-nil (λ (m : MapState). IsMapOf new.store m))

  abbrev changed_state : ShelfState
  changed_state = record (seen_shelf geometry old volumes held) { held = first_changed (is_held n) f (map (seen_held old.store) held); fresh = fresh }

  pub changed_held_seen : seen_shelf geometry new volumes held' ≡ changed_state
  changed_held_seen =
      let vs = volumes_seen geometry old new volumes held held' s.front (row ∷ []) (row' ∷ []) s.back total rooms volume_memory held_memory s.whole split' ex_lists of_lists kept in
      let hs : map (seen_held new.store) held' ≡ first_changed (is_held n) f (map (seen_held old.store) held) =
      spliced_seen geometry old new volumes held held' s.front (row ∷ []) (row' ∷ []) s.back total rooms volume_memory held_memory s.whole split' ex_lists of_lists kept
      ∙ ap (λ h. map (seen_held old.store) s.front ++ (h ∷ map (seen_held old.store) s.back)) seen_is
      ∙ sym (changed_around (is_held_row n) (seen_held old.store) (is_held n) (λ r. refl) f s.front row s.back s.misses s.hits)
      ∙ ap (λ rs. first_changed (is_held n) f (map (seen_held old.store) rs)) (sym s.whole) in
      ap (λ (ws : List (Volume Entry)). let t : ShelfState = record { geometry = geometry; volumes = ws; held = map (seen_held new.store) held'; fresh = fresh_from 0 new.pool.places; reserved = new.pool.reserved } in t) vs
      ∙ ap (λ (ks : List HeldList). let t : ShelfState = record { geometry = geometry; volumes = map (seen_volume old.store) volumes; held = ks; fresh = fresh_from 0 new.pool.places; reserved = new.pool.reserved } in t) hs
      ∙ ap (λ ps. let t : ShelfState = record { geometry = geometry; volumes = map (seen_volume old.store) volumes; held = first_changed (is_held n) f (map (seen_held old.store) held); fresh = ps; reserved = new.pool.reserved } in t) fresh_is
      ∙ ap (λ k. let t : ShelfState = record { geometry = geometry; volumes = map (seen_volume old.store) volumes; held = first_changed (is_held n) f (map (seen_held old.store) held); fresh = fresh; reserved = k } in t) reserved

  numbers_same : held_numbers held' ≡ held_numbers held
  numbers_same =
      ap held_numbers split' ∙ map-append (λ (r : HeldRow). r.number) s.front (row' ∷ s.back)
      ∙ ap (λ k. held_numbers s.front ++ (k ∷ held_numbers s.back)) number
      ∙ sym (map-append (λ (r : HeldRow). r.number) s.front (row ∷ s.back)) ∙ ap held_numbers (sym s.whole)

  pub changed_held_kept : (total' : ℕ) → total' + row.map.len ≡ total + row'.map.len → total' ≤ geometry.map_chunks
      → shares_rightly changed_state ≡ true → IsIndexed row' → IsCountedHeld new.store row' → HasItsRoom row'
      → IsShelf geometry new volumes held' total' rooms volume_memory held_memory
  changed_held_kept total' sums few shares indexed' counted' room' =
      let of = held_of geometry old volumes held total rooms volume_memory held_memory n row found kept in
      let indexed = held_indexed geometry old volumes held total rooms volume_memory held_memory n row found kept in
      let filled = held_filled geometry old volumes held total rooms volume_memory held_memory n row found kept in
      let len = pieces_len old.store row of indexed in
      let len' = pieces_len new.store row' of' indexed' in
      let sum : pieces_sum (map (seen_held old.store) (row ∷ [])) ≡ length (seen_held old.store row).pieces + 0 = sum_by-cons (λ (h : HeldList). length h.pieces) (seen_held old.store row) [] in
      let sum' : pieces_sum (map (seen_held new.store) (row' ∷ [])) ≡ length (seen_held new.store row').pieces + 0 = sum_by-cons (λ (h : HeldList). length h.pieces) (seen_held new.store row') [] in
      let size : length held' ≡ length held = ap length split' ∙ length-append s.front (row' ∷ s.back) ∙ sym (length-append s.front (row ∷ s.back)) ∙ ap length (sym s.whole) in
      spliced_kept geometry old new volumes held held' s.front (row ∷ []) (row' ∷ []) s.back total rooms volume_memory held_memory s.whole split' ex_lists of_lists kept
      total' rooms held_memory places (omega arith) few
      (ap shares_rightly changed_held_seen ∙ shares)
      (ap rises numbers_same ∙ kept.held_rising)
      (All-cons IsIndexed row' [] indexed' (All-nil IsIndexed))
      (around_all geometry old new volumes held held' s.front (row ∷ []) (row' ∷ []) s.back total rooms volume_memory held_memory s.whole split' ex_lists of_lists kept (IsFilled old.store) (IsFilled new.store) kept.filled
      (λ zs left was. filled_stays old.store new.store row.map.numbers row'.map.numbers ex taken zs (maps_left old new (map held_map zs) left) was)
      (All-cons (IsFilled new.store) row' [] (λ is_image. own_all old.store new.store row.map.numbers row'.map ex taken of' (own_numbers old.store row.map of (filled (sym image ∙ is_image)))) (All-nil (IsFilled new.store))))
      (All-cons (IsCountedHeld new.store) row' [] counted' (All-nil (IsCountedHeld new.store)))
      (All-cons HasItsRoom row' [] room' (All-nil HasItsRoom))
      (let m = kept.volume_rows in omega arith) (let m = kept.held_rows in omega arith)

  pub changed_held_own : (v k : ℕ) → own_in (map (seen_pages old.store) volumes) v k ≡ true → own_in (map (seen_pages new.store) volumes) v k ≡ true
  changed_held_own = own_rows old.store new.store row.map.numbers row'.map.numbers ex taken volumes
      (maps_left old new (map volume_map volumes) (volumes_left geometry old new volumes held held' s.front (row ∷ []) (row' ∷ []) s.back total rooms volume_memory held_memory s.whole split' ex_lists of_lists kept))
