-- What a shelf keeps, after one volume's row changed with its list.
use Rattle.std.proofs.Common.{ℕ, suc, ◌≡◌, ◌+◌, ◌<◌, ◌≤◌, true, List, ◌∷◌, map, length, get_or, set, take, drop, sum_by, sym, ap, ◌∙◌, subst, arith}
use Rattle.std.specs.List.{All}
use Rattle.std.proofs.lemmas.List.{length-map}
use Rattle.std.proofs.lemmas.List.Elements.{All-cons, All-append, All-take, All-drop}
use Rattle.std.proofs.lemmas.List.Sums.{sum_by-set}
use Rattle.vv_units.specs.declared.geometry.Geometry.{Geometry}
use Rattle.vv_map.specs.Pages.{StoreState, list_of, IsMapOf}
use Rattle.vv_entries.specs.declared.entry.Entry.{Entry as PlacedEntry}
use Rattle.vv_entries.specs.Entries.{EntriesState}
use Rattle.vv_entries.specs.Changes.{Exchanges}
use Rattle.vv_flat.specs.State.{Volume}
use Rattle.vv_flat.specs.Chunks.{Entry}
use Rattle.vv_vols.specs.declared.row.VolumeRow.{VolumeRow}
use Rattle.vv_vols.specs.declared.row.HeldRow.{HeldRow}
use Rattle.vv_vols.specs.Shelf.{HeldList, shares_rightly, shelf_entries}
use Rattle.vv_vols.specs.Rows.{seen_entry, seen_volume, seen_held, seen_shelf, allocated_in, IsKept}
use Rattle.vv_vols.proofs.OwnedRows.{set_around}
use Rattle.vv_vols.proofs.ChangedRow.{row_known, row_seen, held_seen, allocated_left, rows_left_ahead, rows_left_behind, found_seen}

module _ (geometry : Geometry) (old new : EntriesState) (volumes : List VolumeRow) (held : List HeldRow) (total total' i : ℕ) (row' : VolumeRow)
    (within : i < length volumes) (ex : Exchanges old.store new.store (get_or volumes i row').map.numbers row'.map.numbers) (of : IsMapOf new.store row'.map)
    (kept : IsKept geometry old volumes held total) where
  row_allocated : row'.allocated ≡ allocated_in (list_of new.store row'.map) → All (λ (r : VolumeRow). r.allocated ≡ allocated_in (list_of new.store r.map)) (set volumes i row')
  row_allocated own = subst (All (λ (r : VolumeRow). r.allocated ≡ allocated_in (list_of new.store r.map))) (sym (set_around volumes i row' within))
      (All-append (λ (r : VolumeRow). r.allocated ≡ allocated_in (list_of new.store r.map)) (take i volumes) (row' ∷ drop (suc i) volumes)
      (allocated_left old.store new.store (take i volumes) (rows_left_ahead old.store new.store volumes held i row' within ex of kept.lists)
      (All-take (λ (r : VolumeRow). r.allocated ≡ allocated_in (list_of old.store r.map)) i volumes kept.allocated))
      (All-cons (λ (r : VolumeRow). r.allocated ≡ allocated_in (list_of new.store r.map)) row' (drop (suc i) volumes) own
      (allocated_left old.store new.store (drop (suc i) volumes) (rows_left_behind old.store new.store volumes held i row' within ex of kept.lists)
      (All-drop (λ (r : VolumeRow). r.allocated ≡ allocated_in (list_of old.store r.map)) (suc i) volumes kept.allocated))))

  seen_length : (store : StoreState PlacedEntry) (r : VolumeRow) → length (seen_volume store r).chunks ≡ length (list_of store r.map)
  seen_length store r = length-map (list_of store r.map) seen_entry

  -- the entries of all lists
  row_entries : shelf_entries (seen_shelf geometry new (set volumes i row') held) + length (list_of old.store (get_or volumes i row').map) ≡ shelf_entries (seen_shelf geometry old volumes held) + length (list_of new.store row'.map)
  row_entries =
      let vs : sum_by (λ (v : Volume Entry). length v.chunks) (map (seen_volume new.store) (set volumes i row')) ≡ sum_by (λ (v : Volume Entry). length v.chunks) (set (map (seen_volume old.store) volumes) i (seen_volume new.store row')) =
      ap (sum_by (λ (v : Volume Entry). length v.chunks)) (row_seen old.store new.store volumes held i row' within ex of kept.lists) in
      let hs : sum_by (λ (h : HeldList). length h.pieces) (map (seen_held new.store) held) ≡ sum_by (λ (h : HeldList). length h.pieces) (map (seen_held old.store) held) =
      ap (sum_by (λ (h : HeldList). length h.pieces)) (held_seen old.store new.store volumes held i row' within ex of kept.lists) in
      let changed = sum_by-set (λ (v : Volume Entry). length v.chunks) (map (seen_volume old.store) volumes) i (seen_volume new.store row') (seen_volume old.store row') (omega (arith, length-map volumes (seen_volume old.store))) in
      let was : length (get_or (map (seen_volume old.store) volumes) i (seen_volume old.store row')).chunks ≡ length (list_of old.store (get_or volumes i row').map) =
      ap (λ (v : Volume Entry). length v.chunks) (found_seen old.store volumes i row') ∙ seen_length old.store (get_or volumes i row') in
      let now = seen_length new.store row' in
      omega arith

  pub kept_row : length new.pool.places ≡ length old.pool.places
      → total' + length (list_of old.store (get_or volumes i row').map) ≡ total + length (list_of new.store row'.map)
      → total' ≤ geometry.map_chunks
      → row'.allocated ≡ allocated_in (list_of new.store row'.map)
      → shares_rightly (seen_shelf geometry new (set volumes i row') held) ≡ true
      → IsKept geometry new (set volumes i row') held total'
  kept_row places sizes few own shares = record {
    lists = row_known old.store new.store volumes held i row' within ex of kept.lists;
    places = places ∙ kept.places;
    pages = ex.size ∙ kept.pages;
    shares = shares;
    summed = let entries = row_entries in omega (arith, kept.summed);
    few = few;
    allocated = row_allocated own;
  }
