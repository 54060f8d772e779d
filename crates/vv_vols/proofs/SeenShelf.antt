-- A volume that stands has a row; what a row's edit makes of the shelf that is seen.
use Rattle.std.proofs.Common.{ℕ, ◌≡◌, ◌<◌, Bool, true, false, cond, List, [], ◌∷◌, map, length, get_or, set, Some, find, refl, sym, ap, ◌∙◌, arith}
use Rattle.std.specs.Prelude.{IsSome}
use Rattle.std.specs.List.{position}
use Rattle.vv_units.specs.declared.geometry.Geometry.{Geometry}
use Rattle.vv_map.specs.Pages.{StoreState, IsMapOf}
use Rattle.vv_entries.specs.declared.entry.Entry.{Entry as PlacedEntry}
use Rattle.vv_entries.specs.Entries.{EntriesState}
use Rattle.vv_entries.specs.Changes.{Exchanges}
use Rattle.vv_flat.specs.State.{Volume}
use Rattle.vv_flat.specs.Chunks.{Entry}
use Rattle.vv_flat.specs.Lists.{first_changed}
use Rattle.vv_flat.proofs.Positions.{position_some}
use Rattle.vv_vols.specs.declared.row.VolumeRow.{VolumeRow}
use Rattle.vv_vols.specs.declared.row.HeldRow.{HeldRow}
use Rattle.vv_vols.specs.Shelf.{is_volume}
use Rattle.vv_vols.specs.Calls.{with_changed}
use Rattle.vv_vols.specs.Rows.{is_row, fresh_from, seen_volume, seen_shelf, IsKept}
use Rattle.vv_vols.proofs.ChangedRow.{row_seen, held_seen, changed_volume}

-- a volume that is seen has a row
pub row_found : (store : StoreState PlacedEntry) (n : ℕ) (rows : List VolumeRow) → IsSome (find (is_volume n) (map (seen_volume store) rows)) → IsSome (find (is_row n) rows)
row_found store n [] h = h
row_found store n (r ∷ rows) h = go (is_row n r) (row_found store n rows) h
  where
    go : (b : Bool) → (IsSome (find (is_volume n) (map (seen_volume store) rows)) → IsSome (find (is_row n) rows))
        → IsSome (cond b (Some (seen_volume store r)) (find (is_volume n) (map (seen_volume store) rows))) → IsSome (cond b (Some r) (find (is_row n) rows))
    go true later h = refl
    go false later h = later h

-- one row changed, and its list with it: the fresh places are these
module _ (geometry : Geometry) (old new : EntriesState) (volumes : List VolumeRow) (held : List HeldRow) (total i n : ℕ) (row' : VolumeRow)
    (at : position (is_row n) volumes ≡ Some i) (ex : Exchanges old.store new.store (get_or volumes i row').map.numbers row'.map.numbers) (of : IsMapOf new.store row'.map)
    (kept : IsKept geometry old volumes held total) (f : Volume Entry → Volume Entry) (is : seen_volume new.store row' ≡ f (seen_volume old.store (get_or volumes i row'))) where
  place_within : i < length volumes
  place_within = let p = position_some (is_row n) volumes i at in let e = p.0 in omega (arith, p.1)

  pub volumes_seen : map (seen_volume new.store) (set volumes i row') ≡ first_changed (is_volume n) f (map (seen_volume old.store) volumes)
  volumes_seen =
      row_seen old.store new.store volumes held i row' place_within ex of kept.lists
      ∙ ap (set (map (seen_volume old.store) volumes) i) is
      ∙ sym (changed_volume old.store n i volumes row' f at)

  pub shelf_seen : (fresh : List ℕ) → fresh_from 0 new.pool.places ≡ fresh → new.pool.reserved ≡ old.pool.reserved
      → seen_shelf geometry new (set volumes i row') held ≡ record (with_changed (seen_shelf geometry old volumes held) n f) { fresh = fresh }
  shelf_seen fresh fresh_is reserved =
      let vs = volumes_seen in
      let hs = held_seen old.store new.store volumes held i row' place_within ex of kept.lists in
      cc
