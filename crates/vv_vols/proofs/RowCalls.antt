-- What a call on one volume needs of its row, and a call that changes its head alone.
use Rattle.std.proofs.Common.{ℕ, zero, suc, ◌≡◌, ◌+◌, ◌<◌, true, List, [], ◌∷◌, map, length, get_or, set, Some, refl, sym, ap, ◌∙◌, subst, arith}
use Rattle.std.specs.List.{All, position}
use Rattle.std.proofs.lemmas.List.Elements.{All-head, All-tail, All-get_or}
use Rattle.vv_units.specs.declared.geometry.Geometry.{Geometry}
use Rattle.vv_map.specs.Rooms.{MapState}
use Rattle.vv_map.specs.Pages.{StoreState, list_of, IsMapOf}
use Rattle.vv_entries.specs.declared.entry.Entry.{Entry as PlacedEntry}
use Rattle.vv_entries.specs.Entries.{EntriesState}
use Rattle.vv_entries.specs.Changes.{Exchanges}
use Rattle.vv_entries.proofs.Owners.{All-front}
use Rattle.vv_entries.proofs.Written.{exchanges-same}
use Rattle.vv_flat.specs.State.{Volume}
use Rattle.vv_flat.specs.Chunks.{Entry}
use Rattle.vv_flat.proofs.Positions.{position_some}
use Rattle.vv_vols.specs.declared.row.VolumeRow.{VolumeRow}
use Rattle.vv_vols.specs.declared.row.HeldRow.{HeldRow}
use Rattle.vv_vols.specs.Shelf.{shares_rightly}
use Rattle.vv_vols.specs.Calls.{with_changed}
use Rattle.vv_vols.specs.Rows.{is_row, fresh_from, seen_volume, seen_shelf, allocated_in, volume_map, held_map, IsKept}
use Rattle.vv_vols.proofs.Kept.{head_shares}
use Rattle.vv_vols.proofs.KeptRow.{kept_row}
use Rattle.vv_vols.proofs.SeenShelf.{shelf_seen}

-- what stands at a place inside a list doesn't hang on the default
pub any_default : {A : Type 0} (xs : List A) (i : ℕ) (d e : A) → i < length xs → get_or xs i d ≡ get_or xs i e
any_default [] i d e h = absurd (omega arith)
any_default (x ∷ xs) zero d e h = refl
any_default (x ∷ xs) (suc i) d e h = any_default xs i d e (omega arith)

row_map : (store : StoreState PlacedEntry) (rows : List VolumeRow) (i : ℕ) (d : VolumeRow) → i < length rows → All (λ (m : MapState). IsMapOf store m) (map volume_map rows) → IsMapOf store (get_or rows i d).map
row_map store [] i d h maps = absurd (omega arith)
row_map store (r ∷ rows) zero d h maps = All-head (λ (m : MapState). IsMapOf store m) (volume_map r) (map volume_map rows) maps
row_map store (r ∷ rows) (suc i) d h maps = row_map store rows i d (omega arith) (All-tail (λ (m : MapState). IsMapOf store m) (volume_map r) (map volume_map rows) maps)

module _ (geometry : Geometry) (entries : EntriesState) (volumes : List VolumeRow) (held : List HeldRow) (total i n : ℕ) (row row' : VolumeRow)
    (at : position (is_row n) volumes ≡ Some i) (here : row ≡ get_or volumes i row) (kept : IsKept geometry entries volumes held total) where
  pub row_within : i < length volumes
  row_within = let p = position_some (is_row n) volumes i at in let e = p.0 in omega (arith, p.1)

  pub row_is : get_or volumes i row' ≡ row
  row_is = any_default volumes i row' row row_within ∙ sym here

  -- its list is one of the store
  pub row_of : IsMapOf entries.store row.map
  row_of = subst (λ (r : VolumeRow). IsMapOf entries.store r.map) (sym here)
      (row_map entries.store volumes i row row_within (All-front (λ (m : MapState). IsMapOf entries.store m) (map volume_map volumes) (map held_map held) kept.lists.maps))

  -- and its number is kept
  pub row_allocated : row.allocated ≡ allocated_in (list_of entries.store row.map)
  row_allocated = subst (λ (r : VolumeRow). r.allocated ≡ allocated_in (list_of entries.store r.map)) (sym here)
      (All-get_or (λ (r : VolumeRow). r.allocated ≡ allocated_in (list_of entries.store r.map)) volumes i row row_within kept.allocated)

  module _ (map_same : row'.map ≡ row.map) (number_same : row'.allocated ≡ row.allocated) (f : Volume Entry → Volume Entry)
      (is : seen_volume entries.store row' ≡ f (seen_volume entries.store row)) (chunks : (v : Volume Entry) → (f v).chunks ≡ v.chunks) where
    pub ex : Exchanges entries.store entries.store (get_or volumes i row').map.numbers row'.map.numbers
    ex = subst (λ (m : MapState). Exchanges entries.store entries.store (get_or volumes i row').map.numbers m.numbers)
        (ap volume_map row_is ∙ sym map_same) (exchanges-same entries.store (get_or volumes i row').map.numbers)

    pub of : IsMapOf entries.store row'.map
    of = subst (λ (m : MapState). IsMapOf entries.store m) (sym map_same) row_of

    pub head_seen : seen_shelf geometry entries (set volumes i row') held ≡ with_changed (seen_shelf geometry entries volumes held) n f
    head_seen = shelf_seen geometry entries entries volumes held total i n row' at ex of kept f (is ∙ ap (λ r. f (seen_volume entries.store r)) (sym row_is)) (fresh_from 0 entries.pool.places) refl refl

    pub head_kept : IsKept geometry entries (set volumes i row') held total
    head_kept = kept_row geometry entries entries volumes held total total i row' row_within ex of kept refl
        (ap (λ (m : MapState). total + length (list_of entries.store m)) (ap volume_map row_is ∙ sym map_same))
        kept.few
        (number_same ∙ row_allocated ∙ ap (λ (m : MapState). allocated_in (list_of entries.store m)) (sym map_same))
        (subst (λ s. shares_rightly s ≡ true) (sym head_seen) (head_shares (seen_shelf geometry entries volumes held) kept.shares n f chunks))
