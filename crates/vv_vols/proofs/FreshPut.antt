-- A fresh place is one that no entry names; and how many entries of a volume are allocated.
use Rattle.std.proofs.Common.{ℕ, zero, suc, ◌≡◌, ◌<◌, ◌≤◌, ◌^◌, ◌==◌, ◌&&◌, Bool, true, false, not, List, [], ◌∷◌, ◌++◌, map, length, get_or, sum_by, Some, refl, sym, ap, ◌∙◌, ⊎_elim, arith}
use Rattle.std.specs.Prelude.{nat_lt}
use Rattle.std.specs.List.{position}
use Rattle.std.proofs.lemmas.Bool.{cases_lt, lt-ltb}
use Rattle.std.proofs.lemmas.List.{get_or_past, length-map}
use Rattle.std.proofs.lemmas.List.Sums.{sum_by-cons, count_by-le-length}
use Rattle.vv_units.specs.declared.geometry.Geometry.{Geometry}
use Rattle.vv_map.specs.Pages.{list_of}
use Rattle.vv_pool.specs.declared.place_use.PlaceUse.{PlaceUse}
use Rattle.vv_pool.specs.declared.place_use.PlaceUse.TheVariants.{Counted, Fresh}
use Rattle.vv_pool.specs.Uses.{count_in}
use Rattle.vv_pool.specs.Pool.{IsFresh}
use Rattle.vv_entries.specs.Entries.{EntriesState, named_in, IsCounted}
use Rattle.vv_entries.proofs.Owners.{none_by_lists}
use Rattle.vv_flat.specs.State.{Volume}
use Rattle.vv_flat.specs.Chunks.{Entry}
use Rattle.vv_flat.specs.NamedPlaces.{is_named}
use Rattle.vv_vols.specs.declared.row.VolumeRow.{VolumeRow}
use Rattle.vv_vols.specs.declared.row.HeldRow.{HeldRow}
use Rattle.vv_vols.specs.Shelf.{shelf_pieces, is_new_place}
use Rattle.vv_vols.specs.Conditions.{is_new_stamp}
use Rattle.vv_vols.specs.Shelf.{ShelfState}
use Rattle.vv_vols.specs.Rows.{is_row, seen_entry, seen_volume, seen_shelf, volume_map, held_map, IsShelf}
use Rattle.vv_vols.proofs.SeenPlaces.{pieces_unnamed}
use Rattle.vv_vols.proofs.RowCalls.{row_within, row_allocated}
use Rattle.vv_vols.proofs.ChangedRow.{found_seen}

fresh_within : (us : List PlaceUse) (p : ℕ) → get_or us p (Counted 0) ≡ Fresh → p < length us
fresh_within us p h = ⊎_elim
    (λ lt. lt)
    (λ ge. let bad : Counted 0 ≡ Fresh = sym (get_or_past us p (Counted 0) (omega arith)) ∙ h in absurd (cc))
    (cases_lt p (length us))

both_true : (a b : Bool) → a ≡ true → b ≡ false → (a && not b) ≡ true
both_true a b ea eb = ap (λ x. x && not b) ea ∙ ap not eb

pub mapped_stamp : (s : ShelfState) (index stamp : ℕ) → is_new_stamp s index stamp ≡ true → (stamp == 0) ≡ false
mapped_stamp s index stamp h = go (stamp == 0) _ h
  where
    go : (b c : Bool) → (not b && c) ≡ true → b ≡ false
    go true c e = absurd (cc)
    go false c e = refl

module _ (geometry : Geometry) (entries : EntriesState) (volumes : List VolumeRow) (held : List HeldRow) (total rooms volume_memory held_memory : ℕ)
    (kept : IsShelf geometry entries volumes held total rooms volume_memory held_memory) where
  pub new_place : (p : ℕ) → IsCounted entries.store entries.pool → IsFresh entries.pool p → is_new_place (seen_shelf geometry entries volumes held) p ≡ true
  new_place p counted fresh =
      let within = fresh_within entries.pool.places p fresh in
      let size = kept.lists.places in
      let none : named_in entries.store p ≡ 0 = sym (counted.counted p) ∙ ap count_in fresh in
      both_true (nat_lt p geometry.pool_chunks) (is_named (shelf_pieces (seen_shelf geometry entries volumes held)) p)
      (lt-ltb p geometry.pool_chunks (omega arith))
      (pieces_unnamed entries.store p volumes held (none_by_lists entries.store (map volume_map volumes ++ map held_map held) p none))

get-le-sum : {A : Type 0} (f : A → ℕ) (xs : List A) (i : ℕ) (d : A) → i < length xs → f (get_or xs i d) ≤ sum_by f xs
get-le-sum f [] i d lt = absurd (omega arith)
get-le-sum f (x ∷ xs) zero d lt = let sums = sum_by-cons f x xs in omega arith
get-le-sum f (x ∷ xs) (suc i) d lt = let sums = sum_by-cons f x xs in let rest = get-le-sum f xs i d (omega arith) in omega arith

module _ (geometry : Geometry) (entries : EntriesState) (volumes : List VolumeRow) (held : List HeldRow) (total rooms volume_memory held_memory i n : ℕ) (row : VolumeRow)
    (at : position (is_row n) volumes ≡ Some i) (here : row ≡ get_or volumes i row) (kept : IsShelf geometry entries volumes held total rooms volume_memory held_memory) where
  pub row_few : length (list_of entries.store row.map) ≤ total
  row_few =
      let lt = row_within geometry entries volumes held total i n row row at here kept.lists in
      let most = get-le-sum (λ (v : Volume Entry). length v.chunks) (map (seen_volume entries.store) volumes) i (seen_volume entries.store row) (let l = length-map volumes (seen_volume entries.store) in omega arith) in
      let is : length (get_or (map (seen_volume entries.store) volumes) i (seen_volume entries.store row)).chunks ≡ length (list_of entries.store row.map) =
      ap (λ (v : Volume Entry). length v.chunks) (found_seen entries.store volumes i row ∙ ap (seen_volume entries.store) (sym here)) ∙ length-map (list_of entries.store row.map) seen_entry in
      let sum = kept.lists.summed in
      omega arith

  pub few_chunks : length (list_of entries.store row.map) ≤ 2 ^ 20
  few_chunks =
      let most = row_few in
      let few = kept.lists.few in
      let limit = geometry.map_to in
      omega arith

  pub few_allocated : row.allocated ≤ 2 ^ 20
  few_allocated =
      let is = row_allocated geometry entries volumes held total i n row row at here kept.lists in
      let most = count_by-le-length (λ e. not (e.stamp == 0)) (list_of entries.store row.map) in
      let few = few_chunks in
      omega arith
