-- What is read of one volume's row.
use Rattle.std.proofs.Common.{ℕ, zero, suc, ◌≡◌, ◌+◌, ◌==◌, Bool, true, false, cond, not, List, [], ◌∷◌, map, get_or, Option, Some, None, option_map, find, refl, sym, ap, ◌∙◌}
use Rattle.std.specs.Prelude.{slice_get}
use Rattle.std.specs.List.{position}
use Rattle.std.proofs.lemmas.List.Sums.{sum_by-cons}
use Rattle.vv_units.specs.declared.geometry.Geometry.{Geometry}
use Rattle.vv_map.specs.Pages.{StoreState, list_of}
use Rattle.vv_entries.specs.declared.entry.Entry.{Entry as PlacedEntry}
use Rattle.vv_entries.specs.Entries.{EntriesState}
use Rattle.vv_flat.specs.State.{Volume}
use Rattle.vv_flat.specs.Chunks.{Entry}
use Rattle.vv_flat.specs.Lists.{if_found}
use Rattle.vv_vols.specs.declared.row.VolumeRow.{VolumeRow}
use Rattle.vv_vols.specs.declared.row.HeldRow.{HeldRow}
use Rattle.vv_vols.specs.Shelf.{is_volume, chunks_in, allocated_of}
use Rattle.vv_vols.specs.Rows.{is_row, seen_entry, seen_entries, seen_volume, seen_shelf, allocated_in, volume_numbers, IsShelf}
use Rattle.vv_vols.proofs.WrittenRow.{volume_found, here_found}

pub allocated_seen : (es : List PlacedEntry) → allocated_of (seen_entries es) ≡ allocated_in es
allocated_seen [] = refl
allocated_seen (e ∷ es) =
    let seen = sum_by-cons (λ (x : Entry). cond (not (x.stamp == 0)) 1 0) (seen_entry e) (seen_entries es) in
    let kept = sum_by-cons (λ (x : PlacedEntry). cond (not (x.stamp == 0)) 1 0) e es in
    seen ∙ ap (λ k. cond (not (e.stamp == 0)) 1 0 + k) (allocated_seen es) ∙ sym kept

pub volume_seen : (store : StoreState PlacedEntry) (n : ℕ) (rows : List VolumeRow) → find (is_volume n) (map (seen_volume store) rows) ≡ option_map (seen_volume store) (find (is_row n) rows)
volume_seen store n [] = refl
volume_seen store n (r ∷ rows) = go (is_row n r) (volume_seen store n rows)
  where
    go : (b : Bool) → find (is_volume n) (map (seen_volume store) rows) ≡ option_map (seen_volume store) (find (is_row n) rows)
        → cond b (Some (seen_volume store r)) (find (is_volume n) (map (seen_volume store) rows)) ≡ option_map (seen_volume store) (cond b (Some r) (find (is_row n) rows))
    go true later = refl
    go false later = later

-- a volume that isn't seen has no row
pub row_none : (store : StoreState PlacedEntry) (n : ℕ) (rows : List VolumeRow) → find (is_volume n) (map (seen_volume store) rows) ≡ None → find (is_row n) rows ≡ None
row_none store n rows none = go (find (is_row n) rows) (sym (volume_seen store n rows) ∙ none)
  where
    go : (o : Option VolumeRow) → option_map (seen_volume store) o ≡ None → o ≡ None
    go None e = refl
    go (Some r) e = absurd (cc)

pub numbers_seen : (store : StoreState PlacedEntry) (rows : List VolumeRow) → map (λ (v : Volume Entry). v.number) (map (seen_volume store) rows) ≡ volume_numbers rows
numbers_seen store [] = refl
numbers_seen store (r ∷ rows) = ap (λ ns. r.id.0 ∷ ns) (numbers_seen store rows)

pub number_seen : (store : StoreState PlacedEntry) (rows : List VolumeRow) (i : ℕ)
    → option_map (λ (row : VolumeRow). row.id.0) (slice_get rows i) ≡ option_map (λ (v : Volume Entry). v.number) (slice_get (map (seen_volume store) rows) i)
number_seen store [] i = refl
number_seen store (r ∷ rows) zero = refl
number_seen store (r ∷ rows) (suc i) = number_seen store rows i

module _ (geometry : Geometry) (old : EntriesState) (volumes : List VolumeRow) (held : List HeldRow) (total rooms volume_memory held_memory i n : ℕ) (row : VolumeRow)
    (at : position (is_row n) volumes ≡ Some i) (here : row ≡ get_or volumes i row) (kept : IsShelf geometry old volumes held total rooms volume_memory held_memory) where
  pub here_chunks : chunks_in (seen_shelf geometry old volumes held) n ≡ seen_entries (list_of old.store row.map)
  here_chunks =
      ap (λ o. if_found o (λ (v : Volume Entry). v.chunks) [])
      (volume_found old.store n volumes row (here_found geometry old volumes held total rooms volume_memory held_memory i n row at here kept))
