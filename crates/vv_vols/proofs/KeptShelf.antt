-- What a shelf keeps, after one volume's row changed with its list; and what is seen of its own pages then.
use Rattle.std.proofs.Common.{ℕ, zero, suc, ◌≡◌, ◌≢◌, ◌<◌, true, false, List, [], ◌∷◌, ◌++◌, map, length, get_or, set, refl, ap, ◌∙◌, arith, length-set}
use Rattle.std.specs.Prelude.{slice_index}
use Rattle.std.specs.List.{All}
use Rattle.vv_units.specs.declared.geometry.Geometry.{Geometry}
use Rattle.vv_map.specs.Rooms.{MapState}
use Rattle.vv_map.specs.Pages.{count_at, IsMapOf}
use Rattle.vv_entries.specs.Entries.{EntriesState}
use Rattle.vv_entries.specs.Changes.{Exchanges, TakesUnused}
use Rattle.vv_entries.proofs.Owners.{All-front, All-back}
use Rattle.vv_vols.specs.declared.row.VolumeRow.{VolumeRow}
use Rattle.vv_vols.specs.declared.row.HeldRow.{HeldRow}
use Rattle.vv_vols.specs.Rows.{volume_map, held_map, volume_numbers, rises, own_pages, own_in, seen_pages, IsKept, IsShelf}
use Rattle.vv_vols.proofs.ChangedRow.{row_known, held_left, counts_left}
use Rattle.vv_vols.proofs.OwnKept.{own_changed, own_set, filled_stays}

pub numbers_same : (rows : List VolumeRow) (i : ℕ) (row' : VolumeRow) → row'.id.0 ≡ (get_or rows i row').id.0 → volume_numbers (set rows i row') ≡ volume_numbers rows
numbers_same [] i row' e = refl
numbers_same (r ∷ rows) zero row' e = ap (λ k. k ∷ volume_numbers rows) e
numbers_same (r ∷ rows) (suc i) row' e = ap (λ ks. r.id.0 ∷ ks) (numbers_same rows i row' e)

module _ (geometry : Geometry) (old new : EntriesState) (volumes : List VolumeRow) (held : List HeldRow) (total total' rooms volume_memory held_memory i : ℕ) (row' : VolumeRow)
    (within : i < length volumes) (ex : Exchanges old.store new.store (get_or volumes i row').map.numbers row'.map.numbers)
    (taken : TakesUnused old.store (get_or volumes i row').map.numbers row'.map.numbers) (of : IsMapOf new.store row'.map)
    (number : row'.id.0 ≡ (get_or volumes i row').id.0) (kept : IsShelf geometry old volumes held total rooms volume_memory held_memory) where
  maps : All (λ (m : MapState). IsMapOf new.store m) (map volume_map (set volumes i row') ++ map held_map held)
  maps = (row_known old.store new.store volumes held i row' within ex of kept.lists.lists).maps

  pub shelf_row : IsKept geometry new (set volumes i row') held total' → IsShelf geometry new (set volumes i row') held total' rooms volume_memory held_memory
  shelf_row lists = record {
    lists = lists;
    rising = ap rises (numbers_same volumes i row' number) ∙ kept.rising;
    held_rising = kept.held_rising;
    indexed = kept.indexed;
    filled = filled_stays old.store new.store (get_or volumes i row').map.numbers row'.map.numbers ex taken held
        (All-back (λ (m : MapState). IsMapOf new.store m) (map volume_map (set volumes i row')) (map held_map held) maps) kept.filled;
    volume_rows = let l = length-set volumes i row' in let m = kept.volume_rows in omega arith;
    held_rows = let l = length-set volumes i row' in let m = kept.held_rows in omega arith;
    held_counts = counts_left old.store new.store held (held_left old.store new.store volumes held i row' within ex of kept.lists.lists) kept.held_counts;
    held_room = kept.held_room;
  }

  -- pages that were a list's own are so still, but for one, which is one now
  pub own_row : ((k : ℕ) → get_or (own_pages old.store (get_or volumes i row').map) k false ≡ true → get_or (own_pages new.store row'.map) k false ≡ true)
      → (n k : ℕ) → own_in (map (seen_pages old.store) volumes) n k ≡ true → own_in (map (seen_pages new.store) (set volumes i row')) n k ≡ true
  own_row own = own_set old.store new.store (get_or volumes i row').map.numbers row'.map.numbers ex taken volumes i row'
      (All-front (λ (m : MapState). IsMapOf new.store m) (map volume_map (set volumes i row')) (map held_map held) maps) number own

  pub own_row_but : (j : ℕ) → length row'.map.numbers ≡ length (get_or volumes i row').map.numbers
      → ((k : ℕ) → k ≢ j → slice_index row'.map.numbers k ≡ slice_index (get_or volumes i row').map.numbers k) → count_at new.store (slice_index row'.map.numbers j) ≡ 1
      → (n k : ℕ) → own_in (map (seen_pages old.store) volumes) n k ≡ true → own_in (map (seen_pages new.store) (set volumes i row')) n k ≡ true
  own_row_but j size same alone = own_row (own_changed old.store new.store (get_or volumes i row').map.numbers row'.map.numbers ex taken (get_or volumes i row').map row'.map j of size same alone)
