-- A call that changes a volume's head alone: what a shelf keeps, and what is seen of it.
use Rattle.std.proofs.Common.{ℕ, zero, suc, ◌≡◌, List, [], ◌∷◌, map, get_or, set, Some, refl, sym, ap, ◌∙◌, arith}
use Rattle.std.specs.List.{position}
use Rattle.vv_units.specs.declared.geometry.Geometry.{Geometry}
use Rattle.vv_map.specs.Rooms.{MapState}
use Rattle.vv_entries.specs.Entries.{EntriesState}
use Rattle.vv_entries.specs.Changes.{times, TakesUnused}
use Rattle.vv_flat.specs.State.{Volume}
use Rattle.vv_flat.specs.Chunks.{Entry}
use Rattle.vv_vols.specs.declared.row.VolumeRow.{VolumeRow}
use Rattle.vv_vols.specs.declared.row.HeldRow.{HeldRow}
use Rattle.vv_vols.specs.Calls.{with_changed}
use Rattle.vv_vols.specs.Rows.{OwnPages, ShelfView, is_row, own_pages, seen_pages, seen_volume, seen_shelf, seen_view, volume_map, IsShelf}
use Rattle.vv_vols.proofs.RowCalls.{row_within, row_is, ex, of, head_seen, head_kept}
use Rattle.vv_vols.proofs.KeptShelf.{shelf_row}

pub map-set_same : {A B : Type 0} (f : A → B) (xs : List A) (i : ℕ) (y : A) → f y ≡ f (get_or xs i y) → map f (set xs i y) ≡ map f xs
map-set_same f [] i y e = refl
map-set_same f (x ∷ xs) zero y e = ap (λ b. b ∷ map f xs) e
map-set_same f (x ∷ xs) (suc i) y e = ap (λ bs. f x ∷ bs) (map-set_same f xs i y e)

module _ (geometry : Geometry) (entries : EntriesState) (volumes : List VolumeRow) (held : List HeldRow) (total rooms volume_memory held_memory i n : ℕ) (row row' : VolumeRow)
    (at : position (is_row n) volumes ≡ Some i) (here : row ≡ get_or volumes i row) (kept : IsShelf geometry entries volumes held total rooms volume_memory held_memory)
    (map_same : row'.map ≡ row.map) (number_same : row'.allocated ≡ row.allocated) (id_same : row'.id.0 ≡ row.id.0) (f : Volume Entry → Volume Entry)
    (is : seen_volume entries.store row' ≡ f (seen_volume entries.store row)) (chunks : (v : Volume Entry) → (f v).chunks ≡ v.chunks) where
  was : get_or volumes i row' ≡ row
  was = row_is geometry entries volumes held total i n row row' at here kept.lists

  taken : TakesUnused entries.store (get_or volumes i row').map.numbers row'.map.numbers
  taken k some = let same = ap (λ (m : MapState). times k m.numbers) (ap volume_map was ∙ sym map_same) in omega arith

  pub head_shelf : IsShelf geometry entries (set volumes i row') held total rooms volume_memory held_memory
  head_shelf = shelf_row geometry entries entries volumes held total total rooms volume_memory held_memory i row'
      (row_within geometry entries volumes held total i n row row' at here kept.lists)
      (ex geometry entries volumes held total i n row row' at here kept.lists map_same number_same f is chunks) taken
      (of geometry entries volumes held total i n row row' at here kept.lists map_same number_same f is chunks)
      (id_same ∙ ap (λ (r : VolumeRow). r.id.0) (sym was)) kept
      (head_kept geometry entries volumes held total i n row row' at here kept.lists map_same number_same f is chunks)

  pages_same : map (seen_pages entries.store) (set volumes i row') ≡ map (seen_pages entries.store) volumes
  pages_same = map-set_same (seen_pages entries.store) volumes i row'
      (ap (λ m. let p : OwnPages = record { number = row'.id.0; own = own_pages entries.store m } in p) map_same
      ∙ ap (λ k. let p : OwnPages = record { number = k; own = own_pages entries.store row.map } in p) id_same
      ∙ ap (seen_pages entries.store) (sym was))

  pub head_view : seen_view geometry entries (set volumes i row') held rooms
      ≡ record (seen_view geometry entries volumes held rooms) { shelf = with_changed (seen_shelf geometry entries volumes held) n f }
  head_view =
      ap (λ s. let v : ShelfView = record { shelf = s; pages = map (seen_pages entries.store) (set volumes i row'); rooms = rooms } in v)
      (head_seen geometry entries volumes held total i n row row' at here kept.lists map_same number_same f is chunks)
      ∙ ap (λ ps. let v : ShelfView = record { shelf = with_changed (seen_shelf geometry entries volumes held) n f; pages = ps; rooms = rooms } in v) pages_same
