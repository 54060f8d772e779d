-- One held list more, or less, or another one: what a shelf keeps, and what is seen of it.
use Rattle.std.proofs.Common.{ℕ, ◌≡◌, ◌+◌, ◌≤◌, true, List, [], ◌∷◌, ◌++◌, map, length, sum_by, refl, sym, ap, ◌∙◌, subst, arith}
use Rattle.std.specs.List.{All}
use Rattle.std.proofs.lemmas.List.{append_assoc, map-append}
use Rattle.std.proofs.lemmas.List.Elements.{All-nil, All-cons, All-head, All-tail, All-append}
use Rattle.std.proofs.lemmas.List.Sums.{sum_by-append}
use Rattle.vv_units.specs.declared.geometry.Geometry.{Geometry}
use Rattle.vv_map.specs.Rooms.{MapState}
use Rattle.vv_map.specs.Pages.{IsMapOf}
use Rattle.vv_entries.specs.Entries.{EntriesState}
use Rattle.vv_entries.specs.Changes.{Exchanges}
use Rattle.vv_entries.specs.Owners.{all_numbers, AreAllLists, IsLeft}
use Rattle.vv_entries.proofs.Owners.{left_ahead, left_behind, lists_known, All-front, All-back}
use Rattle.vv_flat.specs.State.{Volume}
use Rattle.vv_flat.specs.Chunks.{Entry}
use Rattle.vv_vols.specs.declared.row.VolumeRow.{VolumeRow}
use Rattle.vv_vols.specs.declared.row.HeldRow.{HeldRow}
use Rattle.vv_vols.specs.Shelf.{HeldList, shares_rightly, shelf_entries}
use Rattle.vv_vols.specs.Rows.{seen_volume, seen_held, seen_shelf, volume_map, held_map, held_indexes, held_numbers, rises, IsFilled, IsCountedHeld, HasRoom, IsShelf}
use Rattle.vv_vols.proofs.OwnedRows.{seen_left}
use Rattle.vv_vols.proofs.ChangedRow.{volume_decided, held_decided, allocated_left, counts_left}

-- what holds of all items of two lists holds of those of each
pub front_all : {A : Type 0} (P : A → Type 0) (xs ys : List A) → All P (xs ++ ys) → All P xs
front_all P [] ys all = All-nil P
front_all P (x ∷ xs) ys all = All-cons P x xs (All-head P x (xs ++ ys) all) (front_all P xs ys (All-tail P x (xs ++ ys) all))

pub back_all : {A : Type 0} (P : A → Type 0) (xs ys : List A) → All P (xs ++ ys) → All P ys
back_all P [] ys all = all
back_all P (x ∷ xs) ys all = back_all P xs ys (All-tail P x (xs ++ ys) all)

abbrev pub IsIndexed : HeldRow → Type 0
IsIndexed row = length (held_indexes row.indexes row.map.len) ≡ row.map.len

abbrev pub HasItsRoom : HeldRow → Type 0
HasItsRoom row = HasRoom row.indexes row.map

abbrev pub pieces_sum : List HeldList → ℕ
pieces_sum hs = sum_by (λ (h : HeldList). length h.pieces) hs

-- Some held rows stand between others, and became other ones.
module _ (geometry : Geometry) (old new : EntriesState) (volumes : List VolumeRow) (held held' xs bs cs ys : List HeldRow) (total rooms volume_memory held_memory : ℕ)
    (split : held ≡ xs ++ (bs ++ ys)) (split' : held' ≡ xs ++ (cs ++ ys))
    (ex : Exchanges old.store new.store (all_numbers (map held_map bs)) (all_numbers (map held_map cs)))
    (of : All (λ (m : MapState). IsMapOf new.store m) (map held_map cs)) (kept : IsShelf geometry old volumes held total rooms volume_memory held_memory) where
  joined : (zs : List HeldRow) → map volume_map volumes ++ map held_map (xs ++ (zs ++ ys)) ≡ (map volume_map volumes ++ map held_map xs) ++ (map held_map zs ++ map held_map ys)
  joined zs =
      ap (λ ms. map volume_map volumes ++ ms) (map-append held_map xs (zs ++ ys) ∙ ap (λ ms. map held_map xs ++ ms) (map-append held_map zs ys))
      ∙ sym (append_assoc (map volume_map volumes) (map held_map xs) (map held_map zs ++ map held_map ys))

  lists : AreAllLists old.store ((map volume_map volumes ++ map held_map xs) ++ (map held_map bs ++ map held_map ys))
  lists = subst (AreAllLists old.store) (ap (λ hs. map volume_map volumes ++ map held_map hs) split ∙ joined bs) kept.lists.lists

  ahead : All (IsLeft old.store new.store) (map volume_map volumes ++ map held_map xs)
  ahead = left_ahead old.store new.store (all_numbers (map held_map bs)) (all_numbers (map held_map cs)) ex
      (map volume_map volumes ++ map held_map xs) (map held_map ys) (map held_map bs) (map held_map cs) lists refl refl

  pub volumes_left : All (IsLeft old.store new.store) (map volume_map volumes)
  volumes_left = All-front (IsLeft old.store new.store) (map volume_map volumes) (map held_map xs) ahead

  pub xs_left : All (IsLeft old.store new.store) (map held_map xs)
  xs_left = All-back (IsLeft old.store new.store) (map volume_map volumes) (map held_map xs) ahead

  pub ys_left : All (IsLeft old.store new.store) (map held_map ys)
  ys_left = left_behind old.store new.store (all_numbers (map held_map bs)) (all_numbers (map held_map cs)) ex
      (map volume_map volumes ++ map held_map xs) (map held_map ys) (map held_map bs) (map held_map cs) lists refl refl

  pub spliced_known : AreAllLists new.store (map volume_map volumes ++ map held_map held')
  spliced_known = subst (AreAllLists new.store) (sym (ap (λ hs. map volume_map volumes ++ map held_map hs) split' ∙ joined cs))
      (lists_known old.store new.store (all_numbers (map held_map bs)) (all_numbers (map held_map cs)) ex
      (map volume_map volumes ++ map held_map xs) (map held_map ys) (map held_map bs) (map held_map cs) lists refl refl of)

  pub volumes_seen : map (seen_volume new.store) volumes ≡ map (seen_volume old.store) volumes
  volumes_seen = seen_left volume_map seen_volume volume_decided old.store new.store volumes volumes_left

  pub spliced_seen : map (seen_held new.store) held' ≡ map (seen_held old.store) xs ++ (map (seen_held new.store) cs ++ map (seen_held old.store) ys)
  spliced_seen =
      ap (map (seen_held new.store)) split'
      ∙ map-append (seen_held new.store) xs (cs ++ ys)
      ∙ ap (λ hs. hs ++ map (seen_held new.store) (cs ++ ys)) (seen_left held_map seen_held held_decided old.store new.store xs xs_left)
      ∙ ap (λ hs. map (seen_held old.store) xs ++ hs) (map-append (seen_held new.store) cs ys)
      ∙ ap (λ hs. map (seen_held old.store) xs ++ (map (seen_held new.store) cs ++ hs)) (seen_left held_map seen_held held_decided old.store new.store ys ys_left)

  was_seen : map (seen_held old.store) held ≡ map (seen_held old.store) xs ++ (map (seen_held old.store) bs ++ map (seen_held old.store) ys)
  was_seen =
      ap (map (seen_held old.store)) split ∙ map-append (seen_held old.store) xs (bs ++ ys)
      ∙ ap (λ hs. map (seen_held old.store) xs ++ hs) (map-append (seen_held old.store) bs ys)

  sum_three : (fs gs hs : List HeldList) → pieces_sum (fs ++ (gs ++ hs)) ≡ pieces_sum fs + (pieces_sum gs + pieces_sum hs)
  sum_three fs gs hs = sum_by-append (λ (h : HeldList). length h.pieces) fs (gs ++ hs) ∙ ap (λ n. pieces_sum fs + n) (sum_by-append (λ (h : HeldList). length h.pieces) gs hs)

  -- the entries of all lists
  pub spliced_entries : shelf_entries (seen_shelf geometry new volumes held') + pieces_sum (map (seen_held old.store) bs)
      ≡ shelf_entries (seen_shelf geometry old volumes held) + pieces_sum (map (seen_held new.store) cs)
  spliced_entries =
      let vs : sum_by (λ (v : Volume Entry). length v.chunks) (map (seen_volume new.store) volumes) ≡ sum_by (λ (v : Volume Entry). length v.chunks) (map (seen_volume old.store) volumes) = ap (sum_by (λ (v : Volume Entry). length v.chunks)) volumes_seen in
      let now : pieces_sum (map (seen_held new.store) held') ≡ pieces_sum (map (seen_held old.store) xs) + (pieces_sum (map (seen_held new.store) cs) + pieces_sum (map (seen_held old.store) ys)) =
      ap pieces_sum spliced_seen ∙ sum_three (map (seen_held old.store) xs) (map (seen_held new.store) cs) (map (seen_held old.store) ys) in
      let was : pieces_sum (map (seen_held old.store) held) ≡ pieces_sum (map (seen_held old.store) xs) + (pieces_sum (map (seen_held old.store) bs) + pieces_sum (map (seen_held old.store) ys)) =
      ap pieces_sum was_seen ∙ sum_three (map (seen_held old.store) xs) (map (seen_held old.store) bs) (map (seen_held old.store) ys) in
      omega arith

  -- what holds of each row, where it holds of those that are new
  pub around_all : (P Q : HeldRow → Type 0) → All P held → ((zs : List HeldRow) → All (IsLeft old.store new.store) (map held_map zs) → All P zs → All Q zs) → All Q cs → All Q held'
  around_all P Q was goes new_ones =
      let parts = subst (All P) split was in
      let xs_was = front_all P xs (bs ++ ys) parts in
      let ys_was = back_all P bs ys (back_all P xs (bs ++ ys) parts) in
      subst (All Q) (sym split') (All-append Q xs (cs ++ ys) (goes xs xs_left xs_was) (All-append Q cs ys new_ones (goes ys ys_left ys_was)))

  pub spliced_kept : (total' rooms' held_memory' : ℕ) → length new.pool.places ≡ length old.pool.places
      → total' + pieces_sum (map (seen_held old.store) bs) ≡ total + pieces_sum (map (seen_held new.store) cs) → total' ≤ geometry.map_chunks
      → shares_rightly (seen_shelf geometry new volumes held') ≡ true → rises (held_numbers held') ≡ true
      → All IsIndexed cs → All (IsFilled new.store) held' → All (IsCountedHeld new.store) cs → All HasItsRoom cs
      → length volumes + length held' + rooms' ≤ volume_memory → length volumes + length held' + rooms' ≤ held_memory'
      → IsShelf geometry new volumes held' total' rooms' volume_memory held_memory'
  spliced_kept total' rooms' held_memory' places sums few shares rising indexed filled counts room volume_rows held_rows = record {
    lists = record {
      lists = spliced_known;
      places = places ∙ kept.lists.places;
      pages = ex.size ∙ kept.lists.pages;
      shares = shares;
      summed = let e = spliced_entries in let s = kept.lists.summed in omega arith;
      few = few;
      allocated = allocated_left old.store new.store volumes volumes_left kept.lists.allocated;
    };
    rising = kept.rising;
    held_rising = rising;
    indexed = around_all IsIndexed IsIndexed kept.indexed (λ zs left was. was) indexed;
    filled = filled;
    volume_rows = volume_rows;
    held_rows = held_rows;
    held_counts = around_all (IsCountedHeld old.store) (IsCountedHeld new.store) kept.held_counts (λ zs left was. counts_left old.store new.store zs left was) counts;
    held_room = around_all HasItsRoom HasItsRoom kept.held_room (λ zs left was. was) room;
  }
