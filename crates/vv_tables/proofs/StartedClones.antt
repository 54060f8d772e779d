-- Tables after a full clone of a volume has started. The places are reserved first, then the image is held, then the target;
-- what the shelf, the containers, the tasks and the rows become is the change, and all that tables keep is kept.
use Rattle.std.proofs.Common.{ℕ, ◌≡◌, ◌+◌, ◌-◌, ◌*◌, ◌<◌, ◌≤◌, ◌==◌, not, true, false, List, [], ◌∷◌, ◌++◌, map, length, replicate, count_by, Option, Some, None, option_map, refl, sym, ap, subst, ◌∙◌, arith}
use Rattle.std.specs.Prelude.{IsSome, IfSome, nat_lt, nat_le, vec_capacity}
use Rattle.std.specs.List.{list_all, All}
use Rattle.std.specs.List.Sorted.{IsPermutation}
use Rattle.std.proofs.lemmas.Bool.{leb-false}
use Rattle.std.proofs.lemmas.List.{length-map}
use Rattle.std.proofs.lemmas.List.Elements.{All-head, All-tail}
use Rattle.vv_units.specs.declared.volume.TaskState.TheVariants.{Running}
use Rattle.vv_units.specs.declared.field.Field.TheVariants.{Task as in_task}
use Rattle.vv_flat.specs.Lists.{if_found, put_before, all_rising}
use Rattle.vv_flat.specs.State.{Volume, Piece, Task, Clone, RunningClone, Durable, volume_of, indexed}
use Rattle.vv_flat.specs.Chunks.{Entry, shape_of_tables, unmapped_entry}
use Rattle.vv_flat.specs.Space.{allocated_count, is_running, used, reserved, free, entries}
use Rattle.vv_flat.specs.Tasks.{started, clone_of_volume, clone_started, with_clone}
use Rattle.vv_flat.specs.Refusals.{TooMany}
use Rattle.vv_flat.specs.Changes.{StartClone, room_checks, size_of, allocated_of, effect, apply}
use Rattle.vv_flat.specs.Replay.{fits, replayed}
use Rattle.vv_flat.proofs.KeepRules.{fits_accepted}
use Rattle.vv_flat.proofs.Sums.{sum-put}
use Rattle.vv_flat.proofs.Verdicts.{passed_room, not_refused, within_pool}
use Rattle.vv_container.specs.Table.{ChargedContainer, with_charge}
use Rattle.vv_vols.specs.Shelf.{HeldList, HeldName, ShelfState, held_in, next_held, volume_in, size_in, chunks_in, shelf_entries, allocated_of as allocated_in}
use Rattle.vv_vols.specs.Calls.{with_reserve, with_held, new_held, piece_chunks}
use Rattle.vv_vols.specs.Places.{shelf_free}
use Rattle.vv_vols.specs.Rows.{ShelfView, RoomView, IsListRoom, volume_with}
use Rattle.vv_tables.specs.declared.rows.CloneRow.{CloneRow}
use Rattle.vv_tables.specs.declared.tables.Tables.TheInside.{Inside}
use Rattle.vv_tables.specs.CopyRooms.{size_in_tables, IsHeadIn}
use Rattle.vv_tables.specs.Homes.{home_in, charge_in}
use Rattle.vv_tables.specs.Kept.{lists_of, AreWell, AreHeld, IsTables}
use Rattle.vv_tables.specs.Seen.{held_chunks, seen_clone, seen_durable, plain_containers}
use Rattle.vv_tables.proofs.Accepted.{clones_below, entries_room}
use Rattle.vv_tables.proofs.ChargedVolumes.{start_clone_charges, here, charges_go}
use Rattle.vv_tables.proofs.Containers.{plain_charged}
use Rattle.vv_tables.proofs.FoundVolumes.{Found}
use Rattle.vv_tables.proofs.HeldChanges.{added_found, added_rising, next_new, IsSameHeld}
use Rattle.vv_tables.proofs.HeldKept.{same_held, both_same, added_others, added_once}
use Rattle.vv_tables.proofs.HeldRows.{clone_added}
use Rattle.vv_tables.proofs.HeldTargets.{chunks_indexed}
use Rattle.vv_tables.proofs.Inner.{durable_of, KeepsAll}
use Rattle.vv_tables.proofs.NextNumber.{tasks_below}
use Rattle.vv_tables.proofs.Limits.{seen_rows_run}
use Rattle.vv_tables.proofs.SeenChanges.{put_last, clone_seen_last}
use Rattle.vv_tables.proofs.ShapeVolumes.{shaped, shape_found, size_is, allocated_is}
use Rattle.vv_tables.proofs.ShelfCounts.{shelf_entries_are, shelf_used_all}
use Rattle.vv_tables.proofs.Stepped.{stepped_reserved, stepped_well}

indexed_long : (xs : List Entry) → length (indexed xs) ≡ length xs
indexed_long xs = sym (length-map (indexed xs) (λ (a : Piece Entry). a.chunk)) ∙ ap (λ (ys : List Entry). length ys) (chunks_indexed xs)

-- one held list more, and its entries
held_entries : (s : ShelfState) (h : HeldList) → shelf_entries (with_held s h) ≡ shelf_entries s + length h.pieces
held_entries s h =
    let p = sum-put (λ (k : HeldList). length k.pieces) (λ (k : HeldList). nat_lt h.number k.number) h s.held in
    omega (arith, p)

free_is : (d : Durable Entry) → d.geometry.pool_chunks - used (shape_of_tables d) - reserved (shape_of_tables d) ≡ free (shape_of_tables d)
unfolding used reserved free
free_is d = refl

-- the start over tables that have the volume
start_is : (d : Durable Entry) (n : ℕ) (v : Volume Entry) → volume_of d n ≡ Some v
    → replayed d (StartClone n) [] ≡ record (clone_started (λ (e : Entry). e.stamp) unmapped_entry d n v) { lsn = d.lsn + 1 }
unfolding replayed apply effect with_clone
start_is d n v found =
    ap (λ (o : Option (Volume Entry)). let after : Durable Entry = record (if_found o (clone_started (λ (e : Entry). e.stamp) unmapped_entry d n) d) { lsn = d.lsn + 1 } in after) found

module _ (i : Inside) (all : KeepsAll i) (n : ℕ) (fit : fits (durable_of i) (StartClone n) [] ≡ true) where
  there : Found n i.shelf.shelf
  there = here i all.kept n (StartClone n) (start_clone_charges n) fit

  abbrev total : ℕ
  total = allocated_in (chunks_in i.shelf.shelf n)

  total_shape : total ≡ allocated_of (shape_of_tables (durable_of i)) n
  total_shape = allocated_is (durable_of i) n

  -- there are places to be reserved, and one more task may run
  pub places_free : allocated_in (chunks_in i.shelf.shelf n) ≤ shelf_free i.shelf.shelf
  unfolding room_checks
  places_free =
      let d : Durable Entry = durable_of i in
      let within : allocated_of (shape_of_tables d) n ≤ free (shape_of_tables d) =
      within_pool (shape_of_tables d) (allocated_of (shape_of_tables d) n) (passed_room None (shape_of_tables d) (StartClone n) (fits_accepted d (StartClone n) [] fit) 5) in
      let same : shelf_free i.shelf.shelf ≡ free (shape_of_tables d) =
      ap (λ k. i.shelf.shelf.geometry.pool_chunks - k - i.shelf.shelf.reserved)
      (shelf_used_all i.lsn i.shelf.shelf i.containers i.bindings i.tasks i.clones.items i.copies.items all.held all.kept.well all.kept.fresh)
      ∙ ap (λ k. i.shelf.shelf.geometry.pool_chunks - used (shape_of_tables d) - k) all.kept.reserved
      ∙ free_is d in
      omega (arith, within, same, total_shape)

  pub one_more_runs : count_by is_running i.tasks < 16
  unfolding room_checks
  one_more_runs =
      leb-false 16 (count_by is_running i.tasks)
      (not_refused (nat_le 16 (count_by is_running i.tasks)) (TooMany in_task 16)
      (passed_room None (shape_of_tables (durable_of i)) (StartClone n) (fits_accepted (durable_of i) (StartClone n) [] fit) 3))

  pub number_above : list_all (λ (t : Task). nat_lt t.number (i.lsn + 1)) i.tasks ≡ true
  number_above = tasks_below (durable_of i) all.kept.well

  pub row_fits : length i.clones.items < vec_capacity i.clones
  row_fits =
      let run : length i.clones.items + length i.copies.items ≡ count_by is_running i.tasks =
      seen_rows_run i.lsn i.shelf.shelf i.containers i.bindings i.tasks i.clones.items i.copies.items all.kept.well in
      let few : count_by is_running i.tasks < 16 = one_more_runs in
      let room : 16 ≤ vec_capacity i.clones = all.clone_rows in
      omega (arith, run, few, room)

  -- ---- the shelf, call by call
  abbrev reserving : ShelfState
  reserving = with_reserve i.shelf.shelf (i.shelf.shelf.reserved + allocated_in (chunks_in i.shelf.shelf n))

  abbrev image : HeldList
  image = new_held reserving (indexed (chunks_in i.shelf.shelf n)) true 0

  abbrev with_image : ShelfState
  with_image = with_held reserving image

  abbrev target : HeldList
  target = new_held with_image (indexed (replicate (size_in i.shelf.shelf n) unmapped_entry)) false 0

  abbrev with_both : ShelfState
  with_both = with_held with_image target

  after : Durable Entry
  after = record (clone_started (λ (e : Entry). e.stamp) unmapped_entry (durable_of i) n there.volume) { lsn = i.lsn + 1 }

  after_is : replayed (durable_of i) (StartClone n) [] ≡ after
  unfolding after
  after_is = start_is (durable_of i) n there.volume there.is

  room : shelf_entries i.shelf.shelf + 2 * size_in i.shelf.shelf n ≤ i.shelf.shelf.geometry.map_chunks
  room =
      let d : Durable Entry = durable_of i in
      let within : entries d + 2 * size_of (shape_of_tables d) n ≤ d.geometry.map_chunks + 0 =
      entries_room d (StartClone n) [] all.kept.well (start_clone_charges n).forms fit (ap (λ (e : Durable Entry). e.geometry) after_is ∙ (unfold after in refl)) in
      let same : shelf_entries i.shelf.shelf ≡ entries d = shelf_entries_are i.lsn i.shelf.shelf i.containers i.bindings i.tasks i.clones.items i.copies.items all.held in
      let size : size_in i.shelf.shelf n ≡ size_of (shape_of_tables d) n = size_is d n in
      omega (arith, within, same, size)

  few_image : shelf_entries reserving + size_in reserving n ≤ reserving.geometry.map_chunks
  few_image = omega (arith, room)

  size_chunks : size_in i.shelf.shelf n ≡ length (chunks_in i.shelf.shelf n)
  size_chunks = go (volume_in i.shelf.shelf n)
    where
      go : (o : Option (Volume Entry)) → if_found o (λ (v : Volume Entry). length v.chunks) 0 ≡ length (if_found o (λ (v : Volume Entry). v.chunks) [])
      go None = refl
      go (Some v) = refl

  few_target : shelf_entries with_image + size_in i.shelf.shelf n ≤ with_image.geometry.map_chunks
  few_target =
      let more : shelf_entries with_image ≡ shelf_entries reserving + length (indexed (chunks_in i.shelf.shelf n)) = held_entries reserving image in
      let long : length (indexed (chunks_in i.shelf.shelf n)) ≡ length (chunks_in i.shelf.shelf n) = indexed_long (chunks_in i.shelf.shelf n) in
      omega (arith, room, more, long, size_chunks)

  -- ---- the lists that are held
  image_new : list_all (λ (k : HeldList). not (k.number == image.number)) reserving.held ≡ true
  image_new = next_new i.shelf.shelf all.held.rising

  first_rising : all_rising (map (λ (h : HeldList). h.number) with_image.held) ≡ true
  first_rising = added_rising reserving image image_new all.held.rising

  target_new : list_all (λ (k : HeldList). not (k.number == target.number)) with_image.held ≡ true
  target_new = next_new with_image first_rising

  old_held : AreHeld reserving i.clones.items i.copies.items
  old_held = same_held i.shelf.shelf reserving i.clones.items i.copies.items refl all.held

  first_once : IsPermutation (map (λ (h : HeldList). h.number) with_image.held) (image.number ∷ lists_of i.clones.items i.copies.items)
  first_once = added_once reserving image (lists_of i.clones.items i.copies.items) image_new old_held.each_once

  second_others : All (IsSameHeld with_image with_both) (image.number ∷ lists_of i.clones.items i.copies.items)
  second_others = added_others with_image target (image.number ∷ lists_of i.clones.items i.copies.items) target_new first_once

  others_same : All (IsSameHeld reserving with_both) (lists_of i.clones.items i.copies.items)
  others_same =
      both_same reserving with_image with_both (lists_of i.clones.items i.copies.items)
      (added_others reserving image (lists_of i.clones.items i.copies.items) image_new old_held.each_once)
      (All-tail (IsSameHeld with_image with_both) image.number (lists_of i.clones.items i.copies.items) second_others)

  image_found : held_in with_both image.number ≡ Some image
  image_found =
      All-head (IsSameHeld with_image with_both) image.number (lists_of i.clones.items i.copies.items) second_others
      ∙ added_found reserving image image_new

  target_found : held_in with_both target.number ≡ Some target
  target_found = added_found with_image target target_new

  chunks_are : chunks_in i.shelf.shelf n ≡ there.volume.chunks
  chunks_are = ap (λ (o : Option (Volume Entry)). if_found o (λ (v : Volume Entry). v.chunks) []) there.is

  size_are : size_in i.shelf.shelf n ≡ length there.volume.chunks
  size_are = ap (λ (o : Option (Volume Entry)). if_found o (λ (v : Volume Entry). length v.chunks) 0) there.is

  image_chunks : held_chunks with_both image.number ≡ there.volume.chunks
  image_chunks =
      ap (λ (o : Option HeldList). piece_chunks (if_found o (λ (h : HeldList). h.pieces) [])) image_found
      ∙ chunks_indexed (chunks_in i.shelf.shelf n)
      ∙ chunks_are

  target_chunks : held_chunks with_both target.number ≡ replicate (length there.volume.chunks) unmapped_entry
  target_chunks =
      ap (λ (o : Option HeldList). piece_chunks (if_found o (λ (h : HeldList). h.pieces) [])) target_found
      ∙ chunks_indexed (replicate (size_in i.shelf.shelf n) unmapped_entry)
      ∙ ap (λ k. replicate k unmapped_entry) size_are

  -- the record of the task
  abbrev task : Task
  task = record { number = i.lsn + 1; job = Clone n; state = Running; done = 0; total = allocated_in (chunks_in i.shelf.shelf n) }

  total_is : allocated_in (chunks_in i.shelf.shelf n) ≡ allocated_count (map (λ (e : Entry). e.stamp) there.volume.chunks)
  total_is =
      total_shape
      ∙ ap (λ (o : Option (Volume ℕ)). allocated_count (if_found o (λ (v : Volume ℕ). v.chunks) [])) (shape_found (durable_of i) n ∙ ap (option_map shaped) there.is)

  abbrev charged_rows : List ChargedContainer
  charged_rows = with_charge i.containers (home_in i.shelf.shelf n) (charge_in i.containers (home_in i.shelf.shelf n) + allocated_in (chunks_in i.shelf.shelf n))

  -- ---- the row of the clone
  module _ (row : CloneRow) (id : row.id.0 ≡ i.lsn + 1) (head : IsHeadIn (durable_of i) n row.head) (image_number : row.image.number ≡ image.number)
      (target_number : row.target.number ≡ target.number) where
    head_is : volume_with n row.head there.volume.chunks ≡ there.volume
    head_is = subst (λ (o : Option (Volume Entry)). IfSome o (λ (v : Volume Entry). volume_with n row.head v.chunks ≡ v)) there.is head

    row_seen : seen_clone with_both row ≡ clone_of_volume unmapped_entry (i.lsn + 1) there.volume
    row_seen =
        ap (λ k. let c : RunningClone Entry = record (seen_clone with_both row) { number = k } in c) id
        ∙ ap (λ (es : List Entry). let c : RunningClone Entry = record (seen_clone with_both row) { number = i.lsn + 1; image = es } in c)
        (ap (λ k. held_chunks with_both k) image_number ∙ image_chunks)
        ∙ ap (λ (es : List Entry). let c : RunningClone Entry = record (seen_clone with_both row) { number = i.lsn + 1; image = there.volume.chunks; target = es } in c)
        (ap (λ k. held_chunks with_both k) target_number ∙ target_chunks)
        ∙ ap (clone_of_volume unmapped_entry (i.lsn + 1)) head_is

    abbrev old_clones : List (RunningClone Entry)
    old_clones = (durable_of i).clones

    clones_put : old_clones ++ seen_clone with_both row ∷ []
        ≡ put_before (λ (c : RunningClone Entry). nat_lt (i.lsn + 1) c.number) (clone_of_volume unmapped_entry (i.lsn + 1) there.volume) old_clones
    clones_put =
        ap (λ (c : RunningClone Entry). old_clones ++ c ∷ []) row_seen
        ∙ sym (put_last (λ (c : RunningClone Entry). c.number) (clone_of_volume unmapped_entry (i.lsn + 1) there.volume) old_clones (clones_below (durable_of i) all.kept.well))

    started_durable : seen_durable (i.lsn + 1) with_both charged_rows i.bindings (started i.tasks task) (i.clones.items ++ row ∷ []) i.copies.items
        ≡ replayed (durable_of i) (StartClone n) []
    unfolding after
    started_durable =
        let seen : seen_durable (i.lsn + 1) with_both charged_rows i.bindings (started i.tasks task) (i.clones.items ++ row ∷ []) i.copies.items
        ≡ record (durable_of i) { lsn = i.lsn + 1; containers = plain_containers charged_rows; tasks = started i.tasks task; clones = old_clones ++ seen_clone with_both row ∷ [] } =
        clone_seen_last (i.lsn + 1) reserving charged_rows i.bindings (started i.tasks task) i.clones.items i.copies.items with_both others_same row in
        let containers : ◌≡◌ {A = Durable Entry}
        (record (durable_of i) { lsn = i.lsn + 1; containers = plain_containers charged_rows; tasks = started i.tasks task; clones = old_clones ++ seen_clone with_both row ∷ [] })
        (record (durable_of i) { lsn = i.lsn + 1; tasks = started i.tasks task; clones = old_clones ++ seen_clone with_both row ∷ [] }) =
        ap (λ ks. let e : Durable Entry = record (durable_of i) { lsn = i.lsn + 1; containers = ks; tasks = started i.tasks task; clones = old_clones ++ seen_clone with_both row ∷ [] } in e)
        (plain_charged i.containers (home_in i.shelf.shelf n) (charge_in i.containers (home_in i.shelf.shelf n) + allocated_in (chunks_in i.shelf.shelf n))) in
        let clones : ◌≡◌ {A = Durable Entry}
        (record (durable_of i) { lsn = i.lsn + 1; tasks = started i.tasks task; clones = old_clones ++ seen_clone with_both row ∷ [] })
        (record (durable_of i) {
          lsn = i.lsn + 1;
          tasks = started i.tasks task;
          clones = put_before (λ (c : RunningClone Entry). nat_lt (i.lsn + 1) c.number) (clone_of_volume unmapped_entry (i.lsn + 1) there.volume) old_clones;
        }) =
        ap (λ (cs : List (RunningClone Entry)). let e : Durable Entry = record (durable_of i) { lsn = i.lsn + 1; tasks = started i.tasks task; clones = cs } in e) clones_put in
        let tasks : ◌≡◌ {A = Durable Entry}
        (record (durable_of i) {
          lsn = i.lsn + 1;
          tasks = started i.tasks task;
          clones = put_before (λ (c : RunningClone Entry). nat_lt (i.lsn + 1) c.number) (clone_of_volume unmapped_entry (i.lsn + 1) there.volume) old_clones;
        })
        after =
        ap (λ k. let e : Durable Entry = record (durable_of i) {
          lsn = i.lsn + 1;
          tasks = started i.tasks (record { number = i.lsn + 1; job = Clone n; state = Running; done = 0; total = k });
          clones = put_before (λ (c : RunningClone Entry). nat_lt (i.lsn + 1) c.number) (clone_of_volume unmapped_entry (i.lsn + 1) there.volume) old_clones;
        } in e) total_is in
        seen ∙ containers ∙ clones ∙ tasks ∙ sym after_is

    started_held : AreHeld with_both (i.clones.items ++ row ∷ []) i.copies.items
    started_held =
        clone_added reserving image target i.clones.items i.copies.items row refl refl image_number target_number refl refl
        (sym (ap (λ (es : List Entry). indexed es) (chunks_indexed (chunks_in i.shelf.shelf n))))
        (sym (ap (λ (es : List Entry). indexed es) (chunks_indexed (replicate (size_in i.shelf.shelf n) unmapped_entry)))) old_held

    started_well : AreWell with_both charged_rows
        (seen_durable (i.lsn + 1) with_both charged_rows i.bindings (started i.tasks task) (i.clones.items ++ row ∷ []) i.copies.items)
    started_well =
        let d : Durable Entry = durable_of i in
        let e : Durable Entry = seen_durable (i.lsn + 1) with_both charged_rows i.bindings (started i.tasks task) (i.clones.items ++ row ∷ []) i.copies.items in
        let goes : reserved (shape_of_tables e) + 0 ≡ reserved (shape_of_tables d) + allocated_of (shape_of_tables d) n =
        stepped_reserved d e (StartClone n) [] all.kept.well fit started_durable in
        let before : i.shelf.shelf.reserved ≡ reserved (shape_of_tables d) = all.kept.reserved in
        stepped_well d e (StartClone n) [] all.kept.well fit started_durable with_both charged_rows (start_clone_charges n).forms
        (charges_go i all.kept n (StartClone n) (start_clone_charges n) fit e started_durable)
        (omega (arith, goes, before, total_shape))
        all.kept.fresh

  -- ---- what the calls leave
  module _ (first : ShelfView) (count chunks : ℕ) (count_is : count ≡ allocated_in (chunks_in i.shelf.shelf n)) (chunks_is : chunks ≡ size_in i.shelf.shelf n)
      (reserves : first ≡ record i.shelf { shelf = with_reserve i.shelf.shelf (i.shelf.shelf.reserved + count) }) where
    first_is : first.shelf ≡ reserving
    first_is =
        ap (λ (v : ShelfView). v.shelf) reserves
        ∙ ap (λ k. with_reserve i.shelf.shelf (i.shelf.shelf.reserved + k)) count_is

    pub first_stands : IsSome (volume_in i.shelf.shelf n) → IsSome (volume_in first.shelf n)
    first_stands stands = subst (λ (s : ShelfState). IsSome (volume_in s n)) (sym first_is) stands

    pub first_few : shelf_entries first.shelf + size_in first.shelf n ≤ first.shelf.geometry.map_chunks
    first_few = subst (λ (s : ShelfState). shelf_entries s + size_in s n ≤ s.geometry.map_chunks) (sym first_is) few_image

    pub first_room : (room : RoomView) → IsListRoom (size_in_tables (durable_of i) n) room → IsListRoom (size_in first.shelf n) room
    first_room room enough =
        subst (λ (s : ShelfState). IsListRoom (size_in s n) room) (sym first_is) (subst (λ k. IsListRoom k room) (sym (size_is (durable_of i) n)) enough)

    pub second_room : (room : RoomView) → IsListRoom (size_in_tables (durable_of i) n) room → IsListRoom chunks room
    second_room room enough = subst (λ k. IsListRoom k room) (sym (chunks_is ∙ size_is (durable_of i) n)) enough

    pub first_size : size_in first.shelf n ≡ size_in_tables (durable_of i) n
    first_size = ap (λ (s : ShelfState). size_in s n) first_is ∙ size_is (durable_of i) n

    module _ (second : ShelfState) (holds : second ≡ with_held first.shelf (new_held first.shelf (indexed (chunks_in first.shelf n)) true 0)) where
      second_is : second ≡ with_image
      second_is = holds ∙ ap (λ (s : ShelfState). with_held s (new_held s (indexed (chunks_in s n)) true 0)) first_is

      pub second_few : shelf_entries second + chunks ≤ second.geometry.map_chunks
      second_few =
          subst (λ (s : ShelfState). shelf_entries s + chunks ≤ s.geometry.map_chunks) (sym second_is)
          (subst (λ k. shelf_entries with_image + k ≤ with_image.geometry.map_chunks) (sym chunks_is) few_target)

      module _ (last : ShelfView) (targets : last.shelf ≡ with_held second (new_held second (indexed (replicate chunks unmapped_entry)) false 0))
          (rows : List ChargedContainer)
          (charged : rows ≡ with_charge i.containers (home_in i.shelf.shelf n) (charge_in i.containers (home_in i.shelf.shelf n) + allocated_in (chunks_in i.shelf.shelf n)))
          (tasks : List Task) (starts : tasks ≡ started i.tasks (record { number = i.lsn + 1; job = Clone n; state = Running; done = 0; total = count }))
          (clones : List CloneRow) (row : CloneRow) (pushed : clones ≡ i.clones.items ++ row ∷ [])
          (id : row.id.0 ≡ i.lsn + 1) (head : IsHeadIn (durable_of i) n row.head)
          (image_is : row.image ≡ record { number = next_held first.shelf; len = size_in first.shelf n })
          (target_is : row.target ≡ record { number = next_held second; len = chunks })
          (memory : ℕ) (enough : vec_capacity i.clones ≤ memory) where
        last_is : last.shelf ≡ with_both
        last_is =
            targets
            ∙ ap (λ (s : ShelfState). with_held s (new_held s (indexed (replicate chunks unmapped_entry)) false 0)) second_is
            ∙ ap (λ k. with_held with_image (new_held with_image (indexed (replicate k unmapped_entry)) false 0)) chunks_is

        tasks_are : tasks ≡ started i.tasks task
        tasks_are = starts ∙ ap (λ k. started i.tasks (record { number = i.lsn + 1; job = Clone n; state = Running; done = 0; total = k })) count_is

        image_number : row.image.number ≡ image.number
        image_number = ap (λ (h : HeldName). h.number) image_is ∙ ap (λ (s : ShelfState). next_held s) first_is

        target_number : row.target.number ≡ target.number
        target_number = ap (λ (h : HeldName). h.number) target_is ∙ ap (λ (s : ShelfState). next_held s) second_is

        abbrev seen : ShelfState → List ChargedContainer → List Task → List CloneRow → Durable Entry
        seen s ks ts cs = seen_durable (i.lsn + 1) s ks i.bindings ts cs i.copies.items

        same_seen : seen last.shelf rows tasks clones ≡ seen with_both charged_rows (started i.tasks task) (i.clones.items ++ row ∷ [])
        same_seen =
            ap (λ (s : ShelfState). seen s rows tasks clones) last_is
            ∙ ap (λ (ks : List ChargedContainer). seen with_both ks tasks clones) charged
            ∙ ap (λ (ts : List Task). seen with_both charged_rows ts clones) tasks_are
            ∙ ap (λ (cs : List CloneRow). seen with_both charged_rows (started i.tasks task) cs) pushed

        pub clone_durable : seen_durable (i.lsn + 1) last.shelf rows i.bindings tasks clones i.copies.items ≡ replayed (durable_of i) (StartClone n) []
        clone_durable = same_seen ∙ started_durable row id head image_number target_number

        well : AreWell last.shelf rows (seen last.shelf rows tasks clones)
        well =
            subst (λ (e : Durable Entry). AreWell last.shelf rows e) (sym same_seen)
            (subst (λ (s : ShelfState). AreWell s rows (seen with_both charged_rows (started i.tasks task) (i.clones.items ++ row ∷ []))) (sym last_is)
            (subst (λ (ks : List ChargedContainer). AreWell with_both ks (seen with_both charged_rows (started i.tasks task) (i.clones.items ++ row ∷ []))) (sym charged)
            (started_well row id head image_number target_number)))

        held : AreHeld last.shelf clones i.copies.items
        held =
            subst (λ (s : ShelfState). AreHeld s clones i.copies.items) (sym last_is)
            (subst (λ (cs : List CloneRow). AreHeld with_both cs i.copies.items) (sym pushed) (started_held row id head image_number target_number))

        pub clone_keeps : IsTables i.geometry (i.lsn + 1) last rows i.bindings tasks clones i.copies.items memory (vec_capacity i.copies)
        clone_keeps = record {
          geometry_is = all.geometry_is ∙ sym (ap (λ (s : ShelfState). s.geometry) last_is);
          kept = well;
          held = held;
          clone_rows = (let before : 16 ≤ vec_capacity i.clones = all.clone_rows in omega (arith, before, enough));
          copy_rows = all.copy_rows;
        }
