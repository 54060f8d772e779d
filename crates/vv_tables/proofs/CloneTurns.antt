-- The turn of a running clone: what it makes of tables, and that these keep all that tables keep.
use Rattle.std.proofs.Common.{ℕ, ◌≡◌, ◌+◌, ◌-◌, ◌≤◌, ◌==◌, ◌&&◌, ◌||◌, not, Bool, true, false, cond, List, [], ◌∷◌, ◌++◌, map, length, Option, Some, None, refl, sym, ap, subst, ◌∙◌, arith}
use Rattle.std.specs.Prelude.{IsSome, nat_lt}
use Rattle.std.specs.List.{find, list_any, All}
use Rattle.std.proofs.lemmas.Bool.{eqb-true}
use Rattle.std.proofs.lemmas.List.{append_assoc}
use Rattle.vv_units.specs.declared.geometry.Geometry.{Geometry}
use Rattle.vv_flat.specs.Lists.{if_found, all_different, first_changed, first_removed, put_before, put_at, numbers_from, mapped_from}
use Rattle.vv_flat.specs.State.{Container, Volume, Task, Piece, RunningClone, RunningCopy, Durable, indexed, map_volume, map_clone}
use Rattle.vv_flat.specs.Chunks.{Entry, shape_of_tables, placed_entries}
use Rattle.vv_flat.specs.Space.{is_running, reserved, allocated_count}
use Rattle.vv_flat.specs.Rules.{numbers_rule}
use Rattle.vv_flat.specs.Tasks.{is_last, next_piece, with_task, advanced, turned, job_turned, turn_indexes, turned_indexes, clone_turned, clone_goes_on, clone_ends, cloned_volume, without_clone}
use Rattle.vv_flat.specs.Changes.{Turn, apply, effect, new_stamp, changed_indexes}
use Rattle.vv_flat.specs.Replay.{fits, replayed}
use Rattle.vv_flat.proofs.MapLists.{map-first_removed, map-after}
use Rattle.vv_flat.proofs.Pool.{turn_long}
use Rattle.vv_flat.proofs.Shares.{and_left, and_right}
use Rattle.vv_flat.proofs.Steps.{find-passes}
use Rattle.vv_laws.specs.Counts.{charge_taken, reserved_added, reserved_taken, uncharged_by_turns}
use Rattle.vv_laws.proofs.KeptNumbers.{turn_at_most}
use Rattle.vv_container.specs.Table.{ChargedContainer}
use Rattle.vv_bind.specs.Table.{BindState}
use Rattle.vv_vols.specs.Shelf.{HeldList, ShelfState, volume_in, held_in, pieces_in}
use Rattle.vv_vols.specs.Calls.{with_pieces, without_held, piece_chunks}
use Rattle.vv_vols.specs.Conditions.{HasEveryIndex}
use Rattle.vv_vols.specs.Rows.{ShelfView}
use Rattle.vv_vols.proofs.FoundSplit.{Split, found_split, changed_around}
use Rattle.vv_tables.specs.declared.rows.CloneRow.{CloneRow}
use Rattle.vv_tables.specs.declared.rows.CopyRow.{CopyRow}
use Rattle.vv_tables.specs.Rows.{is_clone_row}
use Rattle.vv_tables.specs.Seen.{held_chunks, seen_clone, seen_copy, seen_durable}
use Rattle.vv_tables.specs.Kept.{lists_of, IsCloneHeld, AreHeld, IsTables}
use Rattle.vv_tables.specs.Filling.{pieces_filled, with_filled}
use Rattle.vv_tables.specs.Turns.{with_clone_made}
use Rattle.vv_tables.proofs.Accepted.{rules}
use Rattle.vv_tables.proofs.CloneTurnParts.{row_held, clone_own, clone_kept, turn_is, taken_is, filled_indexed}
use Rattle.vv_tables.proofs.CopyTurns.{turn_forms}
use Rattle.vv_tables.proofs.HeldChanges.{IsSameHeld}
use Rattle.vv_tables.proofs.HeldEnds.{the_one, held_list, target_stays, clone_left_same, clone_left}
use Rattle.vv_tables.proofs.HeldFilling.{numbered}
use Rattle.vv_tables.proofs.HeldKept.{same_held}
use Rattle.vv_tables.proofs.HeldTargets.{chunks_indexed, target_pieces, target_filled, clones_filled, copies_filled}
use Rattle.vv_tables.proofs.SeenChanges.{held_seen}
use Rattle.vv_tables.proofs.Stepped.{uncharged, stepped_well, stepped_reserved}
use Rattle.vv_tables.proofs.TaskRows.{CloneTask}

abbrev stamp : Entry → ℕ
stamp e = e.stamp

-- ---- lists
-- an item that was changed goes
removed_changed : {A : Type 0} (q : A → Bool) (h : A → A) → ((x : A) → q (h x) ≡ q x) → (xs : List A) → first_removed q (first_changed q h xs) ≡ first_removed q xs
removed_changed q h same [] = refl
removed_changed {A} q h same (x ∷ xs) = go (q x) refl (removed_changed q h same xs)
  where
    go : (b : Bool) → q x ≡ b → first_removed q (first_changed q h xs) ≡ first_removed q xs
        → first_removed q (cond b (h x ∷ xs) (x ∷ first_changed q h xs)) ≡ cond b xs (x ∷ first_removed q xs)
    go true at rest = ap (λ b. cond b xs (h x ∷ first_removed q xs)) (same x ∙ at)
    go false at rest = ap (λ b. cond b (first_changed q h xs) (x ∷ first_removed q (first_changed q h xs))) at ∙ ap (λ ys. x ∷ ys) rest

-- the indexes of a list with the indexes from 0 on
indexes_from : (i : ℕ) (xs : List Entry) → map (λ (a : Piece Entry). a.index) (mapped_from numbered i xs) ≡ numbers_from i (length (mapped_from numbered i xs))
indexes_from i [] = refl
indexes_from i (x ∷ xs) = ap (λ ns. i ∷ ns) (indexes_from (i + 1) xs)

-- a number that stands among others, all being different
any_behind : (n : ℕ) (xs ys : List ℕ) → list_any (λ m. m == n) ys ≡ true → list_any (λ m. m == n) (xs ++ ys) ≡ true
any_behind n [] ys e = e
any_behind n (x ∷ xs) ys e = go (x == n) (any_behind n xs ys e)
  where
    go : (b : Bool) → list_any (λ m. m == n) (xs ++ ys) ≡ true → (b || list_any (λ m. m == n) (xs ++ ys)) ≡ true
    go true rest = refl
    go false rest = rest

none_ahead : {A : Type 0} (key : A → ℕ) (n : ℕ) (xs : List A) (ys : List ℕ) → all_different (map key xs ++ ys) ≡ true → list_any (λ m. m == n) ys ≡ true → find (λ x. key x == n) xs ≡ None
none_ahead key n [] ys different e = refl
none_ahead {A} key n (x ∷ xs) ys different e =
    go (key x == n) refl (none_ahead key n xs ys (and_right (not (list_any (λ m. m == key x) (map key xs ++ ys))) _ different) e)
  where
    go : (b : Bool) → (key x == n) ≡ b → find (λ y. key y == n) xs ≡ None → cond b (Some x) (find (λ y. key y == n) xs) ≡ None
    go true at rest =
        let same : key x ≡ n = eqb-true (key x) n at in
        let here : list_any (λ m. m == key x) (map key xs ++ ys) ≡ true = ap (λ k. list_any (λ m. m == k) (map key xs ++ ys)) same ∙ any_behind n (map key xs) ys e in
        let none : not (list_any (λ m. m == key x) (map key xs ++ ys)) ≡ true = and_left (not (list_any (λ m. m == key x) (map key xs ++ ys))) _ different in
        let wrong : not true ≡ true = ap not (sym here) ∙ none in
        absurd (cc)
    go false at rest = rest

found_any : {A : Type 0} (key : A → ℕ) (n : ℕ) (x : A) (xs : List A) → find (λ y. key y == n) xs ≡ Some x → list_any (λ m. m == n) (map key xs) ≡ true
found_any key n x [] e = absurd (cc)
found_any {A} key n x (y ∷ ys) e = go (key y == n) (found_any key n x ys) e
  where
    go : (b : Bool) → (find (λ z. key z == n) ys ≡ Some x → list_any (λ m. m == n) (map key ys) ≡ true) → cond b (Some y) (find (λ z. key z == n) ys) ≡ Some x → (b || list_any (λ m. m == n) (map key ys)) ≡ true
    go true later e = refl
    go false later e = later e

always : (b : Bool) (k : ℕ) → cond b k k ≡ k
always true k = refl
always false k = refl

-- the numbers of volumes, containers and running clones are different
numbers_differ : (d : Durable ℕ) → numbers_rule d ≡ true
    → all_different (map (λ (v : Volume ℕ). v.number) d.volumes ++ map (λ (k : Container). k.number) d.containers ++ map (λ (c : RunningClone ℕ). c.number) d.clones) ≡ true
unfolding numbers_rule
numbers_differ d e = and_right _ _ (and_left _ _ e)

module _ (geometry : Geometry) (lsn : ℕ) (view : ShelfView) (containers : List ChargedContainer) (bindings : BindState) (tasks : List Task)
    (clones : List CloneRow) (copies : List CopyRow) (clone_memory copy_memory : ℕ)
    (kept : IsTables geometry lsn view containers bindings tasks clones copies clone_memory copy_memory)
    (n source : ℕ) (cloning : CloneTask tasks n source) (is places : List ℕ)
    (fit : fits (seen_durable lsn view.shelf containers bindings tasks clones copies) (Turn n) places ≡ true)
    (at_is : is ≡ changed_indexes stamp (seen_durable lsn view.shelf containers bindings tasks clones copies) (Turn n))
    (row : CloneRow) (at : find (is_clone_row n) clones ≡ Some row) where
  abbrev pub d : Durable Entry
  d = seen_durable lsn view.shelf containers bindings tasks clones copies

  abbrev pub task : Task
  task = cloning.task

  abbrev c : RunningClone Entry
  c = seen_clone view.shelf row

  abbrev pub last : Bool
  last = is_last task (length is)

  abbrev pub tasks_after : List Task
  tasks_after = with_task tasks (advanced task (length is))

  abbrev f : List (Piece Entry) → List (Piece Entry)
  f = pieces_filled is (placed_entries places n)

  abbrev chunks : List Entry
  chunks = put_at is (placed_entries places n) c.target

  abbrev pub filled : ShelfState
  filled = with_filled view.shelf row.target.number n is places

  held_now : IsCloneHeld view.shelf row
  held_now = row_held geometry lsn view containers bindings tasks clones copies clone_memory copy_memory kept n source cloning is places fit at_is row at

  -- ---- the numbers of the turn
  indexes_are : is ≡ turn_indexes (map stamp c.image) task.done
  indexes_are = at_is ∙ turn_is geometry lsn view containers bindings tasks clones copies clone_memory copy_memory kept n source cloning is places fit at_is row at

  pub few : length is ≤ 16
  unfolding changed_indexes
  few = let most : length (turned_indexes stamp d n) ≤ 16 = turn_at_most stamp d n in let same : length is ≡ length (turned_indexes stamp d n) = ap length at_is in omega (arith, most, same)

  pub enough_left : length is ≤ task.total - task.done
  enough_left =
      let long : length (turn_indexes (map stamp c.image) task.done) ≤ allocated_count (map stamp c.image) - task.done = turn_long (map stamp c.image) task.done in
      let same : length is ≡ length (turn_indexes (map stamp c.image) task.done) = ap length indexes_are in
      let total : task.total ≡ allocated_count (map stamp c.image) =
      eqb-true task.total (allocated_count (map stamp c.image))
      (and_left _ _ (and_left _ _ (and_left _ _ (clone_kept geometry lsn view containers bindings tasks clones copies clone_memory copy_memory kept n source cloning is places fit at_is row at)))) in
      omega (arith, long, same, total)

  -- ---- the target
  f_is : f (pieces_in view.shelf row.target.number) ≡ indexed chunks
  f_is = ap f held_now.target_indexed ∙ filled_indexed is (placed_entries places n) (held_chunks view.shelf row.target.number)

  whole : f (pieces_in view.shelf row.target.number) ≡ indexed (piece_chunks (f (pieces_in view.shelf row.target.number)))
  whole = f_is ∙ ap indexed (sym (chunks_indexed chunks)) ∙ ap (λ qs. indexed (piece_chunks qs)) (sym f_is)

  chunks_are : piece_chunks (f (pieces_in view.shelf row.target.number)) ≡ chunks
  chunks_are = ap piece_chunks f_is ∙ chunks_indexed chunks

  -- ---- the rows
  split : Split (is_clone_row n) clones row
  split = found_split (is_clone_row n) clones row at

  held_whole : AreHeld view.shelf (split.front ++ row ∷ split.back) copies
  held_whole = subst (λ cs. AreHeld view.shelf cs copies) split.whole kept.held

  held_filled : AreHeld filled (split.front ++ row ∷ split.back) copies
  held_filled = same_held (with_pieces view.shelf row.target.number f) filled (split.front ++ row ∷ split.back) copies refl (target_filled view.shelf split.front row split.back copies held_whole f whole)

  abbrev has_chunks : RunningClone Entry → RunningClone Entry
  has_chunks b = record b { target = chunks }

  clones_seen : map (seen_clone filled) clones ≡ first_changed (λ (b : RunningClone Entry). b.number == task.number) has_chunks d.clones
  clones_seen =
      ap (map (seen_clone filled)) split.whole
      ∙ clones_filled view.shelf split.front row split.back copies held_whole f
      ∙ ap (λ xs. map (seen_clone view.shelf) split.front ++ (record c { target = xs }) ∷ map (seen_clone view.shelf) split.back) chunks_are
      ∙ sym (changed_around (is_clone_row n) (seen_clone view.shelf) (λ (b : RunningClone Entry). b.number == n) (λ r. refl) has_chunks split.front row split.back split.misses split.hits)
      ∙ ap (λ cs. first_changed (λ (b : RunningClone Entry). b.number == n) has_chunks (map (seen_clone view.shelf) cs)) (sym split.whole)
      ∙ ap (λ k. first_changed (λ (b : RunningClone Entry). b.number == k) has_chunks d.clones) (sym cloning.number)

  copies_seen : map (seen_copy filled) copies ≡ d.copies
  copies_seen = copies_filled view.shelf split.front row split.back copies held_whole f

  -- ---- what the turn does
  turned_to : replayed d (Turn n) places ≡ record (cond last (clone_ends d task (length is) source c chunks) (clone_goes_on d task (length is) chunks)) { lsn = lsn + 1 }
  unfolding replayed apply effect turned
  turned_to =
      ap (λ (e : Durable Entry). record e { lsn = lsn + 1 })
      (ap (λ (o : Option Task). if_found o (λ t. cond (is_running t) (job_turned stamp (placed_entries places (new_stamp d (Turn n))) d t t.job) d) d) cloning.found
      ∙ ap (λ b. cond b (job_turned stamp (placed_entries places (new_stamp d (Turn n))) d task task.job) d) cloning.running
      ∙ ap (job_turned stamp (placed_entries places (new_stamp d (Turn n))) d task) cloning.job
      ∙ ap (λ (o : Option (RunningClone Entry)). if_found o (clone_turned stamp (placed_entries places n) d task source) d)
      (clone_own geometry lsn view containers bindings tasks clones copies clone_memory copy_memory kept n source cloning is places fit at_is row at)
      ∙ ap (λ js. cond (is_last task (length js)) (clone_ends d task (length js) source c (put_at js (placed_entries places n) c.target)) (clone_goes_on d task (length js) (put_at js (placed_entries places n) c.target))) (sym indexes_are))

  -- no charge changes
  none_taken : (k : ℕ) → charge_taken (shape_of_tables d) (Turn n) k ≡ 0
  none_taken k =
      ap (λ (o : Option Task). if_found o (λ t. cond (is_running t && is_last t (next_piece t)) (uncharged_by_turns (shape_of_tables d) t t.job k) 0) 0) cloning.found
      ∙ ap (λ j. cond (is_running task && is_last task (next_piece task)) (uncharged_by_turns (shape_of_tables d) task j k) 0) cloning.job
      ∙ always (is_running task && is_last task (next_piece task)) 0

  -- as many places less are reserved
  reserved_left : (d' : Durable Entry) → d' ≡ replayed d (Turn n) places → view.shelf.reserved - length places ≡ reserved (shape_of_tables d')
  reserved_left d' same =
      let go : reserved (shape_of_tables d') + reserved_taken (shape_of_tables d) (Turn n) ≡ reserved (shape_of_tables d) + reserved_added (shape_of_tables d) (Turn n) =
      stepped_reserved d d' (Turn n) places kept.kept.well fit same in
      let none : reserved_added (shape_of_tables d) (Turn n) ≡ 0 = refl in
      let here : view.shelf.reserved ≡ reserved (shape_of_tables d) = kept.kept.reserved in
      let gone : reserved_taken (shape_of_tables d) (Turn n) ≡ length places = taken_is geometry lsn view containers bindings tasks clones copies clone_memory copy_memory kept n source cloning is places fit at_is in
      omega (arith, go, none, here, gone)

  -- ---- not the last turn
  pub goes_on_seen : last ≡ false → seen_durable (lsn + 1) filled containers bindings tasks_after clones copies ≡ replayed d (Turn n) places
  goes_on_seen e =
      ap (λ (cs : List (RunningClone Entry)). record (seen_durable (lsn + 1) filled containers bindings tasks_after clones copies) { clones = cs }) clones_seen
      ∙ ap (λ (cs : List (RunningCopy Entry)). record d { lsn = lsn + 1; tasks = tasks_after; clones = first_changed (λ (b : RunningClone Entry). b.number == task.number) has_chunks d.clones; copies = cs }) copies_seen
      ∙ sym (turned_to ∙ ap (λ b. record (cond b (clone_ends d task (length is) source c chunks) (clone_goes_on d task (length is) chunks)) { lsn = lsn + 1 }) e)

  pub goes_on_kept : (view' : ShelfView) (tasks' : List Task) → view'.shelf ≡ filled → tasks' ≡ tasks_after → last ≡ false
      → IsTables geometry (lsn + 1) view' containers bindings tasks' clones copies clone_memory copy_memory
  goes_on_kept view' tasks' shelf same e =
      let d' : Durable Entry = seen_durable (lsn + 1) view'.shelf containers bindings tasks' clones copies in
      let is_after : d' ≡ replayed d (Turn n) places =
      ap (λ (s : ShelfState). seen_durable (lsn + 1) s containers bindings tasks' clones copies) shelf
      ∙ ap (λ ts. seen_durable (lsn + 1) filled containers bindings ts clones copies) same ∙ goes_on_seen e in
      record {
        geometry_is = kept.geometry_is ∙ sym (ap (λ (s : ShelfState). s.geometry) shelf);
        kept = stepped_well d d' (Turn n) places kept.kept.well fit is_after view'.shelf containers (turn_forms n)
            (uncharged d d' (Turn n) places kept.kept.well fit is_after containers (λ k. sym (none_taken k)) kept.kept.charges)
            (ap (λ (s : ShelfState). s.reserved) shelf ∙ reserved_left d' is_after)
            (ap (λ (s : ShelfState). s.fresh) shelf ∙ kept.kept.fresh);
        held = subst (λ (s : ShelfState). AreHeld s clones copies) (sym shelf) (subst (λ cs. AreHeld filled cs copies) (sym split.whole) held_filled);
        clone_rows = kept.clone_rows;
        copy_rows = kept.copy_rows;
      }

  -- ---- the last turn
  row_filled : IsCloneHeld filled row
  row_filled = the_one (IsCloneHeld filled) split.front row split.back held_filled.images

  abbrev left : ShelfState
  left = without_held filled row.image.number

  stays : held_in left row.target.number ≡ held_in filled row.target.number
  stays = target_stays filled split.front row split.back copies held_filled

  pub image_there : IsSome (held_in filled row.image.number)
  image_there = let there = held_list filled row.image.number true row_filled.image in subst (λ o. IsSome o) (sym there.1) refl

  pub target_there : IsSome (held_in left row.target.number)
  target_there = let there = held_list filled row.target.number false row_filled.target in subst (λ o. IsSome o) (sym (stays ∙ there.1)) refl

  pieces_left : pieces_in left row.target.number ≡ indexed chunks
  pieces_left =
      ap (λ (o : Option HeldList). if_found o (λ (h : HeldList). h.pieces) []) stays
      ∙ target_pieces view.shelf split.front row split.back copies held_whole f ∙ f_is

  pub target_whole : HasEveryIndex left row.target.number
  target_whole =
      ap (map (λ (a : Piece Entry). a.index)) pieces_left ∙ indexes_from 0 chunks
      ∙ ap (λ (ps : List (Piece Entry)). numbers_from 0 (length ps)) (sym pieces_left)

  number_is : row.id.0 ≡ n
  number_is = eqb-true row.id.0 n (find-passes (is_clone_row n) clones row at)

  pub volume_new : volume_in filled row.id.0 ≡ None
  volume_new =
      ap (λ k. find (λ (v : Volume Entry). v.number == k) d.volumes) number_is
      ∙ none_ahead (λ (v : Volume Entry). v.number) n d.volumes
      (map (λ (k : Container). k.number) d.containers ++ map (λ (b : RunningClone ℕ). b.number) (shape_of_tables d).clones)
      (ap all_different (sym (append_assoc (map (λ (v : Volume Entry). v.number) d.volumes) (map (λ (k : Container). k.number) d.containers) (map (λ (b : RunningClone ℕ). b.number) (shape_of_tables d).clones)))
      ∙ ap (λ ns. all_different ((ns ++ map (λ (k : Container). k.number) d.containers) ++ map (λ (b : RunningClone ℕ). b.number) (shape_of_tables d).clones))
      (sym (map-after (map_volume stamp) (λ (v : Volume ℕ). v.number) (λ (v : Volume Entry). v.number) (λ v. refl) d.volumes))
      ∙ numbers_differ (shape_of_tables d) (rules d kept.kept.well).numbers)
      (any_behind n (map (λ (k : Container). k.number) d.containers) (map (λ (b : RunningClone ℕ). b.number) (shape_of_tables d).clones)
      (ap (list_any (λ m. m == n)) (map-after (map_clone stamp) (λ (b : RunningClone ℕ). b.number) (λ (b : RunningClone Entry). b.number) (λ b. refl) d.clones
      ∙ map-after (seen_clone view.shelf) (λ (b : RunningClone Entry). b.number) (λ (r : CloneRow). r.id.0) (λ r. refl) clones)
      ∙ found_any (λ (r : CloneRow). r.id.0) n row clones at))

  abbrev pub ended : ShelfState
  ended = with_clone_made filled row (record { 0 = source })

  same_ended : All (IsSameHeld filled ended) (lists_of (split.front ++ split.back) copies)
  same_ended = clone_left_same filled split.front row split.back copies held_filled

  held_ended : AreHeld ended (split.front ++ split.back) copies
  held_ended = same_held (without_held left row.target.number) ended (split.front ++ split.back) copies refl (clone_left filled split.front row split.back copies held_filled)

  clones_left_seen : map (seen_clone filled) (split.front ++ split.back) ≡ without_clone task.number d.clones
  clones_left_seen =
      ap (map (seen_clone filled)) (sym split.removed)
      ∙ map-first_removed (seen_clone filled) (is_clone_row n) (λ (b : RunningClone Entry). b.number == task.number) (λ r. ap (λ k. r.id.0 == k) cloning.number) clones
      ∙ ap (first_removed (λ (b : RunningClone Entry). b.number == task.number)) clones_seen
      ∙ removed_changed (λ (b : RunningClone Entry). b.number == task.number) has_chunks (λ b. refl) d.clones

  volumes_are : ended.volumes ≡ put_before (λ (v : Volume Entry). nat_lt c.number v.number) (cloned_volume c source chunks) d.volumes
  volumes_are =
      ap (λ xs. put_before (λ (v : Volume Entry). nat_lt c.number v.number) (cloned_volume c source xs) d.volumes) (ap piece_chunks pieces_left ∙ chunks_indexed chunks)

  module _ (view' : ShelfView) (tasks' : List Task) (clones' : List CloneRow)
      (shelf : view'.shelf ≡ ended) (tasks_are : tasks' ≡ tasks_after) (clones_left : clones' ≡ first_removed (is_clone_row n) clones) (end : last ≡ true) where
    pub ended_seen : seen_durable (lsn + 1) view'.shelf containers bindings tasks' clones' copies ≡ replayed d (Turn n) places
    ended_seen =
        ap (λ (s : ShelfState). seen_durable (lsn + 1) s containers bindings tasks' clones' copies) shelf
        ∙ ap (λ ts. seen_durable (lsn + 1) ended containers bindings ts clones' copies) tasks_are
        ∙ ap (λ cs. seen_durable (lsn + 1) ended containers bindings tasks_after cs copies) (clones_left ∙ split.removed)
        ∙ held_seen (lsn + 1) filled containers bindings tasks_after (split.front ++ split.back) copies ended same_ended
        ∙ ap (λ (cs : List (RunningClone Entry)). record d { lsn = lsn + 1; tasks = tasks_after; volumes = ended.volumes; clones = cs; copies = map (seen_copy filled) copies }) clones_left_seen
        ∙ ap (λ (cs : List (RunningCopy Entry)). record d { lsn = lsn + 1; tasks = tasks_after; volumes = ended.volumes; clones = without_clone task.number d.clones; copies = cs }) copies_seen
        ∙ ap (λ (vs : List (Volume Entry)). record d { lsn = lsn + 1; tasks = tasks_after; volumes = vs; clones = without_clone task.number d.clones }) volumes_are
        ∙ sym (turned_to ∙ ap (λ b. record (cond b (clone_ends d task (length is) source c chunks) (clone_goes_on d task (length is) chunks)) { lsn = lsn + 1 }) end)

    pub ended_kept : (clone_memory' : ℕ) → clone_memory' ≡ clone_memory → IsTables geometry (lsn + 1) view' containers bindings tasks' clones' copies clone_memory' copy_memory
    ended_kept clone_memory' memory =
        let d' : Durable Entry = seen_durable (lsn + 1) view'.shelf containers bindings tasks' clones' copies in
        record {
          geometry_is = kept.geometry_is ∙ sym (ap (λ (s : ShelfState). s.geometry) shelf);
          kept = stepped_well d d' (Turn n) places kept.kept.well fit ended_seen view'.shelf containers (turn_forms n)
              (uncharged d d' (Turn n) places kept.kept.well fit ended_seen containers (λ k. sym (none_taken k)) kept.kept.charges)
              (ap (λ (s : ShelfState). s.reserved) shelf ∙ reserved_left d' ended_seen)
              (ap (λ (s : ShelfState). s.fresh) shelf ∙ kept.kept.fresh);
          held = subst (λ cs. AreHeld view'.shelf cs copies) (sym (clones_left ∙ split.removed)) (subst (λ (s : ShelfState). AreHeld s (split.front ++ split.back) copies) (sym shelf) held_ended);
          clone_rows = let was = kept.clone_rows in omega (arith, was, memory);
          copy_rows = kept.copy_rows;
        }
