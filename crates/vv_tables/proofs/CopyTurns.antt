-- The turn of a running copy: what is known of it, what it makes of tables, and that these keep all that tables keep.
use Rattle.std.proofs.Common.{ℕ, ◌≡◌, ◌+◌, ◌<◌, ◌≤◌, ◌==◌, ◌&&◌, not, Bool, true, false, cond, List, [], ◌∷◌, ◌++◌, map, length, Option, Some, refl, sym, ap, subst, ◌∙◌, arith}
use Rattle.std.specs.Prelude.{IsSome, nat_lt}
use Rattle.std.specs.List.{find, list_all, All}
use Rattle.std.proofs.lemmas.Bool.{eq-eqb, ltb-true}
use Rattle.std.proofs.lemmas.List.{length-map}
use Rattle.std.proofs.lemmas.List.Folds.{list_all-map}
use Rattle.std.proofs.lemmas.List.Elements.{All-nil, All-cons, All-contains}
use Rattle.vv_units.specs.declared.geometry.Geometry.{Geometry}
use Rattle.vv_flat.specs.Lists.{if_found, first_removed}
use Rattle.vv_flat.specs.State.{Volume, Task, Piece, RunningCopy, Durable, volume_of, task_of, copy_of, map_copy}
use Rattle.vv_flat.specs.Chunks.{Entry, shape_of_tables, placed_entries}
use Rattle.vv_flat.specs.Space.{is_running, is_clone, charge, job_target}
use Rattle.vv_flat.specs.Tasks.{next_piece, is_last, with_task, advanced, turned, job_turned, turned_indexes, job_indexes, copy_turned, copy_goes_on, copy_ends, without_copy}
use Rattle.vv_flat.specs.Changes.{Turn, stamps_of, home_of, apply, effect, new_stamp, changed_indexes}
use Rattle.vv_flat.specs.Replay.{fits, replayed}
use Rattle.vv_flat.specs.Fields.{change_has_forms}
use Rattle.vv_flat.proofs.KeepForm.{copies_are}
use Rattle.vv_flat.proofs.MapLists.{map-first_removed, map-after}
use Rattle.vv_flat.proofs.NewEntries.{eq_turn}
use Rattle.vv_flat.proofs.Shares.{and_both, and_left, and_right}
use Rattle.vv_laws.specs.Counts.{charge_added, charge_taken, reserved_taken, entries_taken, unmapping_pieces, uncharged_by_turns, ended_entries}
use Rattle.vv_laws.proofs.UsedCounts.{Aims, copy_aims}
use Rattle.vv_container.specs.Table.{ChargedContainer, with_charge}
use Rattle.vv_bind.specs.Table.{BindState}
use Rattle.vv_vols.specs.Shelf.{ShelfState, held_in, size_in, pieces_in}
use Rattle.vv_vols.specs.Calls.{without_held}
use Rattle.vv_vols.specs.Rows.{ShelfView}
use Rattle.vv_vols.proofs.FoundSplit.{Split, found_split, found_mapped, all_found}
use Rattle.vv_diff.specs.Pieces.{with_pieces_put, ArePiecesInside}
use Rattle.vv_tables.specs.declared.rows.CloneRow.{CloneRow}
use Rattle.vv_tables.specs.declared.rows.CopyRow.{CopyRow}
use Rattle.vv_tables.specs.Rows.{is_copy_row}
use Rattle.vv_tables.specs.Seen.{plain_containers, seen_copy, seen_durable}
use Rattle.vv_tables.specs.Kept.{lists_of, IsCopyHeld, AreHeld, IsTables}
use Rattle.vv_tables.specs.Copies.{stamps_in, shaped_pieces}
use Rattle.vv_tables.proofs.Accepted.{rules}
use Rattle.vv_tables.proofs.Containers.{plain_charged}
use Rattle.vv_tables.proofs.HeldChanges.{IsSameHeld}
use Rattle.vv_tables.proofs.HeldEnds.{held_list, copy_left_same, copy_left}
use Rattle.vv_tables.proofs.HeldKept.{same_held}
use Rattle.vv_tables.proofs.SeenChanges.{held_seen}
use Rattle.vv_tables.proofs.StandingVolumes.{rows_rise}
use Rattle.vv_tables.proofs.StartedCopies.{stamps_are}
use Rattle.vv_tables.proofs.Stepped.{stepped_charge, uncharged, recharged, stepped_well, same_reserved}
use Rattle.vv_tables.proofs.TaskRows.{CopyTask, row_of_task}

abbrev stamp : Entry → ℕ
stamp e = e.stamp

pub turn_forms : (n : ℕ) → change_has_forms (Turn n) ≡ true
unfolding change_has_forms
turn_forms n = refl

-- what a test tells of all items of a list
all_of : {A : Type 0} (p : A → Bool) (xs : List A) → list_all p xs ≡ true → All (λ x. p x ≡ true) xs
all_of p [] e = All-nil (λ x. p x ≡ true)
all_of p (x ∷ xs) e = All-cons (λ x. p x ≡ true) x xs (and_left (p x) (list_all p xs) e) (all_of p xs (and_right (p x) (list_all p xs) e))

module _ (geometry : Geometry) (lsn : ℕ) (view : ShelfView) (containers : List ChargedContainer) (bindings : BindState) (tasks : List Task)
    (clones : List CloneRow) (copies : List CopyRow) (clone_memory copy_memory : ℕ)
    (kept : IsTables geometry lsn view containers bindings tasks clones copies clone_memory copy_memory)
    (n target : ℕ) (copying : CopyTask tasks n target)
    (fit : fits (seen_durable lsn view.shelf containers bindings tasks clones copies) (Turn n) [] ≡ true) where
  abbrev pub d : Durable Entry
  d = seen_durable lsn view.shelf containers bindings tasks clones copies

  abbrev pub home : ℕ
  home = home_of (shape_of_tables d) target

  abbrev pub task : Task
  task = copying.task

  abbrev pub last : Bool
  last = is_last task (next_piece task)

  abbrev pub tasks_after : List Task
  tasks_after = with_task tasks (advanced task (next_piece task))

  -- its row stands
  pub copy_row : IsSome (find (is_copy_row n) copies)
  copy_row =
      row_of_task (λ (row : CopyRow). row.id.0) (λ (t : Task). is_running t && not (is_clone t.job)) copies tasks n task
      (sym (map-after (seen_copy view.shelf) (λ (c : RunningCopy Entry). c.number) (λ (row : CopyRow). row.id.0) (λ row. refl) copies)
      ∙ sym (map-after (map_copy stamp) (λ (c : RunningCopy ℕ). c.number) (λ (c : RunningCopy Entry). c.number) (λ c. refl) d.copies)
      ∙ copies_are (shape_of_tables d) (rules d kept.kept.well))
      copying.found (and_both (is_running task) (not (is_clone task.job)) copying.running (ap (λ j. not (is_clone j)) copying.job))

  -- a copy reserves no place
  pub none_reserved : reserved_taken (shape_of_tables d) (Turn n) ≡ 0
  unfolding changed_indexes turned_indexes
  none_reserved =
      ap (λ (o : Option Task). length (if_found o (λ t. cond (is_running t) (job_indexes (λ s. s) (shape_of_tables d) t t.job) []) [])) copying.found
      ∙ ap (λ b. length (cond b (job_indexes (λ s. s) (shape_of_tables d) task task.job) [])) copying.running
      ∙ ap (λ j. length (job_indexes (λ s. s) (shape_of_tables d) task j)) copying.job

  module _ (row : CopyRow) (at : find (is_copy_row n) copies ≡ Some row) where
    abbrev pub pieces : List (Piece Entry)
    pieces = pieces_in view.shelf row.pieces.number

    copy_here : copy_of d n ≡ Some (seen_copy view.shelf row)
    copy_here = found_mapped (is_copy_row n) (seen_copy view.shelf) (λ (c : RunningCopy Entry). c.number == n) (λ row. refl) copies row at

    copy_own : copy_of d task.number ≡ Some (seen_copy view.shelf row)
    copy_own = ap (copy_of d) copying.number ∙ copy_here

    task_own : task_of d task.number ≡ Some task
    task_own = ap (task_of d) copying.number ∙ copying.found

    shape_own : copy_of (shape_of_tables d) task.number ≡ Some (map_copy stamp (seen_copy view.shelf row))
    shape_own = found_mapped (λ (c : RunningCopy Entry). c.number == task.number) (map_copy stamp) (λ (c : RunningCopy ℕ). c.number == task.number) (λ c. refl) d.copies (seen_copy view.shelf row) copy_own

    aims : Aims d target (seen_copy view.shelf row)
    aims = copy_aims d (rules d kept.kept.well) task target (seen_copy view.shelf row) task_own copy_own (ap job_target copying.job)

    -- the target stands, the pieces are held, and they are inside the target
    pub target_there : IsSome (volume_of d target)
    target_there = subst (λ o. IsSome o) (sym aims.stands) refl

    pub pieces_held : IsSome (held_in view.shelf row.pieces.number)
    pieces_held =
        let there = held_list view.shelf row.pieces.number false (all_found (is_copy_row n) (IsCopyHeld view.shelf) copies row kept.held.pieces at) in
        subst (λ o. IsSome o) (sym there.1) refl

    pub pieces_inside : ArePiecesInside view.shelf target row.pieces.number
    pieces_inside a has =
        let size : size_in view.shelf target ≡ length aims.volume.chunks = ap (λ (o : Option (Volume Entry)). if_found o (λ (v : Volume Entry). length v.chunks) 0) aims.stands in
        let within : list_all (λ (p : Piece Entry). nat_lt p.index (length aims.volume.chunks)) pieces ≡ true =
        sym (list_all-map (λ i. nat_lt i (length aims.volume.chunks)) (λ (p : Piece Entry). p.index) pieces) ∙ aims.within in
        let lt : a.index < length aims.volume.chunks = ltb-true a.index (length aims.volume.chunks)
        (All-contains (λ (p : Piece Entry). nat_lt p.index (length aims.volume.chunks) ≡ true) pieces a (all_of (λ (p : Piece Entry). nat_lt p.index (length aims.volume.chunks)) pieces within) has) in
        omega (arith, size, lt)

    -- the tables afterwards
    turn_is : replayed d (Turn n) [] ≡ record (copy_turned d task target (seen_copy view.shelf row)) { lsn = lsn + 1 }
    unfolding replayed apply effect turned
    turn_is =
        ap (λ (e : Durable Entry). record e { lsn = lsn + 1 })
        (ap (λ (o : Option Task). if_found o (λ t. cond (is_running t) (job_turned stamp (placed_entries [] (new_stamp d (Turn n))) d t t.job) d) d) copying.found
        ∙ ap (λ b. cond b (job_turned stamp (placed_entries [] (new_stamp d (Turn n))) d task task.job) d) copying.running
        ∙ ap (job_turned stamp (placed_entries [] (new_stamp d (Turn n))) d task) copying.job
        ∙ ap (λ (o : Option (RunningCopy Entry)). if_found o (copy_turned d task target) d) copy_own)

    -- what the container is charged no longer
    abbrev pub gone : ℕ
    gone = unmapping_pieces (stamps_of (shape_of_tables d) target) (shaped_pieces pieces)

    pub gone_is : unmapping_pieces (stamps_in view.shelf target) (shaped_pieces pieces) ≡ gone
    gone_is = ap (λ ss. unmapping_pieces ss (shaped_pieces pieces)) (sym (stamps_are d target))

    taken_is : (k : ℕ) → charge_taken (shape_of_tables d) (Turn n) k ≡ cond last (cond (home == k) gone 0) 0
    taken_is k =
        ap (λ (o : Option Task). if_found o (λ t. cond (is_running t && is_last t (next_piece t)) (uncharged_by_turns (shape_of_tables d) t t.job k) 0) 0) copying.found
        ∙ ap (λ b. cond (b && last) (uncharged_by_turns (shape_of_tables d) task task.job k) 0) copying.running
        ∙ ap (λ j. cond last (uncharged_by_turns (shape_of_tables d) task j k) 0) copying.job
        ∙ ap (λ (o : Option (RunningCopy ℕ)). cond last (cond (home == k) (if_found o (λ (c : RunningCopy ℕ). unmapping_pieces (stamps_of (shape_of_tables d) target) c.pieces) 0) 0) 0) shape_own

    pub entries_last : last ≡ true → entries_taken (shape_of_tables d) (Turn n) ≡ length pieces
    entries_last e =
        ap (λ (o : Option Task). if_found o (λ t. cond (is_running t) (ended_entries (shape_of_tables d) t t.job) 0) 0) copying.found
        ∙ ap (λ b. cond b (ended_entries (shape_of_tables d) task task.job) 0) copying.running
        ∙ ap (ended_entries (shape_of_tables d) task) copying.job
        ∙ ap (λ (o : Option (RunningCopy ℕ)). if_found o (λ (c : RunningCopy ℕ). cond last (length c.pieces) 0) 0) shape_own
        ∙ ap (λ b. cond b (length (map_copy stamp (seen_copy view.shelf row)).pieces) 0) e
        ∙ length-map pieces _

    -- ---- not the last turn
    pub goes_on_seen : last ≡ false → seen_durable (lsn + 1) view.shelf containers bindings tasks_after clones copies ≡ replayed d (Turn n) []
    goes_on_seen e = sym (turn_is ∙ ap (λ b. record (cond b (copy_ends d task target (seen_copy view.shelf row)) (copy_goes_on d task)) { lsn = lsn + 1 }) e)

    pub goes_on_kept : (tasks' : List Task) → tasks' ≡ tasks_after → last ≡ false
        → IsTables geometry (lsn + 1) view containers bindings tasks' clones copies clone_memory copy_memory
    goes_on_kept tasks' same e =
        let d' : Durable Entry = seen_durable (lsn + 1) view.shelf containers bindings tasks' clones copies in
        let is : d' ≡ replayed d (Turn n) [] = ap (λ ts. seen_durable (lsn + 1) view.shelf containers bindings ts clones copies) same ∙ goes_on_seen e in
        record {
          geometry_is = kept.geometry_is;
          kept = stepped_well d d' (Turn n) [] kept.kept.well fit is view.shelf containers (turn_forms n)
              (uncharged d d' (Turn n) [] kept.kept.well fit is containers (λ k. sym (taken_is k ∙ ap (λ b. cond b (cond (home == k) gone 0) 0) e)) kept.kept.charges)
              (same_reserved d d' (Turn n) [] kept.kept.well fit is view.shelf (sym none_reserved) kept.kept.reserved) kept.kept.fresh;
          held = kept.held;
          clone_rows = kept.clone_rows;
          copy_rows = kept.copy_rows;
        }

    -- ---- the last turn
    module _ (end : last ≡ true) where
      taken_here : charge_taken (shape_of_tables d) (Turn n) home ≡ gone
      taken_here = taken_is home ∙ ap (λ b. cond b (cond (home == home) gone 0) 0) end ∙ ap (λ b. cond b gone 0) (eq-eqb home home refl)

      taken_elsewhere : (k : ℕ) → (k == home) ≡ false → charge_taken (shape_of_tables d) (Turn n) k ≡ 0
      taken_elsewhere k apart = taken_is k ∙ ap (λ b. cond b (cond (home == k) gone 0) 0) end ∙ ap (λ b. cond b gone 0) (eq_turn home k ∙ apart)

      pub gone_within : gone ≤ charge (shape_of_tables d) home
      gone_within =
          let go : charge (shape_of_tables (replayed d (Turn n) [])) home + charge_taken (shape_of_tables d) (Turn n) home ≡ charge (shape_of_tables d) home + charge_added (shape_of_tables d) (Turn n) home =
          stepped_charge d (replayed d (Turn n) []) (Turn n) [] kept.kept.well fit refl home in
          let here : charge_taken (shape_of_tables d) (Turn n) home ≡ gone = taken_here in
          let none : charge_added (shape_of_tables d) (Turn n) home ≡ 0 = refl in
          omega (arith, go, here, none)

      abbrev ended : ShelfState
      ended = with_pieces_put view.shelf target row.pieces.number

      split : Split (is_copy_row n) copies row
      split = found_split (is_copy_row n) copies row at

      held_whole : AreHeld view.shelf clones (split.front ++ row ∷ split.back)
      held_whole = subst (λ cs. AreHeld view.shelf clones cs) split.whole kept.held

      same : All (IsSameHeld view.shelf ended) (lists_of clones (split.front ++ split.back))
      same = copy_left_same view.shelf clones split.front row split.back held_whole

      held_after : AreHeld ended clones (split.front ++ split.back)
      held_after =
          same_held (without_held view.shelf row.pieces.number) ended clones (split.front ++ split.back) refl
          (copy_left view.shelf clones split.front row split.back held_whole)

      copies_seen : map (seen_copy view.shelf) (split.front ++ split.back) ≡ without_copy task.number d.copies
      copies_seen =
          ap (map (seen_copy view.shelf)) (sym split.removed)
          ∙ map-first_removed (seen_copy view.shelf) (is_copy_row n) (λ (c : RunningCopy Entry). c.number == n) (λ row. refl) copies
          ∙ ap (λ m. without_copy m d.copies) (sym copying.number)

      module _ (view' : ShelfView) (charged : ℕ) (tasks' : List Task) (copies' : List CopyRow)
          (shelf : view'.shelf ≡ ended) (tasks_are : tasks' ≡ tasks_after) (copies_left : copies' ≡ first_removed (is_copy_row n) copies) where
        abbrev rows : List ChargedContainer
        rows = with_charge containers home charged

        pub ended_seen : seen_durable (lsn + 1) view'.shelf rows bindings tasks' clones copies' ≡ replayed d (Turn n) []
        ended_seen =
            ap (λ (s : ShelfState). seen_durable (lsn + 1) s rows bindings tasks' clones copies') shelf
            ∙ ap (λ ts. seen_durable (lsn + 1) ended rows bindings ts clones copies') tasks_are
            ∙ ap (λ cs. seen_durable (lsn + 1) ended rows bindings tasks_after clones cs) (copies_left ∙ split.removed)
            ∙ held_seen (lsn + 1) view.shelf rows bindings tasks_after clones (split.front ++ split.back) ended same
            ∙ ap (λ (cs : List (RunningCopy Entry)). record d { lsn = lsn + 1; containers = plain_containers rows; tasks = tasks_after; volumes = ended.volumes; copies = cs }) copies_seen
            ∙ ap (λ ks. record d { lsn = lsn + 1; containers = ks; tasks = tasks_after; volumes = ended.volumes; copies = without_copy task.number d.copies }) (plain_charged containers home charged)
            ∙ sym (turn_is ∙ ap (λ b. record (cond b (copy_ends d task target (seen_copy view.shelf row)) (copy_goes_on d task)) { lsn = lsn + 1 }) end)

        pub ended_kept : (copy_memory' : ℕ) → charged + gone ≡ charge (shape_of_tables d) home → copy_memory' ≡ copy_memory
            → IsTables geometry (lsn + 1) view' rows bindings tasks' clones copies' clone_memory copy_memory'
        ended_kept copy_memory' exact memory =
            let d' : Durable Entry = seen_durable (lsn + 1) view'.shelf rows bindings tasks' clones copies' in
            let here : charge_taken (shape_of_tables d) (Turn n) home ≡ gone = taken_here in
            let none : charge_added (shape_of_tables d) (Turn n) home ≡ 0 = refl in
            record {
              geometry_is = kept.geometry_is ∙ sym (ap (λ (s : ShelfState). s.geometry) shelf);
              kept = stepped_well d d' (Turn n) [] kept.kept.well fit ended_seen view'.shelf rows (turn_forms n)
                  (recharged d d' (Turn n) [] kept.kept.well fit ended_seen containers home charged (rows_rise d containers refl kept.kept.well)
                  (omega (arith, exact, here, none)) (λ k apart. sym (taken_elsewhere k apart)) kept.kept.charges)
                  (same_reserved d d' (Turn n) [] kept.kept.well fit ended_seen view'.shelf (sym none_reserved) (ap (λ (s : ShelfState). s.reserved) shelf ∙ kept.kept.reserved))
                  (ap (λ (s : ShelfState). s.fresh) shelf ∙ kept.kept.fresh);
              held = subst (λ cs. AreHeld view'.shelf clones cs) (sym (copies_left ∙ split.removed)) (subst (λ (s : ShelfState). AreHeld s clones (split.front ++ split.back)) (sym shelf) held_after);
              clone_rows = kept.clone_rows;
              copy_rows = let was = kept.copy_rows in omega (arith, was, memory);
            }
