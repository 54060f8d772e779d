-- What is known of a task that may be cancelled, and the tables once it is: what it held is dropped, its record stays, and
-- its container is charged for less.
use Rattle.std.proofs.Common.{ℕ, ◌≡◌, ◌+◌, ◌-◌, ◌<◌, ◌≤◌, ◌==◌, ◌&&◌, not, Bool, true, false, cond, List, [], ◌∷◌, ◌++◌, map, Option, Some, None, option_map, refl, sym, ap, subst, ◌∙◌, arith}
use Rattle.std.specs.Prelude.{is_some, is_none, IsSome, IfSome, option_and_then}
use Rattle.std.specs.List.{find, flat_map, All}
use Rattle.std.proofs.lemmas.Bool.{eq-eqb, eqb-true}
use Rattle.vv_units.specs.declared.geometry.Geometry.{Geometry}
use Rattle.vv_units.specs.declared.field.Field.TheVariants.{Task as in_task}
use Rattle.vv_flat.specs.Lists.{if_found, first_removed, all_rising}
use Rattle.vv_flat.specs.State.{Job, Clone, Copy, Task, Container, Volume, Piece, RunningClone, RunningCopy, Durable, volume_of, task_of, clone_of, copy_of, map_clone, map_copy, map_piece}
use Rattle.vv_flat.specs.Chunks.{Entry, shape_of_tables}
use Rattle.vv_flat.specs.Space.{is_running, is_clone, job_target, copy_target, allocated_count, charge, reserved, allocating_pieces, allocating_for}
use Rattle.vv_flat.specs.Tasks.{task_cancelled, without_clone, without_copy, cancelled}
use Rattle.vv_flat.specs.Refusals.{Accept, NotFound as Missing, NotCancellable as Unstoppable, last_lsn}
use Rattle.vv_flat.specs.Changes.{Cancel, judge, state_checks, effect, apply, apply_shape, is_task_running}
use Rattle.vv_flat.specs.Replay.{fits, replayed}
use Rattle.vv_flat.specs.Fields.{change_has_forms}
use Rattle.vv_flat.proofs.Kept.{Kept, kept}
use Rattle.vv_flat.proofs.KeepRules.{fits_accepted}
use Rattle.vv_flat.proofs.MapLists.{map-first_removed}
use Rattle.vv_flat.proofs.RisingRows.{removed-none}
use Rattle.vv_flat.proofs.Steps.{find-passes}
use Rattle.vv_flat.proofs.Verdicts.{passed_state, not_refused}
use Rattle.vv_laws.specs.Counts.{charge_taken, reserved_taken, still_reserved}
use Rattle.vv_laws.proofs.AllocatedVolumes.{target_stands as target_stands_in}
use Rattle.vv_laws.proofs.ChargedCounts.{charge_after}
use Rattle.vv_laws.proofs.KeptNumbers.{reserved_well}
use Rattle.vv_laws.proofs.WellFormed.{shape_rules, well_formed_shape}
use Rattle.vv_container.specs.Table.{ChargedContainer, row_of, charge_of, with_charge, numbers}
use Rattle.vv_bind.specs.Table.{BindState}
use Rattle.vv_task.specs.Table.{task_numbered, cancel_fault}
use Rattle.vv_task.specs.declared.fault.CancelFault.TheVariants.{NotFound, NotCancellable}
use Rattle.vv_vols.specs.Shelf.{HeldList, ShelfState, volume_in, held_in, pieces_in}
use Rattle.vv_vols.specs.Calls.{without_held, with_reserve}
use Rattle.vv_vols.specs.Rows.{ShelfView}
use Rattle.vv_vols.proofs.FoundSplit.{Split, found_split, all_found}
use Rattle.vv_tables.specs.declared.rows.CloneRow.{CloneRow}
use Rattle.vv_tables.specs.declared.rows.CopyRow.{CopyRow}
use Rattle.vv_tables.specs.Rows.{is_clone_row, is_copy_row}
use Rattle.vv_tables.specs.Seen.{held_chunks, seen_clone, seen_copy, seen_durable}
use Rattle.vv_tables.specs.Kept.{AreCharged, AreHeld, IsCloneHeld, IsCopyHeld, IsTables, clone_lists, lists_of}
use Rattle.vv_tables.specs.Copies.{stamps_in, shaped_pieces}
use Rattle.vv_tables.specs.Homes.{home_in}
use Rattle.vv_tables.proofs.Walks.{find_mapped}
use Rattle.vv_tables.proofs.ShapeVolumes.{shaped, shape_found}
use Rattle.vv_tables.proofs.Containers.{row_stands, charge_is, plain_charged}
use Rattle.vv_tables.proofs.HeldChanges.{IsSameHeld, clones_seen, copies_seen}
use Rattle.vv_tables.proofs.HeldKept.{pieces_of, front_part, back_part, same_held}
use Rattle.vv_tables.proofs.HeldEnds.{clone_left, clone_left_same, copy_left, copy_left_same, the_one, held_list, target_stays}
use Rattle.vv_tables.proofs.RunningRows.{present, unnegated, clone_there, copy_there, no_clone, no_copy, clone_total, clone_home, volume_home}
use Rattle.vv_tables.proofs.NextNumber.{more_to_come}
use Rattle.vv_tables.proofs.StandingVolumes.{rows_rise}
use Rattle.vv_tables.proofs.Stepped.{stepped_reserved, recharged, stepped_well}

abbrev stamp : Entry → ℕ
stamp e = e.stamp

some_mapped : {A B : Type 0} (f : A → B) (o : Option A) → is_some (option_map f o) ≡ is_some o
some_mapped f None = refl
some_mapped f (Some x) = refl

none_mapped : {A B : Type 0} (f : A → B) (o : Option A) → option_map f o ≡ None → o ≡ None
none_mapped f None e = refl
none_mapped f (Some x) e = absurd (cc)

held_some : (s : ShelfState) (n : ℕ) → (h : HeldList) × (held_in s n ≡ Some h) → IsSome (held_in s n)
held_some s n p = ap is_some p.1

-- the pieces of a running copy stand
pub held_there : (s : ShelfState) (clones : List CloneRow) (copies : List CopyRow) (n : ℕ) → AreHeld s clones copies → (row : CopyRow) → find (is_copy_row n) copies ≡ Some row
    → IsSome (held_in s row.pieces.number)
held_there s clones copies n held row at = held_some s row.pieces.number (held_list s row.pieces.number false (all_found (is_copy_row n) (IsCopyHeld s) copies row held.pieces at))

home_of_found : (o : Option (Volume Entry)) (home : ℕ) → home ≡ if_found o (λ (v : Volume Entry). v.container) 0 → IfSome o (λ (v : Volume Entry). v.container ≡ home)
home_of_found None home e = tt
home_of_found (Some v) home e = sym e

faultless : (o : Option Task) → if_found o is_running false ≡ true
    → if_found o (λ t. cond (is_running t) None (Some NotCancellable)) (Some NotFound) ≡ None
faultless None e = absurd (cc)
faultless (Some t) e = ap (λ b. cond b None (Some NotCancellable)) e

aiming : (j : Job) (n : ℕ) → job_target j ≡ Some n → is_clone j ≡ false
aiming (Clone v) n e = absurd (cc)
aiming (Copy x b t) n e = refl

seen_equal : (lsn : ℕ) (s1 s2 : ShelfState) (k1 k2 : List ChargedContainer) (b : BindState) (t1 t2 : List Task) (c1 c2 : List CloneRow) (p1 p2 : List CopyRow)
    → s1 ≡ s2 → k1 ≡ k2 → t1 ≡ t2 → c1 ≡ c2 → p1 ≡ p2 → seen_durable lsn s1 k1 b t1 c1 p1 ≡ seen_durable lsn s2 k2 b t2 c2 p2
seen_equal lsn s1 s2 k1 k2 b t1 t2 c1 c2 p1 p2 s k t c p = rw (s, k, t, c, p) refl

task_judged : (d : Durable ℕ) (n : ℕ) → judge None d (Cancel n) ≡ Accept → is_some (task_of d n) ≡ true
unfolding state_checks
task_judged d n e = present (task_of d n) (not_refused (is_none (task_of d n)) (Missing in_task) (passed_state None d (Cancel n) e 0))

running_judged : (d : Durable ℕ) (n : ℕ) → judge None d (Cancel n) ≡ Accept → is_task_running d n ≡ true
unfolding state_checks
running_judged d n e =
    unnegated (is_task_running d n) (not_refused (not (is_task_running d n)) (Unstoppable in_task) (passed_state None d (Cancel n) e 1))

-- what a cancelling makes of tables
cancelled_is : (d : Durable Entry) (n : ℕ)
    → replayed d (Cancel n) [] ≡ record d { lsn = d.lsn + 1; tasks = task_cancelled d.tasks n; clones = without_clone n d.clones; copies = without_copy n d.copies }
unfolding replayed apply effect cancelled
cancelled_is d n = refl

pub cancel_forms : (n : ℕ) → change_has_forms (Cancel n) ≡ true
unfolding change_has_forms
cancel_forms n = refl

module _ (geometry : Geometry) (lsn : ℕ) (view : ShelfView) (containers : List ChargedContainer) (bindings : BindState) (tasks : List Task)
    (clones : List CloneRow) (copies : List CopyRow) (clone_memory copy_memory : ℕ)
    (before : IsTables geometry lsn view containers bindings tasks clones copies clone_memory copy_memory)
    (n : ℕ) (fit : fits (seen_durable lsn view.shelf containers bindings tasks clones copies) (Cancel n) [] ≡ true) where
  abbrev s : ShelfState
  s = view.shelf

  abbrev seen : Durable Entry
  seen = seen_durable lsn s containers bindings tasks clones copies

  abbrev d : Durable ℕ
  d = shape_of_tables seen

  rules : Kept d
  rules = kept d (shape_rules seen before.kept.well)

  accepted : judge None d (Cancel n) ≡ Accept
  accepted = fits_accepted seen (Cancel n) [] fit

  pub task_stands : IsSome (task_numbered tasks n)
  task_stands = task_judged d n accepted

  pub may_end : cancel_fault tasks n ≡ None
  may_end = faultless (task_numbered tasks n) (running_judged d n accepted)

  pub log_room : lsn + 1 ≤ last_lsn
  log_room = let next : lsn < last_lsn = more_to_come seen (Cancel n) [] fit in omega (arith, next)

  -- ---- charges
  containers_rise : all_rising (numbers containers) ≡ true
  containers_rise = rows_rise seen containers refl before.kept.well

  module _ (home less : ℕ) (taken : (k : ℕ) → charge_taken d (Cancel n) k ≡ cond (home == k) less 0) where
    taken_home : charge_taken d (Cancel n) home ≡ less
    taken_home = taken home ∙ ap (λ b. cond b less 0) (eq-eqb home home refl)

    pub charge_enough : IfSome (charge_of containers home) (λ charged. less ≤ charged)
    charge_enough = go (charge_of containers home) refl
      where
        go : (o : Option ℕ) → charge_of containers home ≡ o → IfSome o (λ charged. less ≤ charged)
        go None is = tt
        go (Some charged) is =
            let exact : charged ≡ charge d home = charge_is seen containers home charged before.kept.charges is in
            let goes : charge (apply_shape d (Cancel n)) home + charge_taken d (Cancel n) home ≡ charge d home + 0 =
            charge_after None d (Cancel n) (well_formed_shape seen before.kept.well) accepted home in
            omega (arith, exact, goes, taken_home)

    charge_least : less ≤ charge d home
    charge_least =
        let goes : charge (apply_shape d (Cancel n)) home + charge_taken d (Cancel n) home ≡ charge d home + 0 =
        charge_after None d (Cancel n) (well_formed_shape seen before.kept.well) accepted home in
        omega (arith, goes, taken_home)

    pub charge_lowered : (next : List ChargedContainer) → IsSome (row_of containers home)
        → IfSome (charge_of containers home) (λ charged. next ≡ with_charge containers home (charged - less)) → next ≡ with_charge containers home (charge d home - less)
    charge_lowered next some e = go (row_of containers home) refl some e
      where
        go : (o : Option ChargedContainer) → row_of containers home ≡ o → IsSome o
            → IfSome (option_map (λ (r : ChargedContainer). r.charged) o) (λ charged. next ≡ with_charge containers home (charged - less))
            → next ≡ with_charge containers home (charge d home - less)
        go None is some e = absurd (cc)
        go (Some r) is some e =
            e ∙ ap (λ c. with_charge containers home (c - less)) (charge_is seen containers home r.charged before.kept.charges (ap (option_map (λ (r : ChargedContainer). r.charged)) is))

    others_none : (k : ℕ) → (k == home) ≡ false → 0 ≡ charge_taken d (Cancel n) k
    others_none k apart = sym (taken k ∙ ap (λ b. cond b less 0) (turned (home == k) refl))
      where
        turned : (b : Bool) → (home == k) ≡ b → (home == k) ≡ false
        turned true is = let same : home ≡ k = eqb-true home k is in let hit : (k == home) ≡ true = eq-eqb k home (sym same) in absurd (cc)
        turned false is = is

    pub charged_after : (after : Durable Entry) → after ≡ replayed seen (Cancel n) [] → AreCharged after (with_charge containers home (charge d home - less))
    charged_after after equal =
        recharged seen after (Cancel n) [] before.kept.well fit equal containers home (charge d home - less) containers_rise
        (omega (arith, charge_least, taken_home)) others_none before.kept.charges

  -- ---- the record
  module _ (t : Task) (found : task_numbered tasks n ≡ Some t) where
    pub runs : is_running t ≡ true
    runs = sym (ap (λ o. if_found o is_running false) found) ∙ running_judged d n accepted

    reserve_taken : reserved_taken d (Cancel n) ≡ cond (is_running t && is_clone t.job) (t.total - t.done) 0
    reserve_taken = ap (λ o. if_found o still_reserved 0) found

    -- ---- a clone
    module _ (clone : is_clone t.job ≡ true) where
      clone_reserve : reserved_taken d (Cancel n) ≡ t.total - t.done
      clone_reserve = reserve_taken ∙ ap (λ b. cond (b && is_clone t.job) (t.total - t.done) 0) runs ∙ ap (λ b. cond b (t.total - t.done) 0) clone

      pub reserve_enough : t.total - t.done ≤ s.reserved
      reserve_enough =
          let goes : reserved (apply_shape d (Cancel n)) + reserved_taken d (Cancel n) ≡ reserved d + 0 = reserved_well None d (Cancel n) (well_formed_shape seen before.kept.well) accepted in
          omega (arith, goes, clone_reserve, before.kept.reserved)

      clones_are : clone_of d n ≡ option_map (map_clone stamp) (option_map (seen_clone s) (find (is_clone_row n) clones))
      clones_are =
          find_mapped (map_clone stamp) (λ (c : RunningClone Entry). c.number == n) (λ (c : RunningClone ℕ). c.number == n) (λ c. refl) (map (seen_clone s) clones)
          ∙ ap (option_map (map_clone stamp)) (find_mapped (seen_clone s) (is_clone_row n) (λ (c : RunningClone Entry). c.number == n) (λ r. refl) clones)

      pub clone_stands : IsSome (find (is_clone_row n) clones)
      clone_stands =
          sym (ap is_some clones_are ∙ some_mapped (map_clone stamp) (option_map (seen_clone s) (find (is_clone_row n) clones)) ∙ some_mapped (seen_clone s) (find (is_clone_row n) clones))
          ∙ clone_there d rules n t found runs clone

      copy_none : copy_of d n ≡ None
      copy_none = no_copy d rules n t found clone

      copies_stay_so : map (seen_copy s) copies ≡ without_copy n (map (seen_copy s) copies)
      copies_stay_so =
          removed-none (λ (c : RunningCopy Entry). c.number == n) (map (seen_copy s) copies)
          (none_mapped (map_copy stamp) (find (λ (c : RunningCopy Entry). c.number == n) (map (seen_copy s) copies))
          (sym (find_mapped (map_copy stamp) (λ (c : RunningCopy Entry). c.number == n) (λ (c : RunningCopy ℕ). c.number == n) (λ c. refl) (map (seen_copy s) copies)) ∙ copy_none))

      module _ (row : CloneRow) (at : find (is_clone_row n) clones ≡ Some row) where
        seen_row : clone_of d n ≡ Some (map_clone stamp (seen_clone s row))
        seen_row = clones_are ∙ ap (λ o. option_map (map_clone stamp) (option_map (seen_clone s) o)) at

        total : t.total ≡ allocated_count (map stamp (held_chunks s row.image.number))
        total = clone_total d rules n t found (map_clone stamp (seen_clone s row)) seen_row

        pub clone_home_stands : IsSome (row_of containers row.head.container.0)
        clone_home_stands = row_stands containers row.head.container.0 (clone_home d rules n (map_clone stamp (seen_clone s row)) seen_row)

        pub clone_taken : (k : ℕ) → charge_taken d (Cancel n) k ≡ cond (row.head.container.0 == k) t.total 0
        clone_taken k =
            let first : if_found (clone_of d n) (λ (c : RunningClone ℕ). cond (c.container == k) (allocated_count c.image) 0) 0 ≡ cond (row.head.container.0 == k) t.total 0 =
            ap (λ o. if_found o (λ (c : RunningClone ℕ). cond (c.container == k) (allocated_count c.image) 0) 0) seen_row ∙ ap (λ m. cond (row.head.container.0 == k) m 0) (sym total) in
            let second : if_found (copy_of d n) (allocating_for d k) 0 ≡ 0 = ap (λ o. if_found o (allocating_for d k) 0) copy_none in
            let sum : charge_taken d (Cancel n) k ≡ if_found (clone_of d n) (λ (c : RunningClone ℕ). cond (c.container == k) (allocated_count c.image) 0) 0 + if_found (copy_of d n) (allocating_for d k) 0 = refl in
            sum ∙ ap (λ m. m + if_found (copy_of d n) (allocating_for d k) 0) first ∙ ap (λ m. cond (row.head.container.0 == k) t.total 0 + m) second ∙ (omega arith)

        abbrev split : Split (is_clone_row n) clones row
        split = found_split (is_clone_row n) clones row at

        held_split : AreHeld s (split.front ++ row ∷ split.back) copies
        held_split = subst (λ cs. AreHeld s cs copies) split.whole before.held

        abbrev dropped : ShelfState
        dropped = without_held (without_held s row.image.number) row.target.number

        pub image_stands : IsSome (held_in s row.image.number)
        image_stands = held_some s row.image.number (held_list s row.image.number true (the_one (IsCloneHeld s) split.front row split.back held_split.images).image)

        pub target_stands : IsSome (held_in (without_held s row.image.number) row.target.number)
        target_stands =
            ap is_some (target_stays s split.front row split.back copies held_split)
            ∙ held_some s row.target.number (held_list s row.target.number false (the_one (IsCloneHeld s) split.front row split.back held_split.images).target)

        left_held : AreHeld dropped (first_removed (is_clone_row n) clones) copies
        left_held = subst (λ cs. AreHeld dropped cs copies) (sym split.removed) (clone_left s split.front row split.back copies held_split)

        left_same : All (IsSameHeld s dropped) (lists_of (first_removed (is_clone_row n) clones) copies)
        left_same = subst (λ cs. All (IsSameHeld s dropped) (lists_of cs copies)) (sym split.removed) (clone_left_same s split.front row split.back copies held_split)

        abbrev next_shelf : ShelfState
        next_shelf = with_reserve dropped (s.reserved - (t.total - t.done))

        abbrev next_containers : List ChargedContainer
        next_containers = with_charge containers row.head.container.0 (charge d row.head.container.0 - t.total)

        pub clone_ended : seen_durable (lsn + 1) next_shelf next_containers bindings (task_cancelled tasks n) (first_removed (is_clone_row n) clones) copies
            ≡ replayed seen (Cancel n) []
        clone_ended =
            ap (λ (ks : List Container). record (seen_durable (lsn + 1) next_shelf next_containers bindings (task_cancelled tasks n) (first_removed (is_clone_row n) clones) copies) { containers = ks })
            (plain_charged containers row.head.container.0 (charge d row.head.container.0 - t.total))
            ∙ ap (λ (cs : List (RunningClone Entry)). record seen { lsn = lsn + 1; tasks = task_cancelled tasks n; clones = cs; copies = map (seen_copy dropped) copies })
            (clones_seen s dropped (first_removed (is_clone_row n) clones) (front_part (IsSameHeld s dropped) (flat_map clone_lists (first_removed (is_clone_row n) clones)) (pieces_of copies) left_same)
            ∙ map-first_removed (seen_clone s) (is_clone_row n) (λ (c : RunningClone Entry). c.number == n) (λ r. refl) clones)
            ∙ ap (λ (cs : List (RunningCopy Entry)). record seen { lsn = lsn + 1; tasks = task_cancelled tasks n; clones = without_clone n (map (seen_clone s) clones); copies = cs })
            (copies_seen s dropped copies (back_part (IsSameHeld s dropped) (flat_map clone_lists (first_removed (is_clone_row n) clones)) (pieces_of copies) left_same) ∙ copies_stay_so)
            ∙ sym (cancelled_is seen n)

        pub clone_ended_well : (v : ShelfView) → IsTables geometry (lsn + 1) (record v { shelf = next_shelf }) next_containers bindings (task_cancelled tasks n) (first_removed (is_clone_row n) clones) copies clone_memory copy_memory
        clone_ended_well v =
            let after : Durable Entry = seen_durable (lsn + 1) next_shelf next_containers bindings (task_cancelled tasks n) (first_removed (is_clone_row n) clones) copies in
            let goes : reserved (shape_of_tables after) + reserved_taken d (Cancel n) ≡ reserved d + 0 = stepped_reserved seen after (Cancel n) [] before.kept.well fit clone_ended in
            record {
              geometry_is = before.geometry_is;
              kept = stepped_well seen after (Cancel n) [] before.kept.well fit clone_ended next_shelf next_containers (cancel_forms n)
                  (charged_after row.head.container.0 t.total clone_taken after clone_ended)
                  (omega (arith, goes, clone_reserve, before.kept.reserved, reserve_enough)) before.kept.fresh;
              held = same_held dropped next_shelf (first_removed (is_clone_row n) clones) copies refl left_held;
              clone_rows = before.clone_rows;
              copy_rows = before.copy_rows;
            }

        -- .. however its parts were made
        module _ (next : ShelfView) (ks : List ChargedContainer) (ts : List Task) (cs : List CloneRow) (memory : ℕ)
            (shelf_is : next.shelf ≡ next_shelf) (containers_are : ks ≡ next_containers) (tasks_are : ts ≡ task_cancelled tasks n)
            (rows_are : cs ≡ first_removed (is_clone_row n) clones) (memory_is : memory ≡ clone_memory) where
          pub clone_whole : IsTables geometry (lsn + 1) next ks bindings ts cs copies memory copy_memory
          clone_whole =
              subst (λ (x : ShelfState). IsTables geometry (lsn + 1) (record next { shelf = x }) ks bindings ts cs copies memory copy_memory) (sym shelf_is)
              (rw (containers_are, tasks_are, rows_are, memory_is) (clone_ended_well next))

          pub clone_told : seen_durable (lsn + 1) next.shelf ks bindings ts cs copies ≡ replayed seen (Cancel n) []
          clone_told = seen_equal (lsn + 1) next.shelf next_shelf ks next_containers bindings ts (task_cancelled tasks n) cs (first_removed (is_clone_row n) clones) copies copies
              shelf_is containers_are tasks_are rows_are refl ∙ clone_ended

    -- ---- a copy
    module _ (target : ℕ) (aims : job_target t.job ≡ Some target) where
      copies_job : is_clone t.job ≡ false
      copies_job = aiming t.job target aims

      copy_reserve : reserved_taken d (Cancel n) ≡ 0
      copy_reserve = reserve_taken ∙ ap (λ b. cond (b && is_clone t.job) (t.total - t.done) 0) runs ∙ ap (λ b. cond b (t.total - t.done) 0) copies_job

      copies_are : copy_of d n ≡ option_map (map_copy stamp) (option_map (seen_copy s) (find (is_copy_row n) copies))
      copies_are =
          find_mapped (map_copy stamp) (λ (c : RunningCopy Entry). c.number == n) (λ (c : RunningCopy ℕ). c.number == n) (λ c. refl) (map (seen_copy s) copies)
          ∙ ap (option_map (map_copy stamp)) (find_mapped (seen_copy s) (is_copy_row n) (λ (c : RunningCopy Entry). c.number == n) (λ r. refl) copies)

      pub copy_stands : IsSome (find (is_copy_row n) copies)
      copy_stands =
          sym (ap is_some copies_are ∙ some_mapped (map_copy stamp) (option_map (seen_copy s) (find (is_copy_row n) copies)) ∙ some_mapped (seen_copy s) (find (is_copy_row n) copies))
          ∙ copy_there d rules n t found runs copies_job

      clone_none : clone_of d n ≡ None
      clone_none = no_clone d rules n t found copies_job

      clones_stay_so : map (seen_clone s) clones ≡ without_clone n (map (seen_clone s) clones)
      clones_stay_so =
          removed-none (λ (c : RunningClone Entry). c.number == n) (map (seen_clone s) clones)
          (none_mapped (map_clone stamp) (find (λ (c : RunningClone Entry). c.number == n) (map (seen_clone s) clones))
          (sym (find_mapped (map_clone stamp) (λ (c : RunningClone Entry). c.number == n) (λ (c : RunningClone ℕ). c.number == n) (λ c. refl) (map (seen_clone s) clones)) ∙ clone_none))

      module _ (row : CopyRow) (at : find (is_copy_row n) copies ≡ Some row) where
        abbrev pieces : List (Piece Entry)
        pieces = pieces_in s row.pieces.number

        seen_pieces : copy_of d n ≡ Some (map_copy stamp (seen_copy s row))
        seen_pieces = copies_are ∙ ap (λ o. option_map (map_copy stamp) (option_map (seen_copy s) o)) at

        number_is : t.number ≡ n
        number_is = eqb-true t.number n (find-passes (λ (u : Task). u.number == n) tasks t found)

        own_task : task_of d t.number ≡ Some t
        own_task = ap (λ m. task_of d m) number_is ∙ found

        own_copy : copy_of d t.number ≡ Some (map_copy stamp (seen_copy s row))
        own_copy = ap (λ m. copy_of d m) number_is ∙ seen_pieces

        pub target_there : IsSome (volume_in s target)
        target_there =
            sym (ap is_some (shape_found seen target) ∙ some_mapped shaped (volume_in s target))
            ∙ present (volume_of d target) (target_stands_in d rules n t (map_copy stamp (seen_copy s row)) target own_task own_copy aims)

        module _ (home count : ℕ) (home_told : home ≡ home_in s target)
            (count_is : count ≡ allocating_pieces (stamps_in s target) (shaped_pieces pieces)) where
          home_is : IfSome (volume_in s target) (λ (v : Volume Entry). v.container ≡ home)
          home_is = home_of_found (volume_in s target) home home_told

          pub copy_home_stands : IsSome (row_of containers home)
          copy_home_stands = go (volume_in s target) refl target_there home_is
            where
              go : (o : Option (Volume Entry)) → volume_in s target ≡ o → is_some o ≡ true → IfSome o (λ (v : Volume Entry). v.container ≡ home) → IsSome (row_of containers home)
              go None is some e = absurd (cc)
              go (Some v) is some e =
                  subst (λ k. IsSome (row_of containers k)) e
                  (row_stands containers v.container (volume_home d rules target (shaped v) (shape_found seen target ∙ ap (option_map shaped) is)))

          pub copy_taken : (k : ℕ) → charge_taken d (Cancel n) k ≡ cond (home == k) count 0
          copy_taken k =
              let first : if_found (clone_of d n) (λ (c : RunningClone ℕ). cond (c.container == k) (allocated_count c.image) 0) 0 ≡ 0 =
              ap (λ o. if_found o (λ (c : RunningClone ℕ). cond (c.container == k) (allocated_count c.image) 0) 0) clone_none in
              let second : if_found (copy_of d n) (allocating_for d k) 0 ≡ allocating_for d k (map_copy stamp (seen_copy s row)) = ap (λ o. if_found o (allocating_for d k) 0) seen_pieces in
              let sum : charge_taken d (Cancel n) k ≡ if_found (clone_of d n) (λ (c : RunningClone ℕ). cond (c.container == k) (allocated_count c.image) 0) 0 + if_found (copy_of d n) (allocating_for d k) 0 = refl in
              sum ∙ ap (λ m. m + if_found (copy_of d n) (allocating_for d k) 0) first ∙ ap (λ m. 0 + m) second ∙ (omega arith)
              ∙ ap (λ (o : Option (Volume ℕ)). if_found o (λ (v : Volume ℕ). cond (v.container == k) (allocating_pieces v.chunks (map (map_piece stamp) pieces)) 0) 0) aimed_at
              ∙ go (volume_in s target) refl target_there home_is
            where
              row_number : row.id.0 ≡ n
              row_number = eqb-true row.id.0 n (find-passes (is_copy_row n) copies row at)

              aimed_at : copy_target d row.id.0 ≡ option_map shaped (volume_in s target)
              aimed_at =
                  ap (λ m. copy_target d m) row_number
                  ∙ ap (λ o. option_and_then (volume_of d) (option_and_then (λ (u : Task). job_target u.job) o)) found
                  ∙ ap (option_and_then (volume_of d)) aims
                  ∙ shape_found seen target

              go : (o : Option (Volume Entry)) → volume_in s target ≡ o → is_some o ≡ true → IfSome o (λ (v : Volume Entry). v.container ≡ home)
                  → if_found (option_map shaped (volume_in s target)) (λ (v : Volume ℕ). cond (v.container == k) (allocating_pieces v.chunks (map (map_piece stamp) pieces)) 0) 0 ≡ cond (home == k) count 0
              go None is some e = absurd (cc)
              go (Some v) is some e =
                  ap (λ o. if_found (option_map shaped o) (λ (v : Volume ℕ). cond (v.container == k) (allocating_pieces v.chunks (map (map_piece stamp) pieces)) 0) 0) is
                  ∙ ap (λ h. cond (h == k) (allocating_pieces (map stamp v.chunks) (map (map_piece stamp) pieces)) 0) e
                  ∙ ap (λ m. cond (home == k) m 0)
                  (ap (λ o. allocating_pieces (map stamp (if_found o (λ (w : Volume Entry). w.chunks) [])) (shaped_pieces pieces)) (sym is) ∙ sym count_is)

          abbrev copy_split : Split (is_copy_row n) copies row
          copy_split = found_split (is_copy_row n) copies row at

          copies_split : AreHeld s clones (copy_split.front ++ row ∷ copy_split.back)
          copies_split = subst (λ cs. AreHeld s clones cs) copy_split.whole before.held

          abbrev without : ShelfState
          without = without_held s row.pieces.number

          without_held_well : AreHeld without clones (first_removed (is_copy_row n) copies)
          without_held_well = subst (λ cs. AreHeld without clones cs) (sym copy_split.removed) (copy_left s clones copy_split.front row copy_split.back copies_split)

          without_same : All (IsSameHeld s without) (lists_of clones (first_removed (is_copy_row n) copies))
          without_same = subst (λ cs. All (IsSameHeld s without) (lists_of clones cs)) (sym copy_split.removed) (copy_left_same s clones copy_split.front row copy_split.back copies_split)

          abbrev lowered : List ChargedContainer
          lowered = with_charge containers home (charge d home - count)

          pub copy_ended : seen_durable (lsn + 1) without lowered bindings (task_cancelled tasks n) clones (first_removed (is_copy_row n) copies) ≡ replayed seen (Cancel n) []
          copy_ended =
              ap (λ (ks : List Container). record (seen_durable (lsn + 1) without lowered bindings (task_cancelled tasks n) clones (first_removed (is_copy_row n) copies)) { containers = ks })
              (plain_charged containers home (charge d home - count))
              ∙ ap (λ (cs : List (RunningClone Entry)). record seen { lsn = lsn + 1; tasks = task_cancelled tasks n; clones = cs; copies = map (seen_copy without) (first_removed (is_copy_row n) copies) })
              (clones_seen s without clones (front_part (IsSameHeld s without) (flat_map clone_lists clones) (pieces_of (first_removed (is_copy_row n) copies)) without_same) ∙ clones_stay_so)
              ∙ ap (λ (cs : List (RunningCopy Entry)). record seen { lsn = lsn + 1; tasks = task_cancelled tasks n; clones = without_clone n (map (seen_clone s) clones); copies = cs })
              (copies_seen s without (first_removed (is_copy_row n) copies) (back_part (IsSameHeld s without) (flat_map clone_lists clones) (pieces_of (first_removed (is_copy_row n) copies)) without_same)
              ∙ map-first_removed (seen_copy s) (is_copy_row n) (λ (c : RunningCopy Entry). c.number == n) (λ r. refl) copies)
              ∙ sym (cancelled_is seen n)

          pub copy_ended_well : (v : ShelfView) → IsTables geometry (lsn + 1) (record v { shelf = without }) lowered bindings (task_cancelled tasks n) clones (first_removed (is_copy_row n) copies) clone_memory copy_memory
          copy_ended_well v =
              let after : Durable Entry = seen_durable (lsn + 1) without lowered bindings (task_cancelled tasks n) clones (first_removed (is_copy_row n) copies) in
              let goes : reserved (shape_of_tables after) + reserved_taken d (Cancel n) ≡ reserved d + 0 = stepped_reserved seen after (Cancel n) [] before.kept.well fit copy_ended in
              record {
                geometry_is = before.geometry_is;
                kept = stepped_well seen after (Cancel n) [] before.kept.well fit copy_ended without lowered (cancel_forms n)
                    (charged_after home count copy_taken after copy_ended)
                    (omega (arith, goes, copy_reserve, before.kept.reserved)) before.kept.fresh;
                held = without_held_well;
                clone_rows = before.clone_rows;
                copy_rows = before.copy_rows;
              }

          module _ (next : ShelfView) (ks : List ChargedContainer) (ts : List Task) (cs : List CopyRow) (memory : ℕ)
              (shelf_is : next.shelf ≡ without) (containers_are : ks ≡ lowered) (tasks_are : ts ≡ task_cancelled tasks n)
              (rows_are : cs ≡ first_removed (is_copy_row n) copies) (memory_is : memory ≡ copy_memory) where
            pub copy_whole : IsTables geometry (lsn + 1) next ks bindings ts clones cs clone_memory memory
            copy_whole =
                subst (λ (x : ShelfState). IsTables geometry (lsn + 1) (record next { shelf = x }) ks bindings ts clones cs clone_memory memory) (sym shelf_is)
                (rw (containers_are, tasks_are, rows_are, memory_is) (copy_ended_well next))

            pub copy_told : seen_durable (lsn + 1) next.shelf ks bindings ts clones cs ≡ replayed seen (Cancel n) []
            copy_told = seen_equal (lsn + 1) next.shelf without ks lowered bindings ts (task_cancelled tasks n) clones clones cs (first_removed (is_copy_row n) copies)
                shelf_is containers_are tasks_are refl rows_are ∙ copy_ended
