-- What each container is charged for after an accepted change, kind by kind.
use Rattle.std.proofs.Common.{◌≡◌, ℕ, ◌+◌, ◌-◌, ◌==◌, ◌&&◌, ◌||◌, not, refl, ap, sym, ◌∙◌, Bool, true, false, cond, List, [], ◌∷◌, ◌++◌, map, length, replicate, arith}
use Rattle.std.specs.Prelude.{Option, Some, None, option_and_then, is_none, nat_lt, sum_by}
use Rattle.std.specs.List.{find, list_all, list_any}
use Rattle.std.proofs.lemmas.Bool.{not-true, eqb-true, eq-eqb, ne_eqb, or_left, or_right, or_parts}
use Rattle.vv_units.specs.Pairs.{after_set}
use Rattle.vv_units.specs.declared.volume.TaskState.TheVariants.{Running, Cancelled}
use Rattle.vv_units.specs.declared.volume.VolumeKind.TheVariants.{Plain, SnapshotOf, FastCloneOf}
use Rattle.vv_units.specs.declared.field.Field.TheVariants.{Vvol as in_vvol, Snapshot as in_snapshot, Source as in_source, Base as in_base, Target as in_target_field}
use Rattle.vv_flat.specs.Lists.{if_found, first_changed, put_before, first_removed, put_at, all_different}
use Rattle.vv_flat.specs.State.{Durable, Volume, RunningClone, RunningCopy, Piece, Task, Job, Clone, Copy, volume_of, task_of, clone_of, copy_of}
use Rattle.vv_flat.specs.Chunks.{touched_indexes, unmapped_in}
use Rattle.vv_flat.specs.Space.{charge, allocated_count, allocating_pieces, is_running, job_target, running_target}
use Rattle.vv_flat.specs.Tasks.{is_busy, started, with_room, with_task, advanced, is_last, next_piece, turn_indexes, turned_indexes, job_indexes, cloned_volume, without_clone, without_copy, clone_goes_on, clone_ends, clone_turned, pieces_put, copy_goes_on, copy_ends, copy_turned, job_turned, turned, task_cancelled, cancelled, clone_of_volume, clone_started, with_clone, difference, copy_started, with_copy}
use Rattle.vv_flat.specs.Bindings.{is_bound}
use Rattle.vv_flat.specs.Rules.{running_targets, is_clone_kept}
use Rattle.vv_flat.specs.WellFormed.{is_well_formed_shape}
use Rattle.vv_flat.specs.Profiles.{Misfit}
use Rattle.vv_flat.specs.Refusals.{Accept, NotFound, ResourceInUse}
use Rattle.vv_flat.specs.Changes.{Change, MakeContainer, MakeVolume, DeleteVolume, GrowVolume, SetMetadata, Snapshot, FastClone, Revert, Write, Unmap, SetEndpoints, Bind, Unbind, UnbindAll, StartClone, StartCopy, Turn, Cancel, judge, state_checks, stamps_of, allocated_of, home_of, effect, apply, apply_shape, changed_indexes, new_stamp, unmapped_count, with_volume, and_volume}
use Rattle.vv_flat.proofs.Sums.{sum-put, sum-removed_found, sum-changed_found}
use Rattle.vv_flat.proofs.Shares.{and_left, and_right, and_both, list_all-both}
use Rattle.vv_flat.proofs.Verdicts.{passed_state, not_refused}
use Rattle.vv_flat.proofs.Steps.{find-passes}
use Rattle.vv_flat.proofs.Known.{all-found, all-removed}
use Rattle.vv_flat.proofs.Lookups.{find-put_other, find-put_new, find-removed_other, find-changed, none-left}
use Rattle.vv_flat.proofs.Pool.{is_kept}
use Rattle.vv_flat.proofs.Kept.{Kept, kept}
use Rattle.vv_flat.proofs.Charges.{is_aimed, Aimed, aimed, Ordered, other_number, unbusy, room_kept, room_new}
use Rattle.vv_flat.proofs.KeepTasks.{ordered, new_task_number}
use Rattle.vv_flat.proofs.NewEntries.{all-always}
use Rattle.vv_laws.proofs.KeptNumbers.{some_of, chunks_are, removed_sum}
use Rattle.vv_laws.proofs.AllocatedCounts.{same_sum, allocated-zeros, allocated-longer, unmaps_exact}
use Rattle.vv_laws.proofs.AllocatedVolumes.{none_more, kept_total, clone_count, written_count, task_number, target_stands, pieces_exact}
use Rattle.vv_laws.specs.Counts.{unmaps_count, unmapping_pieces, at_last_turn, charged_at, uncharged_by_turns, charge_added, charge_taken}

-- The target of a running task is among the targets.
target_step : (q : Task → Bool) (t : Task) (m : ℕ) → running_target t ≡ Some m → (x : Task) (xs : List Task) (b : Bool)
    → cond b (Some x) (find q xs) ≡ Some t → (o : Option ℕ) → running_target x ≡ o
    → (find q xs ≡ Some t → list_any (λ z. z == m) (running_targets xs) ≡ true)
    → list_any (λ z. z == m) (if_found o (λ n. n ∷ running_targets xs) (running_targets xs)) ≡ true
target_step q t m aims x xs true e None is there =
    let same : x ≡ t = cc in
    let f : running_target t ≡ None = rw same at is in cc
target_step q t m aims x xs true e (Some n) is there =
    let same : x ≡ t = cc in
    let f : running_target t ≡ Some n = rw same at is in
    let g : n ≡ m = cc in
    or_left (n == m) _ (eq-eqb n m g)
target_step q t m aims x xs false e None is there = there e
target_step q t m aims x xs false e (Some n) is there = or_right (n == m) _ (there e)

target_in : (q : Task → Bool) (t : Task) (m : ℕ) → running_target t ≡ Some m → (ts : List Task) → find q ts ≡ Some t
    → list_any (λ z. z == m) (running_targets ts) ≡ true
target_in q t m aims [] e = cc
target_in q t m aims (x ∷ xs) e = target_step q t m aims x xs (q x) e (running_target x) refl (target_in q t m aims xs)

different_rest : (o : Option ℕ) (ns : List ℕ) → all_different (if_found o (λ n. n ∷ ns) ns) ≡ true → all_different ns ≡ true
different_rest None ns e = e
different_rest (Some n) ns e = and_right (not (list_any (λ m. m == n) ns)) (all_different ns) e

different_first : (o : Option ℕ) (ns : List ℕ) (m : ℕ) → o ≡ Some m → all_different (if_found o (λ n. n ∷ ns) ns) ≡ true
    → list_any (λ z. z == m) ns ≡ false
different_first None ns m is e = cc
different_first (Some n) ns m is e =
    let same : n ≡ m = cc in
    let f : list_any (λ z. z == n) ns ≡ false = not-true (list_any (λ z. z == n) ns) (and_left (not (list_any (λ m. m == n) ns)) (all_different ns) e) in
    rw same at f

-- No two running tasks have one target.
one_step : (p q : Task → Bool) (t u : Task) (m : ℕ) → running_target t ≡ Some m → running_target u ≡ Some m → (x : Task) (xs : List Task)
    → all_different (if_found (running_target x) (λ n. n ∷ running_targets xs) (running_targets xs)) ≡ true → (a b : Bool)
    → cond a (Some x) (find p xs) ≡ Some t → cond b (Some x) (find q xs) ≡ Some u
    → (all_different (running_targets xs) ≡ true → find p xs ≡ Some t → find q xs ≡ Some u → t ≡ u) → t ≡ u
one_step p q t u m at au x xs e true true f g there =
    let same : x ≡ t = cc in
    let also : x ≡ u = cc in sym same ∙ also
one_step p q t u m at au x xs e true false f g there =
    let same : x ≡ t = cc in
    let none : list_any (λ z. z == m) (running_targets xs) ≡ false =
    different_first (running_target x) (running_targets xs) m (ap running_target same ∙ at) e in
    let some : list_any (λ z. z == m) (running_targets xs) ≡ true = target_in q u m au xs g in cc
one_step p q t u m at au x xs e false true f g there =
    let same : x ≡ u = cc in
    let none : list_any (λ z. z == m) (running_targets xs) ≡ false =
    different_first (running_target x) (running_targets xs) m (ap running_target same ∙ au) e in
    let some : list_any (λ z. z == m) (running_targets xs) ≡ true = target_in p t m at xs f in cc
one_step p q t u m at au x xs e false false f g there = there (different_rest (running_target x) (running_targets xs) e) f g

one_task : (p q : Task → Bool) (t u : Task) (m : ℕ) → running_target t ≡ Some m → running_target u ≡ Some m → (ts : List Task)
    → all_different (running_targets ts) ≡ true → find p ts ≡ Some t → find q ts ≡ Some u → t ≡ u
one_task p q t u m at au [] e f g = cc
one_task p q t u m at au (x ∷ xs) e f g = one_step p q t u m at au x xs e (p x) (q x) f g (one_task p q t u m at au xs)

-- The three parts of a charge, item by item.

abbrev in_volume : ℕ → Volume ℕ → ℕ
in_volume k v = cond (v.container == k) (allocated_count v.chunks) 0

abbrev in_clone : ℕ → RunningClone ℕ → ℕ
in_clone k c = cond (c.container == k) (allocated_count c.image) 0

abbrev in_target : ℕ → List (Piece ℕ) → Volume ℕ → ℕ
in_target k ps v = cond (v.container == k) (allocating_pieces v.chunks ps) 0

-- what the task of a number is to change
abbrev aim_of : List Task → ℕ → Option ℕ
aim_of tasks m = option_and_then (λ (t : Task). job_target t.job) (find (λ (t : Task). t.number == m) tasks)

abbrev in_aim : List (Volume ℕ) → ℕ → List (Piece ℕ) → Option ℕ → ℕ
in_aim volumes k ps o = if_found (option_and_then (λ (n : ℕ). find (λ (v : Volume ℕ). v.number == n) volumes) o) (in_target k ps) 0

abbrev in_copy : List Task → List (Volume ℕ) → ℕ → RunningCopy ℕ → ℕ
in_copy tasks volumes k c = in_aim volumes k c.pieces (aim_of tasks c.number)

-- a container is charged for so many more in e than in d, and for so many fewer
abbrev Charges : Durable ℕ → Durable ℕ → ℕ → ℕ → ℕ → Type 0
Charges d e k more less = charge e k + less ≡ charge d k + more

part_goes : (b : Bool) (x y more less : ℕ) → x + less ≡ y + more → cond b x 0 + cond b less 0 ≡ cond b y 0 + cond b more 0
part_goes true x y more less h = h
part_goes false x y more less h = refl

aim_found : (tasks : List Task) (volumes : List (Volume ℕ)) (k : ℕ) (c : RunningCopy ℕ) (n : ℕ) → aim_of tasks c.number ≡ Some n
    → in_copy tasks volumes k c ≡ if_found (find (λ (v : Volume ℕ). v.number == n) volumes) (in_target k c.pieces) 0
aim_found tasks volumes k c n e = ap (in_aim volumes k c.pieces) e

module _ (d : Durable ℕ) (rules : Kept d) (k : ℕ) where
  order : Ordered d
  order = ordered d rules

  all_aimed : list_all (is_aimed d) d.copies ≡ true
  all_aimed = let o : Ordered d = ordered d rules in o.aimed

  aim_is : (c : RunningCopy ℕ) (a : Aimed d c) → aim_of d.tasks c.number ≡ Some a.number
  aim_is c a = ap (option_and_then (λ (t : Task). job_target t.job)) a.is_task ∙ a.aims

  stays : (c : RunningCopy ℕ) (a : Aimed d c)
      → if_found (find (λ (v : Volume ℕ). v.number == a.number) d.volumes) (in_target k c.pieces) 0 ≡ in_target k c.pieces a.volume
  stays c a = ap (λ o. if_found o (in_target k c.pieces) 0) a.stands

  -- A running copy adds as much, where its task still has the target and the target's chunks stay.
  copy_same : (tasks : List Task) (volumes : List (Volume ℕ)) (c : RunningCopy ℕ) (a : Aimed d c)
      → aim_of tasks c.number ≡ Some a.number
      → if_found (find (λ (v : Volume ℕ). v.number == a.number) volumes) (in_target k c.pieces) 0 ≡ in_target k c.pieces a.volume
      → in_copy tasks volumes k c ≡ in_copy d.tasks d.volumes k c
  copy_same tasks volumes c a aim same =
      aim_found tasks volumes k c a.number aim ∙ same
      ∙ sym (aim_found d.tasks d.volumes k c a.number (aim_is c a) ∙ stays c a)

  copies_same : (tasks : List Task) (volumes : List (Volume ℕ))
      → ((c : RunningCopy ℕ) (a : Aimed d c) → aim_of tasks c.number ≡ Some a.number)
      → ((c : RunningCopy ℕ) (a : Aimed d c)
      → if_found (find (λ (v : Volume ℕ). v.number == a.number) volumes) (in_target k c.pieces) 0 ≡ in_target k c.pieces a.volume)
      → sum_by (in_copy tasks volumes k) d.copies ≡ sum_by (in_copy d.tasks d.volumes k) d.copies
  copies_same tasks volumes aim same =
      same_sum (is_aimed d) (in_copy tasks volumes k) (in_copy d.tasks d.volumes k)
      (λ c e. let a : Aimed d c = aimed d c e in copy_same tasks volumes c a (aim c a) (same c a)) d.copies all_aimed

  home_is : (n : ℕ) (v : Volume ℕ) → volume_of d n ≡ Some v → home_of d n ≡ v.container
  home_is n v found = ap (λ o. if_found o (λ (w : Volume ℕ). w.container) 0) found

  allocated_is : (n : ℕ) (v : Volume ℕ) → volume_of d n ≡ Some v → allocated_of d n ≡ allocated_count v.chunks
  allocated_is n v found = ap (λ o. allocated_count (if_found o (λ (w : Volume ℕ). w.chunks) [])) found

  -- one more volume
  added_charges : (v : Volume ℕ) → v.number ≡ d.lsn + 1 → Charges d (and_volume d v) k (in_volume k v) 0
  unfolding charge
  added_charges v number =
      let s : sum_by (in_volume k) (put_before (λ (w : Volume ℕ). nat_lt v.number w.number) v d.volumes) ≡ in_volume k v + sum_by (in_volume k) d.volumes =
      sum-put (in_volume k) (λ (w : Volume ℕ). nat_lt v.number w.number) v d.volumes in
      let p : sum_by (in_copy d.tasks (put_before (λ (w : Volume ℕ). nat_lt v.number w.number) v d.volumes) k) d.copies ≡ sum_by (in_copy d.tasks d.volumes k) d.copies =
      copies_same d.tasks (put_before (λ (w : Volume ℕ). nat_lt v.number w.number) v d.volumes) aim_is
      (λ c a. ap (λ o. if_found o (in_target k c.pieces) 0)
      (find-put_other (λ (w : Volume ℕ). nat_lt v.number w.number) (λ (w : Volume ℕ). w.number == a.number) v d.volumes
      (ap (λ m. m == a.number) number ∙ other_number d order c a)
      ∙ a.stands)) in
      omega (arith, s, p)

  -- a copy of a volume that stands, with a number of its own
  copied_charges : (n : ℕ) (v w : Volume ℕ) → volume_of d n ≡ Some v → w.number ≡ d.lsn + 1 → w.container ≡ v.container → w.chunks ≡ v.chunks
      → Charges d (and_volume d w) k (charged_at d n k (allocated_of d n)) 0
  copied_charges n v w found number container chunks =
      added_charges w number
      ∙ ap (λ h. charge d k + cond (h == k) (allocated_count w.chunks) 0) (container ∙ sym (home_is n v found))
      ∙ ap (λ m. charge d k + cond (home_of d n == k) m 0) (ap allocated_count chunks ∙ sym (allocated_is n v found))

  -- a change of a volume that isn't busy
  changed_charges : (n : ℕ) (g : Volume ℕ → Volume ℕ) → is_busy d n ≡ false → ((v : Volume ℕ) → (g v).number ≡ v.number)
      → ((v : Volume ℕ) → (g v).container ≡ v.container) → (v : Volume ℕ) → volume_of d n ≡ Some v → (more less : ℕ)
      → allocated_count (g v).chunks + less ≡ allocated_count v.chunks + more
      → Charges d (with_volume d n g) k (charged_at d n k more) (charged_at d n k less)
  unfolding charge
  changed_charges n g free number container v found more less goes =
      let s : sum_by (in_volume k) (first_changed (λ (v : Volume ℕ). v.number == n) g d.volumes) + in_volume k v ≡ sum_by (in_volume k) d.volumes + in_volume k (g v) =
      sum-changed_found (in_volume k) (λ (v : Volume ℕ). v.number == n) g v d.volumes found in
      let p : sum_by (in_copy d.tasks (first_changed (λ (v : Volume ℕ). v.number == n) g d.volumes) k) d.copies ≡ sum_by (in_copy d.tasks d.volumes k) d.copies =
      copies_same d.tasks (first_changed (λ (v : Volume ℕ). v.number == n) g d.volumes) aim_is
      (λ c a. ap (λ o. if_found o (in_target k c.pieces) 0)
      (find-changed (λ (v : Volume ℕ). v.number == n) (λ (v : Volume ℕ). v.number == a.number) (λ o. o) g d.volumes
      (λ v found. ap (λ m. m == a.number) (number v))
      (λ v found at. other v c a (eqb-true v.number n (find-passes (λ (w : Volume ℕ). w.number == n) d.volumes v found)) at)
      ∙ a.stands)) in
      let here : in_volume k (g v) ≡ cond (v.container == k) (allocated_count (g v).chunks) 0 =
      ap (λ h. cond (h == k) (allocated_count (g v).chunks) 0) (container v) in
      let part : cond (v.container == k) (allocated_count (g v).chunks) 0 + cond (v.container == k) less 0 ≡ in_volume k v + cond (v.container == k) more 0 =
      part_goes (v.container == k) (allocated_count (g v).chunks) (allocated_count v.chunks) more less goes in
      let a : charged_at d n k more ≡ cond (v.container == k) more 0 = ap (λ h. cond (h == k) more 0) (home_is n v found) in
      let b : charged_at d n k less ≡ cond (v.container == k) less 0 = ap (λ h. cond (h == k) less 0) (home_is n v found) in
      omega (arith, s, p, here, part, a, b)
    where
      other : (v : Volume ℕ) (c : RunningCopy ℕ) (a : Aimed d c) → v.number ≡ n → (v.number == a.number) ≡ true → Some (g v) ≡ Some v
      other v c a is at =
          let f : (a.number == n) ≡ true = eq-eqb a.number n (sym (eqb-true v.number a.number at) ∙ is) in
          let u : (a.number == n) ≡ false = unbusy d n free c a in cc

  -- a change of a volume that keeps its chunks
  kept_charges : (n : ℕ) (g : Volume ℕ → Volume ℕ) → ((v : Volume ℕ) → (g v).number ≡ v.number)
      → ((v : Volume ℕ) → (g v).container ≡ v.container) → ((v : Volume ℕ) → (g v).chunks ≡ v.chunks) → (v : Volume ℕ) → volume_of d n ≡ Some v
      → Charges d (with_volume d n g) k 0 0
  unfolding charge
  kept_charges n g number container chunks v found =
      let s : sum_by (in_volume k) (first_changed (λ (v : Volume ℕ). v.number == n) g d.volumes) + in_volume k v ≡ sum_by (in_volume k) d.volumes + in_volume k (g v) =
      sum-changed_found (in_volume k) (λ (v : Volume ℕ). v.number == n) g v d.volumes found in
      let same : in_volume k (g v) ≡ in_volume k v =
      ap (λ m. cond (m == k) (allocated_count (g v).chunks) 0) (container v) ∙ ap (λ xs. cond (v.container == k) (allocated_count xs) 0) (chunks v) in
      let p : sum_by (in_copy d.tasks (first_changed (λ (v : Volume ℕ). v.number == n) g d.volumes) k) d.copies ≡ sum_by (in_copy d.tasks d.volumes k) d.copies =
      copies_same d.tasks (first_changed (λ (v : Volume ℕ). v.number == n) g d.volumes) aim_is
      (λ c a. find-changed (λ (v : Volume ℕ). v.number == n) (λ (v : Volume ℕ). v.number == a.number) (λ o. if_found o (in_target k c.pieces) 0) g d.volumes
      (λ v found. ap (λ m. m == a.number) (number v))
      (λ v found at. ap (λ m. cond (m == k) (allocating_pieces (g v).chunks c.pieces) 0) (container v)
      ∙ ap (λ xs. cond (v.container == k) (allocating_pieces xs c.pieces) 0) (chunks v))
      ∙ ap (λ o. if_found o (in_target k c.pieces) 0) a.stands) in
      omega (arith, s, same, p)

  deleted_charges : (n : ℕ) → is_busy d n ≡ false → (v : Volume ℕ) → volume_of d n ≡ Some v
      → Charges d (record d { volumes = first_removed (λ (v : Volume ℕ). v.number == n) d.volumes }) k 0 (charged_at d n k (allocated_of d n))
  unfolding charge
  deleted_charges n free v found =
      let s : sum_by (in_volume k) (first_removed (λ (v : Volume ℕ). v.number == n) d.volumes) + in_volume k v ≡ sum_by (in_volume k) d.volumes =
      sum-removed_found (in_volume k) (λ (v : Volume ℕ). v.number == n) v d.volumes found in
      let p : sum_by (in_copy d.tasks (first_removed (λ (v : Volume ℕ). v.number == n) d.volumes) k) d.copies ≡ sum_by (in_copy d.tasks d.volumes k) d.copies =
      copies_same d.tasks (first_removed (λ (v : Volume ℕ). v.number == n) d.volumes) aim_is
      (λ c a. ap (λ o. if_found o (in_target k c.pieces) 0)
      (find-removed_other (λ (v : Volume ℕ). v.number == n) (λ (v : Volume ℕ). v.number == a.number)
      (λ v is. let u : (a.number == n) ≡ false = unbusy d n free c a in
      let e : v.number ≡ n = eqb-true v.number n is in
      ne_eqb v.number a.number (λ at. let f : (a.number == n) ≡ true = eq-eqb a.number n (sym at ∙ e) in cc)) d.volumes
      ∙ a.stands)) in
      let here : charged_at d n k (allocated_of d n) ≡ in_volume k v =
      ap (λ h. cond (h == k) (allocated_of d n) 0) (home_is n v found) ∙ ap (λ m. cond (v.container == k) m 0) (allocated_is n v found) in
      omega (arith, s, p, here)

  -- Starts.

  aim_started : (t : Task) → t.number ≡ d.lsn + 1 → (c : RunningCopy ℕ) (a : Aimed d c) → aim_of (started d.tasks t) c.number ≡ Some a.number
  aim_started t number c a =
      ap (option_and_then (λ (t : Task). job_target t.job))
      (find-put_other (λ (u : Task). nat_lt t.number u.number) (λ (u : Task). u.number == c.number) t (with_room d.tasks)
      (ap (λ m. m == c.number) number ∙ new_task_number d order c.number a.task a.is_task)
      ∙ room_kept d c.number a.task a.is_task a.runs)
      ∙ a.aims

  clone_started_charges : (n : ℕ) (v : Volume ℕ) → volume_of d n ≡ Some v
      → Charges d (clone_started (λ s. s) 0 d n v) k (charged_at d n k (allocated_of d n)) 0
  unfolding charge
  clone_started_charges n v found =
      let t : Task = record { number = d.lsn + 1; job = Clone n; state = Running; done = 0; total = allocated_count (map (λ s. s) v.chunks) } in
      let s : sum_by (in_clone k) (put_before (λ (c : RunningClone ℕ). nat_lt (d.lsn + 1) c.number) (clone_of_volume 0 (d.lsn + 1) v) d.clones)
      ≡ in_volume k v + sum_by (in_clone k) d.clones =
      sum-put (in_clone k) (λ (c : RunningClone ℕ). nat_lt (d.lsn + 1) c.number) (clone_of_volume 0 (d.lsn + 1) v) d.clones in
      let p : sum_by (in_copy (started d.tasks t) d.volumes k) d.copies ≡ sum_by (in_copy d.tasks d.volumes k) d.copies =
      copies_same (started d.tasks t) d.volumes (aim_started t refl) stays in
      let here : charged_at d n k (allocated_of d n) ≡ in_volume k v =
      ap (λ h. cond (h == k) (allocated_of d n) 0) (home_is n v found) ∙ ap (λ m. cond (v.container == k) m 0) (allocated_is n v found) in
      omega (arith, s, p, here)

  copy_started_charges : (source base target : ℕ) (ps : List (Piece ℕ)) (v : Volume ℕ) → volume_of d target ≡ Some v
      → Charges d (copy_started d (Copy source base target) ps) k (charged_at d target k (allocating_pieces (stamps_of d target) ps)) 0
  unfolding charge
  copy_started_charges source base target ps v found =
      let t : Task = record { number = d.lsn + 1; job = Copy source base target; state = Running; done = 0; total = length ps } in
      let new : RunningCopy ℕ = record { number = d.lsn + 1; pieces = ps } in
      let s : sum_by (in_copy (started d.tasks t) d.volumes k) (put_before (λ (c : RunningCopy ℕ). nat_lt (d.lsn + 1) c.number) new d.copies)
      ≡ in_copy (started d.tasks t) d.volumes k new + sum_by (in_copy (started d.tasks t) d.volumes k) d.copies =
      sum-put (in_copy (started d.tasks t) d.volumes k) (λ (c : RunningCopy ℕ). nat_lt (d.lsn + 1) c.number) new d.copies in
      let p : sum_by (in_copy (started d.tasks t) d.volumes k) d.copies ≡ sum_by (in_copy d.tasks d.volumes k) d.copies =
      copies_same (started d.tasks t) d.volumes (aim_started t refl) stays in
      let aim : aim_of (started d.tasks t) (d.lsn + 1) ≡ Some target =
      ap (option_and_then (λ (t : Task). job_target t.job))
      (find-put_new (λ (u : Task). nat_lt (d.lsn + 1) u.number) (λ (u : Task). u.number == d.lsn + 1) t (with_room d.tasks)
      (eq-eqb (d.lsn + 1) (d.lsn + 1) refl) (room_new d order)) in
      let f : in_copy (started d.tasks t) d.volumes k new ≡ in_target k ps v =
      aim_found (started d.tasks t) d.volumes k new target aim ∙ ap (λ o. if_found o (in_target k ps) 0) found in
      let here : charged_at d target k (allocating_pieces (stamps_of d target) ps) ≡ in_target k ps v =
      ap (λ h. cond (h == k) (allocating_pieces (stamps_of d target) ps) 0) (home_is target v found)
      ∙ ap (λ xs. cond (v.container == k) (allocating_pieces xs ps) 0) (chunks_are d target v found) in
      omega (arith, s, p, f, here)

  -- Turns and a cancelling.

  aim_changed : (p : Task → Bool) (g : Task → Task) → ((t : Task) → find p d.tasks ≡ Some t → (g t).number ≡ t.number)
      → ((t : Task) → find p d.tasks ≡ Some t → (g t).job ≡ t.job) → (m : ℕ) → aim_of (first_changed p g d.tasks) m ≡ aim_of d.tasks m
  aim_changed p g number job m =
      find-changed p (λ (t : Task). t.number == m) (option_and_then (λ (t : Task). job_target t.job)) g d.tasks
      (λ t found. ap (λ j. j == m) (number t found)) (λ t found at. ap job_target (job t found))

  aim_advanced : (t : Task) (n : ℕ) → task_of d t.number ≡ Some t → (m : ℕ) → aim_of (with_task d.tasks (advanced t n)) m ≡ aim_of d.tasks m
  aim_advanced t n found m =
      aim_changed (λ (u : Task). u.number == t.number) (λ _. advanced t n)
      (λ u at. let same : ◌≡◌ {A = Task} t u = cc in ap (λ (w : Task). w.number) same)
      (λ u at. let same : ◌≡◌ {A = Task} t u = cc in ap (λ (w : Task). w.job) same) m

  tasks_same : (tasks : List Task) → ((m : ℕ) → aim_of tasks m ≡ aim_of d.tasks m) → (cs : List (RunningCopy ℕ))
      → sum_by (in_copy tasks d.volumes k) cs ≡ sum_by (in_copy d.tasks d.volumes k) cs
  tasks_same tasks aim cs =
      same_sum (λ _. true) (in_copy tasks d.volumes k) (in_copy d.tasks d.volumes k) (λ c at. ap (in_aim d.volumes k c.pieces) (aim c.number)) cs
      (all-always (λ _. true) (λ c. refl) cs)

  cancelled_charges : (n : ℕ)
      → Charges d (cancelled d n) k 0 (if_found (clone_of d n) (in_clone k) 0 + if_found (copy_of d n) (in_copy d.tasks d.volumes k) 0)
  unfolding charge cancelled
  cancelled_charges n =
      let c = removed_sum (in_clone k) (λ (c : RunningClone ℕ). c.number == n) d.clones in
      let p : sum_by (in_copy (task_cancelled d.tasks n) d.volumes k) (without_copy n d.copies) ≡ sum_by (in_copy d.tasks d.volumes k) (without_copy n d.copies) =
      tasks_same (task_cancelled d.tasks n)
      (aim_changed (λ (t : Task). t.number == n) (λ t. record t { state = Cancelled }) (λ t found. refl) (λ t found. refl)) (without_copy n d.copies) in
      let r = removed_sum (in_copy d.tasks d.volumes k) (λ (c : RunningCopy ℕ). c.number == n) d.copies in
      omega (arith, c, p, r)

  copy_goes_on_charges : (t : Task) → task_of d t.number ≡ Some t → Charges d (copy_goes_on d t) k 0 0
  unfolding charge
  copy_goes_on_charges t found =
      let p : sum_by (in_copy (with_task d.tasks (advanced t (next_piece t))) d.volumes k) d.copies ≡ sum_by (in_copy d.tasks d.volumes k) d.copies =
      tasks_same (with_task d.tasks (advanced t (next_piece t))) (aim_advanced t (next_piece t) found) d.copies in
      omega (arith, p)

  clone_goes_on_charges : (t : Task) (n : ℕ) (target : List ℕ) (c : RunningClone ℕ) → task_of d t.number ≡ Some t → clone_of d t.number ≡ Some c
      → Charges d (clone_goes_on d t n target) k 0 0
  unfolding charge
  clone_goes_on_charges t n target c found e =
      let s : sum_by (in_clone k) (first_changed (λ (b : RunningClone ℕ). b.number == t.number) (λ b. record b { target = target }) d.clones) + in_clone k c
      ≡ sum_by (in_clone k) d.clones + in_clone k c =
      sum-changed_found (in_clone k) (λ (b : RunningClone ℕ). b.number == t.number) (λ b. record b { target = target }) c d.clones e in
      let p : sum_by (in_copy (with_task d.tasks (advanced t n)) d.volumes k) d.copies ≡ sum_by (in_copy d.tasks d.volumes k) d.copies =
      tasks_same (with_task d.tasks (advanced t n)) (aim_advanced t n found) d.copies in
      omega (arith, s, p)

  clone_ends_charges : (t : Task) (n source : ℕ) (c : RunningClone ℕ) (target : List ℕ) → task_of d t.number ≡ Some t
      → clone_of d t.number ≡ Some c → allocated_count target ≡ allocated_count c.image → Charges d (clone_ends d t n source c target) k 0 0
  unfolding charge
  clone_ends_charges t n source c target found e all =
      let volumes : List (Volume ℕ) = put_before (λ (w : Volume ℕ). nat_lt c.number w.number) (cloned_volume c source target) d.volumes in
      let s : sum_by (in_clone k) (without_clone t.number d.clones) + in_clone k c ≡ sum_by (in_clone k) d.clones =
      sum-removed_found (in_clone k) (λ (b : RunningClone ℕ). b.number == t.number) c d.clones e in
      let v : sum_by (in_volume k) (put_before (λ (w : Volume ℕ). nat_lt c.number w.number) (cloned_volume c source target) d.volumes)
      ≡ cond (c.container == k) (allocated_count target) 0 + sum_by (in_volume k) d.volumes =
      sum-put (in_volume k) (λ (w : Volume ℕ). nat_lt c.number w.number) (cloned_volume c source target) d.volumes in
      let m : cond (c.container == k) (allocated_count target) 0 ≡ in_clone k c = ap (λ x. cond (c.container == k) x 0) all in
      let p : sum_by (in_copy (with_task d.tasks (advanced t n)) (put_before (λ (w : Volume ℕ). nat_lt c.number w.number) (cloned_volume c source target) d.volumes) k) d.copies
      ≡ sum_by (in_copy d.tasks d.volumes k) d.copies =
      copies_same (with_task d.tasks (advanced t n)) volumes
      (λ b a. aim_advanced t n found b.number ∙ aim_is b a)
      (λ b a. ap (λ o. if_found o (in_target k b.pieces) 0)
      (find-put_other (λ (w : Volume ℕ). nat_lt c.number w.number) (λ (w : Volume ℕ). w.number == a.number) (cloned_volume c source target) d.volumes
      (apart b a))
      ∙ stays b a) in
      omega (arith, s, v, m, p)
    where
      apart : (b : RunningCopy ℕ) (a : Aimed d b) → (c.number == a.number) ≡ false
      apart b a =
          let o : Ordered d = ordered d rules in
          let none : is_none (volume_of d c.number) ≡ true =
          all-found (λ (b : RunningClone ℕ). is_none (volume_of d b.number)) (λ (b : RunningClone ℕ). b.number == t.number) c d.clones o.apart e in
          ne_eqb c.number a.number (λ same. let at : volume_of d c.number ≡ Some a.volume = ap (λ m. volume_of d m) same ∙ a.stands in
          let f : is_none (volume_of d c.number) ≡ false = ap is_none at in cc)

  target_of : (c : RunningCopy ℕ) (a : Aimed d c) → running_target a.task ≡ Some a.number
  target_of c a = ap (λ b. cond b (job_target a.task.job) None) a.runs ∙ a.aims

  copy_ends_charges : (t : Task) (target : ℕ) (c : RunningCopy ℕ) → task_of d t.number ≡ Some t → is_running t ≡ true
      → job_target t.job ≡ Some target → copy_of d t.number ≡ Some c → (w : Volume ℕ) → volume_of d target ≡ Some w
      → Charges d (copy_ends d t target c) k 0 (charged_at d target k (unmapping_pieces (stamps_of d target) c.pieces))
  unfolding charge
  copy_ends_charges t target c found runs aims e w at =
      let n : ℕ = next_piece t in
      let volumes : List (Volume ℕ) =
      first_changed (λ (v : Volume ℕ). v.number == target) (λ v. record v { chunks = pieces_put c.pieces v.chunks }) d.volumes in
      let number : c.number ≡ t.number = eqb-true c.number t.number (find-passes (λ (b : RunningCopy ℕ). b.number == t.number) d.copies c e) in
      let aim : aim_of d.tasks c.number ≡ Some target =
      ap (λ m. aim_of d.tasks m) number ∙ ap (option_and_then (λ (t : Task). job_target t.job)) found ∙ aims in
      let more : in_copy d.tasks d.volumes k c ≡ in_target k c.pieces w =
      aim_found d.tasks d.volumes k c target aim ∙ ap (λ o. if_found o (in_target k c.pieces) 0) at in
      let v : sum_by (in_volume k) volumes + in_volume k w ≡ sum_by (in_volume k) d.volumes + cond (w.container == k) (allocated_count (pieces_put c.pieces w.chunks)) 0 =
      sum-changed_found (in_volume k) (λ (v : Volume ℕ). v.number == target) (λ v. record v { chunks = pieces_put c.pieces v.chunks }) w d.volumes at in
      let part : cond (w.container == k) (allocated_count (pieces_put c.pieces w.chunks)) 0 + cond (w.container == k) (unmapping_pieces w.chunks c.pieces) 0
      ≡ in_volume k w + in_target k c.pieces w =
      part_goes (w.container == k) (allocated_count (pieces_put c.pieces w.chunks)) (allocated_count w.chunks) (allocating_pieces w.chunks c.pieces) (unmapping_pieces w.chunks c.pieces)
      (pieces_exact d rules k t c target found e aims w at) in
      let s : sum_by (in_copy d.tasks d.volumes k) (without_copy t.number d.copies) + in_copy d.tasks d.volumes k c ≡ sum_by (in_copy d.tasks d.volumes k) d.copies =
      sum-removed_found (in_copy d.tasks d.volumes k) (λ (b : RunningCopy ℕ). b.number == t.number) c d.copies e in
      let o : Ordered d = ordered d rules in
      let p : sum_by (in_copy (with_task d.tasks (advanced t n)) volumes k) (without_copy t.number d.copies)
      ≡ sum_by (in_copy d.tasks d.volumes k) (without_copy t.number d.copies) =
      same_sum (λ (b : RunningCopy ℕ). is_aimed d b && not (b.number == t.number)) (in_copy (with_task d.tasks (advanced t n)) volumes k) (in_copy d.tasks d.volumes k)
      (λ b both. let a : Aimed d b = aimed d b (and_left (is_aimed d b) (not (b.number == t.number)) both) in
      copy_same (with_task d.tasks (advanced t n)) volumes b a (aim_advanced t n found b.number ∙ aim_is b a)
      (ap (λ o. if_found o (in_target k b.pieces) 0)
      (find-changed (λ (v : Volume ℕ). v.number == target) (λ (v : Volume ℕ). v.number == a.number) (λ o. o)
      (λ v. record v { chunks = pieces_put c.pieces v.chunks }) d.volumes (λ w at. refl)
      (λ w at is. other w b a (not-true (b.number == t.number) (and_right (is_aimed d b) (not (b.number == t.number)) both))
      (eqb-true w.number target (find-passes (λ (v : Volume ℕ). v.number == target) d.volumes w at)) is))
      ∙ stays b a)) (without_copy t.number d.copies)
      (list_all-both (is_aimed d) (λ (b : RunningCopy ℕ). not (b.number == t.number)) (λ (b : RunningCopy ℕ). is_aimed d b && not (b.number == t.number))
      (λ b f g. and_both (is_aimed d b) (not (b.number == t.number)) f g) (without_copy t.number d.copies)
      (all-removed (is_aimed d) (λ (b : RunningCopy ℕ). b.number == t.number) d.copies o.aimed)
      (none-left (λ (b : RunningCopy ℕ). b.number) t.number d.copies o.copies)) in
      let here : charged_at d target k (unmapping_pieces (stamps_of d target) c.pieces) ≡ cond (w.container == k) (unmapping_pieces w.chunks c.pieces) 0 =
      ap (λ h. cond (h == k) (unmapping_pieces (stamps_of d target) c.pieces) 0) (home_is target w at)
      ∙ ap (λ xs. cond (w.container == k) (unmapping_pieces xs c.pieces) 0) (chunks_are d target w at) in
      omega (arith, more, v, part, s, p, here)
    where
      other : (w : Volume ℕ) (b : RunningCopy ℕ) (a : Aimed d b) → (b.number == t.number) ≡ false → w.number ≡ target
          → (w.number == a.number) ≡ true → Some (record w { chunks = pieces_put c.pieces w.chunks }) ≡ Some w
      other w b a apart at is =
          let o : Ordered d = ordered d rules in
          let same : a.number ≡ target = sym (eqb-true w.number a.number is) ∙ at in
          let one : a.task ≡ t =
          one_task (λ (u : Task). u.number == b.number) (λ (u : Task). u.number == t.number) a.task t target
          (target_of b a ∙ ap Some same) (ap (λ r. cond r (job_target t.job) None) runs ∙ aims) d.tasks o.targets a.is_task found in
          let number : a.task.number ≡ b.number = eqb-true a.task.number b.number (find-passes (λ (u : Task). u.number == b.number) d.tasks a.task a.is_task) in
          let f : (b.number == t.number) ≡ true = eq-eqb b.number t.number (sym number ∙ ap (λ (u : Task). u.number) one) in cc

  nothing : (b c : Bool) → ◌≡◌ {A = ℕ} (cond b (cond c 0 0) 0) 0
  nothing b c = none_more b (cond c 0 0) (none_more c 0 refl)

  clone_charges : (t : Task) (n source : ℕ) → (n == 0) ≡ false → task_of d t.number ≡ Some t
      → (o : Option (RunningClone ℕ)) → clone_of d t.number ≡ o
      → Charges d (if_found o (clone_turned (λ s. s) (map (λ _. n) (if_found o (λ (c : RunningClone ℕ). turn_indexes (map (λ s. s) c.image) t.done) [])) d t source) d) k 0 0
  clone_charges t n source some found None e = refl
  clone_charges t n source some found (Some c) e = go (is_last t (length (turn_indexes (map (λ s. s) c.image) t.done))) refl
    where
      go : (b : Bool) → is_last t (length (turn_indexes (map (λ s. s) c.image) t.done)) ≡ b
          → Charges d (cond b
          (clone_ends d t (length (turn_indexes (map (λ s. s) c.image) t.done)) source c (put_at (turn_indexes (map (λ s. s) c.image) t.done) (map (λ _. n) (turn_indexes (map (λ s. s) c.image) t.done)) c.target))
          (clone_goes_on d t (length (turn_indexes (map (λ s. s) c.image) t.done)) (put_at (turn_indexes (map (λ s. s) c.image) t.done) (map (λ _. n) (turn_indexes (map (λ s. s) c.image) t.done)) c.target))) k 0 0
      go true last =
          let keeps : is_clone_kept c t ≡ true = is_kept d t c rules.clones found e in
          let total : t.total ≡ allocated_count c.image = kept_total c t keeps in
          clone_ends_charges t (length (turn_indexes (map (λ s. s) c.image) t.done)) source c
          (put_at (turn_indexes (map (λ s. s) c.image) t.done) (map (λ _. n) (turn_indexes (map (λ s. s) c.image) t.done)) c.target) found e
          (clone_count c t n keeps some last ∙ total)
      go false last =
          clone_goes_on_charges t (length (turn_indexes (map (λ s. s) c.image) t.done))
          (put_at (turn_indexes (map (λ s. s) c.image) t.done) (map (λ _. n) (turn_indexes (map (λ s. s) c.image) t.done)) c.target) c found e

  copy_charges : (t : Task) (target : ℕ) → task_of d t.number ≡ Some t → is_running t ≡ true → job_target t.job ≡ Some target
      → (o : Option (RunningCopy ℕ)) → copy_of d t.number ≡ o
      → Charges d (if_found o (copy_turned d t target) d) k 0
      (cond (is_last t (next_piece t)) (charged_at d target k (if_found o (λ (c : RunningCopy ℕ). unmapping_pieces (stamps_of d target) c.pieces) 0)) 0)
  copy_charges t target found runs aims None e =
      let z : cond (is_last t (next_piece t)) (charged_at d target k 0) 0 ≡ 0 = nothing (is_last t (next_piece t)) (home_of d target == k) in
      omega (arith, z)
  copy_charges t target found runs aims (Some c) e = go (is_last t (next_piece t))
    where
      go : (b : Bool) → Charges d (cond b (copy_ends d t target c) (copy_goes_on d t)) k 0
          (cond b (charged_at d target k (unmapping_pieces (stamps_of d target) c.pieces)) 0)
      go true =
          some_of (volume_of d target) (Charges d (copy_ends d t target c) k 0 (charged_at d target k (unmapping_pieces (stamps_of d target) c.pieces)))
          (target_stands d rules k t c target found e aims)
          (λ w at. copy_ends_charges t target c found runs aims e w at)
      go false = copy_goes_on_charges t found

  job_charges : (t : Task) (n : ℕ) → (n == 0) ≡ false → task_of d t.number ≡ Some t → is_running t ≡ true → (job : Job) → t.job ≡ job
      → Charges d (job_turned (λ s. s) (map (λ _. n) (job_indexes (λ s. s) d t job)) d t job) k 0
      (cond (is_last t (next_piece t)) (uncharged_by_turns d t job k) 0)
  job_charges t n some found runs (Clone source) e =
      let z : cond (is_last t (next_piece t)) 0 0 ≡ 0 = none_more (is_last t (next_piece t)) 0 refl in
      let c = clone_charges t n source some found (clone_of d t.number) refl in
      omega (arith, z, c)
  job_charges t n some found runs (Copy source base target) e = copy_charges t target found runs (ap job_target e) (copy_of d t.number) refl

  turn_charges : (n : ℕ)
      → Charges d (turned (λ s. s) (map (λ _. n) (turned_indexes (λ s. s) d n)) d n) k 0 (at_last_turn d n (λ t. uncharged_by_turns d t t.job k))
  unfolding turned turned_indexes
  turn_charges n = of_task (task_of d n) refl
    where
      run : (t : Task) → (n == 0) ≡ false → task_of d t.number ≡ Some t → (b : Bool) → is_running t ≡ b
          → Charges d (cond b (job_turned (λ s. s) (map (λ _. n) (cond b (job_indexes (λ s. s) d t t.job) [])) d t t.job) d) k 0
          (cond (b && is_last t (next_piece t)) (uncharged_by_turns d t t.job k) 0)
      run t some found true runs = job_charges t n some found runs t.job refl
      run t some found false runs = refl

      of_task : (o : Option Task) → task_of d n ≡ o
          → Charges d (if_found o (λ t. cond (is_running t) (job_turned (λ s. s) (map (λ _. n) (if_found o (λ t. cond (is_running t) (job_indexes (λ s. s) d t t.job) []) [])) d t t.job) d) d) k 0
          (if_found o (λ t. cond (is_running t && is_last t (next_piece t)) (uncharged_by_turns d t t.job k) 0) 0)
      of_task None e = refl
      of_task (Some t) e =
          let number : t.number ≡ n = eqb-true t.number n (find-passes (λ (u : Task). u.number == n) d.tasks t e) in
          let found : task_of d t.number ≡ Some t = ap (λ k. task_of d k) number ∙ e in
          run t (ap (λ k. k == 0) (sym number) ∙ task_number d rules k t found) found (is_running t) refl

  charged_none : (n : ℕ) → charged_at d n k 0 ≡ 0
  charged_none n = none_more (home_of d n == k) 0 refl

  -- An accepted change charges each container for so much more, and for so much less.
  charge_go : (misfit : Option Misfit) (change : Change) → judge misfit d change ≡ Accept
      → Charges d (effect (λ s. s) (map (λ _. new_stamp d change) (changed_indexes (λ s. s) d change)) 0 d change) k
      (charge_added d change k) (charge_taken d change k)
  unfolding effect state_checks with_clone with_copy changed_indexes
  charge_go misfit (MakeContainer quota offers) e = unfold charge in refl
  charge_go misfit (MakeVolume h vtype chunks needs) e =
      let v : Volume ℕ = record { number = d.lsn + 1; container = h; vtype = vtype; kind = Plain; reverted = 0; needs = needs; metadata = []; chunks = replicate chunks 0 } in
      let a = added_charges v refl in
      let z : in_volume k v ≡ 0 = none_more (h == k) (allocated_count v.chunks) (allocated-zeros chunks) in
      omega (arith, a, z)
  charge_go misfit (DeleteVolume n) e =
      let free : (is_bound d.bindings n || is_busy d n) ≡ false =
      not_refused (is_bound d.bindings n || is_busy d n) (ResourceInUse in_vvol) (passed_state misfit d (DeleteVolume n) e 1) in
      some_of (volume_of d n) _ (not_refused (is_none (volume_of d n)) (NotFound in_vvol) (passed_state misfit d (DeleteVolume n) e 0))
      (λ v found. deleted_charges n (or_parts (is_bound d.bindings n) (is_busy d n) free).1 v found)
  charge_go misfit (GrowVolume n chunks) e =
      some_of (volume_of d n) _ (not_refused (is_none (volume_of d n)) (NotFound in_vvol) (passed_state misfit d (GrowVolume n chunks) e 0))
      (λ v found. let l = allocated-longer v.chunks (chunks - length v.chunks) in
      let c = changed_charges n (λ v. record v { chunks = v.chunks ++ replicate (chunks - length v.chunks) 0 })
      (not_refused (is_busy d n) (ResourceInUse in_vvol) (passed_state misfit d (GrowVolume n chunks) e 3)) (λ v. refl) (λ v. refl) v found 0 0 (omega (arith, l)) in
      let z = charged_none n in
      omega (arith, c, z))
  charge_go misfit (SetMetadata n key text) e =
      some_of (volume_of d n) _ (not_refused (is_none (volume_of d n)) (NotFound in_vvol) (passed_state misfit d (SetMetadata n key text) e 0))
      (λ v found. kept_charges n (λ v. record v { metadata = after_set v.metadata key text }) (λ v. refl) (λ v. refl) (λ v. refl) v found)
  charge_go misfit (Snapshot n) e =
      some_of (volume_of d n) _ (not_refused (is_none (volume_of d n)) (NotFound in_vvol) (passed_state misfit d (Snapshot n) e 0))
      (λ v found. ap (λ o. charge (if_found o (λ v. and_volume d (record v { number = d.lsn + 1; kind = SnapshotOf (record { 0 = n }) })) d) k + 0) found
      ∙ copied_charges n v (record v { number = d.lsn + 1; kind = SnapshotOf (record { 0 = n }) }) found refl refl refl)
  charge_go misfit (FastClone n) e =
      some_of (volume_of d n) _ (not_refused (is_none (volume_of d n)) (NotFound in_vvol) (passed_state misfit d (FastClone n) e 0))
      (λ v found. ap (λ o. charge (if_found o (λ v. and_volume d (record v { number = d.lsn + 1; kind = FastCloneOf (record { 0 = n }) })) d) k + 0) found
      ∙ copied_charges n v (record v { number = d.lsn + 1; kind = FastCloneOf (record { 0 = n }) }) found refl refl refl)
  charge_go misfit (Revert n snapshot) e =
      let free : (is_bound d.bindings n || is_busy d n) ≡ false =
      not_refused (is_bound d.bindings n || is_busy d n) (ResourceInUse in_vvol) (passed_state misfit d (Revert n snapshot) e 3) in
      some_of (volume_of d snapshot) _ (not_refused (is_none (volume_of d snapshot)) (NotFound in_snapshot) (passed_state misfit d (Revert n snapshot) e 1))
      (λ s at. some_of (volume_of d n) _ (not_refused (is_none (volume_of d n)) (NotFound in_vvol) (passed_state misfit d (Revert n snapshot) e 0))
      (λ v found. let a = allocated_is n v found in
      let b = allocated_is snapshot s at in
      ap (λ o. charge (if_found o (λ s. with_volume d n (λ v. record v { chunks = s.chunks; reverted = d.lsn + 1 })) d) k + charged_at d n k (allocated_of d n)) at
      ∙ changed_charges n (λ v. record v { chunks = s.chunks; reverted = d.lsn + 1 }) (or_parts (is_bound d.bindings n) (is_busy d n) free).1
      (λ v. refl) (λ v. refl) v found (allocated_of d snapshot) (allocated_of d n) (omega (arith, a, b))))
  charge_go misfit (Write n first blocks) e =
      let is : List ℕ = touched_indexes d.geometry.chunk_blocks first blocks in
      some_of (volume_of d n) _ (not_refused (is_none (volume_of d n)) (NotFound in_vvol) (passed_state misfit d (Write n first blocks) e 0))
      (λ v found. let p = written_count d misfit n first blocks e v found in
      let c = changed_charges n (λ v. record v { chunks = put_at is (map (λ _. d.lsn + 1) is) v.chunks })
      (not_refused (is_busy d n) (ResourceInUse in_vvol) (passed_state misfit d (Write n first blocks) e 3)) (λ v. refl) (λ v. refl) v found
      (unmapped_count (stamps_of d n) is) 0 (omega (arith, p)) in
      let z = charged_none n in
      omega (arith, c, z))
  charge_go misfit (Unmap n ranges) e =
      some_of (volume_of d n) _ (not_refused (is_none (volume_of d n)) (NotFound in_vvol) (passed_state misfit d (Unmap n ranges) e 0))
      (λ v found. let u = unmaps_exact ranges 0 v.chunks in
      let s : unmaps_count ranges (stamps_of d n) ≡ unmaps_count ranges v.chunks = ap (unmaps_count ranges) (chunks_are d n v found) in
      let c = changed_charges n (λ v. record v { chunks = unmapped_in (λ s. s) 0 ranges v.chunks })
      (not_refused (is_busy d n) (ResourceInUse in_vvol) (passed_state misfit d (Unmap n ranges) e 3)) (λ v. refl) (λ v. refl) v found
      0 (unmaps_count ranges (stamps_of d n)) (omega (arith, u, s)) in
      let z = charged_none n in
      omega (arith, c, z))
  charge_go misfit (SetEndpoints host endpoints) e = unfold charge in refl
  charge_go misfit (Bind host n) e = unfold charge in refl
  charge_go misfit (Unbind host endpoint secondary) e = unfold charge in refl
  charge_go misfit (UnbindAll host) e = unfold charge in refl
  charge_go misfit (StartClone n) e =
      some_of (volume_of d n) _ (not_refused (is_none (volume_of d n)) (NotFound in_vvol) (passed_state misfit d (StartClone n) e 0))
      (λ v found. ap (λ o. charge (if_found o (clone_started (λ s. s) 0 d n) d) k + 0) found ∙ clone_started_charges n v found)
  charge_go misfit (StartCopy source base target) e =
      some_of (volume_of d source) _ (not_refused (is_none (volume_of d source)) (NotFound in_source) (passed_state misfit d (StartCopy source base target) e 0))
      (λ v found. some_of (volume_of d base) _ (not_refused (is_none (volume_of d base)) (NotFound in_base) (passed_state misfit d (StartCopy source base target) e 1))
      (λ w at. some_of (volume_of d target) _ (not_refused (is_none (volume_of d target)) (NotFound in_target_field) (passed_state misfit d (StartCopy source base target) e 2))
      (λ u there. let same : difference (λ s. s) (stamps_of d source) (stamps_of d base) ≡ difference (λ s. s) v.chunks w.chunks =
      ap (λ xs. difference (λ s. s) xs (stamps_of d base)) (chunks_are d source v found)
      ∙ ap (λ xs. difference (λ s. s) v.chunks xs) (chunks_are d base w at) in
      ap (λ o. charge (if_found o (λ v. if_found (volume_of d base) (λ w. copy_started d (Copy source base target) (difference (λ s. s) v.chunks w.chunks)) d) d) k + 0) found
      ∙ ap (λ o. charge (if_found o (λ w. copy_started d (Copy source base target) (difference (λ s. s) v.chunks w.chunks)) d) k + 0) at
      ∙ copy_started_charges source base target (difference (λ s. s) v.chunks w.chunks) u there
      ∙ ap (λ ps. charge d k + charged_at d target k (allocating_pieces (stamps_of d target) ps)) (sym same))))
  charge_go misfit (Turn n) e = turn_charges n
  charge_go misfit (Cancel n) e = cancelled_charges n

pub charge_after : (misfit : Option Misfit) (d : Durable ℕ) (change : Change) → is_well_formed_shape d ≡ true → judge misfit d change ≡ Accept → (container : ℕ)
    → charge (apply_shape d change) container + charge_taken d change container ≡ charge d container + charge_added d change container
unfolding apply_shape apply charge is_well_formed_shape
charge_after misfit d change well e k = charge_go d (kept d (and_left _ _ well)) k misfit change e
