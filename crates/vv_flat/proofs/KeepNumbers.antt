-- After an accepted change each number is still given once, and what is named stands. The law the_rules_of_the_shape_stay
-- rests on these.
use Rattle.std.proofs.Common.{◌≡◌, ◌≤◌, ◌<◌, ℕ, ◌+◌, ◌-◌, ◌==◌, ◌&&◌, ◌||◌, not, refl, ap, sym, ◌∙◌, Bool, true, false, cond, List, ◌++◌, map, length, arith}
use Rattle.std.specs.Prelude.{Option, Some, None, is_some, nat_lt, nat_le, sum_by}
use Rattle.std.specs.List.{find, list_all}
use Rattle.std.proofs.lemmas.List.Sums.{sum_by-append}
use Rattle.std.proofs.lemmas.Bool.{not-true, le-leb, eqb-true, eq-eqb, ne_eqb, or_right}
use Rattle.std.proofs.lemmas.Bool.Decides.{nat_tests}
use Rattle.vv_units.specs.declared.volume.VolumeKind.{VolumeKind}
use Rattle.vv_units.specs.declared.volume.VolumeKind.TheVariants.{Plain, SnapshotOf, FastCloneOf, FullCloneOf}
use Rattle.vv_units.specs.declared.volume.TaskState.TheVariants.{Running, Cancelled}
use Rattle.vv_flat.specs.Lists.{if_found, first_changed, put_before, first_removed}
use Rattle.vv_flat.specs.State.{Container, Volume, Address, Binding, Job, Clone, Copy, Task, RunningClone, Durable, container_of, volume_of, clone_of}
use Rattle.vv_flat.specs.Space.{allocated_count, is_running, job_target, running_target}
use Rattle.vv_flat.specs.Bindings.{is_address, is_below, binding_of, is_binding_of, new_address, with_binding, count_left, without_binding, is_of_host}
use Rattle.vv_flat.specs.Tasks.{record_limit, with_room, started, with_task, advanced, next_piece, cloned_volume, without_clone, clone_of_volume, clone_started, copy_started, clone_goes_on, clone_ends, copy_goes_on, copy_ends, pieces_put, cancelled}
use Rattle.vv_flat.specs.Profiles.{Misfit}
use Rattle.vv_flat.specs.Refusals.{Exhausted, Accept, last_lsn, exhausted}
use Rattle.vv_flat.specs.Rules.{is_logged, is_kind_logged, is_source_logged, is_of_no_snapshot, numbers_rule, names_rule, keeps_shape_rules, has_its_fields}
use Rattle.vv_flat.specs.Changes.{Change, MakeContainer, MakeVolume, DeleteVolume, GrowVolume, SetMetadata, Snapshot, FastClone, Revert, Write, Unmap, SetEndpoints, Bind, Unbind, UnbindAll, StartClone, StartCopy, Turn, Cancel, judge, room_checks, apply, apply_shape, is_snapshot_kind, is_snapshot, with_volume, and_volume}
use Rattle.vv_flat.proofs.Shares.{and_left, and_right, and_both, list_all-follows, list_all-both}
use Rattle.vv_flat.proofs.Sums.{sum-put, sum-removed, sum-changed, sum-removed_found}
use Rattle.vv_flat.proofs.Verdicts.{passed_room, not_refused}
use Rattle.vv_flat.proofs.Known.{all-put, all-removed, all-changed, all-found, all-filter}
use Rattle.vv_flat.proofs.Lookups.{find-put_other, find-put_new, find-removed_other, find-changed, none-left, sum-none}
use Rattle.vv_flat.proofs.KeepLists.{times, times-map, different-once, once-different, found-put, none-where_all, all-where_not_any}
use Rattle.vv_flat.proofs.KeepForm.{volumes_rise, clones_logged, new_volume_number, new_container_number, numbers_differ, clone_number_apart}
use Rattle.vv_flat.proofs.Kept.{Kept, kept}
use Rattle.vv_flat.proofs.KeepSteps.{Turning, Steps, below_limit, number_logged, volume_named, by_steps}

-- What is kept of each record in a list of tasks.
module _ (r : Task → Bool) (tasks : List Task) (holds : list_all r tasks ≡ true) where
  all_started : (t : Task) → r t ≡ true → list_all r (started tasks t) ≡ true
  all_started t e = all-put r (λ (u : Task). nat_lt t.number u.number) t (with_room tasks) e (of_room (nat_le record_limit (length tasks)))
    where
      of_room : (b : Bool) → list_all r (cond b (first_removed (λ (t : Task). not (is_running t)) tasks) tasks) ≡ true
      of_room true = all-removed r (λ (t : Task). not (is_running t)) tasks holds
      of_room false = holds

  all_advanced : (t : Task) (k : ℕ) → find (λ (u : Task). u.number == t.number) tasks ≡ Some t
      → (r t ≡ true → r (advanced t k) ≡ true) → list_all r (with_task tasks (advanced t k)) ≡ true
  all_advanced t k found e =
      all-changed r (λ (u : Task). u.number == t.number) (λ _. advanced t k) tasks holds
      (λ u at h. let same : ◌≡◌ {A = Task} t u = cc in e (rw same h))

-- Numbers.

logged_more : (lsn n : ℕ) → is_logged lsn n ≡ true → is_logged (lsn + 1) n ≡ true
logged_more lsn n e = grind (arith, nat_tests)

logged_next : (lsn : ℕ) → is_logged (lsn + 1) (lsn + 1) ≡ true
logged_next lsn = grind (arith, nat_tests)

below_more : (lsn n : ℕ) → nat_le n lsn ≡ true → nat_le n (lsn + 1) ≡ true
below_more lsn n e = grind (arith, nat_tests)

zero_or_more : (lsn n : ℕ) → ((n == 0) || is_logged lsn n) ≡ true → ((n == 0) || is_logged (lsn + 1) n) ≡ true
zero_or_more lsn n e = grind (arith, nat_tests)

zero_or_next : (lsn : ℕ) → ((lsn + 1 == 0) || is_logged (lsn + 1) (lsn + 1)) ≡ true
zero_or_next lsn = or_right (lsn + 1 == 0) (is_logged (lsn + 1) (lsn + 1)) (logged_next lsn)

logged_not_next : (lsn n : ℕ) → is_logged lsn n ≡ true → (lsn + 1 == n) ≡ false
logged_not_next lsn n e = grind (arith, nat_tests)

logged_other : (lsn n : ℕ) → is_logged lsn n ≡ true → not (n == lsn + 1) ≡ true
logged_other lsn n e = grind (arith, nat_tests)

kind_more : (lsn : ℕ) (kind : VolumeKind) → is_kind_logged lsn kind ≡ true → is_kind_logged (lsn + 1) kind ≡ true
kind_more lsn Plain e = refl
kind_more lsn (SnapshotOf v) e = logged_more lsn v.0 e
kind_more lsn (FastCloneOf v) e = logged_more lsn v.0 e
kind_more lsn (FullCloneOf v) e = logged_more lsn v.0 e

source_more : (lsn : ℕ) (job : Job) → is_source_logged lsn job ≡ true → is_source_logged (lsn + 1) job ≡ true
source_more lsn (Clone volume) e = logged_more lsn volume e
source_more lsn (Copy source base target) e = refl

or_follows : (a b c : Bool) → (b ≡ true → c ≡ true) → (a || b) ≡ true → (a || c) ≡ true
or_follows true b c h e = refl
or_follows false b c h e = h e

not_or : (a b : Bool) → a ≡ true → (not a || b) ≡ true → b ≡ true
not_or true b is e = e
not_or false b is e = cc

abbrev numbered : ℕ → Volume ℕ → Bool
numbered lsn v = is_logged lsn v.number && is_kind_logged lsn v.kind && nat_le v.reverted lsn

abbrev task_numbered : ℕ → Task → Bool
task_numbered lsn t = is_logged lsn t.number && (not (is_running t) || is_source_logged lsn t.job)

-- how often a number comes among volumes, containers and running clones
volume_times : ℕ → List (Volume ℕ) → ℕ
volume_times n vs = sum_by (λ (v : Volume ℕ). cond (v.number == n) 1 0) vs

container_times : ℕ → List Container → ℕ
container_times n ks = sum_by (λ (k : Container). cond (k.number == n) 1 0) ks

clone_times : ℕ → List (RunningClone ℕ) → ℕ
clone_times n cs = sum_by (λ (c : RunningClone ℕ). cond (c.number == n) 1 0) cs

counted : (n : ℕ) (vs : List (Volume ℕ)) (ks : List Container) (cs : List (RunningClone ℕ))
    → times n (map (λ (v : Volume ℕ). v.number) vs ++ map (λ (k : Container). k.number) ks ++ map (λ (c : RunningClone ℕ). c.number) cs)
    ≡ volume_times n vs + container_times n ks + clone_times n cs
unfolding volume_times container_times clone_times
counted n vs ks cs =
    let a : times n (map (λ (v : Volume ℕ). v.number) vs ++ map (λ (k : Container). k.number) ks ++ map (λ (c : RunningClone ℕ). c.number) cs)
    ≡ times n (map (λ (v : Volume ℕ). v.number) vs ++ map (λ (k : Container). k.number) ks) + times n (map (λ (c : RunningClone ℕ). c.number) cs) =
    sum_by-append (λ m. cond (m == n) 1 0) (map (λ (v : Volume ℕ). v.number) vs ++ map (λ (k : Container). k.number) ks) (map (λ (c : RunningClone ℕ). c.number) cs) in
    let b : times n (map (λ (v : Volume ℕ). v.number) vs ++ map (λ (k : Container). k.number) ks)
    ≡ times n (map (λ (v : Volume ℕ). v.number) vs) + times n (map (λ (k : Container). k.number) ks) =
    sum_by-append (λ m. cond (m == n) 1 0) (map (λ (v : Volume ℕ). v.number) vs) (map (λ (k : Container). k.number) ks) in
    let v = times-map (λ (v : Volume ℕ). v.number) n vs in
    let k = times-map (λ (k : Container). k.number) n ks in
    let c = times-map (λ (c : RunningClone ℕ). c.number) n cs in
    omega (arith, a, b, v, k, c)

numbers_of : (e : Durable ℕ) → list_all (numbered e.lsn) e.volumes ≡ true
    → list_all (λ (k : Container). (k.number == 0) || is_logged e.lsn k.number) e.containers ≡ true
    → list_all (task_numbered e.lsn) e.tasks ≡ true
    → ((n : ℕ) → volume_times n e.volumes + container_times n e.containers + clone_times n e.clones ≤ 1)
    → e.lsn ≤ last_lsn → numbers_rule e ≡ true
unfolding numbers_rule
numbers_of e volumes containers tasks once within =
    and_both _ _ (and_both _ _ (and_both _ _ (and_both _ _ volumes containers) tasks)
    (once-different (map (λ (v : Volume ℕ). v.number) e.volumes ++ map (λ (k : Container). k.number) e.containers
    ++ map (λ (c : RunningClone ℕ). c.number) e.clones)
    (λ n. let c = counted n e.volumes e.containers e.clones in
    let o : volume_times n e.volumes + container_times n e.containers + clone_times n e.clones ≤ 1 = once n in
    omega (arith, c, o))))
    (le-leb e.lsn last_lsn within)

module _ (d : Durable ℕ) (kept : Kept d) where
  numbers_volumes : list_all (numbered d.lsn) d.volumes ≡ true
  unfolding numbers_rule
  numbers_volumes = and_left _ _ (and_left _ _ (and_left _ _ (and_left _ _ kept.numbers)))

  numbers_tasks : list_all (task_numbered d.lsn) d.tasks ≡ true
  unfolding numbers_rule
  numbers_tasks = and_right _ _ (and_left _ _ (and_left _ _ kept.numbers))

  volumes_more : list_all (numbered (d.lsn + 1)) d.volumes ≡ true
  volumes_more =
      list_all-follows (numbered d.lsn) (numbered (d.lsn + 1))
      (λ v e. and_both (is_logged (d.lsn + 1) v.number && is_kind_logged (d.lsn + 1) v.kind) (nat_le v.reverted (d.lsn + 1))
      (and_both (is_logged (d.lsn + 1) v.number) (is_kind_logged (d.lsn + 1) v.kind)
      (logged_more d.lsn v.number (and_left (is_logged d.lsn v.number) (is_kind_logged d.lsn v.kind) (and_left _ (nat_le v.reverted d.lsn) e)))
      (kind_more d.lsn v.kind (and_right (is_logged d.lsn v.number) (is_kind_logged d.lsn v.kind) (and_left _ (nat_le v.reverted d.lsn) e))))
      (below_more d.lsn v.reverted (and_right _ (nat_le v.reverted d.lsn) e))) d.volumes numbers_volumes

  containers_more : list_all (λ (k : Container). (k.number == 0) || is_logged (d.lsn + 1) k.number) d.containers ≡ true
  unfolding numbers_rule
  containers_more =
      list_all-follows (λ (k : Container). (k.number == 0) || is_logged d.lsn k.number) (λ (k : Container). (k.number == 0) || is_logged (d.lsn + 1) k.number)
      (λ k e. zero_or_more d.lsn k.number e) d.containers (and_right _ _ (and_left _ _ (and_left _ _ (and_left _ _ kept.numbers))))

  tasks_more : list_all (task_numbered (d.lsn + 1)) d.tasks ≡ true
  tasks_more =
      list_all-follows (task_numbered d.lsn) (task_numbered (d.lsn + 1))
      (λ t e. and_both (is_logged (d.lsn + 1) t.number) (not (is_running t) || is_source_logged (d.lsn + 1) t.job)
      (logged_more d.lsn t.number (and_left (is_logged d.lsn t.number) _ e))
      (or_follows (not (is_running t)) (is_source_logged d.lsn t.job) (is_source_logged (d.lsn + 1) t.job) (source_more d.lsn t.job)
      (and_right (is_logged d.lsn t.number) _ e))) d.tasks numbers_tasks

  once : (n : ℕ) → volume_times n d.volumes + container_times n d.containers + clone_times n d.clones ≤ 1
  once n =
      let c = counted n d.volumes d.containers d.clones in
      let o = different-once (map (λ (v : Volume ℕ). v.number) d.volumes ++ map (λ (k : Container). k.number) d.containers
      ++ map (λ (c : RunningClone ℕ). c.number) d.clones) (numbers_differ d kept) n in
      omega (arith, c, o)

  -- the next log number comes nowhere yet
  once_more : (n : ℕ) → cond (d.lsn + 1 == n) 1 0 + (volume_times n d.volumes + container_times n d.containers + clone_times n d.clones) ≤ 1
  unfolding volume_times container_times clone_times
  once_more n = of_same (d.lsn + 1 == n) refl
    where
      of_same : (b : Bool) → (d.lsn + 1 == n) ≡ b
          → cond b 1 0 + (volume_times n d.volumes + container_times n d.containers + clone_times n d.clones) ≤ 1
      of_same true is =
          let same : d.lsn + 1 ≡ n = eqb-true (d.lsn + 1) n is in
          let v : volume_times (d.lsn + 1) d.volumes ≡ 0 =
          sum-none (λ (v : Volume ℕ). not (v.number == d.lsn + 1)) (λ (v : Volume ℕ). cond (v.number == d.lsn + 1) 1 0)
          (λ v e. ap (λ b. cond b 1 0) (not-true (v.number == d.lsn + 1) e)) d.volumes (new_volume_number d kept) in
          let k : container_times (d.lsn + 1) d.containers ≡ 0 =
          sum-none (λ (k : Container). not (k.number == d.lsn + 1)) (λ (k : Container). cond (k.number == d.lsn + 1) 1 0)
          (λ k e. ap (λ b. cond b 1 0) (not-true (k.number == d.lsn + 1) e)) d.containers (new_container_number d kept) in
          let c : clone_times (d.lsn + 1) d.clones ≡ 0 =
          sum-none (λ (c : RunningClone ℕ). not (c.number == d.lsn + 1)) (λ (c : RunningClone ℕ). cond (c.number == d.lsn + 1) 1 0)
          (λ c e. ap (λ b. cond b 1 0) (not-true (c.number == d.lsn + 1) e)) d.clones
          (list_all-follows (λ (c : RunningClone ℕ). is_logged d.lsn c.number) (λ (c : RunningClone ℕ). not (c.number == d.lsn + 1))
          (λ c e. logged_other d.lsn c.number e) d.clones (clones_logged d kept)) in
          rw (← same) (omega (arith, v, k, c))
      of_same false is = let o = once n in omega (arith, o)

  source_of : (t : Task) → Turning d t → is_source_logged d.lsn t.job ≡ true
  source_of t turning =
      not_or (is_running t) (is_source_logged d.lsn t.job) turning.runs
      (and_right (is_logged d.lsn t.number) _
      (all-found (task_numbered d.lsn) (λ (u : Task). u.number == t.number) t d.tasks numbers_tasks turning.found))

  numbers_advanced : (t : Task) (k : ℕ) → Turning d t → list_all (task_numbered (d.lsn + 1)) (with_task d.tasks (advanced t k)) ≡ true
  numbers_advanced t k turning =
      all_advanced (task_numbered (d.lsn + 1)) d.tasks tasks_more t k turning.found
      (λ h. and_both (is_logged (d.lsn + 1) t.number) (not (is_running (advanced t k)) || is_source_logged (d.lsn + 1) t.job)
      (and_left (is_logged (d.lsn + 1) t.number) _ h)
      (or_right (not (is_running (advanced t k))) (is_source_logged (d.lsn + 1) t.job) (source_more d.lsn t.job (source_of t turning))))

  volumes_changed : (n : ℕ) (g : Volume ℕ → Volume ℕ) → ((v : Volume ℕ) → (g v).number ≡ v.number) → ((v : Volume ℕ) → (g v).kind ≡ v.kind)
      → ((v : Volume ℕ) → nat_le v.reverted (d.lsn + 1) ≡ true → nat_le (g v).reverted (d.lsn + 1) ≡ true)
      → list_all (numbered (d.lsn + 1)) (first_changed (λ (v : Volume ℕ). v.number == n) g d.volumes) ≡ true
  volumes_changed n g number kind reverted =
      all-changed (numbered (d.lsn + 1)) (λ (v : Volume ℕ). v.number == n) g d.volumes volumes_more
      (λ v found e. and_both (is_logged (d.lsn + 1) (g v).number && is_kind_logged (d.lsn + 1) (g v).kind) (nat_le (g v).reverted (d.lsn + 1))
      (rw (number v, kind v) (and_left (is_logged (d.lsn + 1) v.number && is_kind_logged (d.lsn + 1) v.kind) _ e))
      (reverted v (and_right (is_logged (d.lsn + 1) v.number && is_kind_logged (d.lsn + 1) v.kind) _ e)))

  once_changed : (n : ℕ) (g : Volume ℕ → Volume ℕ) → ((v : Volume ℕ) → (g v).number ≡ v.number) → (m : ℕ)
      → volume_times m (first_changed (λ (v : Volume ℕ). v.number == n) g d.volumes) + container_times m d.containers + clone_times m d.clones ≤ 1
  unfolding volume_times
  once_changed n g number m =
      let s : volume_times m (first_changed (λ (v : Volume ℕ). v.number == n) g d.volumes) ≤ volume_times m d.volumes + 0 =
      sum-changed (λ (v : Volume ℕ). cond (v.number == m) 1 0) (λ (v : Volume ℕ). v.number == n) g 0 d.volumes
      (λ v found. let e : ◌≡◌ {A = ℕ} (cond ((g v).number == m) 1 0) (cond (v.number == m) 1 0) = ap (λ k. cond (k == m) 1 0) (number v) in
      omega (arith, e)) in
      let o = once m in
      omega (arith, s, o)

  once_without : (n m : ℕ) → volume_times m d.volumes + container_times m d.containers + clone_times m (without_clone n d.clones) ≤ 1
  unfolding clone_times
  once_without n m =
      let s : clone_times m (without_clone n d.clones) ≤ clone_times m d.clones =
      sum-removed (λ (c : RunningClone ℕ). cond (c.number == m) 1 0) (λ (c : RunningClone ℕ). c.number == n) d.clones in
      let o = once m in
      omega (arith, s, o)

  once_deleted : (n m : ℕ)
      → volume_times m (first_removed (λ (v : Volume ℕ). v.number == n) d.volumes) + container_times m d.containers + clone_times m d.clones ≤ 1
  unfolding volume_times
  once_deleted n m =
      let s : volume_times m (first_removed (λ (v : Volume ℕ). v.number == n) d.volumes) ≤ volume_times m d.volumes =
      sum-removed (λ (v : Volume ℕ). cond (v.number == m) 1 0) (λ (v : Volume ℕ). v.number == n) d.volumes in
      let o = once m in
      omega (arith, s, o)

  once_added : (v : Volume ℕ) → v.number ≡ d.lsn + 1 → (m : ℕ)
      → volume_times m (put_before (λ (w : Volume ℕ). nat_lt v.number w.number) v d.volumes) + container_times m d.containers + clone_times m d.clones ≤ 1
  unfolding volume_times
  once_added v number m =
      let s : volume_times m (put_before (λ (w : Volume ℕ). nat_lt v.number w.number) v d.volumes) ≡ cond (v.number == m) 1 0 + volume_times m d.volumes =
      sum-put (λ (v : Volume ℕ). cond (v.number == m) 1 0) (λ (w : Volume ℕ). nat_lt v.number w.number) v d.volumes in
      let e : ◌≡◌ {A = ℕ} (cond (v.number == m) 1 0) (cond (d.lsn + 1 == m) 1 0) = ap (λ k. cond (k == m) 1 0) number in
      let o = once_more m in
      omega (arith, s, e, o)

  once_contained : (k : Container) → k.number ≡ d.lsn + 1 → (m : ℕ)
      → volume_times m d.volumes + container_times m (put_before (λ (j : Container). nat_lt (d.lsn + 1) j.number) k d.containers) + clone_times m d.clones ≤ 1
  unfolding container_times
  once_contained k number m =
      let s : container_times m (put_before (λ (j : Container). nat_lt (d.lsn + 1) j.number) k d.containers) ≡ cond (k.number == m) 1 0 + container_times m d.containers =
      sum-put (λ (k : Container). cond (k.number == m) 1 0) (λ (j : Container). nat_lt (d.lsn + 1) j.number) k d.containers in
      let e : ◌≡◌ {A = ℕ} (cond (k.number == m) 1 0) (cond (d.lsn + 1 == m) 1 0) = ap (λ k. cond (k == m) 1 0) number in
      let o = once_more m in
      omega (arith, s, e, o)

  once_cloned : (v : Volume ℕ) (m : ℕ)
      → volume_times m d.volumes + container_times m d.containers
      + clone_times m (put_before (λ (c : RunningClone ℕ). nat_lt (d.lsn + 1) c.number) (clone_of_volume 0 (d.lsn + 1) v) d.clones) ≤ 1
  unfolding clone_times
  once_cloned v m =
      let s : clone_times m (put_before (λ (c : RunningClone ℕ). nat_lt (d.lsn + 1) c.number) (clone_of_volume 0 (d.lsn + 1) v) d.clones)
      ≡ cond (d.lsn + 1 == m) 1 0 + clone_times m d.clones =
      sum-put (λ (c : RunningClone ℕ). cond (c.number == m) 1 0) (λ (c : RunningClone ℕ). nat_lt (d.lsn + 1) c.number) (clone_of_volume 0 (d.lsn + 1) v) d.clones in
      let o = once_more m in
      omega (arith, s, o)

  once_goes_on : (n : ℕ) (target : List ℕ) (m : ℕ)
      → volume_times m d.volumes + container_times m d.containers
      + clone_times m (first_changed (λ (b : RunningClone ℕ). b.number == n) (λ b. record b { target = target }) d.clones) ≤ 1
  unfolding clone_times
  once_goes_on n target m =
      let s : clone_times m (first_changed (λ (b : RunningClone ℕ). b.number == n) (λ b. record b { target = target }) d.clones) ≤ clone_times m d.clones + 0 =
      sum-changed (λ (c : RunningClone ℕ). cond (c.number == m) 1 0) (λ (b : RunningClone ℕ). b.number == n) (λ b. record b { target = target }) 0 d.clones
      (λ b at. omega arith) in
      let o = once m in
      omega (arith, s, o)

  -- the number of a clone that ends goes over to its volume
  once_moved : (t : Task) (source : ℕ) (c : RunningClone ℕ) (target : List ℕ) → clone_of d t.number ≡ Some c → (m : ℕ)
      → volume_times m (put_before (λ (w : Volume ℕ). nat_lt c.number w.number) (cloned_volume c source target) d.volumes)
      + container_times m d.containers + clone_times m (without_clone t.number d.clones) ≤ 1
  unfolding volume_times clone_times
  once_moved t source c target found m =
      let s : volume_times m (put_before (λ (w : Volume ℕ). nat_lt c.number w.number) (cloned_volume c source target) d.volumes)
      ≡ cond (c.number == m) 1 0 + volume_times m d.volumes =
      sum-put (λ (v : Volume ℕ). cond (v.number == m) 1 0) (λ (w : Volume ℕ). nat_lt c.number w.number) (cloned_volume c source target) d.volumes in
      let r : clone_times m (without_clone t.number d.clones) + cond (c.number == m) 1 0 ≡ clone_times m d.clones =
      sum-removed_found (λ (c : RunningClone ℕ). cond (c.number == m) 1 0) (λ (b : RunningClone ℕ). b.number == t.number) c d.clones found in
      let o = once m in
      omega (arith, s, r, o)

  number_steps : d.lsn + 1 ≤ last_lsn → Steps d (λ e. numbers_rule (record e { lsn = d.lsn + 1 }) ≡ true)
  unfolding cancelled
  number_steps room = record {
    same = numbers_of (record d { lsn = d.lsn + 1 }) volumes_more containers_more tasks_more once room;
    container = λ k number offers few. numbers_of _ volumes_more
        (all-put (λ (k : Container). (k.number == 0) || is_logged (d.lsn + 1) k.number) (λ (j : Container). nat_lt (d.lsn + 1) j.number) k d.containers
        (rw number (zero_or_next d.lsn)) containers_more)
        tasks_more (once_contained k number) room;
    volume = λ v new. numbers_of _
        (all-put (numbered (d.lsn + 1)) (λ (w : Volume ℕ). nat_lt v.number w.number) v d.volumes
        (and_both (is_logged (d.lsn + 1) v.number && is_kind_logged (d.lsn + 1) v.kind) (nat_le v.reverted (d.lsn + 1))
        (and_both (is_logged (d.lsn + 1) v.number) (is_kind_logged (d.lsn + 1) v.kind)
        (ap (is_logged (d.lsn + 1)) new.number ∙ logged_next d.lsn) (kind_more d.lsn v.kind new.kind))
        (below_more d.lsn v.reverted new.reverted)) volumes_more)
        containers_more tasks_more (once_added v new.number) room;
    deleted = λ n free idle. numbers_of _
        (all-removed (numbered (d.lsn + 1)) (λ (v : Volume ℕ). v.number == n) d.volumes volumes_more) containers_more tasks_more (once_deleted n) room;
    changed = λ n g change. numbers_of _
        (volumes_changed n g change.number change.kind change.reverted) containers_more tasks_more (once_changed n g change.number) room;
    context = λ host endpoints is few. numbers_of _ volumes_more containers_more tasks_more once room;
    bound = λ host n is stands few. numbers_of _ volumes_more containers_more tasks_more once room;
    unbound = λ a. numbers_of _ volumes_more containers_more tasks_more once room;
    host_unbound = λ host. numbers_of _ volumes_more containers_more tasks_more once room;
    clone_starts = λ n v start. numbers_of (record (clone_started (λ s. s) 0 d n v) { lsn = d.lsn + 1 }) volumes_more containers_more
        (all_started (task_numbered (d.lsn + 1)) d.tasks tasks_more
        (record { number = d.lsn + 1; job = Clone n; state = Running; done = 0; total = allocated_count (map (λ s. s) v.chunks) })
        (and_both (is_logged (d.lsn + 1) (d.lsn + 1)) (is_logged (d.lsn + 1) n) (logged_next d.lsn)
        (logged_more d.lsn n (number_logged d kept n v start.found))))
        (once_cloned v) room;
    copy_starts = λ source base target ps stands few. numbers_of (record (copy_started d (Copy source base target) ps) { lsn = d.lsn + 1 }) volumes_more containers_more
        (all_started (task_numbered (d.lsn + 1)) d.tasks tasks_more
        (record { number = d.lsn + 1; job = Copy source base target; state = Running; done = 0; total = length ps })
        (and_both (is_logged (d.lsn + 1) (d.lsn + 1)) true (logged_next d.lsn) refl))
        once room;
    clone_turns = λ t k source c target turning job found long last. numbers_of (record (clone_goes_on d t k target) { lsn = d.lsn + 1 })
        volumes_more containers_more (numbers_advanced t k turning) (once_goes_on t.number target) room;
    clone_done = λ t k source c target turning job found long last. numbers_of (record (clone_ends d t k source c target) { lsn = d.lsn + 1 })
        (all-put (numbered (d.lsn + 1)) (λ (w : Volume ℕ). nat_lt c.number w.number) (cloned_volume c source target) d.volumes
        (and_both (is_logged (d.lsn + 1) c.number && is_logged (d.lsn + 1) source) (nat_le 0 (d.lsn + 1))
        (and_both (is_logged (d.lsn + 1) c.number) (is_logged (d.lsn + 1) source)
        (logged_more d.lsn c.number
        (all-found (λ (c : RunningClone ℕ). is_logged d.lsn c.number) (λ (b : RunningClone ℕ). b.number == t.number) c d.clones (clones_logged d kept) found))
        (logged_more d.lsn source (sym (ap (is_source_logged d.lsn) job) ∙ source_of t turning)))
        (le-leb 0 (d.lsn + 1) (omega arith))) volumes_more)
        containers_more (numbers_advanced t k turning) (once_moved t source c target found) room;
    copy_turns = λ t source base target turning job last. numbers_of (record (copy_goes_on d t) { lsn = d.lsn + 1 })
        volumes_more containers_more (numbers_advanced t (next_piece t) turning) once room;
    copy_done = λ t source base target c turning job found last. numbers_of (record (copy_ends d t target c) { lsn = d.lsn + 1 })
        (volumes_changed target (λ v. record v { chunks = pieces_put c.pieces v.chunks }) (λ v. refl) (λ v. refl) (λ v r. r))
        containers_more (numbers_advanced t (next_piece t) turning)
        (once_changed target (λ v. record v { chunks = pieces_put c.pieces v.chunks }) (λ v. refl)) room;
    cancels = λ n. numbers_of _ volumes_more containers_more
        (all-changed (task_numbered (d.lsn + 1)) (λ (t : Task). t.number == n) (λ t. record t { state = Cancelled }) d.tasks tasks_more
        (λ t at h. and_both (is_logged (d.lsn + 1) t.number) true (and_left (is_logged (d.lsn + 1) t.number) _ h) refl))
        (once_without n) room;
  }

-- Each change asks first whether the log has ended.
not_exhausted : (misfit : Option Misfit) (d : Durable ℕ) (c : Change) → judge misfit d c ≡ Accept → exhausted d ≡ None
unfolding room_checks
not_exhausted misfit d (MakeContainer quota offers) e = passed_room misfit d (MakeContainer quota offers) e 0
not_exhausted misfit d (MakeVolume k vtype chunks needs) e = passed_room misfit d (MakeVolume k vtype chunks needs) e 0
not_exhausted misfit d (DeleteVolume n) e = passed_room misfit d (DeleteVolume n) e 0
not_exhausted misfit d (GrowVolume n chunks) e = passed_room misfit d (GrowVolume n chunks) e 0
not_exhausted misfit d (SetMetadata n key text) e = passed_room misfit d (SetMetadata n key text) e 0
not_exhausted misfit d (Snapshot n) e = passed_room misfit d (Snapshot n) e 0
not_exhausted misfit d (FastClone n) e = passed_room misfit d (FastClone n) e 0
not_exhausted misfit d (Revert n snapshot) e = passed_room misfit d (Revert n snapshot) e 0
not_exhausted misfit d (Write n first blocks) e = passed_room misfit d (Write n first blocks) e 0
not_exhausted misfit d (Unmap n ranges) e = passed_room misfit d (Unmap n ranges) e 0
not_exhausted misfit d (SetEndpoints host endpoints) e = passed_room misfit d (SetEndpoints host endpoints) e 0
not_exhausted misfit d (Bind host n) e = passed_room misfit d (Bind host n) e 0
not_exhausted misfit d (Unbind host endpoint secondary) e = passed_room misfit d (Unbind host endpoint secondary) e 0
not_exhausted misfit d (UnbindAll host) e = passed_room misfit d (UnbindAll host) e 0
not_exhausted misfit d (StartClone n) e = passed_room misfit d (StartClone n) e 0
not_exhausted misfit d (StartCopy source base target) e = passed_room misfit d (StartCopy source base target) e 0
not_exhausted misfit d (Turn n) e = passed_room misfit d (Turn n) e 0
not_exhausted misfit d (Cancel n) e = passed_room misfit d (Cancel n) e 0

pub numbers_stay : (misfit : Option Misfit) → (d : Durable ℕ) → (change : Change) → keeps_shape_rules d ≡ true
    → has_its_fields change ≡ true → judge misfit d change ≡ Accept → numbers_rule (apply_shape d change) ≡ true
unfolding apply_shape apply
numbers_stay misfit d change rules fields accepted =
    let kept : Kept d = kept d rules in
    let room : d.lsn < last_lsn =
    below_limit last_lsn d.lsn (not_refused (nat_le last_lsn d.lsn) Exhausted (not_exhausted misfit d change accepted)) in
    by_steps d kept (λ e. numbers_rule (record e { lsn = d.lsn + 1 }) ≡ true) (number_steps d kept (omega (arith, room))) misfit _ change fields accepted

-- Names.

abbrev named : Durable ℕ → Volume ℕ → Bool
named e v = is_some (container_of e v.container) && is_of_no_snapshot e v.kind

abbrev target_stands : Durable ℕ → Task → Bool
target_stands e t = if_found (running_target t) (λ n. is_some (volume_of e n)) true

names_of : (e : Durable ℕ) → list_all (named e) e.volumes ≡ true
    → list_all (λ (c : RunningClone ℕ). is_some (container_of e c.container)) e.clones ≡ true
    → list_all (λ (b : Binding). is_some (volume_of e b.volume)) e.bindings ≡ true
    → list_all (target_stands e) e.tasks ≡ true → names_rule e ≡ true
unfolding names_rule
names_of e volumes clones bindings tasks = and_both _ _ (and_both _ _ (and_both _ _ volumes clones) bindings) tasks

-- What stood stands, and what was no snapshot is none, so far as what volumes were made of is asked.
record Carried (d e : Durable ℕ) : Type 0 where
  containers : (n : ℕ) → is_some (container_of d n) ≡ true → is_some (container_of e n) ≡ true
  snapshots : (n : ℕ) → is_logged d.lsn n ≡ true → is_snapshot d n ≡ false → is_snapshot e n ≡ false

kind_carried : (d e : Durable ℕ) → Carried d e → (kind : VolumeKind) → is_kind_logged d.lsn kind ≡ true
    → is_of_no_snapshot d kind ≡ true → is_of_no_snapshot e kind ≡ true
kind_carried d e carried Plain logged none = refl
kind_carried d e carried (SnapshotOf v) logged none = ap not (carried.snapshots v.0 logged (not-true (is_snapshot d v.0) none))
kind_carried d e carried (FastCloneOf v) logged none = refl
kind_carried d e carried (FullCloneOf v) logged none = refl

target_kept : (d e : Durable ℕ) → ((n : ℕ) → is_some (volume_of d n) ≡ true → is_some (volume_of e n) ≡ true) → (o : Option ℕ)
    → if_found o (λ n. is_some (volume_of d n)) true ≡ true → if_found o (λ n. is_some (volume_of e n)) true ≡ true
target_kept d e stands None h = refl
target_kept d e stands (Some n) h = stands n h

-- the target of a task that runs on, and of one that has ended
target_after : (stands : ℕ → Bool) (t : Task) (b : Bool) → is_running t ≡ true → if_found (running_target t) stands true ≡ true
    → if_found (cond b (job_target t.job) None) stands true ≡ true
target_after stands t true runs h = rw runs at h
target_after stands t false runs h = refl

module _ (d : Durable ℕ) (kept : Kept d) where
  named_volumes : list_all (named d) d.volumes ≡ true
  unfolding names_rule
  named_volumes = and_left _ _ (and_left _ _ (and_left _ _ kept.names))

  named_clones : list_all (λ (c : RunningClone ℕ). is_some (container_of d c.container)) d.clones ≡ true
  unfolding names_rule
  named_clones = and_right _ _ (and_left _ _ (and_left _ _ kept.names))

  named_bindings : list_all (λ (b : Binding). is_some (volume_of d b.volume)) d.bindings ≡ true
  unfolding names_rule
  named_bindings = and_right _ _ (and_left _ _ kept.names)

  named_tasks : list_all (target_stands d) d.tasks ≡ true
  unfolding names_rule
  named_tasks = and_right _ _ kept.names

  volumes_carried : (e : Durable ℕ) → Carried d e → list_all (named e) d.volumes ≡ true
  volumes_carried e carried =
      list_all-both (numbered d.lsn) (named d) (named e)
      (λ v n h. and_both (is_some (container_of e v.container)) (is_of_no_snapshot e v.kind)
      (carried.containers v.container (and_left (is_some (container_of d v.container)) (is_of_no_snapshot d v.kind) h))
      (kind_carried d e carried v.kind (and_right (is_logged d.lsn v.number) (is_kind_logged d.lsn v.kind) (and_left _ (nat_le v.reverted d.lsn) n))
      (and_right (is_some (container_of d v.container)) (is_of_no_snapshot d v.kind) h))) d.volumes (numbers_volumes d kept) named_volumes

  bindings_carried : (e : Durable ℕ) → ((n : ℕ) → is_some (volume_of d n) ≡ true → is_some (volume_of e n) ≡ true)
      → list_all (λ (b : Binding). is_some (volume_of e b.volume)) d.bindings ≡ true
  bindings_carried e stands =
      list_all-follows (λ (b : Binding). is_some (volume_of d b.volume)) (λ (b : Binding). is_some (volume_of e b.volume))
      (λ b h. stands b.volume h) d.bindings named_bindings

  tasks_carried : (e : Durable ℕ) → ((n : ℕ) → is_some (volume_of d n) ≡ true → is_some (volume_of e n) ≡ true)
      → list_all (target_stands e) d.tasks ≡ true
  tasks_carried e stands =
      list_all-follows (target_stands d) (target_stands e) (λ t h. target_kept d e stands (running_target t) h) d.tasks named_tasks

  tasks_advanced : (stands : ℕ → Bool) → list_all (λ (t : Task). if_found (running_target t) stands true) d.tasks ≡ true
      → (t : Task) (k : ℕ) → Turning d t
      → list_all (λ (t : Task). if_found (running_target t) stands true) (with_task d.tasks (advanced t k)) ≡ true
  tasks_advanced stands holds t k turning =
      all_advanced (λ (t : Task). if_found (running_target t) stands true) d.tasks holds t k turning.found
      (λ h. target_after stands t (is_running (advanced t k)) turning.runs h)

  -- one more container
  module _ (k : Container) where
    with_container : Durable ℕ
    with_container = record d { containers = put_before (λ (j : Container). nat_lt (d.lsn + 1) j.number) k d.containers }

    container_stands : (n : ℕ) → is_some (container_of d n) ≡ true → is_some (container_of with_container n) ≡ true
    unfolding with_container
    container_stands n e = found-put (λ (j : Container). j.number == n) (λ (j : Container). nat_lt (d.lsn + 1) j.number) k d.containers e

    container_carried : Carried d with_container
    unfolding with_container
    container_carried = record { containers = container_stands; snapshots = λ n logged e. e }

  -- a volume more, of a number that no volume has
  volume_stands : (v : Volume ℕ) (n : ℕ) → is_some (volume_of d n) ≡ true
      → is_some (find (λ (w : Volume ℕ). w.number == n) (put_before (λ (w : Volume ℕ). nat_lt v.number w.number) v d.volumes)) ≡ true
  volume_stands v n e = found-put (λ (w : Volume ℕ). w.number == n) (λ (w : Volume ℕ). nat_lt v.number w.number) v d.volumes e

  snapshot_other : (v : Volume ℕ) (n : ℕ) → (v.number == n) ≡ false → is_snapshot d n ≡ false
      → if_found (find (λ (w : Volume ℕ). w.number == n) (put_before (λ (w : Volume ℕ). nat_lt v.number w.number) v d.volumes)) (λ w. is_snapshot_kind w.kind) false ≡ false
  snapshot_other v n other e =
      ap (λ o. if_found o (λ (w : Volume ℕ). is_snapshot_kind w.kind) false)
      (find-put_other (λ (w : Volume ℕ). nat_lt v.number w.number) (λ (w : Volume ℕ). w.number == n) v d.volumes other)
      ∙ e

  added_carried : (v : Volume ℕ) → v.number ≡ d.lsn + 1 → Carried d (and_volume d v)
  added_carried v number = record {
    containers = λ n e. e;
    snapshots = λ n logged e. snapshot_other v n (ap (λ m. m == n) number ∙ logged_not_next d.lsn n logged) e;
  }

  -- a clone's volume is no snapshot
  moved_none : (t : Task) (source : ℕ) (c : RunningClone ℕ) (target : List ℕ) → clone_of d t.number ≡ Some c → (n : ℕ) → is_snapshot d n ≡ false
      → if_found (find (λ (w : Volume ℕ). w.number == n) (put_before (λ (w : Volume ℕ). nat_lt c.number w.number) (cloned_volume c source target) d.volumes)) (λ w. is_snapshot_kind w.kind) false ≡ false
  moved_none t source c target found n e = of_same (c.number == n) refl
    where
      of_same : (b : Bool) → (c.number == n) ≡ b
          → if_found (find (λ (w : Volume ℕ). w.number == n) (put_before (λ (w : Volume ℕ). nat_lt c.number w.number) (cloned_volume c source target) d.volumes)) (λ w. is_snapshot_kind w.kind) false ≡ false
      of_same true is =
          let same : c.number ≡ n = eqb-true c.number n is in
          let other : list_all (λ (v : Volume ℕ). not (v.number == n)) d.volumes ≡ true = rw same at (clone_number_apart d kept t c found) in
          ap (λ o. if_found o (λ (w : Volume ℕ). is_snapshot_kind w.kind) false)
          (find-put_new (λ (w : Volume ℕ). nat_lt c.number w.number) (λ (w : Volume ℕ). w.number == n) (cloned_volume c source target) d.volumes is other)
      of_same false is = snapshot_other (cloned_volume c source target) n is e

  -- a volume that is changed
  changed_stands : (n : ℕ) (g : Volume ℕ → Volume ℕ) → ((v : Volume ℕ) → (g v).number ≡ v.number) → (m : ℕ)
      → is_some (volume_of d m) ≡ true → is_some (find (λ (v : Volume ℕ). v.number == m) (first_changed (λ (v : Volume ℕ). v.number == n) g d.volumes)) ≡ true
  changed_stands n g number m e =
      find-changed (λ (v : Volume ℕ). v.number == n) (λ (v : Volume ℕ). v.number == m) is_some g d.volumes
      (λ v at. ap (λ k. k == m) (number v)) (λ v at is. refl)
      ∙ e

  changed_none : (n : ℕ) (g : Volume ℕ → Volume ℕ) → ((v : Volume ℕ) → (g v).number ≡ v.number) → ((v : Volume ℕ) → (g v).kind ≡ v.kind) → (m : ℕ)
      → is_snapshot d m ≡ false
      → if_found (find (λ (v : Volume ℕ). v.number == m) (first_changed (λ (v : Volume ℕ). v.number == n) g d.volumes)) (λ w. is_snapshot_kind w.kind) false ≡ false
  changed_none n g number kind m e =
      find-changed (λ (v : Volume ℕ). v.number == n) (λ (v : Volume ℕ). v.number == m) (λ o. if_found o (λ (w : Volume ℕ). is_snapshot_kind w.kind) false) g d.volumes
      (λ v at. ap (λ k. k == m) (number v)) (λ v at is. ap is_snapshot_kind (kind v))
      ∙ e

  named_changed : (e : Durable ℕ) → Carried d e → (n : ℕ) (g : Volume ℕ → Volume ℕ) → ((v : Volume ℕ) → (g v).container ≡ v.container)
      → ((v : Volume ℕ) → (g v).kind ≡ v.kind) → list_all (named e) (first_changed (λ (v : Volume ℕ). v.number == n) g d.volumes) ≡ true
  named_changed e carried n g container kind =
      all-changed (named e) (λ (v : Volume ℕ). v.number == n) g d.volumes (volumes_carried e carried)
      (λ v at h. rw (container v, kind v) h)

  -- a volume that is deleted
  deleted_stands : (n m : ℕ) → (m == n) ≡ false → is_some (volume_of d m) ≡ true
      → is_some (find (λ (v : Volume ℕ). v.number == m) (first_removed (λ (v : Volume ℕ). v.number == n) d.volumes)) ≡ true
  deleted_stands n m other e =
      ap is_some (find-removed_other (λ (v : Volume ℕ). v.number == n) (λ (v : Volume ℕ). v.number == m) (λ v is. apart v.number (eqb-true v.number n is)) d.volumes)
      ∙ e
    where
      apart : (k : ℕ) → k ≡ n → (k == m) ≡ false
      apart k is = ne_eqb k m (λ at. let f : (m == n) ≡ true = eq-eqb m n (sym at ∙ is) in cc)

  deleted_none : (n m : ℕ) → is_snapshot d m ≡ false
      → if_found (find (λ (v : Volume ℕ). v.number == m) (first_removed (λ (v : Volume ℕ). v.number == n) d.volumes)) (λ w. is_snapshot_kind w.kind) false ≡ false
  deleted_none n m e = of_same (n == m) refl
    where
      of_same : (b : Bool) → (n == m) ≡ b
          → if_found (find (λ (v : Volume ℕ). v.number == m) (first_removed (λ (v : Volume ℕ). v.number == n) d.volumes)) (λ w. is_snapshot_kind w.kind) false ≡ false
      of_same true is =
          let same : n ≡ m = eqb-true n m is in
          let none : list_all (λ (v : Volume ℕ). not (v.number == m)) (first_removed (λ (v : Volume ℕ). v.number == n) d.volumes) ≡ true =
          rw same (none-left (λ (v : Volume ℕ). v.number) m d.volumes (volumes_rise d kept)) in
          ap (λ o. if_found o (λ (w : Volume ℕ). is_snapshot_kind w.kind) false)
          (none-where_all (λ (v : Volume ℕ). v.number == m) (first_removed (λ (v : Volume ℕ). v.number == n) d.volumes) none)
      of_same false is =
          ap (λ o. if_found o (λ (w : Volume ℕ). is_snapshot_kind w.kind) false)
          (find-removed_other (λ (v : Volume ℕ). v.number == n) (λ (v : Volume ℕ). v.number == m)
          (λ v at. ap (λ k. k == m) (eqb-true v.number n at) ∙ is) d.volumes)
          ∙ e

  deleted_target : (n : ℕ) (o : Option ℕ) → not (if_found o (λ m. m == n) false) ≡ true → if_found o (λ m. is_some (volume_of d m)) true ≡ true
      → if_found o (λ m. is_some (find (λ (v : Volume ℕ). v.number == m) (first_removed (λ (v : Volume ℕ). v.number == n) d.volumes))) true ≡ true
  deleted_target n None idle h = refl
  deleted_target n (Some m) idle h = deleted_stands n m (not-true (m == n) idle) h

  -- bindings
  named_bound : (host n : ℕ) → is_some (volume_of d n) ≡ true
      → list_all (λ (b : Binding). is_some (volume_of d b.volume)) (with_binding d.contexts d.bindings host n) ≡ true
  unfolding with_binding
  named_bound host n stands = of_found (is_some (binding_of d.bindings host n))
    where
      of_found : (b : Bool)
          → list_all (λ (b : Binding). is_some (volume_of d b.volume))
          (cond b (first_changed (is_binding_of host n) (λ b. record b { count = b.count + 1 }) d.bindings)
          (put_before (λ (b : Binding). is_below (new_address d.contexts d.bindings host) b.address)
          (record { address = new_address d.contexts d.bindings host; volume = n; count = 1 }) d.bindings)) ≡ true
      of_found true =
          all-changed (λ (b : Binding). is_some (volume_of d b.volume)) (is_binding_of host n) (λ b. record b { count = b.count + 1 }) d.bindings named_bindings
          (λ b at h. h)
      of_found false =
          all-put (λ (b : Binding). is_some (volume_of d b.volume)) (λ (b : Binding). is_below (new_address d.contexts d.bindings host) b.address)
          (record { address = new_address d.contexts d.bindings host; volume = n; count = 1 }) d.bindings stands named_bindings

  named_unbound : (a : Address) → list_all (λ (b : Binding). is_some (volume_of d b.volume)) (without_binding d.bindings a) ≡ true
  unfolding without_binding
  named_unbound a = of_count (count_left d.bindings a == 0)
    where
      of_count : (b : Bool)
          → list_all (λ (b : Binding). is_some (volume_of d b.volume))
          (cond b (first_removed (λ (b : Binding). is_address b.address a) d.bindings)
          (first_changed (λ (b : Binding). is_address b.address a) (λ b. record b { count = b.count - 1 }) d.bindings)) ≡ true
      of_count true = all-removed (λ (b : Binding). is_some (volume_of d b.volume)) (λ (b : Binding). is_address b.address a) d.bindings named_bindings
      of_count false =
          all-changed (λ (b : Binding). is_some (volume_of d b.volume)) (λ (b : Binding). is_address b.address a) (λ b. record b { count = b.count - 1 })
          d.bindings named_bindings (λ b at h. h)

  name_steps : Steps d (λ e. names_rule e ≡ true)
  unfolding cancelled with_container
  name_steps = record {
    same = names_of d named_volumes named_clones named_bindings named_tasks;
    container = λ k number offers few. names_of (with_container k) (volumes_carried (with_container k) (container_carried k))
        (list_all-follows (λ (c : RunningClone ℕ). is_some (container_of d c.container)) (λ (c : RunningClone ℕ). is_some (container_of (with_container k) c.container))
        (λ c h. container_stands k c.container h) d.clones named_clones)
        named_bindings named_tasks;
    volume = λ v new. names_of (and_volume d v)
        (all-put (named (and_volume d v)) (λ (w : Volume ℕ). nat_lt v.number w.number) v d.volumes
        (and_both (is_some (container_of d v.container)) (is_of_no_snapshot (and_volume d v) v.kind) new.home
        (kind_carried d (and_volume d v) (added_carried v new.number) v.kind new.kind new.snapshot))
        (volumes_carried (and_volume d v) (added_carried v new.number)))
        named_clones (bindings_carried (and_volume d v) (volume_stands v)) (tasks_carried (and_volume d v) (volume_stands v));
    deleted = λ n free idle.
        let e : Durable ℕ = record d { volumes = first_removed (λ (v : Volume ℕ). v.number == n) d.volumes } in
        names_of e
        (all-removed (named e) (λ (v : Volume ℕ). v.number == n) d.volumes
        (volumes_carried e (record { containers = λ m h. h; snapshots = λ m logged h. deleted_none n m h })))
        named_clones
        (list_all-both (λ (b : Binding). not (b.volume == n)) (λ (b : Binding). is_some (volume_of d b.volume)) (λ (b : Binding). is_some (volume_of e b.volume))
        (λ b other h. deleted_stands n b.volume (not-true (b.volume == n) other) h) d.bindings
        (all-where_not_any (λ (b : Binding). b.volume == n) d.bindings free) named_bindings)
        (list_all-both (λ (t : Task). not (if_found (running_target t) (λ m. m == n) false)) (target_stands d) (target_stands e)
        (λ t other h. deleted_target n (running_target t) other h) d.tasks
        (all-where_not_any (λ (t : Task). if_found (running_target t) (λ m. m == n) false) d.tasks idle) named_tasks);
    changed = λ n g change. names_of (with_volume d n g)
        (named_changed (with_volume d n g)
        (record { containers = λ m h. h; snapshots = λ m logged h. changed_none n g change.number change.kind m h }) n g change.container change.kind)
        named_clones (bindings_carried (with_volume d n g) (changed_stands n g change.number)) (tasks_carried (with_volume d n g) (changed_stands n g change.number));
    context = λ host endpoints is few. names_of _ named_volumes named_clones named_bindings named_tasks;
    bound = λ host n is stands few. names_of _ named_volumes named_clones (named_bound host n stands) named_tasks;
    unbound = λ a. names_of _ named_volumes named_clones (named_unbound a) named_tasks;
    host_unbound = λ host. names_of _ named_volumes named_clones
        (all-filter (λ (b : Binding). is_some (volume_of d b.volume)) (λ b. not (is_of_host host b)) d.bindings named_bindings) named_tasks;
    clone_starts = λ n v start. names_of (clone_started (λ s. s) 0 d n v) named_volumes
        (all-put (λ (c : RunningClone ℕ). is_some (container_of d c.container)) (λ (c : RunningClone ℕ). nat_lt (d.lsn + 1) c.number)
        (clone_of_volume 0 (d.lsn + 1) v) d.clones (volume_named d kept n v start.found) named_clones)
        named_bindings
        (all_started (target_stands d) d.tasks named_tasks
        (record { number = d.lsn + 1; job = Clone n; state = Running; done = 0; total = allocated_count (map (λ s. s) v.chunks) }) refl);
    copy_starts = λ source base target ps stands few. names_of (copy_started d (Copy source base target) ps) named_volumes named_clones named_bindings
        (all_started (target_stands d) d.tasks named_tasks
        (record { number = d.lsn + 1; job = Copy source base target; state = Running; done = 0; total = length ps }) stands);
    clone_turns = λ t k source c target turning job found long last. names_of (clone_goes_on d t k target) named_volumes
        (all-changed (λ (c : RunningClone ℕ). is_some (container_of d c.container)) (λ (b : RunningClone ℕ). b.number == t.number)
        (λ b. record b { target = target }) d.clones named_clones (λ b at h. h))
        named_bindings (tasks_advanced (λ n. is_some (volume_of d n)) named_tasks t k turning);
    clone_done = λ t k source c target turning job found long last.
        let e : Durable ℕ = clone_ends d t k source c target in
        names_of e
        (all-put (named e) (λ (w : Volume ℕ). nat_lt c.number w.number) (cloned_volume c source target) d.volumes
        (and_both (is_some (container_of d c.container)) true
        (all-found (λ (c : RunningClone ℕ). is_some (container_of d c.container)) (λ (b : RunningClone ℕ). b.number == t.number) c d.clones named_clones found) refl)
        (volumes_carried e (record { containers = λ n h. h; snapshots = λ n logged h. moved_none t source c target found n h })))
        (all-removed (λ (c : RunningClone ℕ). is_some (container_of d c.container)) (λ (b : RunningClone ℕ). b.number == t.number) d.clones named_clones)
        (bindings_carried e (volume_stands (cloned_volume c source target)))
        (tasks_advanced (λ n. is_some (volume_of e n)) (tasks_carried e (volume_stands (cloned_volume c source target))) t k turning);
    copy_turns = λ t source base target turning job last. names_of (copy_goes_on d t) named_volumes named_clones named_bindings
        (tasks_advanced (λ n. is_some (volume_of d n)) named_tasks t (next_piece t) turning);
    copy_done = λ t source base target c turning job found last.
        let e : Durable ℕ = copy_ends d t target c in
        let g : Volume ℕ → Volume ℕ = λ v. record v { chunks = pieces_put c.pieces v.chunks } in
        names_of e
        (named_changed e (record { containers = λ m h. h; snapshots = λ m logged h. changed_none target g (λ v. refl) (λ v. refl) m h }) target g (λ v. refl) (λ v. refl))
        named_clones (bindings_carried e (changed_stands target g (λ v. refl)))
        (tasks_advanced (λ n. is_some (volume_of e n)) (tasks_carried e (changed_stands target g (λ v. refl))) t (next_piece t) turning);
    cancels = λ n. names_of _ named_volumes
        (all-removed (λ (c : RunningClone ℕ). is_some (container_of d c.container)) (λ (c : RunningClone ℕ). c.number == n) d.clones named_clones)
        named_bindings
        (all-changed (target_stands d) (λ (t : Task). t.number == n) (λ t. record t { state = Cancelled }) d.tasks named_tasks (λ t at h. refl));
  }

pub names_stay : (misfit : Option Misfit) → (d : Durable ℕ) → (change : Change) → keeps_shape_rules d ≡ true
    → has_its_fields change ≡ true → judge misfit d change ≡ Accept → names_rule (apply_shape d change) ≡ true
unfolding apply_shape apply names_rule
names_stay misfit d change rules fields accepted =
    let kept : Kept d = kept d rules in
    by_steps d kept (λ e. names_rule e ≡ true) (name_steps d kept) misfit _ change fields accepted
