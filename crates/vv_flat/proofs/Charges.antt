-- What each container is charged for stays within its quota, kind of change by kind of change. The law
-- charges_stay_within_quotas is the last lemma here.
use Rattle.std.proofs.Common.{◌≡◌, ◌≤◌, ℕ, zero, suc, ◌+◌, ◌-◌, ◌==◌, ◌&&◌, ◌||◌, not, refl, ap, sym, ◌∙◌, Bool, true, false, cond, List, [], ◌∷◌, ◌++◌, map, length, replicate, take, set, subst, arith, length-take}
use Rattle.std.specs.Prelude.{Option, Some, None, option_and_then, is_none, is_some, nat_lt, nat_le, sum_by, slice_index, min}
use Rattle.std.specs.List.{find, filter, list_all, list_any}
use Rattle.std.proofs.lemmas.List.Sums.{sum_by-cons, sum_by-append, count_by-le-length}
use Rattle.std.proofs.lemmas.List.Folds.{list_all-map, list_any-append}
use Rattle.std.proofs.lemmas.Bool.{not-true, ltb-false, leb-true, le-leb, eqb-true, eq-eqb, ne_eqb, or_left, or_right, or_parts}
use Rattle.std.proofs.lemmas.Slice.Eq.{bytes_eq-Decides}
use Rattle.vv_units.specs.Pairs.{after_set}
use Rattle.vv_units.specs.declared.field.Field.TheVariants.{Vvol as in_vvol}
use Rattle.vv_units.specs.declared.volume.TaskState.TheVariants.{Running, Cancelled}
use Rattle.vv_units.specs.declared.volume.VolumeKind.{VolumeKind}
use Rattle.vv_units.specs.declared.volume.VolumeKind.TheVariants.{Plain, SnapshotOf, FastCloneOf}
use Rattle.vv_flat.specs.Lists.{if_found, first_changed, put_before, first_removed, put_at, mapped_from, all_different, all_rising}
use Rattle.vv_flat.specs.State.{Container, Volume, Job, Clone, Copy, Task, RunningClone, Piece, RunningCopy, Durable, container_of, volume_of, task_of, clone_of, copy_of}
use Rattle.vv_flat.specs.Chunks.{touched_indexes, is_in_ranges, unmapped_in}
use Rattle.vv_flat.specs.Space.{charge, allocated_count, is_running, is_clone, job_target, running_target, allocating_pieces}
use Rattle.vv_flat.specs.Tasks.{is_busy, record_limit, with_room, started, with_task, advanced, is_last, next_piece, turn_indexes, cloned_volume, without_clone, without_copy, clone_goes_on, clone_ends, clone_turned, pieces_put, copy_goes_on, copy_ends, copy_turned, job_turned, turned, job_indexes, turned_indexes, task_cancelled, cancelled, clone_of_volume, clone_started, with_clone, difference, copy_started, with_copy}
use Rattle.vv_flat.specs.Profiles.{Misfit}
use Rattle.vv_flat.specs.Refusals.{Refusal, ResourceInUse, Accept, OverQuota, refuse_if, over_quota}
use Rattle.vv_flat.specs.Bindings.{is_bound}
use Rattle.vv_flat.specs.Form.{is_formed, running_clones, running_copies}
use Rattle.vv_flat.specs.Bits.{allocated_indexes}
use Rattle.vv_flat.specs.Rules.{charges_fit, running_targets, is_logged, numbers_rule, names_rule, clones_rule, copies_rule, is_clone_kept}
use Rattle.vv_flat.specs.Changes.{Change, MakeContainer, MakeVolume, DeleteVolume, GrowVolume, SetMetadata, Snapshot, FastClone, Revert, Write, Unmap, SetEndpoints, Bind, Unbind, UnbindAll, StartClone, StartCopy, Turn, Cancel, judge, state_checks, room_checks, effect, apply, apply_shape, changed_indexes, new_stamp, unmapped_count, with_volume, and_volume, home_of, stamps_of, allocated_of, where_positive}
use Rattle.vv_flat.proofs.Sums.{sum-put, sum-removed, sum-changed, sum-removed_found}
use Rattle.vv_flat.proofs.Verdicts.{passed_state, passed_room, not_refused}
use Rattle.vv_flat.proofs.Steps.{find-passes}
use Rattle.vv_flat.proofs.Shares.{and_left, and_right, and_both, list_all-follows, list_all-both}
use Rattle.vv_flat.proofs.Known.{all-put, all-removed, all-found}
use Rattle.vv_flat.proofs.MapLists.{map-same}
use Rattle.vv_flat.proofs.Pool.{allocated_long, turn_long, is_kept}
use Rattle.vv_flat.proofs.Lookups.{find-put_other, find-put_new, find-removed_other, find-kept, find-changed, none-found, each-found, none-left, rising-filter, comes_twice, any-found, all-filtered, sum-none, sum-below}

-- How many chunks are allocated in a list that is edited.

allocated-cons : (x : ℕ) (xs : List ℕ) → allocated_count (x ∷ xs) ≡ cond (not (x == 0)) 1 0 + allocated_count xs
allocated-cons x xs = sum_by-cons (λ s. cond (not (s == 0)) 1 0) x xs

allocated-replicate : (n : ℕ) → allocated_count (replicate n 0) ≡ 0
allocated-replicate zero = refl
allocated-replicate (suc n) =
    let c : allocated_count (0 ∷ replicate n 0) ≡ 0 + allocated_count (replicate n 0) = allocated-cons 0 (replicate n 0) in
    let h : allocated_count (replicate n 0) ≡ 0 = allocated-replicate n in
    omega (arith, c, h)

allocated-grown : (xs : List ℕ) (n : ℕ) → allocated_count (xs ++ replicate n 0) ≡ allocated_count xs
allocated-grown xs n =
    let a : allocated_count (xs ++ replicate n 0) ≡ allocated_count xs + allocated_count (replicate n 0) =
    sum_by-append (λ s. cond (not (s == 0)) 1 0) xs (replicate n 0) in
    let z : allocated_count (replicate n 0) ≡ 0 = allocated-replicate n in
    omega (arith, a, z)

unmapped_step : (x : ℕ) (xs ys : List ℕ) (b : Bool) → allocated_count ys ≤ allocated_count xs
    → allocated_count (cond b 0 x ∷ ys) ≤ allocated_count (x ∷ xs)
unmapped_step x xs ys true h =
    let c : allocated_count (0 ∷ ys) ≡ 0 + allocated_count ys = allocated-cons 0 ys in
    let e : allocated_count (x ∷ xs) ≡ cond (not (x == 0)) 1 0 + allocated_count xs = allocated-cons x xs in
    omega (arith, c, e, h)
unmapped_step x xs ys false h =
    let c : allocated_count (x ∷ ys) ≡ cond (not (x == 0)) 1 0 + allocated_count ys = allocated-cons x ys in
    let e : allocated_count (x ∷ xs) ≡ cond (not (x == 0)) 1 0 + allocated_count xs = allocated-cons x xs in
    omega (arith, c, e, h)

allocated-unmapped : (ranges : List (ℕ × ℕ)) (i : ℕ) (xs : List ℕ)
    → allocated_count (mapped_from (λ i x. cond (is_in_ranges ranges i && not (x == 0)) 0 x) i xs) ≤ allocated_count xs
allocated-unmapped ranges i [] = omega arith
allocated-unmapped ranges i (x ∷ xs) =
    unmapped_step x xs (mapped_from (λ i x. cond (is_in_ranges ranges i && not (x == 0)) 0 x) (i + 1) xs) (is_in_ranges ranges i && not (x == 0))
    (allocated-unmapped ranges (i + 1) xs)

-- How many chunks are allocated in one of two lists, up to the length of the second. Where the first is a list as it was
-- and the second is that list with chunks put in, one index that comes twice counts once.
abbrev either : List ℕ → List ℕ → ℕ
either [] ys = allocated_count ys
either (x ∷ xs) [] = 0
either (x ∷ xs) (y ∷ ys) = cond (not (y == 0) || not (x == 0)) 1 0 + either xs ys

one_of : (a b : Bool) → cond a 1 0 ≤ cond (a || b) 1 0
one_of true b = omega arith
one_of false true = omega arith
one_of false false = omega arith

twice_one : (a : Bool) → ◌≡◌ {A = ℕ} (cond (a || a) 1 0) (cond a 1 0)
twice_one true = refl
twice_one false = refl

allocated-either : (xs ys : List ℕ) → allocated_count ys ≤ either xs ys
allocated-either [] ys = omega arith
allocated-either (x ∷ xs) [] = omega arith
allocated-either (x ∷ xs) (y ∷ ys) =
    let c : allocated_count (y ∷ ys) ≡ cond (not (y == 0)) 1 0 + allocated_count ys = allocated-cons y ys in
    let o : cond (not (y == 0)) 1 0 ≤ cond (not (y == 0) || not (x == 0)) 1 0 = one_of (not (y == 0)) (not (x == 0)) in
    let h : allocated_count ys ≤ either xs ys = allocated-either xs ys in
    omega (arith, c, o, h)

either-same : (xs : List ℕ) → either xs xs ≡ allocated_count xs
either-same [] = refl
either-same (x ∷ xs) =
    let c : allocated_count (x ∷ xs) ≡ cond (not (x == 0)) 1 0 + allocated_count xs = allocated-cons x xs in
    let o : cond (not (x == 0) || not (x == 0)) 1 0 ≡ cond (not (x == 0)) 1 0 = twice_one (not (x == 0)) in
    let h : either xs xs ≡ allocated_count xs = either-same xs in
    omega (arith, c, o, h)

one_more : (a b z : Bool) → cond (a || not z) 1 0 ≤ cond (b || not z) 1 0 + cond (a && z) 1 0
one_more true true true = omega arith
one_more true true false = omega arith
one_more true false true = omega arith
one_more true false false = omega arith
one_more false true true = omega arith
one_more false true false = omega arith
one_more false false true = omega arith
one_more false false false = omega arith

both_true : (a : Bool) → ◌≡◌ {A = ℕ} (cond a 1 0) (cond (a && true) 1 0)
both_true true = refl
both_true false = refl

-- one chunk put in counts only where it is allocated and the first list has none there
either-set : (xs ys : List ℕ) (i s : ℕ) → either xs (set ys i s) ≤ either xs ys + cond (not (s == 0) && (slice_index xs i == 0)) 1 0
either-set [] [] i s = omega arith
either-set [] (y ∷ ys) zero s =
    let c : allocated_count (s ∷ ys) ≡ cond (not (s == 0)) 1 0 + allocated_count ys = allocated-cons s ys in
    let e : allocated_count (y ∷ ys) ≡ cond (not (y == 0)) 1 0 + allocated_count ys = allocated-cons y ys in
    let b : cond (not (s == 0)) 1 0 ≡ cond (not (s == 0) && true) 1 0 = both_true (not (s == 0)) in
    omega (arith, c, e, b)
either-set [] (y ∷ ys) (suc i) s =
    let c : allocated_count (y ∷ set ys i s) ≡ cond (not (y == 0)) 1 0 + allocated_count (set ys i s) = allocated-cons y (set ys i s) in
    let e : allocated_count (y ∷ ys) ≡ cond (not (y == 0)) 1 0 + allocated_count ys = allocated-cons y ys in
    let h : allocated_count (set ys i s) ≤ allocated_count ys + cond (not (s == 0) && true) 1 0 = either-set [] ys i s in
    omega (arith, c, e, h)
either-set (x ∷ xs) [] i s = omega arith
either-set (x ∷ xs) (y ∷ ys) zero s =
    let o : cond (not (s == 0) || not (x == 0)) 1 0 ≤ cond (not (y == 0) || not (x == 0)) 1 0 + cond (not (s == 0) && (x == 0)) 1 0 =
    one_more (not (s == 0)) (not (y == 0)) (x == 0) in
    omega (arith, o)
either-set (x ∷ xs) (y ∷ ys) (suc i) s =
    let h : either xs (set ys i s) ≤ either xs ys + cond (not (s == 0) && (slice_index xs i == 0)) 1 0 = either-set xs ys i s in
    omega (arith, h)

either-pieces : (xs : List ℕ) (ps : List (Piece ℕ)) (ys : List ℕ)
    → either xs (put_at (map (λ (p : Piece ℕ). p.index) ps) (map (λ (p : Piece ℕ). p.chunk) ps) ys) ≤ either xs ys + allocating_pieces xs ps
either-pieces xs [] ys = omega arith
either-pieces xs (p ∷ ps) ys =
    let c : allocating_pieces xs (p ∷ ps) ≡ cond (not (p.chunk == 0) && (slice_index xs p.index == 0)) 1 0 + allocating_pieces xs ps =
    sum_by-cons (λ (p : Piece ℕ). cond (not (p.chunk == 0) && (slice_index xs p.index == 0)) 1 0) p ps in
    let s : either xs (set ys p.index p.chunk) ≤ either xs ys + cond (not (p.chunk == 0) && (slice_index xs p.index == 0)) 1 0 =
    either-set xs ys p.index p.chunk in
    let h = either-pieces xs ps (set ys p.index p.chunk) in
    omega (arith, c, s, h)

-- pieces that are put in
allocated-pieces : (ps : List (Piece ℕ)) (xs : List ℕ)
    → allocated_count (put_at (map (λ (p : Piece ℕ). p.index) ps) (map (λ (p : Piece ℕ). p.chunk) ps) xs) ≤ allocated_count xs + allocating_pieces xs ps
allocated-pieces ps xs =
    let p = either-pieces xs ps xs in
    let a = allocated-either xs (put_at (map (λ (p : Piece ℕ). p.index) ps) (map (λ (p : Piece ℕ). p.chunk) ps) xs) in
    let s : either xs xs ≡ allocated_count xs = either-same xs in
    omega (arith, p, a, s)

at_most_one : (a b : Bool) → cond (a && b) 1 0 ≤ cond b 1 0
at_most_one true b = omega arith
at_most_one false true = omega arith
at_most_one false false = omega arith

either-put : (xs is : List ℕ) (s : ℕ) (ys : List ℕ) → either xs (put_at is (map (λ _. s) is) ys) ≤ either xs ys + unmapped_count xs is
either-put xs [] s ys = omega arith
either-put xs (i ∷ is) s ys =
    let c : unmapped_count xs (i ∷ is) ≡ cond (slice_index xs i == 0) 1 0 + unmapped_count xs is =
    sum_by-cons (λ i. cond (slice_index xs i == 0) 1 0) i is in
    let p : either xs (set ys i s) ≤ either xs ys + cond (not (s == 0) && (slice_index xs i == 0)) 1 0 = either-set xs ys i s in
    let m : cond (not (s == 0) && (slice_index xs i == 0)) 1 0 ≤ cond (slice_index xs i == 0) 1 0 =
    at_most_one (not (s == 0)) (slice_index xs i == 0) in
    let h : either xs (put_at is (map (λ _. s) is) (set ys i s)) ≤ either xs (set ys i s) + unmapped_count xs is =
    either-put xs is s (set ys i s) in
    omega (arith, c, p, m, h)

-- one stamp at some indexes
allocated-put : (is : List ℕ) (s : ℕ) (xs : List ℕ) → allocated_count (put_at is (map (λ _. s) is) xs) ≤ allocated_count xs + unmapped_count xs is
allocated-put is s xs =
    let p : either xs (put_at is (map (λ _. s) is) xs) ≤ either xs xs + unmapped_count xs is = either-put xs is s xs in
    let a : allocated_count (put_at is (map (λ _. s) is) xs) ≤ either xs (put_at is (map (λ _. s) is) xs) =
    allocated-either xs (put_at is (map (λ _. s) is) xs) in
    let e : either xs xs ≡ allocated_count xs = either-same xs in
    omega (arith, p, a, e)

allocated-put_most : (is : List ℕ) (s : ℕ) (xs : List ℕ) → allocated_count (put_at is (map (λ _. s) is) xs) ≤ allocated_count xs + length is
allocated-put_most is s xs =
    let p : allocated_count (put_at is (map (λ _. s) is) xs) ≤ allocated_count xs + unmapped_count [] is = either-put [] is s xs in
    let l : unmapped_count [] is ≤ length is = count_by-le-length (λ i. slice_index [] i == 0) is in
    omega (arith, p, l)

-- The three parts of a charge, item by item.

abbrev in_volume : ℕ → Volume ℕ → ℕ
in_volume k v = cond (v.container == k) (allocated_count v.chunks) 0

abbrev in_clone : ℕ → RunningClone ℕ → ℕ
in_clone k c = cond (c.container == k) (allocated_count c.image) 0

abbrev in_target : ℕ → List (Piece ℕ) → Volume ℕ → ℕ
in_target k ps v = cond (v.container == k) (allocating_pieces v.chunks ps) 0

-- what the task of a number is to change
abbrev aim_of : List Task → ℕ → Option ℕ
aim_of tasks m = option_and_then (λ (t : Task). job_target t.job) (find (λ (t : Task). t.number == m) tasks)

abbrev in_aim : List (Volume ℕ) → ℕ → List (Piece ℕ) → Option ℕ → ℕ
in_aim volumes k ps o = if_found (option_and_then (λ (n : ℕ). find (λ (v : Volume ℕ). v.number == n) volumes) o) (in_target k ps) 0

abbrev in_copy : List Task → List (Volume ℕ) → ℕ → RunningCopy ℕ → ℕ
in_copy tasks volumes k c = in_aim volumes k c.pieces (aim_of tasks c.number)

-- The task of a running copy runs, and its target stands.
abbrev pub is_aimed : Durable ℕ → RunningCopy ℕ → Bool
is_aimed d c =
    if_found (task_of d c.number)
    (λ (t : Task). is_running t && if_found (job_target t.job) (λ (n : ℕ). is_some (volume_of d n)) false) false

pub record Aimed (d : Durable ℕ) (c : RunningCopy ℕ) : Type 0 where
  pub task : Task
  pub number : ℕ
  pub volume : Volume ℕ
  pub is_task : task_of d c.number ≡ Some task
  pub runs : is_running task ≡ true
  pub aims : job_target task.job ≡ Some number
  pub stands : volume_of d number ≡ Some volume

pub aimed : (d : Durable ℕ) (c : RunningCopy ℕ) → is_aimed d c ≡ true → Aimed d c
aimed d c e = of_task (task_of d c.number) refl e
  where
    of_volume : (t : Task) (n : ℕ) → task_of d c.number ≡ Some t → is_running t ≡ true → job_target t.job ≡ Some n
        → (o : Option (Volume ℕ)) → volume_of d n ≡ o → is_some o ≡ true → Aimed d c
    of_volume t n found runs aims None at f = cc
    of_volume t n found runs aims (Some v) at f =
        record { task = t; number = n; volume = v; is_task = found; runs = runs; aims = aims; stands = at }

    of_job : (t : Task) → task_of d c.number ≡ Some t → is_running t ≡ true → (o : Option ℕ) → job_target t.job ≡ o
        → if_found o (λ (n : ℕ). is_some (volume_of d n)) false ≡ true → Aimed d c
    of_job t found runs None at f = cc
    of_job t found runs (Some n) at f = of_volume t n found runs at (volume_of d n) refl f

    of_task : (o : Option Task) → task_of d c.number ≡ o
        → if_found o (λ (t : Task). is_running t && if_found (job_target t.job) (λ (n : ℕ). is_some (volume_of d n)) false) false ≡ true → Aimed d c
    of_task None at f = cc
    of_task (Some t) at f =
        of_job t at (and_left (is_running t) _ f) (job_target t.job) refl (and_right (is_running t) _ f)

-- What the form and the rules say of an array, as it is used here. The next log number is that of no volume and no task,
-- and nothing is in a container of that number; no clone has a volume's number; each running copy has a target, and no two
-- running tasks have the same one.
pub record Ordered (d : Durable ℕ) : Type 0 where
  pub containers : all_rising (map (λ (k : Container). k.number) d.containers) ≡ true
  pub volumes : list_all (λ (v : Volume ℕ). not (v.number == d.lsn + 1)) d.volumes ≡ true
  pub tasks : list_all (λ (t : Task). not (t.number == d.lsn + 1)) d.tasks ≡ true
  pub homes : list_all (λ (v : Volume ℕ). not (v.container == d.lsn + 1)) d.volumes ≡ true
  pub clone_homes : list_all (λ (c : RunningClone ℕ). not (c.container == d.lsn + 1)) d.clones ≡ true
  pub apart : list_all (λ (c : RunningClone ℕ). is_none (volume_of d c.number)) d.clones ≡ true
  pub copies : all_rising (map (λ (c : RunningCopy ℕ). c.number) d.copies) ≡ true
  pub aimed : list_all (is_aimed d) d.copies ≡ true
  pub targets : all_different (running_targets d.tasks) ≡ true

-- The one container that is asked is charged for so much more at most, and all others for no more.
abbrev Within : Durable ℕ → Durable ℕ → ℕ → ℕ → Type 0
Within d e home asked = (k : ℕ) → charge e k ≤ charge d k + cond (home == k) asked 0

no_more : (b : Bool) → cond b 0 0 ≤ 0
no_more true = omega arith
no_more false = omega arith

-- the quotas hold what they held
still_fits : (d e : Durable ℕ) (home : ℕ) → charges_fit d ≡ true → Within d e home 0
    → list_all (λ (k : Container). nat_le (charge e k.number) k.quota) d.containers ≡ true
still_fits d e home fits more =
    list_all-follows (λ (k : Container). nat_le (charge d k.number) k.quota) (λ (k : Container). nat_le (charge e k.number) k.quota)
    (λ k fit. let m : charge e k.number ≤ charge d k.number + cond (home == k.number) 0 0 = more k.number in
    let z : cond (home == k.number) 0 0 ≤ 0 = no_more (home == k.number) in
    let f : charge d k.number ≤ k.quota = leb-true (charge d k.number) k.quota fit in
    le-leb (charge e k.number) k.quota (omega (arith, m, z, f))) d.containers fits

within_quota : (d : Durable ℕ) (home asked : ℕ) (k : Container) → over_quota d home asked ≡ None → container_of d home ≡ Some k
    → charge d home + asked ≤ k.quota
within_quota d home asked k passed found =
    let e : refuse_if (nat_lt k.quota (charge d home + asked)) (OverQuota (charge d home) asked k.quota) ≡ None =
    sym (ap (λ o. if_found o (λ (c : Container). refuse_if (nat_lt c.quota (charge d home + asked)) (OverQuota (charge d home) asked c.quota)) None) found) ∙ passed in
    ltb-false k.quota (charge d home + asked) (not_refused (nat_lt k.quota (charge d home + asked)) (OverQuota (charge d home) asked k.quota) e)

-- and the one quota that was asked holds what was asked for too
asked_fits : (d e : Durable ℕ) (home asked : ℕ) → Ordered d → charges_fit d ≡ true → over_quota d home asked ≡ None → Within d e home asked
    → list_all (λ (k : Container). nat_le (charge e k.number) k.quota) d.containers ≡ true
asked_fits d e home asked ordered fits passed more =
    each-found (λ (k : Container). k.number) (λ (k : Container). nat_le (charge e k.number) k.quota) d.containers ordered.containers
    (λ k found. let fit : charge d k.number ≤ k.quota =
    leb-true (charge d k.number) k.quota
    (all-found (λ (k : Container). nat_le (charge d k.number) k.quota) (λ (j : Container). j.number == k.number) k d.containers fits found) in
    le-leb (charge e k.number) k.quota (held k (home == k.number) found refl fit (more k.number)))
  where
    held : (k : Container) (b : Bool) → container_of d k.number ≡ Some k → (home == k.number) ≡ b → charge d k.number ≤ k.quota
        → charge e k.number ≤ charge d k.number + cond b asked 0 → charge e k.number ≤ k.quota
    held k false found is fit m = omega (arith, fit, m)
    held k true found is fit m =
        let same : home ≡ k.number = eqb-true home k.number is in
        let at : container_of d home ≡ Some k = ap (λ j. container_of d j) same ∙ found in
        let q : charge d home + asked ≤ k.quota = within_quota d home asked k passed at in
        let c : charge d home ≡ charge d k.number = ap (charge d) same in
        omega (arith, m, q, c)

-- what a running copy adds, where its target is found
aim_found : (tasks : List Task) (volumes : List (Volume ℕ)) (k : ℕ) (c : RunningCopy ℕ) (n : ℕ) → aim_of tasks c.number ≡ Some n
    → in_copy tasks volumes k c ≡ if_found (find (λ (v : Volume ℕ). v.number == n) volumes) (in_target k c.pieces) 0
aim_found tasks volumes k c n e = ap (in_aim volumes k c.pieces) e

module _ (d : Durable ℕ) where
  aim_is : (c : RunningCopy ℕ) (a : Aimed d c) → aim_of d.tasks c.number ≡ Some a.number
  aim_is c a = ap (option_and_then (λ (t : Task). job_target t.job)) a.is_task ∙ a.aims

  in_copy_is : (k : ℕ) (c : RunningCopy ℕ) (a : Aimed d c) → in_copy d.tasks d.volumes k c ≡ in_target k c.pieces a.volume
  in_copy_is k c a =
      aim_found d.tasks d.volumes k c a.number (aim_is c a)
      ∙ ap (λ o. if_found o (in_target k c.pieces) 0) a.stands

  -- A running copy adds no more, where its task still has the target and the target's chunks stay.
  copy_below : (tasks : List Task) (volumes : List (Volume ℕ)) (k : ℕ) (c : RunningCopy ℕ) (a : Aimed d c)
      → aim_of tasks c.number ≡ Some a.number
      → if_found (find (λ (v : Volume ℕ). v.number == a.number) volumes) (in_target k c.pieces) 0 ≡ in_target k c.pieces a.volume
      → in_copy tasks volumes k c ≤ in_copy d.tasks d.volumes k c
  copy_below tasks volumes k c a aim same =
      let n : in_copy tasks volumes k c ≡ in_target k c.pieces a.volume = aim_found tasks volumes k c a.number aim ∙ same in
      let o : in_copy d.tasks d.volumes k c ≡ in_target k c.pieces a.volume = in_copy_is k c a in
      omega (arith, n, o)

  copies_below : (tasks : List Task) (volumes : List (Volume ℕ)) (k : ℕ) → Ordered d
      → ((c : RunningCopy ℕ) (a : Aimed d c) → aim_of tasks c.number ≡ Some a.number)
      → ((c : RunningCopy ℕ) (a : Aimed d c)
      → if_found (find (λ (v : Volume ℕ). v.number == a.number) volumes) (in_target k c.pieces) 0 ≡ in_target k c.pieces a.volume)
      → sum_by (in_copy tasks volumes k) d.copies ≤ sum_by (in_copy d.tasks d.volumes k) d.copies
  copies_below tasks volumes k ordered aim same =
      sum-below (is_aimed d) (in_copy tasks volumes k) (in_copy d.tasks d.volumes k)
      (λ c e. let a : Aimed d c = aimed d c e in copy_below tasks volumes k c a (aim c a) (same c a)) d.copies ordered.aimed

  -- The next log number is no target's and no running copy's.
  pub other_number : Ordered d → (c : RunningCopy ℕ) (a : Aimed d c) → (d.lsn + 1 == a.number) ≡ false
  other_number ordered c a =
      let is : a.volume.number ≡ a.number =
      eqb-true a.volume.number a.number (find-passes (λ (v : Volume ℕ). v.number == a.number) d.volumes a.volume a.stands) in
      let other : (a.volume.number == d.lsn + 1) ≡ false =
      not-true (a.volume.number == d.lsn + 1)
      (all-found (λ (v : Volume ℕ). not (v.number == d.lsn + 1)) (λ (v : Volume ℕ). v.number == a.number) a.volume d.volumes ordered.volumes a.stands) in
      ne_eqb (d.lsn + 1) a.number (λ e. let f : (a.volume.number == d.lsn + 1) ≡ true = eq-eqb a.volume.number (d.lsn + 1) (is ∙ sym e) in cc)

  other_task : Ordered d → (c : RunningCopy ℕ) (a : Aimed d c) → (d.lsn + 1 == c.number) ≡ false
  other_task ordered c a =
      let is : a.task.number ≡ c.number =
      eqb-true a.task.number c.number (find-passes (λ (t : Task). t.number == c.number) d.tasks a.task a.is_task) in
      let other : (a.task.number == d.lsn + 1) ≡ false =
      not-true (a.task.number == d.lsn + 1)
      (all-found (λ (t : Task). not (t.number == d.lsn + 1)) (λ (t : Task). t.number == c.number) a.task d.tasks ordered.tasks a.is_task) in
      ne_eqb (d.lsn + 1) c.number (λ e. let f : (a.task.number == d.lsn + 1) ≡ true = eq-eqb a.task.number (d.lsn + 1) (is ∙ sym e) in cc)

  target_of : (c : RunningCopy ℕ) (a : Aimed d c) → running_target a.task ≡ Some a.number
  target_of c a = ap (λ b. cond b (job_target a.task.job) None) a.runs ∙ a.aims

  -- What isn't busy is no target.
  pub unbusy : (n : ℕ) → is_busy d n ≡ false → (c : RunningCopy ℕ) (a : Aimed d c) → (a.number == n) ≡ false
  unbusy n free c a =
      let f : if_found (running_target a.task) (λ m. m == n) false ≡ false =
      none-found (λ (t : Task). t.number == c.number) (λ (t : Task). if_found (running_target t) (λ m. m == n) false) a.task d.tasks free a.is_task in
      sym (ap (λ o. if_found o (λ m. m == n) false) (target_of c a)) ∙ f

  -- A container that no volume and no clone is in is charged for nothing.
  uncharged : Ordered d → charge d (d.lsn + 1) ≡ 0
  unfolding charge
  uncharged ordered =
      let v : sum_by (in_volume (d.lsn + 1)) d.volumes ≡ 0 =
      sum-none (λ (v : Volume ℕ). not (v.container == d.lsn + 1)) (in_volume (d.lsn + 1))
      (λ v e. ap (λ b. cond b (allocated_count v.chunks) 0) (not-true (v.container == d.lsn + 1) e)) d.volumes ordered.homes in
      let c : sum_by (in_clone (d.lsn + 1)) d.clones ≡ 0 =
      sum-none (λ (c : RunningClone ℕ). not (c.container == d.lsn + 1)) (in_clone (d.lsn + 1))
      (λ c e. ap (λ b. cond b (allocated_count c.image) 0) (not-true (c.container == d.lsn + 1) e)) d.clones ordered.clone_homes in
      let p : sum_by (in_copy d.tasks d.volumes (d.lsn + 1)) d.copies ≡ 0 =
      sum-none (is_aimed d) (in_copy d.tasks d.volumes (d.lsn + 1))
      (λ c e. let a : Aimed d c = aimed d c e in
      in_copy_is (d.lsn + 1) c a
      ∙ ap (λ b. cond b (allocating_pieces a.volume.chunks c.pieces) 0)
      (not-true (a.volume.container == d.lsn + 1)
      (all-found (λ (v : Volume ℕ). not (v.container == d.lsn + 1)) (λ (v : Volume ℕ). v.number == a.number) a.volume d.volumes ordered.homes a.stands)))
      d.copies ordered.aimed in
      omega (arith, v, c, p)

  container_added : Ordered d → charges_fit d ≡ true → (j : Container) → j.number ≡ d.lsn + 1
      → charges_fit (record d { containers = put_before (λ (i : Container). nat_lt j.number i.number) j d.containers }) ≡ true
  unfolding charge
  container_added ordered fits j number =
      let z : charge d j.number ≡ 0 = ap (charge d) number ∙ uncharged ordered in
      all-put (λ (i : Container). nat_le (charge d i.number) i.quota) (λ (i : Container). nat_lt j.number i.number) j d.containers
      (le-leb (charge d j.number) j.quota (omega (arith, z))) fits

  -- one more volume
  volume_added : Ordered d → (v : Volume ℕ) → v.number ≡ d.lsn + 1 → Within d (and_volume d v) v.container (allocated_count v.chunks)
  unfolding charge
  volume_added ordered v number k =
      let s : sum_by (in_volume k) (put_before (λ (w : Volume ℕ). nat_lt v.number w.number) v d.volumes) ≡ in_volume k v + sum_by (in_volume k) d.volumes =
      sum-put (in_volume k) (λ (w : Volume ℕ). nat_lt v.number w.number) v d.volumes in
      let p : sum_by (in_copy d.tasks (put_before (λ (w : Volume ℕ). nat_lt v.number w.number) v d.volumes) k) d.copies ≤ sum_by (in_copy d.tasks d.volumes k) d.copies =
      copies_below d.tasks (put_before (λ (w : Volume ℕ). nat_lt v.number w.number) v d.volumes) k ordered aim_is
      (λ c a. ap (λ o. if_found o (in_target k c.pieces) 0)
      (find-put_other (λ (w : Volume ℕ). nat_lt v.number w.number) (λ (w : Volume ℕ). w.number == a.number) v d.volumes
      (ap (λ m. m == a.number) number ∙ other_number ordered c a)
      ∙ a.stands)) in
      omega (arith, s, p)

  -- a change of a volume that isn't busy
  volume_changed : Ordered d → (n : ℕ) (g : Volume ℕ → Volume ℕ) → is_busy d n ≡ false → ((v : Volume ℕ) → (g v).number ≡ v.number)
      → (home asked : ℕ)
      → ((v : Volume ℕ) → volume_of d n ≡ Some v → (k : ℕ) → in_volume k (g v) ≤ in_volume k v + cond (home == k) asked 0)
      → Within d (with_volume d n g) home asked
  unfolding charge
  volume_changed ordered n g free same home asked more k =
      let s : sum_by (in_volume k) (first_changed (λ (v : Volume ℕ). v.number == n) g d.volumes) ≤ sum_by (in_volume k) d.volumes + cond (home == k) asked 0 =
      sum-changed (in_volume k) (λ (v : Volume ℕ). v.number == n) g (cond (home == k) asked 0) d.volumes (λ v found. more v found k) in
      let p : sum_by (in_copy d.tasks (first_changed (λ (v : Volume ℕ). v.number == n) g d.volumes) k) d.copies ≤ sum_by (in_copy d.tasks d.volumes k) d.copies =
      copies_below d.tasks (first_changed (λ (v : Volume ℕ). v.number == n) g d.volumes) k ordered aim_is
      (λ c a. ap (λ o. if_found o (in_target k c.pieces) 0)
      (find-changed (λ (v : Volume ℕ). v.number == n) (λ (v : Volume ℕ). v.number == a.number) (λ o. o) g d.volumes
      (λ v found. ap (λ m. m == a.number) (same v))
      (λ v found at. other v c a (eqb-true v.number n (find-passes (λ (w : Volume ℕ). w.number == n) d.volumes v found)) at)
      ∙ a.stands)) in
      omega (arith, s, p)
    where
      other : (v : Volume ℕ) (c : RunningCopy ℕ) (a : Aimed d c) → v.number ≡ n → (v.number == a.number) ≡ true → Some (g v) ≡ Some v
      other v c a is at =
          let f : (a.number == n) ≡ true = eq-eqb a.number n (sym (eqb-true v.number a.number at) ∙ is) in
          let u : (a.number == n) ≡ false = unbusy n free c a in cc

  -- a change of a volume that keeps its chunks
  volume_kept : Ordered d → (n : ℕ) (g : Volume ℕ → Volume ℕ) → ((v : Volume ℕ) → (g v).number ≡ v.number)
      → ((v : Volume ℕ) → (g v).container ≡ v.container) → ((v : Volume ℕ) → (g v).chunks ≡ v.chunks) → (home : ℕ)
      → Within d (with_volume d n g) home 0
  unfolding charge
  volume_kept ordered n g number container chunks home k =
      let s : sum_by (in_volume k) (first_changed (λ (v : Volume ℕ). v.number == n) g d.volumes) ≤ sum_by (in_volume k) d.volumes + 0 =
      sum-changed (in_volume k) (λ (v : Volume ℕ). v.number == n) g 0 d.volumes
      (λ v found. let z : in_volume k (g v) ≡ in_volume k v =
      ap (λ m. cond (m == k) (allocated_count (g v).chunks) 0) (container v)
      ∙ ap (λ xs. cond (v.container == k) (allocated_count xs) 0) (chunks v) in
      omega (arith, z)) in
      let p : sum_by (in_copy d.tasks (first_changed (λ (v : Volume ℕ). v.number == n) g d.volumes) k) d.copies ≤ sum_by (in_copy d.tasks d.volumes k) d.copies =
      copies_below d.tasks (first_changed (λ (v : Volume ℕ). v.number == n) g d.volumes) k ordered aim_is
      (λ c a. find-changed (λ (v : Volume ℕ). v.number == n) (λ (v : Volume ℕ). v.number == a.number) (λ o. if_found o (in_target k c.pieces) 0) g d.volumes
      (λ v found. ap (λ m. m == a.number) (number v))
      (λ v found at. ap (λ m. cond (m == k) (allocating_pieces (g v).chunks c.pieces) 0) (container v)
      ∙ ap (λ xs. cond (v.container == k) (allocating_pieces xs c.pieces) 0) (chunks v))
      ∙ ap (λ o. if_found o (in_target k c.pieces) 0) a.stands) in
      omega (arith, s, p)

  volume_deleted : Ordered d → (n : ℕ) → is_busy d n ≡ false → (home : ℕ)
      → Within d (record d { volumes = first_removed (λ (v : Volume ℕ). v.number == n) d.volumes }) home 0
  unfolding charge
  volume_deleted ordered n free home k =
      let s : sum_by (in_volume k) (first_removed (λ (v : Volume ℕ). v.number == n) d.volumes) ≤ sum_by (in_volume k) d.volumes =
      sum-removed (in_volume k) (λ (v : Volume ℕ). v.number == n) d.volumes in
      let p : sum_by (in_copy d.tasks (first_removed (λ (v : Volume ℕ). v.number == n) d.volumes) k) d.copies ≤ sum_by (in_copy d.tasks d.volumes k) d.copies =
      copies_below d.tasks (first_removed (λ (v : Volume ℕ). v.number == n) d.volumes) k ordered aim_is
      (λ c a. ap (λ o. if_found o (in_target k c.pieces) 0)
      (find-removed_other (λ (v : Volume ℕ). v.number == n) (λ (v : Volume ℕ). v.number == a.number)
      (λ v is. let u : (a.number == n) ≡ false = unbusy n free c a in
      let e : v.number ≡ n = eqb-true v.number n is in
      ne_eqb v.number a.number (λ at. let f : (a.number == n) ≡ true = eq-eqb a.number n (sym at ∙ e) in cc)) d.volumes
      ∙ a.stands)) in
      omega (arith, s, p)

-- The target of a running task is among the targets.
target_step : (q : Task → Bool) (t : Task) (m : ℕ) → running_target t ≡ Some m → (x : Task) (xs : List Task) (b : Bool)
    → cond b (Some x) (find q xs) ≡ Some t → (o : Option ℕ) → running_target x ≡ o
    → (find q xs ≡ Some t → list_any (λ z. z == m) (running_targets xs) ≡ true)
    → list_any (λ z. z == m) (if_found o (λ n. n ∷ running_targets xs) (running_targets xs)) ≡ true
target_step q t m aims x xs true e None is there =
    let same : x ≡ t = cc in
    let f : running_target t ≡ None = rw same at is in cc
target_step q t m aims x xs true e (Some n) is there =
    let same : x ≡ t = cc in
    let f : running_target t ≡ Some n = rw same at is in
    let g : n ≡ m = cc in
    or_left (n == m) _ (eq-eqb n m g)
target_step q t m aims x xs false e None is there = there e
target_step q t m aims x xs false e (Some n) is there = or_right (n == m) _ (there e)

target_in : (q : Task → Bool) (t : Task) (m : ℕ) → running_target t ≡ Some m → (ts : List Task) → find q ts ≡ Some t
    → list_any (λ z. z == m) (running_targets ts) ≡ true
target_in q t m aims [] e = cc
target_in q t m aims (x ∷ xs) e = target_step q t m aims x xs (q x) e (running_target x) refl (target_in q t m aims xs)

different_rest : (o : Option ℕ) (ns : List ℕ) → all_different (if_found o (λ n. n ∷ ns) ns) ≡ true → all_different ns ≡ true
different_rest None ns e = e
different_rest (Some n) ns e = and_right (not (list_any (λ m. m == n) ns)) (all_different ns) e

different_first : (o : Option ℕ) (ns : List ℕ) (m : ℕ) → o ≡ Some m → all_different (if_found o (λ n. n ∷ ns) ns) ≡ true
    → list_any (λ z. z == m) ns ≡ false
different_first None ns m is e = cc
different_first (Some n) ns m is e =
    let same : n ≡ m = cc in
    let f : list_any (λ z. z == n) ns ≡ false = not-true (list_any (λ z. z == n) ns) (and_left (not (list_any (λ m. m == n) ns)) (all_different ns) e) in
    rw same at f

-- No two running tasks have one target.
one_step : (p q : Task → Bool) (t u : Task) (m : ℕ) → running_target t ≡ Some m → running_target u ≡ Some m → (x : Task) (xs : List Task)
    → all_different (if_found (running_target x) (λ n. n ∷ running_targets xs) (running_targets xs)) ≡ true → (a b : Bool)
    → cond a (Some x) (find p xs) ≡ Some t → cond b (Some x) (find q xs) ≡ Some u
    → (all_different (running_targets xs) ≡ true → find p xs ≡ Some t → find q xs ≡ Some u → t ≡ u) → t ≡ u
one_step p q t u m at au x xs e true true f g there =
    let same : x ≡ t = cc in
    let also : x ≡ u = cc in sym same ∙ also
one_step p q t u m at au x xs e true false f g there =
    let same : x ≡ t = cc in
    let none : list_any (λ z. z == m) (running_targets xs) ≡ false =
    different_first (running_target x) (running_targets xs) m (ap running_target same ∙ at) e in
    let some : list_any (λ z. z == m) (running_targets xs) ≡ true = target_in q u m au xs g in cc
one_step p q t u m at au x xs e false true f g there =
    let same : x ≡ u = cc in
    let none : list_any (λ z. z == m) (running_targets xs) ≡ false =
    different_first (running_target x) (running_targets xs) m (ap running_target same ∙ au) e in
    let some : list_any (λ z. z == m) (running_targets xs) ≡ true = target_in p t m at xs f in cc
one_step p q t u m at au x xs e false false f g there = there (different_rest (running_target x) (running_targets xs) e) f g

one_task : (p q : Task → Bool) (t u : Task) (m : ℕ) → running_target t ≡ Some m → running_target u ≡ Some m → (ts : List Task)
    → all_different (running_targets ts) ≡ true → find p ts ≡ Some t → find q ts ≡ Some u → t ≡ u
one_task p q t u m at au [] e f g = cc
one_task p q t u m at au (x ∷ xs) e f g = one_step p q t u m at au x xs e (p x) (q x) f g (one_task p q t u m at au xs)

part_below : (b : Bool) (x y : ℕ) → x ≤ y → cond b x 0 ≤ cond b y 0
part_below true x y h = h
part_below false x y h = omega arith

part_sum : (b : Bool) (x y z : ℕ) → x ≤ y + z → cond b x 0 ≤ cond b y 0 + cond b z 0
part_sum true x y z h = h
part_sum false x y z h = omega arith

module _ (d : Durable ℕ) where
  -- The records with room for one more have the running ones.
  pub room_kept : (m : ℕ) (t : Task) → task_of d m ≡ Some t → is_running t ≡ true
      → find (λ (u : Task). u.number == m) (with_room d.tasks) ≡ Some t
  room_kept m t found runs = of_room (nat_le record_limit (length d.tasks))
    where
      of_room : (b : Bool) → find (λ (u : Task). u.number == m) (cond b (first_removed (λ (u : Task). not (is_running u)) d.tasks) d.tasks) ≡ Some t
      of_room true = find-kept (λ (u : Task). not (is_running u)) (λ (u : Task). u.number == m) t d.tasks found (ap not runs)
      of_room false = found

  pub room_new : Ordered d → list_all (λ (t : Task). not (t.number == d.lsn + 1)) (with_room d.tasks) ≡ true
  room_new ordered = of_room (nat_le record_limit (length d.tasks))
    where
      of_room : (b : Bool) → list_all (λ (t : Task). not (t.number == d.lsn + 1)) (cond b (first_removed (λ (u : Task). not (is_running u)) d.tasks) d.tasks) ≡ true
      of_room true = all-removed (λ (t : Task). not (t.number == d.lsn + 1)) (λ (u : Task). not (is_running u)) d.tasks ordered.tasks
      of_room false = ordered.tasks

  aim_started : Ordered d → (t : Task) → t.number ≡ d.lsn + 1 → (c : RunningCopy ℕ) (a : Aimed d c)
      → aim_of (started d.tasks t) c.number ≡ Some a.number
  aim_started ordered t number c a =
      ap (option_and_then (λ (t : Task). job_target t.job))
      (find-put_other (λ (u : Task). nat_lt t.number u.number) (λ (u : Task). u.number == c.number) t (with_room d.tasks)
      (ap (λ m. m == c.number) number ∙ other_task d ordered c a)
      ∙ room_kept c.number a.task a.is_task a.runs)
      ∙ a.aims

  stays : (k : ℕ) (c : RunningCopy ℕ) (a : Aimed d c)
      → if_found (find (λ (v : Volume ℕ). v.number == a.number) d.volumes) (in_target k c.pieces) 0 ≡ in_target k c.pieces a.volume
  stays k c a = ap (λ o. if_found o (in_target k c.pieces) 0) a.stands

  clone_started_within : Ordered d → (n : ℕ) (v : Volume ℕ) → Within d (clone_started (λ s. s) 0 d n v) v.container (allocated_count v.chunks)
  unfolding charge
  clone_started_within ordered n v k =
      let t : Task = record { number = d.lsn + 1; job = Clone n; state = Running; done = 0; total = allocated_count (map (λ s. s) v.chunks) } in
      let s : sum_by (in_clone k) (put_before (λ (c : RunningClone ℕ). nat_lt (d.lsn + 1) c.number) (clone_of_volume 0 (d.lsn + 1) v) d.clones)
      ≡ cond (v.container == k) (allocated_count v.chunks) 0 + sum_by (in_clone k) d.clones =
      sum-put (in_clone k) (λ (c : RunningClone ℕ). nat_lt (d.lsn + 1) c.number) (clone_of_volume 0 (d.lsn + 1) v) d.clones in
      let p : sum_by (in_copy (started d.tasks t) d.volumes k) d.copies ≤ sum_by (in_copy d.tasks d.volumes k) d.copies =
      copies_below d (started d.tasks t) d.volumes k ordered (aim_started ordered t refl) (stays k) in
      omega (arith, s, p)

  copy_started_within : Ordered d → (source base target : ℕ) (ps : List (Piece ℕ))
      → Within d (copy_started d (Copy source base target) ps) (home_of d target) (allocating_pieces (stamps_of d target) ps)
  unfolding charge
  copy_started_within ordered source base target ps k =
      let t : Task = record { number = d.lsn + 1; job = Copy source base target; state = Running; done = 0; total = length ps } in
      let new : RunningCopy ℕ = record { number = d.lsn + 1; pieces = ps } in
      let s : sum_by (in_copy (started d.tasks t) d.volumes k) (put_before (λ (c : RunningCopy ℕ). nat_lt (d.lsn + 1) c.number) new d.copies)
      ≡ in_copy (started d.tasks t) d.volumes k new + sum_by (in_copy (started d.tasks t) d.volumes k) d.copies =
      sum-put (in_copy (started d.tasks t) d.volumes k) (λ (c : RunningCopy ℕ). nat_lt (d.lsn + 1) c.number) new d.copies in
      let p : sum_by (in_copy (started d.tasks t) d.volumes k) d.copies ≤ sum_by (in_copy d.tasks d.volumes k) d.copies =
      copies_below d (started d.tasks t) d.volumes k ordered (aim_started ordered t refl) (stays k) in
      let aim : aim_of (started d.tasks t) (d.lsn + 1) ≡ Some target =
      ap (option_and_then (λ (t : Task). job_target t.job))
      (find-put_new (λ (u : Task). nat_lt (d.lsn + 1) u.number) (λ (u : Task). u.number == d.lsn + 1) t (with_room d.tasks)
      (eq-eqb (d.lsn + 1) (d.lsn + 1) refl) (room_new ordered)) in
      let f : in_copy (started d.tasks t) d.volumes k new ≡ if_found (volume_of d target) (in_target k ps) 0 =
      aim_found (started d.tasks t) d.volumes k new target aim in
      let m : if_found (volume_of d target) (in_target k ps) 0 ≤ cond (home_of d target == k) (allocating_pieces (stamps_of d target) ps) 0 =
      asked (volume_of d target) in
      omega (arith, s, p, f, m)
    where
      asked : (o : Option (Volume ℕ)) → if_found o (in_target k ps) 0
          ≤ cond (if_found o (λ (v : Volume ℕ). v.container) 0 == k) (allocating_pieces (if_found o (λ (v : Volume ℕ). v.chunks) []) ps) 0
      asked None = omega arith
      asked (Some v) = omega arith

  aim_changed : (p : Task → Bool) (g : Task → Task) → ((t : Task) → find p d.tasks ≡ Some t → (g t).number ≡ t.number)
      → ((t : Task) → find p d.tasks ≡ Some t → (g t).job ≡ t.job) → (m : ℕ) → aim_of (first_changed p g d.tasks) m ≡ aim_of d.tasks m
  aim_changed p g number job m =
      find-changed p (λ (t : Task). t.number == m) (option_and_then (λ (t : Task). job_target t.job)) g d.tasks
      (λ t found. ap (λ j. j == m) (number t found)) (λ t found at. ap job_target (job t found))

  aim_advanced : (t : Task) (n : ℕ) → task_of d t.number ≡ Some t → (m : ℕ) → aim_of (with_task d.tasks (advanced t n)) m ≡ aim_of d.tasks m
  aim_advanced t n found m =
      aim_changed (λ (u : Task). u.number == t.number) (λ _. advanced t n)
      (λ u at. let same : ◌≡◌ {A = Task} t u = cc in ap (λ (w : Task). w.number) same)
      (λ u at. let same : ◌≡◌ {A = Task} t u = cc in ap (λ (w : Task). w.job) same) m

  tasks_below : (tasks : List Task) (k : ℕ) → ((m : ℕ) → aim_of tasks m ≡ aim_of d.tasks m) → (cs : List (RunningCopy ℕ))
      → list_all (is_aimed d) cs ≡ true → sum_by (in_copy tasks d.volumes k) cs ≤ sum_by (in_copy d.tasks d.volumes k) cs
  tasks_below tasks k aim cs e =
      sum-below (is_aimed d) (in_copy tasks d.volumes k) (in_copy d.tasks d.volumes k)
      (λ c at. let z : in_copy tasks d.volumes k c ≡ in_copy d.tasks d.volumes k c = ap (in_aim d.volumes k c.pieces) (aim c.number) in
      omega (arith, z)) cs e

  cancelled_within : Ordered d → (n home : ℕ) → Within d (cancelled d n) home 0
  unfolding charge cancelled
  cancelled_within ordered n home k =
      let c : sum_by (in_clone k) (without_clone n d.clones) ≤ sum_by (in_clone k) d.clones =
      sum-removed (in_clone k) (λ (c : RunningClone ℕ). c.number == n) d.clones in
      let p : sum_by (in_copy (task_cancelled d.tasks n) d.volumes k) (without_copy n d.copies) ≤ sum_by (in_copy d.tasks d.volumes k) (without_copy n d.copies) =
      tasks_below (task_cancelled d.tasks n) k
      (aim_changed (λ (t : Task). t.number == n) (λ t. record t { state = Cancelled }) (λ t found. refl) (λ t found. refl)) (without_copy n d.copies)
      (all-removed (is_aimed d) (λ (c : RunningCopy ℕ). c.number == n) d.copies ordered.aimed) in
      let r : sum_by (in_copy d.tasks d.volumes k) (without_copy n d.copies) ≤ sum_by (in_copy d.tasks d.volumes k) d.copies =
      sum-removed (in_copy d.tasks d.volumes k) (λ (c : RunningCopy ℕ). c.number == n) d.copies in
      omega (arith, c, p, r)

  copy_goes_on_within : Ordered d → (t : Task) → task_of d t.number ≡ Some t → (home : ℕ) → Within d (copy_goes_on d t) home 0
  unfolding charge
  copy_goes_on_within ordered t found home k =
      let p : sum_by (in_copy (with_task d.tasks (advanced t (next_piece t))) d.volumes k) d.copies ≤ sum_by (in_copy d.tasks d.volumes k) d.copies =
      tasks_below (with_task d.tasks (advanced t (next_piece t))) k (aim_advanced t (next_piece t) found) d.copies ordered.aimed in
      omega (arith, p)

  clone_goes_on_within : Ordered d → (t : Task) (n : ℕ) (target : List ℕ) → task_of d t.number ≡ Some t → (home : ℕ)
      → Within d (clone_goes_on d t n target) home 0
  unfolding charge
  clone_goes_on_within ordered t n target found home k =
      let c : sum_by (in_clone k) (first_changed (λ (b : RunningClone ℕ). b.number == t.number) (λ b. record b { target = target }) d.clones)
      ≤ sum_by (in_clone k) d.clones + 0 =
      sum-changed (in_clone k) (λ (b : RunningClone ℕ). b.number == t.number) (λ b. record b { target = target }) 0 d.clones
      (λ b at. omega arith) in
      let p : sum_by (in_copy (with_task d.tasks (advanced t n)) d.volumes k) d.copies ≤ sum_by (in_copy d.tasks d.volumes k) d.copies =
      tasks_below (with_task d.tasks (advanced t n)) k (aim_advanced t n found) d.copies ordered.aimed in
      omega (arith, c, p)

  clone_ends_within : Ordered d → (t : Task) (n source : ℕ) (c : RunningClone ℕ) (target : List ℕ) → task_of d t.number ≡ Some t
      → clone_of d t.number ≡ Some c → allocated_count target ≤ allocated_count c.image → (home : ℕ)
      → Within d (clone_ends d t n source c target) home 0
  unfolding charge
  clone_ends_within ordered t n source c target found e few home k =
      let s : sum_by (in_clone k) (without_clone t.number d.clones) + in_clone k c ≡ sum_by (in_clone k) d.clones =
      sum-removed_found (in_clone k) (λ (b : RunningClone ℕ). b.number == t.number) c d.clones e in
      let v : sum_by (in_volume k) (put_before (λ (w : Volume ℕ). nat_lt c.number w.number) (cloned_volume c source target) d.volumes)
      ≡ cond (c.container == k) (allocated_count target) 0 + sum_by (in_volume k) d.volumes =
      sum-put (in_volume k) (λ (w : Volume ℕ). nat_lt c.number w.number) (cloned_volume c source target) d.volumes in
      let m : cond (c.container == k) (allocated_count target) 0 ≤ in_clone k c =
      part_below (c.container == k) (allocated_count target) (allocated_count c.image) few in
      let p : sum_by (in_copy (with_task d.tasks (advanced t n)) (put_before (λ (w : Volume ℕ). nat_lt c.number w.number) (cloned_volume c source target) d.volumes) k) d.copies
      ≤ sum_by (in_copy d.tasks d.volumes k) d.copies =
      copies_below d (with_task d.tasks (advanced t n)) (put_before (λ (w : Volume ℕ). nat_lt c.number w.number) (cloned_volume c source target) d.volumes) k ordered
      (λ b a. aim_advanced t n found b.number ∙ aim_is d b a)
      (λ b a. ap (λ o. if_found o (in_target k b.pieces) 0)
      (find-put_other (λ (w : Volume ℕ). nat_lt c.number w.number) (λ (w : Volume ℕ). w.number == a.number) (cloned_volume c source target) d.volumes
      (apart b a))
      ∙ stays k b a) in
      omega (arith, s, v, m, p)
    where
      apart : (b : RunningCopy ℕ) (a : Aimed d b) → (c.number == a.number) ≡ false
      apart b a =
          let none : is_none (volume_of d c.number) ≡ true =
          all-found (λ (b : RunningClone ℕ). is_none (volume_of d b.number)) (λ (b : RunningClone ℕ). b.number == t.number) c d.clones ordered.apart e in
          ne_eqb c.number a.number (λ same. let at : volume_of d c.number ≡ Some a.volume = ap (λ m. volume_of d m) same ∙ a.stands in
          let f : is_none (volume_of d c.number) ≡ false = ap is_none at in cc)

  copy_ends_within : Ordered d → (t : Task) (target : ℕ) (c : RunningCopy ℕ) → task_of d t.number ≡ Some t → is_running t ≡ true
      → job_target t.job ≡ Some target → copy_of d t.number ≡ Some c → (home : ℕ) → Within d (copy_ends d t target c) home 0
  unfolding charge
  copy_ends_within ordered t target c found runs aims e home k =
      let n : ℕ = next_piece t in
      let volumes : List (Volume ℕ) =
      first_changed (λ (v : Volume ℕ). v.number == target) (λ v. record v { chunks = pieces_put c.pieces v.chunks }) d.volumes in
      let number : c.number ≡ t.number = eqb-true c.number t.number (find-passes (λ (b : RunningCopy ℕ). b.number == t.number) d.copies c e) in
      let aim : aim_of d.tasks c.number ≡ Some target =
      ap (λ m. aim_of d.tasks m) number ∙ ap (option_and_then (λ (t : Task). job_target t.job)) found ∙ aims in
      let more : in_copy d.tasks d.volumes k c ≡ if_found (volume_of d target) (in_target k c.pieces) 0 =
      aim_found d.tasks d.volumes k c target aim in
      let v : sum_by (in_volume k) volumes ≤ sum_by (in_volume k) d.volumes + if_found (volume_of d target) (in_target k c.pieces) 0 =
      sum-changed (in_volume k) (λ (v : Volume ℕ). v.number == target) (λ v. record v { chunks = pieces_put c.pieces v.chunks })
      (if_found (volume_of d target) (in_target k c.pieces) 0) d.volumes
      (λ w at. let is : if_found (volume_of d target) (in_target k c.pieces) 0 ≡ in_target k c.pieces w =
      ap (λ o. if_found o (in_target k c.pieces) 0) at in
      let s : cond (w.container == k) (allocated_count (pieces_put c.pieces w.chunks)) 0 ≤ in_volume k w + in_target k c.pieces w =
      part_sum (w.container == k) (allocated_count (pieces_put c.pieces w.chunks)) (allocated_count w.chunks) (allocating_pieces w.chunks c.pieces)
      (allocated-pieces c.pieces w.chunks) in
      omega (arith, is, s)) in
      let s : sum_by (in_copy d.tasks d.volumes k) (without_copy t.number d.copies) + in_copy d.tasks d.volumes k c ≡ sum_by (in_copy d.tasks d.volumes k) d.copies =
      sum-removed_found (in_copy d.tasks d.volumes k) (λ (b : RunningCopy ℕ). b.number == t.number) c d.copies e in
      let p : sum_by (in_copy (with_task d.tasks (advanced t n)) volumes k) (without_copy t.number d.copies)
      ≤ sum_by (in_copy d.tasks d.volumes k) (without_copy t.number d.copies) =
      sum-below (λ (b : RunningCopy ℕ). is_aimed d b && not (b.number == t.number)) (in_copy (with_task d.tasks (advanced t n)) volumes k) (in_copy d.tasks d.volumes k)
      (λ b both. let a : Aimed d b = aimed d b (and_left (is_aimed d b) (not (b.number == t.number)) both) in
      copy_below d (with_task d.tasks (advanced t n)) volumes k b a (aim_advanced t n found b.number ∙ aim_is d b a)
      (ap (λ o. if_found o (in_target k b.pieces) 0)
      (find-changed (λ (v : Volume ℕ). v.number == target) (λ (v : Volume ℕ). v.number == a.number) (λ o. o)
      (λ v. record v { chunks = pieces_put c.pieces v.chunks }) d.volumes (λ w at. refl)
      (λ w at is. other w b a (not-true (b.number == t.number) (and_right (is_aimed d b) (not (b.number == t.number)) both))
      (eqb-true w.number target (find-passes (λ (v : Volume ℕ). v.number == target) d.volumes w at)) is))
      ∙ stays k b a)) (without_copy t.number d.copies)
      (list_all-both (is_aimed d) (λ (b : RunningCopy ℕ). not (b.number == t.number)) (λ (b : RunningCopy ℕ). is_aimed d b && not (b.number == t.number))
      (λ b f g. and_both (is_aimed d b) (not (b.number == t.number)) f g) (without_copy t.number d.copies)
      (all-removed (is_aimed d) (λ (b : RunningCopy ℕ). b.number == t.number) d.copies ordered.aimed)
      (none-left (λ (b : RunningCopy ℕ). b.number) t.number d.copies ordered.copies)) in
      omega (arith, more, v, s, p)
    where
      other : (w : Volume ℕ) (b : RunningCopy ℕ) (a : Aimed d b) → (b.number == t.number) ≡ false → w.number ≡ target
          → (w.number == a.number) ≡ true → Some (record w { chunks = pieces_put c.pieces w.chunks }) ≡ Some w
      other w b a apart at is =
          let same : a.number ≡ target = sym (eqb-true w.number a.number is) ∙ at in
          let one : a.task ≡ t =
          one_task (λ (u : Task). u.number == b.number) (λ (u : Task). u.number == t.number) a.task t target
          (target_of d b a ∙ ap Some same) (ap (λ r. cond r (job_target t.job) None) runs ∙ aims) d.tasks ordered.targets a.is_task found in
          let number : a.task.number ≡ b.number = eqb-true a.task.number b.number (find-passes (λ (u : Task). u.number == b.number) d.tasks a.task a.is_task) in
          let f : (b.number == t.number) ≡ true = eq-eqb b.number t.number (sym number ∙ ap (λ (u : Task). u.number) one) in cc

-- A turn of a clone puts in no more than its image has and it hasn't yet.
turned_allocated : (d : Durable ℕ) (t : Task) (c : RunningClone ℕ) (n : ℕ) → clones_rule d ≡ true → task_of d t.number ≡ Some t
    → clone_of d t.number ≡ Some c
    → allocated_count (put_at (turn_indexes (map (λ s. s) c.image) t.done) (map (λ _. n) (turn_indexes (map (λ s. s) c.image) t.done)) c.target)
    ≤ allocated_count c.image
turned_allocated d t c n rule found e =
    let is : List ℕ = turn_indexes (map (λ s. s) c.image) t.done in
    let kept : is_clone_kept c t ≡ true = is_kept d t c rule found e in
    let same : allocated_indexes c.target ≡ take t.done (allocated_indexes c.image) =
    (bytes_eq-Decides (allocated_indexes c.target) (take t.done (allocated_indexes c.image))).0
    (and_right ((t.total == allocated_count c.image) && (length c.target == length c.image)) _ (and_left _ _ kept)) in
    let a : length (allocated_indexes c.target) ≡ allocated_count c.target = allocated_long 0 c.target in
    let b : length (allocated_indexes c.image) ≡ allocated_count c.image = allocated_long 0 c.image in
    let l : length (take t.done (allocated_indexes c.image)) ≡ min t.done (length (allocated_indexes c.image)) =
    length-take t.done (allocated_indexes c.image) in
    let z : length (allocated_indexes c.target) ≡ length (take t.done (allocated_indexes c.image)) = ap length same in
    let ids : allocated_count (map (λ (s : ℕ). s) c.image) ≡ allocated_count c.image = ap allocated_count (map-same (λ s. s) (λ s. refl) c.image) in
    let few : length is ≤ allocated_count (map (λ s. s) c.image) - t.done = turn_long (map (λ s. s) c.image) t.done in
    let p : allocated_count (put_at is (map (λ _. n) is) c.target) ≤ allocated_count c.target + length is = allocated-put_most is n c.target in
    omega (arith, a, b, l, z, ids, few, p)

module _ (d : Durable ℕ) (ordered : Ordered d) (fits : charges_fit d ≡ true) where
  found_fits : {A : Type 0} (o : Option A) (h : A → Durable ℕ) → ((x : A) → o ≡ Some x → charges_fit (h x) ≡ true)
      → charges_fit (if_found o h d) ≡ true
  found_fits None h there = fits
  found_fits (Some x) h there = there x refl

  either_fits : (b : Bool) (x y : Durable ℕ) → charges_fit x ≡ true → charges_fit y ≡ true → charges_fit (cond b x y) ≡ true
  either_fits true x y h k = h
  either_fits false x y h k = k

  home_is : (n : ℕ) (v : Volume ℕ) → volume_of d n ≡ Some v → home_of d n ≡ v.container
  home_is n v e = ap (λ o. if_found o (λ (w : Volume ℕ). w.container) 0) e

  allocated_is : (n : ℕ) (v : Volume ℕ) → volume_of d n ≡ Some v → allocated_of d n ≡ allocated_count v.chunks
  allocated_is n v e = ap (λ o. allocated_count (if_found o (λ (w : Volume ℕ). w.chunks) [])) e

  -- the copy of a volume, with a number of its own
  volume_copied : (n : ℕ) (v : Volume ℕ) (kind : VolumeKind) → volume_of d n ≡ Some v → over_quota d (home_of d n) (allocated_of d n) ≡ None
      → charges_fit (and_volume d (record v { number = d.lsn + 1; kind = kind })) ≡ true
  volume_copied n v kind found passed =
      asked_fits d (and_volume d (record v { number = d.lsn + 1; kind = kind })) v.container (allocated_count v.chunks) ordered fits
      (rw (← (home_is n v found), ← (allocated_is n v found)) passed)
      (volume_added d ordered (record v { number = d.lsn + 1; kind = kind }) refl)

  clone_turn_fits : (n : ℕ) (t : Task) (source : ℕ) → clones_rule d ≡ true → task_of d t.number ≡ Some t
      → (o : Option (RunningClone ℕ)) → clone_of d t.number ≡ o
      → charges_fit (if_found o (clone_turned (λ s. s) (map (λ _. n) (if_found o (λ (c : RunningClone ℕ). turn_indexes (map (λ s. s) c.image) t.done) [])) d t source) d) ≡ true
  clone_turn_fits n t source rule found None e = fits
  clone_turn_fits n t source rule found (Some c) e =
      let is : List ℕ = turn_indexes (map (λ s. s) c.image) t.done in
      let target : List ℕ = put_at is (map (λ _. n) is) c.target in
      either_fits (is_last t (length is)) (clone_ends d t (length is) source c target) (clone_goes_on d t (length is) target)
      (still_fits d (clone_ends d t (length is) source c target) 0 fits
      (clone_ends_within d ordered t (length is) source c target found e (turned_allocated d t c n rule found e) 0))
      (still_fits d (clone_goes_on d t (length is) target) 0 fits (clone_goes_on_within d ordered t (length is) target found 0))

  copy_turn_fits : (t : Task) (target : ℕ) → task_of d t.number ≡ Some t → is_running t ≡ true → job_target t.job ≡ Some target
      → charges_fit (if_found (copy_of d t.number) (copy_turned d t target) d) ≡ true
  copy_turn_fits t target found runs aims =
      found_fits (copy_of d t.number) (copy_turned d t target)
      (λ c e. either_fits (is_last t (next_piece t)) (copy_ends d t target c) (copy_goes_on d t)
      (still_fits d (copy_ends d t target c) 0 fits (copy_ends_within d ordered t target c found runs aims e 0))
      (still_fits d (copy_goes_on d t) 0 fits (copy_goes_on_within d ordered t found 0)))

  job_fits : (n : ℕ) (t : Task) → clones_rule d ≡ true → task_of d t.number ≡ Some t → is_running t ≡ true → (job : Job) → t.job ≡ job
      → charges_fit (job_turned (λ s. s) (map (λ _. n) (job_indexes (λ s. s) d t job)) d t job) ≡ true
  job_fits n t rule found runs (Clone source) e = clone_turn_fits n t source rule found (clone_of d t.number) refl
  job_fits n t rule found runs (Copy source base target) e = copy_turn_fits t target found runs (ap job_target e)

  turn_fits : (n : ℕ) → clones_rule d ≡ true
      → charges_fit (turned (λ s. s) (map (λ _. n) (turned_indexes (λ s. s) d n)) d n) ≡ true
  unfolding turned turned_indexes
  turn_fits n rule = of_task (task_of d n) refl
    where
      run : (t : Task) → task_of d t.number ≡ Some t → (b : Bool) → is_running t ≡ b
          → charges_fit (cond b (job_turned (λ s. s) (map (λ _. n) (cond b (job_indexes (λ s. s) d t t.job) [])) d t t.job) d) ≡ true
      run t found true runs = job_fits n t rule found runs t.job refl
      run t found false runs = fits

      of_task : (o : Option Task) → task_of d n ≡ o
          → charges_fit (if_found o (λ t. cond (is_running t) (job_turned (λ s. s) (map (λ _. n) (if_found o (λ t. cond (is_running t) (job_indexes (λ s. s) d t t.job) []) [])) d t t.job) d) d) ≡ true
      of_task None e = fits
      of_task (Some t) e =
          let number : t.number ≡ n = eqb-true t.number n (find-passes (λ (u : Task). u.number == n) d.tasks t e) in
          let found : task_of d t.number ≡ Some t = ap (λ m. task_of d m) number ∙ e in
          run t found (is_running t) refl

  -- a change of a volume that isn't busy, where the quota was asked
  changed_fits : (n : ℕ) (g : Volume ℕ → Volume ℕ) → is_busy d n ≡ false → ((v : Volume ℕ) → (g v).number ≡ v.number)
      → ((v : Volume ℕ) → (g v).container ≡ v.container) → (asked : ℕ) → where_positive asked (over_quota d (home_of d n) asked) ≡ None
      → ((v : Volume ℕ) → volume_of d n ≡ Some v → allocated_count (g v).chunks ≤ allocated_count v.chunks + asked)
      → charges_fit (with_volume d n g) ≡ true
  changed_fits n g free number container asked passed more = of_asked (asked == 0) refl passed
    where
      within : Within d (with_volume d n g) (home_of d n) asked
      within =
          volume_changed d ordered n g free number (home_of d n) asked
          (λ v found k. let m = more v found in
          let h : home_of d n ≡ v.container = home_is n v found in
          let s : cond (v.container == k) (allocated_count (g v).chunks) 0 ≤ in_volume k v + cond (v.container == k) asked 0 =
          part_sum (v.container == k) (allocated_count (g v).chunks) (allocated_count v.chunks) asked m in
          rw (h, container v) s)

      of_asked : (b : Bool) → (asked == 0) ≡ b → cond b None (over_quota d (home_of d n) asked) ≡ None → charges_fit (with_volume d n g) ≡ true
      of_asked true is e =
          let z : asked ≡ 0 = eqb-true asked 0 is in
          still_fits d (with_volume d n g) (home_of d n) fits (subst (Within d (with_volume d n g) (home_of d n)) z within)
      of_asked false is e = asked_fits d (with_volume d n g) (home_of d n) asked ordered fits e within

where_passed : (b : Bool) (o : Option Refusal) → o ≡ None → cond b None o ≡ None
where_passed true o e = refl
where_passed false o e = e

-- An accepted change leaves each charge within its quota.
charges_step : (misfit : Option Misfit) (d : Durable ℕ) (c : Change) → Ordered d → clones_rule d ≡ true → judge misfit d c ≡ Accept
    → charges_fit d ≡ true → charges_fit (effect (λ s. s) (map (λ _. new_stamp d c) (changed_indexes (λ s. s) d c)) 0 d c) ≡ true
unfolding effect state_checks room_checks with_clone with_copy changed_indexes cancelled
charges_step misfit d (MakeContainer quota offers) ordered rule e fits =
    container_added d ordered fits (record { number = d.lsn + 1; quota = quota; offers = offers }) refl
charges_step misfit d (MakeVolume k vtype chunks needs) ordered rule e fits =
    let v : Volume ℕ =
    record { number = d.lsn + 1; container = k; vtype = vtype; kind = Plain; reverted = 0; needs = needs; metadata = []; chunks = replicate chunks 0 } in
    still_fits d (and_volume d v) k fits
    (subst (Within d (and_volume d v) k) (allocated-replicate chunks) (volume_added d ordered v refl))
charges_step misfit d (DeleteVolume n) ordered rule e fits =
    let free : (is_bound d.bindings n || is_busy d n) ≡ false =
    not_refused (is_bound d.bindings n || is_busy d n) (ResourceInUse in_vvol) (passed_state misfit d (DeleteVolume n) e 1) in
    still_fits d (record d { volumes = first_removed (λ (v : Volume ℕ). v.number == n) d.volumes }) 0 fits
    (volume_deleted d ordered n (or_parts (is_bound d.bindings n) (is_busy d n) free).1 0)
charges_step misfit d (GrowVolume n chunks) ordered rule e fits =
    changed_fits d ordered fits n (λ v. record v { chunks = v.chunks ++ replicate (chunks - length v.chunks) 0 })
    (not_refused (is_busy d n) (ResourceInUse in_vvol) (passed_state misfit d (GrowVolume n chunks) e 3)) (λ v. refl) (λ v. refl) 0 refl
    (λ v found. let a : allocated_count (v.chunks ++ replicate (chunks - length v.chunks) 0) ≡ allocated_count v.chunks =
    allocated-grown v.chunks (chunks - length v.chunks) in
    omega (arith, a))
charges_step misfit d (SetMetadata n key text) ordered rule e fits =
    still_fits d (with_volume d n (λ v. record v { metadata = after_set v.metadata key text })) 0 fits
    (volume_kept d ordered n (λ v. record v { metadata = after_set v.metadata key text }) (λ v. refl) (λ v. refl) (λ v. refl) 0)
charges_step misfit d (Snapshot n) ordered rule e fits =
    found_fits d ordered fits (volume_of d n) (λ v. and_volume d (record v { number = d.lsn + 1; kind = SnapshotOf (record { 0 = n }) }))
    (λ v found. volume_copied d ordered fits n v (SnapshotOf (record { 0 = n })) found (passed_room misfit d (Snapshot n) e 3))
charges_step misfit d (FastClone n) ordered rule e fits =
    found_fits d ordered fits (volume_of d n) (λ v. and_volume d (record v { number = d.lsn + 1; kind = FastCloneOf (record { 0 = n }) }))
    (λ v found. volume_copied d ordered fits n v (FastCloneOf (record { 0 = n })) found (passed_room misfit d (FastClone n) e 3))
charges_step misfit d (Revert n snapshot) ordered rule e fits =
    let free : (is_bound d.bindings n || is_busy d n) ≡ false =
    not_refused (is_bound d.bindings n || is_busy d n) (ResourceInUse in_vvol) (passed_state misfit d (Revert n snapshot) e 3) in
    found_fits d ordered fits (volume_of d snapshot) (λ s. with_volume d n (λ v. record v { chunks = s.chunks; reverted = d.lsn + 1 }))
    (λ s at. changed_fits d ordered fits n (λ v. record v { chunks = s.chunks; reverted = d.lsn + 1 })
    (or_parts (is_bound d.bindings n) (is_busy d n) free).1 (λ v. refl) (λ v. refl) (allocated_of d snapshot - allocated_of d n)
    (passed_room misfit d (Revert n snapshot) e 1)
    (λ v found. let y : allocated_of d snapshot ≡ allocated_count s.chunks = allocated_is d ordered fits snapshot s at in
    let z : allocated_of d n ≡ allocated_count v.chunks = allocated_is d ordered fits n v found in
    omega (arith, y, z)))
charges_step misfit d (Write n first blocks) ordered rule e fits =
    let is : List ℕ = touched_indexes d.geometry.chunk_blocks first blocks in
    changed_fits d ordered fits n (λ v. record v { chunks = put_at is (map (λ _. d.lsn + 1) is) v.chunks })
    (not_refused (is_busy d n) (ResourceInUse in_vvol) (passed_state misfit d (Write n first blocks) e 3)) (λ v. refl) (λ v. refl)
    (unmapped_count (stamps_of d n) is)
    (where_passed (unmapped_count (stamps_of d n) is == 0) (over_quota d (home_of d n) (unmapped_count (stamps_of d n) is))
    (passed_room misfit d (Write n first blocks) e 1))
    (λ v found. let s : unmapped_count (stamps_of d n) is ≡ unmapped_count v.chunks is =
    ap (λ o. unmapped_count (if_found o (λ (w : Volume ℕ). w.chunks) []) is) found in
    let p : allocated_count (put_at is (map (λ _. d.lsn + 1) is) v.chunks) ≤ allocated_count v.chunks + unmapped_count v.chunks is =
    allocated-put is (d.lsn + 1) v.chunks in
    omega (arith, s, p))
charges_step misfit d (Unmap n ranges) ordered rule e fits =
    changed_fits d ordered fits n (λ v. record v { chunks = unmapped_in (λ s. s) 0 ranges v.chunks })
    (not_refused (is_busy d n) (ResourceInUse in_vvol) (passed_state misfit d (Unmap n ranges) e 3)) (λ v. refl) (λ v. refl) 0 refl
    (λ v found. let a : allocated_count (unmapped_in (λ s. s) 0 ranges v.chunks) ≤ allocated_count v.chunks = allocated-unmapped ranges 0 v.chunks in
    omega (arith, a))
charges_step misfit d (SetEndpoints host endpoints) ordered rule e fits = unfold charge in fits
charges_step misfit d (Bind host n) ordered rule e fits = unfold charge in fits
charges_step misfit d (Unbind host endpoint secondary) ordered rule e fits = unfold charge in fits
charges_step misfit d (UnbindAll host) ordered rule e fits = unfold charge in fits
charges_step misfit d (StartClone n) ordered rule e fits =
    found_fits d ordered fits (volume_of d n) (clone_started (λ s. s) 0 d n)
    (λ v found. asked_fits d (clone_started (λ s. s) 0 d n v) v.container (allocated_count v.chunks) ordered fits
    (rw (← (home_is d ordered fits n v found), ← (allocated_is d ordered fits n v found)) (passed_room misfit d (StartClone n) e 4))
    (clone_started_within d ordered n v))
charges_step misfit d (StartCopy source base target) ordered rule e fits =
    found_fits d ordered fits (volume_of d source) (λ v. if_found (volume_of d base)
    (λ w. copy_started d (Copy source base target) (difference (λ s. s) v.chunks w.chunks)) d)
    (λ v found. found_fits d ordered fits (volume_of d base) (λ w. copy_started d (Copy source base target) (difference (λ s. s) v.chunks w.chunks))
    (λ w at. let ps : List (Piece ℕ) = difference (λ s. s) v.chunks w.chunks in
    let same : difference (λ s. s) (stamps_of d source) (stamps_of d base) ≡ ps =
    ap (λ o. difference (λ s. s) (if_found o (λ (w : Volume ℕ). w.chunks) []) (stamps_of d base)) found
    ∙ ap (λ o. difference (λ s. s) v.chunks (if_found o (λ (w : Volume ℕ). w.chunks) [])) at in
    asked_fits d (copy_started d (Copy source base target) ps) (home_of d target) (allocating_pieces (stamps_of d target) ps) ordered fits
    (subst (λ (qs : List (Piece ℕ)). over_quota d (home_of d target) (allocating_pieces (stamps_of d target) qs) ≡ None) same
    (passed_room misfit d (StartCopy source base target) e 2))
    (copy_started_within d ordered source base target ps)))
charges_step misfit d (Turn n) ordered rule e fits = turn_fits d ordered fits n rule
charges_step misfit d (Cancel n) ordered rule e fits =
    still_fits d (cancelled d n) 0 fits (cancelled_within d ordered n 0)

-- What the form and the rules say, taken apart.

logged_other : (lsn n : ℕ) → is_logged lsn n ≡ true → not (n == lsn + 1) ≡ true
logged_other lsn n e =
    let le : n ≤ lsn = leb-true n lsn (and_right (nat_le 1 n) (nat_le n lsn) e) in
    ap not (ne_eqb n (lsn + 1) (λ f. omega arith))

home_other : (lsn n : ℕ) → ((n == 0) || is_logged lsn n) ≡ true → not (n == lsn + 1) ≡ true
home_other lsn n e = of_zero (n == 0) refl e
  where
    of_zero : (b : Bool) → (n == 0) ≡ b → (b || is_logged lsn n) ≡ true → not (n == lsn + 1) ≡ true
    of_zero true is f =
        let z : n ≡ 0 = eqb-true n 0 is in
        ap not (ne_eqb n (lsn + 1) (λ f. omega arith))
    of_zero false is f = logged_other lsn n f

module _ (d : Durable ℕ) where
  -- a container that stands has no such number
  standing_other : list_all (λ (k : Container). (k.number == 0) || is_logged d.lsn k.number) d.containers ≡ true
      → (n : ℕ) → is_some (container_of d n) ≡ true → not (n == d.lsn + 1) ≡ true
  standing_other logged n e = of_found (container_of d n) refl e
    where
      of_found : (o : Option Container) → container_of d n ≡ o → is_some o ≡ true → not (n == d.lsn + 1) ≡ true
      of_found None at f = cc
      of_found (Some k) at f =
          let is : k.number ≡ n = eqb-true k.number n (find-passes (λ (j : Container). j.number == n) d.containers k at) in
          let l : ((k.number == 0) || is_logged d.lsn k.number) ≡ true =
          all-found (λ (j : Container). (j.number == 0) || is_logged d.lsn j.number) (λ (j : Container). j.number == n) k d.containers logged at in
          rw is at (home_other d.lsn k.number l)

-- A running copy has a target, and it stands.
job_aimed : (stands : ℕ → Bool) (runs : Bool) (job : Job) → if_found (cond runs (job_target job) None) stands true ≡ true
    → (not (runs && not (is_clone job)) || (runs && if_found (job_target job) stands false)) ≡ true
job_aimed stands true (Clone source) e = refl
job_aimed stands true (Copy source base target) e = e
job_aimed stands false job e = refl

module _ (d : Durable ℕ) (form : is_formed d ≡ true) where
  -- the conjuncts of the form that are wanted
  formed_containers : all_rising (map (λ (k : Container). k.number) d.containers) ≡ true
  unfolding is_formed
  formed_containers = and_right _ _ (and_left _ _ (and_left _ _ (and_left _ _ (and_left _ _ (and_left _ _ (and_left _ _ form))))))

  pub formed_tasks : all_rising (map (λ (t : Task). t.number) d.tasks) ≡ true
  unfolding is_formed
  formed_tasks = and_right _ _ (and_left _ _ (and_left _ _ form))

  pub formed_clones : map (λ (c : RunningClone ℕ). c.number) d.clones ≡ running_clones d.tasks
  unfolding is_formed
  formed_clones = (bytes_eq-Decides (map (λ (c : RunningClone ℕ). c.number) d.clones) (running_clones d.tasks)).0 (and_right _ _ (and_left _ _ form))

  formed_copies : map (λ (c : RunningCopy ℕ). c.number) d.copies ≡ running_copies d.tasks
  unfolding is_formed
  formed_copies = (bytes_eq-Decides (map (λ (c : RunningCopy ℕ). c.number) d.copies) (running_copies d.tasks)).0 (and_right _ _ form)

  pub clones_rise : all_rising (map (λ (c : RunningClone ℕ). c.number) d.clones) ≡ true
  clones_rise =
      ap all_rising formed_clones ∙ rising-filter (λ (t : Task). t.number) (λ t. is_running t && is_clone t.job) d.tasks formed_tasks

  copies_rise : all_rising (map (λ (c : RunningCopy ℕ). c.number) d.copies) ≡ true
  copies_rise =
      ap all_rising formed_copies ∙ rising-filter (λ (t : Task). t.number) (λ t. is_running t && not (is_clone t.job)) d.tasks formed_tasks

  -- whether the task of a number runs, and has a target that stands
  is_aimed_at : ℕ → Bool
  is_aimed_at m =
      if_found (task_of d m)
      (λ (t : Task). is_running t && if_found (job_target t.job) (λ (n : ℕ). is_some (volume_of d n)) false) false

  all_aimed : list_all (λ t. if_found (running_target t) (λ n. is_some (volume_of d n)) true) d.tasks ≡ true
      → list_all (is_aimed d) d.copies ≡ true
  unfolding is_aimed_at
  all_aimed names =
      let tasks : list_all (λ (t : Task). not (is_running t && not (is_clone t.job)) || is_aimed_at t.number) d.tasks ≡ true =
      each-found (λ (t : Task). t.number) (λ (t : Task). not (is_running t && not (is_clone t.job)) || is_aimed_at t.number) d.tasks formed_tasks
      (λ t found. let named : if_found (running_target t) (λ n. is_some (volume_of d n)) true ≡ true =
      all-found (λ t. if_found (running_target t) (λ n. is_some (volume_of d n)) true) (λ (u : Task). u.number == t.number) t d.tasks names found in
      let at : is_aimed_at t.number ≡ (is_running t && if_found (job_target t.job) (λ (n : ℕ). is_some (volume_of d n)) false) =
      ap (λ o. if_found o (λ (t : Task). is_running t && if_found (job_target t.job) (λ (n : ℕ). is_some (volume_of d n)) false) false) found in
      ap (λ b. not (is_running t && not (is_clone t.job)) || b) at
      ∙ job_aimed (λ (n : ℕ). is_some (volume_of d n)) (is_running t) t.job named) in
      sym (list_all-map is_aimed_at (λ (c : RunningCopy ℕ). c.number) d.copies)
      ∙ ap (list_all is_aimed_at) formed_copies
      ∙ list_all-map is_aimed_at (λ (t : Task). t.number) (filter (λ t. is_running t && not (is_clone t.job)) d.tasks)
      ∙ all-filtered (λ (t : Task). is_running t && not (is_clone t.job)) (λ (t : Task). is_aimed_at t.number) d.tasks tasks

  all_apart : all_different (map (λ (v : Volume ℕ). v.number) d.volumes ++ map (λ (k : Container). k.number) d.containers
      ++ map (λ (c : RunningClone ℕ). c.number) d.clones) ≡ true
      → list_all (λ (c : RunningClone ℕ). is_none (volume_of d c.number)) d.clones ≡ true
  all_apart different =
      each-found (λ (c : RunningClone ℕ). c.number) (λ (c : RunningClone ℕ). is_none (volume_of d c.number)) d.clones clones_rise
      (λ c found. of_volume c found (volume_of d c.number) refl)
    where
      of_volume : (c : RunningClone ℕ) → clone_of d c.number ≡ Some c → (o : Option (Volume ℕ)) → volume_of d c.number ≡ o → is_none o ≡ true
      of_volume c found None at = refl
      of_volume c found (Some v) at =
          let vs : List ℕ = map (λ (v : Volume ℕ). v.number) d.volumes in
          let ks : List ℕ = map (λ (k : Container). k.number) d.containers in
          let cs : List ℕ = map (λ (c : RunningClone ℕ). c.number) d.clones in
          let one : list_any (λ m. m == c.number) vs ≡ true = any-found (λ (v : Volume ℕ). v.number) c.number v d.volumes at in
          let both : list_any (λ m. m == c.number) (vs ++ ks) ≡ true =
          list_any-append (λ m. m == c.number) vs ks
          ∙ or_left (list_any (λ m. m == c.number) vs) (list_any (λ m. m == c.number) ks) one in
          let other : list_any (λ m. m == c.number) cs ≡ true = any-found (λ (c : RunningClone ℕ). c.number) c.number c d.clones found in
          let f : all_different (vs ++ ks ++ cs) ≡ false = comes_twice c.number (vs ++ ks) cs both other in cc

  pub in_order : numbers_rule d ≡ true → names_rule d ≡ true → copies_rule d ≡ true → Ordered d
  unfolding numbers_rule names_rule copies_rule
  in_order numbers names copies =
      let logged : list_all (λ (k : Container). (k.number == 0) || is_logged d.lsn k.number) d.containers ≡ true =
      and_right _ _ (and_left _ _ (and_left _ _ (and_left _ _ numbers))) in
      record {
        containers = formed_containers;
        volumes = list_all-follows _ (λ (v : Volume ℕ). not (v.number == d.lsn + 1))
            (λ v e. logged_other d.lsn v.number (and_left (is_logged d.lsn v.number) _ (and_left _ _ e))) d.volumes
            (and_left _ _ (and_left _ _ (and_left _ _ (and_left _ _ numbers))));
        tasks = list_all-follows _ (λ (t : Task). not (t.number == d.lsn + 1))
            (λ t e. logged_other d.lsn t.number (and_left (is_logged d.lsn t.number) _ e)) d.tasks
            (and_right _ _ (and_left _ _ (and_left _ _ numbers)));
        homes = list_all-follows _ (λ (v : Volume ℕ). not (v.container == d.lsn + 1))
            (λ v e. standing_other d logged v.container (and_left (is_some (container_of d v.container)) _ e)) d.volumes
            (and_left _ _ (and_left _ _ (and_left _ _ names)));
        clone_homes = list_all-follows _ (λ (c : RunningClone ℕ). not (c.container == d.lsn + 1))
            (λ c e. standing_other d logged c.container e) d.clones (and_right _ _ (and_left _ _ (and_left _ _ names)));
        apart = all_apart (and_right _ _ (and_left _ _ numbers));
        copies = copies_rise;
        aimed = all_aimed (and_right _ _ names);
        targets = and_right _ _ (and_left _ _ copies);
      }

pub charges_stay : (misfit : Option Misfit) (d : Durable ℕ) (c : Change) → is_formed d ≡ true → numbers_rule d ≡ true → names_rule d ≡ true
    → clones_rule d ≡ true → copies_rule d ≡ true → judge misfit d c ≡ Accept → charges_fit d ≡ true → charges_fit (apply_shape d c) ≡ true
unfolding apply_shape apply charge
charges_stay misfit d c form numbers names clones copies e fits =
    charges_step misfit d c (in_order d form numbers names copies) clones e fits
