-- An accepted change keeps the rule on running copies, as the last lemma here says. The law the_rules_of_the_shape_stay
-- rests on it.
use Rattle.std.proofs.Common.{◌≡◌, ◌≤◌, ◌<◌, ℕ, ◌+◌, ◌-◌, ◌==◌, ◌&&◌, ◌||◌, not, refl, ap, sym, ◌∙◌, Bool, true, false, cond, List, [], ◌∷◌, ◌++◌, map, length, replicate, arith}
use Rattle.std.specs.Prelude.{Option, Some, None, is_none, nat_le, nat_lt}
use Rattle.std.specs.List.{find, filter, list_all, list_any}
use Rattle.std.proofs.lemmas.List.Folds.{list_all-map}
use Rattle.std.proofs.lemmas.Bool.{not-true, ltb-false, leb-true, le-leb, lt-ltb, eqb-true, eq-eqb, ne_eqb, or_parts, or_from}
use Rattle.vv_units.specs.Pairs.{after_set}
use Rattle.vv_units.specs.declared.field.Field.TheVariants.{Vvol as in_vvol, Target as in_target}
use Rattle.vv_units.specs.declared.volume.TaskState.TheVariants.{Running, Success, Cancelled}
use Rattle.vv_units.specs.declared.volume.VolumeKind.TheVariants.{Plain, SnapshotOf, FastCloneOf}
use Rattle.vv_flat.specs.Lists.{if_found, first_changed, put_before, first_removed, put_at, mapped_from, all_different, all_above, all_rising}
use Rattle.vv_flat.specs.State.{Volume, Clone, Copy, Task, RunningClone, Piece, RunningCopy, Durable, volume_of, task_of, clone_of, indexed}
use Rattle.vv_flat.specs.Chunks.{touched_indexes, unmapped_in}
use Rattle.vv_flat.specs.Space.{allocated_count, is_running, job_target, running_target}
use Rattle.vv_flat.specs.Bits.{is_unshared}
use Rattle.vv_flat.specs.Tasks.{is_busy, record_limit, with_room, started, with_task, advanced, next_piece, cloned_volume, without_copy, clone_goes_on, clone_ends, pieces_put, copy_goes_on, copy_ends, turned, turned_indexes, task_cancelled, cancelled, clone_started, with_clone, difference, copy_started, with_copy}
use Rattle.vv_flat.specs.Bindings.{is_bound}
use Rattle.vv_flat.specs.Profiles.{Misfit}
use Rattle.vv_flat.specs.Refusals.{NotFound, InvalidArgument, IncompatibleVolume, ResourceInUse, Accept}
use Rattle.vv_flat.specs.Changes.{Change, MakeContainer, MakeVolume, DeleteVolume, GrowVolume, SetMetadata, Snapshot, FastClone, Revert, Write, Unmap, SetEndpoints, Bind, Unbind, UnbindAll, StartClone, StartCopy, Turn, Cancel, judge, state_checks, effect, apply, apply_shape, changed_indexes, new_stamp, with_volume, and_volume, is_snapshot, is_snapshot_kind, size_of}
use Rattle.vv_flat.specs.Rules.{is_clone_kept, is_success, running_targets, copies_rule, keeps_shape_rules, has_its_fields}
use Rattle.vv_flat.proofs.Verdicts.{passed_state, not_refused}
use Rattle.vv_flat.proofs.Steps.{find-passes}
use Rattle.vv_flat.proofs.Shares.{and_left, and_right, and_both, list_all-follows, list_all-both}
use Rattle.vv_flat.proofs.Known.{all-put, all-removed, all-changed, all-found, all-filter}
use Rattle.vv_flat.proofs.MapLists.{map-same}
use Rattle.vv_flat.proofs.Pool.{is_kept, turn_long}
use Rattle.vv_flat.proofs.Lookups.{find-put_other, find-removed_other, find-changed, rising-filter}
use Rattle.vv_flat.proofs.Charges.{is_aimed, Aimed, aimed, other_number, unbusy}
use Rattle.vv_flat.proofs.Kept.{Kept, kept}
use Rattle.vv_flat.proofs.KeepTasks.{ordered, put_at_long, started_kept, started_new, advanced_target, Runs, next_indexes, next_target, found_keeps, turn_keeps}

-- The targets of running tasks.

abbrev is_among : ℕ → List ℕ → Bool
is_among m ns = list_any (λ z. z == m) ns

-- one number more, where there is one
abbrev with_one : Option ℕ → List ℕ → List ℕ
with_one o ns = if_found o (λ n. n ∷ ns) ns

later_none : (o : Option ℕ) (ns ms : List ℕ) (m : ℕ) → (is_among m ns ≡ false → is_among m ms ≡ false) → is_among m (with_one o ns) ≡ false
    → is_among m (with_one o ms) ≡ false
later_none None ns ms m there e = there e
later_none (Some n) ns ms m there e =
    let parts = or_parts (n == m) (is_among m ns) e in or_from (n == m) (is_among m ms) parts.0 (there parts.1)

later_different : (o : Option ℕ) (ns ms : List ℕ) → ((m : ℕ) → is_among m ns ≡ false → is_among m ms ≡ false)
    → (all_different ns ≡ true → all_different ms ≡ true) → all_different (with_one o ns) ≡ true → all_different (with_one o ms) ≡ true
later_different None ns ms fewer there e = there e
later_different (Some n) ns ms fewer there e =
    and_both (not (is_among n ms)) (all_different ms)
    (ap not (fewer n (not-true (is_among n ns) (and_left (not (is_among n ns)) (all_different ns) e))))
    (there (and_right (not (is_among n ns)) (all_different ns) e))

narrower_none : (o w : Option ℕ) (ns : List ℕ) (m : ℕ) → ((k : ℕ) → w ≡ Some k → o ≡ Some k) → is_among m (with_one o ns) ≡ false
    → is_among m (with_one w ns) ≡ false
narrower_none None None ns m from e = e
narrower_none (Some n) None ns m from e = (or_parts (n == m) (is_among m ns) e).1
narrower_none o (Some k) ns m from e = sym (ap (λ z. is_among m (with_one z ns)) (from k refl)) ∙ e

narrower_different : (o w : Option ℕ) (ns : List ℕ) → ((k : ℕ) → w ≡ Some k → o ≡ Some k) → all_different (with_one o ns) ≡ true
    → all_different (with_one w ns) ≡ true
narrower_different None None ns from e = e
narrower_different (Some n) None ns from e = and_right (not (is_among n ns)) (all_different ns) e
narrower_different o (Some k) ns from e = sym (ap (λ z. all_different (with_one z ns)) (from k refl)) ∙ e

module _ (p : Task → Bool) (g : Task → Task) where
  none_step : (x : Task) (xs : List Task) (m : ℕ) (b : Bool) → (b ≡ true → (k : ℕ) → running_target (g x) ≡ Some k → running_target x ≡ Some k)
      → is_among m (with_one (running_target x) (running_targets xs)) ≡ false
      → (b ≡ false → is_among m (running_targets xs) ≡ false → is_among m (running_targets (first_changed p g xs)) ≡ false)
      → is_among m (running_targets (cond b (g x ∷ xs) (x ∷ first_changed p g xs))) ≡ false
  none_step x xs m true from e there = narrower_none (running_target x) (running_target (g x)) (running_targets xs) m (from refl) e
  none_step x xs m false from e there = later_none (running_target x) (running_targets xs) (running_targets (first_changed p g xs)) m (there refl) e

  none-narrowed : (ts : List Task) → ((t : Task) → find p ts ≡ Some t → (k : ℕ) → running_target (g t) ≡ Some k → running_target t ≡ Some k)
      → (m : ℕ) → is_among m (running_targets ts) ≡ false → is_among m (running_targets (first_changed p g ts)) ≡ false
  none-narrowed [] from m e = refl
  none-narrowed (x ∷ xs) from m e =
      none_step x xs m (p x) (λ is. from x (rw is)) e (λ is. none-narrowed xs (λ t at. from t (rw is at)) m)

  different_step : (x : Task) (xs : List Task) (b : Bool) → (b ≡ true → (k : ℕ) → running_target (g x) ≡ Some k → running_target x ≡ Some k)
      → all_different (with_one (running_target x) (running_targets xs)) ≡ true
      → (b ≡ false → (m : ℕ) → is_among m (running_targets xs) ≡ false → is_among m (running_targets (first_changed p g xs)) ≡ false)
      → (b ≡ false → all_different (running_targets xs) ≡ true → all_different (running_targets (first_changed p g xs)) ≡ true)
      → all_different (running_targets (cond b (g x ∷ xs) (x ∷ first_changed p g xs))) ≡ true
  different_step x xs true from e fewer there = narrower_different (running_target x) (running_target (g x)) (running_targets xs) (from refl) e
  different_step x xs false from e fewer there =
      later_different (running_target x) (running_targets xs) (running_targets (first_changed p g xs)) (fewer refl) (there refl) e

  -- they stay different where tasks keep their targets or lose them
  different-narrowed : (ts : List Task) → ((t : Task) → find p ts ≡ Some t → (k : ℕ) → running_target (g t) ≡ Some k → running_target t ≡ Some k)
      → all_different (running_targets ts) ≡ true → all_different (running_targets (first_changed p g ts)) ≡ true
  different-narrowed [] from e = refl
  different-narrowed (x ∷ xs) from e =
      different_step x xs (p x) (λ is. from x (rw is)) e (λ is. none-narrowed xs (λ t at. from t (rw is at)))
      (λ is. different-narrowed xs (λ t at. from t (rw is at)))

idle_step : (x : Task) (xs : List Task) (b : Bool) → is_running x ≡ b
    → running_targets (first_removed (λ (u : Task). not (is_running u)) xs) ≡ running_targets xs
    → running_targets (cond (not b) xs (x ∷ first_removed (λ (u : Task). not (is_running u)) xs)) ≡ with_one (running_target x) (running_targets xs)
idle_step x xs true is e = ap (λ ns. with_one (running_target x) ns) e
idle_step x xs false is e = sym (ap (λ b. with_one (cond b (job_target x.job) None) (running_targets xs)) is)

-- a task that doesn't run has none
targets-idle : (ts : List Task) → running_targets (first_removed (λ (u : Task). not (is_running u)) ts) ≡ running_targets ts
targets-idle [] = refl
targets-idle (x ∷ xs) = idle_step x xs (is_running x) refl (targets-idle xs)

targets-room : (ts : List Task) → running_targets (with_room ts) ≡ running_targets ts
targets-room ts = of_room (nat_le record_limit (length ts))
  where
    of_room : (b : Bool) → running_targets (cond b (first_removed (λ (u : Task). not (is_running u)) ts) ts) ≡ running_targets ts
    of_room true = targets-idle ts
    of_room false = refl

module _ (p : Task → Bool) (t : Task) where
  untargeted_step : (y : Task) (ys : List Task) (b : Bool) → running_target t ≡ None
      → running_targets (put_before p t ys) ≡ running_targets ys
      → running_targets (cond b (t ∷ y ∷ ys) (y ∷ put_before p t ys)) ≡ with_one (running_target y) (running_targets ys)
  untargeted_step y ys true none e = ap (λ o. with_one o (with_one (running_target y) (running_targets ys))) none
  untargeted_step y ys false none e = ap (λ ns. with_one (running_target y) ns) e

  targets-untargeted : running_target t ≡ None → (ts : List Task) → running_targets (put_before p t ts) ≡ running_targets ts
  targets-untargeted none [] = ap (λ o. with_one o []) none
  targets-untargeted none (y ∷ ys) = untargeted_step y ys (p y) none (targets-untargeted none ys)

  swap_or : (o : Option ℕ) (n m : ℕ) (ns ms : List ℕ) → is_among m ms ≡ ((n == m) || is_among m ns)
      → is_among m (with_one o ms) ≡ ((n == m) || is_among m (with_one o ns))
  swap_or None n m ns ms e = e
  swap_or (Some k) n m ns ms e = ap (λ b. (k == m) || b) e ∙ swap (k == m) (n == m) (is_among m ns)
    where
      swap : (a b c : Bool) → (a || (b || c)) ≡ (b || (a || c))
      swap true true c = refl
      swap true false c = refl
      swap false b c = refl

  among_step : (n m : ℕ) → running_target t ≡ Some n → (y : Task) (ys : List Task) (b : Bool)
      → is_among m (running_targets (put_before p t ys)) ≡ ((n == m) || is_among m (running_targets ys))
      → is_among m (running_targets (cond b (t ∷ y ∷ ys) (y ∷ put_before p t ys)))
      ≡ ((n == m) || is_among m (with_one (running_target y) (running_targets ys)))
  among_step n m aims y ys true e = ap (λ o. is_among m (with_one o (with_one (running_target y) (running_targets ys)))) aims
  among_step n m aims y ys false e = swap_or (running_target y) n m (running_targets ys) (running_targets (put_before p t ys)) e

  among-put : (n m : ℕ) → running_target t ≡ Some n → (ts : List Task)
      → is_among m (running_targets (put_before p t ts)) ≡ ((n == m) || is_among m (running_targets ts))
  among-put n m aims [] = ap (λ o. is_among m (with_one o [])) aims
  among-put n m aims (y ∷ ys) = among_step n m aims y ys (p y) (among-put n m aims ys)

  more_different : (o : Option ℕ) (n : ℕ) (ns ms : List ℕ) → is_among n (with_one o ns) ≡ false → all_different (with_one o ns) ≡ true
      → ((m : ℕ) → is_among m ms ≡ ((n == m) || is_among m ns))
      → (is_among n ns ≡ false → all_different ns ≡ true → all_different ms ≡ true) → all_different (with_one o ms) ≡ true
  more_different None n ns ms none e among there = there none e
  more_different (Some k) n ns ms none e among there =
      let parts = or_parts (k == n) (is_among n ns) none in
      let other : (k == n) ≡ false = parts.0 in
      let apart : (n == k) ≡ false = ne_eqb n k (λ s. let f : (k == n) ≡ true = eq-eqb k n (sym s) in cc) in
      let here : is_among k ns ≡ false = not-true (is_among k ns) (and_left (not (is_among k ns)) (all_different ns) e) in
      and_both (not (is_among k ms)) (all_different ms)
      (ap not (among k ∙ or_from (n == k) (is_among k ns) apart here))
      (there parts.1 (and_right (not (is_among k ns)) (all_different ns) e))

  put_step : (n : ℕ) → running_target t ≡ Some n → (y : Task) (ys : List Task) (b : Bool)
      → is_among n (with_one (running_target y) (running_targets ys)) ≡ false
      → all_different (with_one (running_target y) (running_targets ys)) ≡ true
      → (is_among n (running_targets ys) ≡ false → all_different (running_targets ys) ≡ true → all_different (running_targets (put_before p t ys)) ≡ true)
      → all_different (running_targets (cond b (t ∷ y ∷ ys) (y ∷ put_before p t ys))) ≡ true
  put_step n aims y ys true none e there =
      ap (λ o. all_different (with_one o (with_one (running_target y) (running_targets ys)))) aims
      ∙ and_both (not (is_among n (with_one (running_target y) (running_targets ys)))) (all_different (with_one (running_target y) (running_targets ys)))
      (ap not none) e
  put_step n aims y ys false none e there =
      more_different (running_target y) n (running_targets ys) (running_targets (put_before p t ys)) none e
      (λ m. among-put n m aims ys) there

  -- they stay different where one more is another
  different-put : (n : ℕ) → running_target t ≡ Some n → (ts : List Task) → is_among n (running_targets ts) ≡ false
      → all_different (running_targets ts) ≡ true → all_different (running_targets (put_before p t ts)) ≡ true
  different-put n aims [] none e = ap (λ o. all_different (with_one o [])) aims
  different-put n aims (y ∷ ys) none e = put_step n aims y ys (p y) none e (different-put n aims ys)

busy_step : (o : Option ℕ) (n : ℕ) (b : Bool) (ns : List ℕ) → b ≡ is_among n ns
    → (if_found o (λ m. m == n) false || b) ≡ is_among n (with_one o ns)
busy_step None n b ns e = e
busy_step (Some m) n b ns e = ap (λ c. (m == n) || c) e

-- a volume that isn't busy is no target
targets-busy : (n : ℕ) (ts : List Task) → list_any (λ (t : Task). if_found (running_target t) (λ m. m == n) false) ts ≡ is_among n (running_targets ts)
targets-busy n [] = refl
targets-busy n (t ∷ ts) =
    busy_step (running_target t) n (list_any (λ (t : Task). if_found (running_target t) (λ m. m == n) false) ts) (running_targets ts) (targets-busy n ts)

-- The indexes of a difference.

above_indexed : (n i : ℕ) (xs : List ℕ) → n < i
    → all_above n (map (λ (p : Piece ℕ). p.index) (mapped_from (λ i x. record { index = i; chunk = x }) i xs)) ≡ true
above_indexed n i [] l = refl
above_indexed n i (x ∷ xs) l = and_both (nat_lt n i) _ (lt-ltb n i l) (above_indexed i (i + 1) xs (omega arith))

rising_indexed : (xs : List ℕ) → all_rising (map (λ (p : Piece ℕ). p.index) (indexed xs)) ≡ true
rising_indexed [] = refl
rising_indexed (x ∷ xs) = above_indexed 0 1 xs (omega arith)

below_indexed : (i m : ℕ) (xs : List ℕ) → i + length xs ≤ m
    → list_all (λ (p : Piece ℕ). nat_lt p.index m) (mapped_from (λ i x. record { index = i; chunk = x }) i xs) ≡ true
below_indexed i m [] l = refl
below_indexed i m (x ∷ xs) l = and_both (nat_lt i m) _ (lt-ltb i m (omega arith)) (below_indexed (i + 1) m xs (omega arith))

-- The three parts of the rule.

abbrev indexes_of : RunningCopy ℕ → List ℕ
indexes_of c = map (λ (p : Piece ℕ). p.index) c.pieces

-- whether pieces at these indexes may go into a volume
abbrev takes : List ℕ → Option (Volume ℕ) → Bool
takes indexes o =
    not (if_found o (λ v. is_snapshot_kind v.kind) false)
    && if_found o (λ v. list_all (λ i. nat_lt i (length v.chunks)) indexes) false

abbrev is_kept_with : List (Volume ℕ) → RunningCopy ℕ → Task → Bool
is_kept_with volumes c t =
    (t.total == length c.pieces) && all_rising (indexes_of c)
    && if_found (job_target t.job) (λ n. takes (indexes_of c) (find (λ (v : Volume ℕ). v.number == n) volumes)) false

abbrev is_kept_in : List Task → List (Volume ℕ) → RunningCopy ℕ → Bool
is_kept_in tasks volumes c = if_found (find (λ (t : Task). t.number == c.number) tasks) (is_kept_with volumes c) false

abbrev is_counted : Task → Bool
is_counted t = nat_le t.done t.total && (not (is_success t.state) || (t.done == t.total))

record InOrder (tasks : List Task) (volumes : List (Volume ℕ)) (copies : List (RunningCopy ℕ)) : Type 0 where
  copied : list_all (is_kept_in tasks volumes) copies ≡ true
  apart : all_different (running_targets tasks) ≡ true
  counted : list_all is_counted tasks ≡ true

in_turn : (d : Durable ℕ) → copies_rule d ≡ true → InOrder d.tasks d.volumes d.copies
unfolding copies_rule
in_turn d e = record { copied = and_left _ _ (and_left _ _ e); apart = and_right _ _ (and_left _ _ e); counted = and_right _ _ e }

rule_of : (d : Durable ℕ) → InOrder d.tasks d.volumes d.copies → copies_rule d ≡ true
unfolding copies_rule
rule_of d o =
    and_both (list_all (is_kept_in d.tasks d.volumes) d.copies && all_different (running_targets d.tasks)) (list_all is_counted d.tasks)
    (and_both (list_all (is_kept_in d.tasks d.volumes) d.copies) (all_different (running_targets d.tasks)) o.copied o.apart) o.counted

-- A record with its number, total and job as they were serves as well.
records_keep : (volumes : List (Volume ℕ)) (tasks : List Task) (p : Task → Bool) (g : Task → Task)
    → ((t : Task) → find p tasks ≡ Some t → (g t).number ≡ t.number) → ((t : Task) → find p tasks ≡ Some t → (g t).total ≡ t.total)
    → ((t : Task) → find p tasks ≡ Some t → (g t).job ≡ t.job) → (c : RunningCopy ℕ)
    → is_kept_in (first_changed p g tasks) volumes c ≡ is_kept_in tasks volumes c
records_keep volumes tasks p g number total job c =
    find-changed p (λ (t : Task). t.number == c.number) (λ o. if_found o (is_kept_with volumes c) false) g tasks
    (λ t at. ap (λ m. m == c.number) (number t at))
    (λ t at is. ap (λ m. (m == length c.pieces) && all_rising (indexes_of c)
    && if_found (job_target (g t).job) (λ n. takes (indexes_of c) (find (λ (v : Volume ℕ). v.number == n) volumes)) false) (total t at)
    ∙ ap (λ j. (t.total == length c.pieces) && all_rising (indexes_of c)
    && if_found (job_target j) (λ n. takes (indexes_of c) (find (λ (v : Volume ℕ). v.number == n) volumes)) false) (job t at))

counted_advanced : (t : Task) (n : ℕ) → is_counted t ≡ true → n ≤ t.total - t.done → is_counted (advanced t n) ≡ true
counted_advanced t n e few =
    let l : t.done ≤ t.total = leb-true t.done t.total (and_left (nat_le t.done t.total) _ e) in
    and_both (nat_le (t.done + n) t.total) _ (le-leb (t.done + n) t.total (omega arith)) (of_last (t.done + n == t.total) refl)
  where
    of_last : (b : Bool) → (t.done + n == t.total) ≡ b → (not (is_success (cond b Success Running)) || (t.done + n == t.total)) ≡ true
    of_last true is = is
    of_last false is = refl

module _ (d : Durable ℕ) (k : Kept d) where
  rule : InOrder d.tasks d.volumes d.copies
  rule = in_turn d k.copies

  -- Volumes that change.

  kept_is : (volumes : List (Volume ℕ)) (c : RunningCopy ℕ) (a : Aimed d c) → is_kept_in d.tasks volumes c
      ≡ ((a.task.total == length c.pieces) && all_rising (indexes_of c)
      && takes (indexes_of c) (find (λ (v : Volume ℕ). v.number == a.number) volumes))
  kept_is volumes c a =
      ap (λ o. if_found o (is_kept_with volumes c) false) a.is_task
      ∙ ap (λ o. (a.task.total == length c.pieces) && all_rising (indexes_of c)
      && if_found o (λ n. takes (indexes_of c) (find (λ (v : Volume ℕ). v.number == n) volumes)) false) a.aims

  -- where they take the pieces of each running copy as they did
  abbrev TakesAlike : List (Volume ℕ) → Type 0
  TakesAlike volumes =
      (c : RunningCopy ℕ) (a : Aimed d c)
      → takes (indexes_of c) (find (λ (v : Volume ℕ). v.number == a.number) volumes) ≡ takes (indexes_of c) (volume_of d a.number)

  volumes_keep : (volumes : List (Volume ℕ)) → TakesAlike volumes → (cs : List (RunningCopy ℕ)) → list_all (is_aimed d) cs ≡ true
      → list_all (is_kept_in d.tasks d.volumes) cs ≡ true → list_all (is_kept_in d.tasks volumes) cs ≡ true
  volumes_keep volumes alike cs aim e =
      list_all-both (is_aimed d) (is_kept_in d.tasks d.volumes) (is_kept_in d.tasks volumes)
      (λ c at h. let a : Aimed d c = aimed d c at in
      kept_is volumes c a
      ∙ ap (λ b. (a.task.total == length c.pieces) && all_rising (indexes_of c) && b) (alike c a)
      ∙ sym (kept_is d.volumes c a) ∙ h) cs aim e

  volumes_rule : (volumes : List (Volume ℕ)) → TakesAlike volumes → copies_rule (record d { volumes = volumes }) ≡ true
  volumes_rule volumes alike =
      rule_of (record d { volumes = volumes })
      (record { copied = volumes_keep volumes alike d.copies (ordered d k).aimed rule.copied; apart = rule.apart; counted = rule.counted })

  added_alike : (v : Volume ℕ) → ((c : RunningCopy ℕ) (a : Aimed d c) → (v.number == a.number) ≡ false)
      → TakesAlike (put_before (λ (w : Volume ℕ). nat_lt v.number w.number) v d.volumes)
  added_alike v other c a =
      ap (takes (indexes_of c))
      (find-put_other (λ (w : Volume ℕ). nat_lt v.number w.number) (λ (w : Volume ℕ). w.number == a.number) v d.volumes (other c a))

  added_rule : (v : Volume ℕ) → v.number ≡ d.lsn + 1 → copies_rule (and_volume d v) ≡ true
  added_rule v number =
      volumes_rule (put_before (λ (w : Volume ℕ). nat_lt v.number w.number) v d.volumes)
      (added_alike v (λ c a. ap (λ m. m == a.number) number ∙ other_number d (ordered d k) c a))

  removed_rule : (n : ℕ) → is_busy d n ≡ false → copies_rule (record d { volumes = first_removed (λ (v : Volume ℕ). v.number == n) d.volumes }) ≡ true
  removed_rule n free =
      volumes_rule (first_removed (λ (v : Volume ℕ). v.number == n) d.volumes)
      (λ c a. ap (takes (indexes_of c))
      (find-removed_other (λ (v : Volume ℕ). v.number == n) (λ (v : Volume ℕ). v.number == a.number)
      (λ v is. let u : (a.number == n) ≡ false = unbusy d n free c a in
      let e : v.number ≡ n = eqb-true v.number n is in
      ne_eqb v.number a.number (λ at. let f : (a.number == n) ≡ true = eq-eqb a.number n (sym at ∙ e) in cc)) d.volumes))

  changed_rule : (n : ℕ) (g : Volume ℕ → Volume ℕ) → is_busy d n ≡ false → ((v : Volume ℕ) → (g v).number ≡ v.number)
      → copies_rule (with_volume d n g) ≡ true
  changed_rule n g free number =
      volumes_rule (first_changed (λ (v : Volume ℕ). v.number == n) g d.volumes)
      (λ c a. ap (takes (indexes_of c))
      (find-changed (λ (v : Volume ℕ). v.number == n) (λ (v : Volume ℕ). v.number == a.number) (λ o. o) g d.volumes
      (λ v found. ap (λ m. m == a.number) (number v))
      (λ v found at. let here : v.number ≡ n = eqb-true v.number n (find-passes (λ (w : Volume ℕ). w.number == n) d.volumes v found) in
      let f : (a.number == n) ≡ true = eq-eqb a.number n (sym (eqb-true v.number a.number at) ∙ here) in
      let u : (a.number == n) ≡ false = unbusy d n free c a in cc)))

  -- a change that keeps kind and size
  alike_changed : (n : ℕ) (g : Volume ℕ → Volume ℕ) → ((v : Volume ℕ) → (g v).number ≡ v.number)
      → ((v : Volume ℕ) (indexes : List ℕ) → takes indexes (Some (g v)) ≡ takes indexes (Some v))
      → TakesAlike (first_changed (λ (v : Volume ℕ). v.number == n) g d.volumes)
  alike_changed n g number same c a =
      find-changed (λ (v : Volume ℕ). v.number == n) (λ (v : Volume ℕ). v.number == a.number) (takes (indexes_of c)) g d.volumes
      (λ v found. ap (λ m. m == a.number) (number v)) (λ v found at. same v (indexes_of c))

  -- Records that change.

  advanced_order : (n : ℕ) (t : Task) (m : ℕ) → Runs d n t → m ≤ t.total - t.done → (volumes : List (Volume ℕ)) (cs : List (RunningCopy ℕ))
      → list_all (is_kept_in d.tasks volumes) cs ≡ true → InOrder (with_task d.tasks (advanced t m)) volumes cs
  advanced_order n t m r few volumes cs e =
      let found : task_of d t.number ≡ Some t = r.is_task in
      record {
        copied = list_all-follows (is_kept_in d.tasks volumes) (is_kept_in (with_task d.tasks (advanced t m)) volumes)
            (λ c h. records_keep volumes d.tasks (λ (u : Task). u.number == t.number) (λ _. advanced t m)
            (λ u at. let same : ◌≡◌ {A = Task} t u = cc in ap (λ (w : Task). w.number) same)
            (λ u at. let same : ◌≡◌ {A = Task} t u = cc in ap (λ (w : Task). w.total) same)
            (λ u at. let same : ◌≡◌ {A = Task} t u = cc in ap (λ (w : Task). w.job) same) c ∙ h) cs e;
        apart = different-narrowed (λ (u : Task). u.number == t.number) (λ _. advanced t m) d.tasks
            (λ u at j e. let same : ◌≡◌ {A = Task} t u = cc in sym (ap running_target same) ∙ advanced_target t m r.runs j e) rule.apart;
        counted = all-changed is_counted (λ (u : Task). u.number == t.number) (λ _. advanced t m) d.tasks rule.counted
            (λ u at e. counted_advanced t m (all-found is_counted (λ (u : Task). u.number == t.number) t d.tasks rule.counted found) few);
      }

  clone_few : (n : ℕ) (t : Task) (c : RunningClone ℕ) → Runs d n t → clone_of d t.number ≡ Some c → length (next_indexes t c) ≤ t.total - t.done
  clone_few n t c r at =
      let s : is_clone_kept c t ≡ true = is_kept d t c k.clones r.is_task at in
      let total : t.total ≡ allocated_count c.image = eqb-true t.total (allocated_count c.image) (and_left _ _ (and_left _ _ (and_left _ _ s))) in
      let ids : allocated_count (map (λ (s : ℕ). s) c.image) ≡ allocated_count c.image = ap allocated_count (map-same (λ s. s) (λ s. refl) c.image) in
      let few : length (next_indexes t c) ≤ allocated_count (map (λ s. s) c.image) - t.done = turn_long (map (λ s. s) c.image) t.done in
      omega (arith, total, ids, few)

  copy_few : (t : Task) → next_piece t ≤ t.total - t.done
  copy_few t = omega arith

  clone_goes : (n : ℕ) (t : Task) (c : RunningClone ℕ) → Runs d n t → clone_of d t.number ≡ Some c
      → copies_rule (clone_goes_on d t (length (next_indexes t c)) (next_target n t c)) ≡ true
  clone_goes n t c r at =
      rule_of (clone_goes_on d t (length (next_indexes t c)) (next_target n t c))
      (advanced_order n t (length (next_indexes t c)) r (clone_few n t c r at) d.volumes d.copies rule.copied)

  clone_stops : (n : ℕ) (t : Task) (source : ℕ) (c : RunningClone ℕ) → Runs d n t → clone_of d t.number ≡ Some c
      → copies_rule (clone_ends d t (length (next_indexes t c)) source c (next_target n t c)) ≡ true
  clone_stops n t source c r at =
      let v : Volume ℕ = cloned_volume c source (next_target n t c) in
      let volumes : List (Volume ℕ) = put_before (λ (w : Volume ℕ). nat_lt c.number w.number) v d.volumes in
      rule_of (clone_ends d t (length (next_indexes t c)) source c (next_target n t c))
      (advanced_order n t (length (next_indexes t c)) r (clone_few n t c r at) volumes d.copies
      (volumes_keep volumes (added_alike v apart) d.copies (ordered d k).aimed rule.copied))
    where
      apart : (b : RunningCopy ℕ) (a : Aimed d b) → (c.number == a.number) ≡ false
      apart b a =
          let none : is_none (volume_of d c.number) ≡ true =
          all-found (λ (b : RunningClone ℕ). is_none (volume_of d b.number)) (λ (b : RunningClone ℕ). b.number == t.number) c d.clones (ordered d k).apart at in
          ne_eqb c.number a.number (λ same. let at : volume_of d c.number ≡ Some a.volume = ap (λ m. volume_of d m) same ∙ a.stands in
          let f : is_none (volume_of d c.number) ≡ false = ap is_none at in cc)

  copy_goes : (n : ℕ) (t : Task) → Runs d n t → copies_rule (copy_goes_on d t) ≡ true
  copy_goes n t r =
      rule_of (copy_goes_on d t) (advanced_order n t (next_piece t) r (copy_few t) d.volumes d.copies rule.copied)

  copy_stops : (n : ℕ) (t : Task) (target : ℕ) (c : RunningCopy ℕ) → Runs d n t → copies_rule (copy_ends d t target c) ≡ true
  copy_stops n t target c r =
      let volumes : List (Volume ℕ) = first_changed (λ (v : Volume ℕ). v.number == target) (λ v. record v { chunks = pieces_put c.pieces v.chunks }) d.volumes in
      rule_of (copy_ends d t target c)
      (advanced_order n t (next_piece t) r (copy_few t) volumes (without_copy t.number d.copies)
      (volumes_keep volumes
      (alike_changed target (λ v. record v { chunks = pieces_put c.pieces v.chunks }) (λ v. refl)
      (λ v indexes. ap (λ m. not (is_snapshot_kind v.kind) && list_all (λ i. nat_lt i m) indexes)
      (put_at_long (map (λ (p : Piece ℕ). p.index) c.pieces) (map (λ (p : Piece ℕ). p.chunk) c.pieces) v.chunks)))
      (without_copy t.number d.copies)
      (all-removed (is_aimed d) (λ (b : RunningCopy ℕ). b.number == t.number) d.copies (ordered d k).aimed)
      (all-removed (is_kept_in d.tasks d.volumes) (λ (b : RunningCopy ℕ). b.number == t.number) d.copies rule.copied)))

  turns_keep : (n : ℕ) → copies_rule (turned (λ s. s) (map (λ _. n) (turned_indexes (λ s. s) d n)) d n) ≡ true
  turns_keep n =
      turn_keeps copies_rule d n k.copies
      (λ t c r job at. clone_goes n t c r at)
      (λ t source c r job at. clone_stops n t source c r at)
      (λ t r job. copy_goes n t r)
      (λ t target c r job at. copy_stops n t target c r)

  cancelled_rule : (n : ℕ) → copies_rule (cancelled d n) ≡ true
  unfolding cancelled
  cancelled_rule n =
      rule_of (cancelled d n)
      (record {
        copied = list_all-follows (is_kept_in d.tasks d.volumes) (is_kept_in (task_cancelled d.tasks n) d.volumes)
            (λ c h. records_keep d.volumes d.tasks (λ (u : Task). u.number == n) (λ t. record t { state = Cancelled })
            (λ u at. refl) (λ u at. refl) (λ u at. refl) c ∙ h) (without_copy n d.copies)
            (all-removed (is_kept_in d.tasks d.volumes) (λ (b : RunningCopy ℕ). b.number == n) d.copies rule.copied);
        apart = different-narrowed (λ (u : Task). u.number == n) (λ t. record t { state = Cancelled }) d.tasks (λ u at j e. cc) rule.apart;
        counted = all-changed is_counted (λ (u : Task). u.number == n) (λ t. record t { state = Cancelled }) d.tasks rule.counted
            (λ u at e. and_both (nat_le u.done u.total) true (and_left (nat_le u.done u.total) _ e) refl);
      })

  -- Starts.

  started_copied : (new : Task) → new.number ≡ d.lsn + 1 → list_all (is_kept_in (started d.tasks new) d.volumes) d.copies ≡ true
  started_copied new number =
      list_all-both (is_aimed d) (is_kept_in d.tasks d.volumes) (is_kept_in (started d.tasks new) d.volumes)
      (λ c at h. let a : Aimed d c = aimed d c at in
      ap (λ o. if_found o (is_kept_with d.volumes c) false)
      (started_kept d (ordered d k) new number c.number a.task a.is_task a.runs ∙ sym a.is_task) ∙ h) d.copies (ordered d k).aimed rule.copied

  started_counted : (new : Task) → is_counted new ≡ true → list_all is_counted (started d.tasks new) ≡ true
  started_counted new e =
      all-put is_counted (λ (u : Task). nat_lt new.number u.number) new (with_room d.tasks) e (of_room (nat_le record_limit (length d.tasks)))
    where
      of_room : (b : Bool) → list_all is_counted (cond b (first_removed (λ (u : Task). not (is_running u)) d.tasks) d.tasks) ≡ true
      of_room true = all-removed is_counted (λ (u : Task). not (is_running u)) d.tasks rule.counted
      of_room false = rule.counted

  clone_starts : (n : ℕ) (v : Volume ℕ) → copies_rule (clone_started (λ s. s) 0 d n v) ≡ true
  clone_starts n v =
      let new : Task = record { number = d.lsn + 1; job = Clone n; state = Running; done = 0; total = allocated_count (map (λ s. s) v.chunks) } in
      rule_of (clone_started (λ s. s) 0 d n v)
      (record {
        copied = started_copied new refl;
        apart = ap all_different
            (targets-untargeted (λ (u : Task). nat_lt new.number u.number) new refl (with_room d.tasks) ∙ targets-room d.tasks) ∙ rule.apart;
        counted = started_counted new (and_both (nat_le 0 new.total) true (le-leb 0 new.total (omega arith)) refl);
      })

  copy_starts : (source base target : ℕ) (ps : List (Piece ℕ))
      → all_rising (map (λ (p : Piece ℕ). p.index) ps) ≡ true
      → takes (map (λ (p : Piece ℕ). p.index) ps) (volume_of d target) ≡ true → is_busy d target ≡ false
      → copies_rule (copy_started d (Copy source base target) ps) ≡ true
  copy_starts source base target ps rising taken free =
      let new : Task = record { number = d.lsn + 1; job = Copy source base target; state = Running; done = 0; total = length ps } in
      let c : RunningCopy ℕ = record { number = d.lsn + 1; pieces = ps } in
      let none : is_among target (running_targets (with_room d.tasks)) ≡ false =
      ap (is_among target) (targets-room d.tasks) ∙ sym (targets-busy target d.tasks) ∙ free in
      let here : is_kept_with d.volumes c new ≡ true =
      and_both ((length ps == length ps) && all_rising (map (λ (p : Piece ℕ). p.index) ps)) (takes (map (λ (p : Piece ℕ). p.index) ps) (volume_of d target))
      (and_both (length ps == length ps) (all_rising (map (λ (p : Piece ℕ). p.index) ps)) (eq-eqb (length ps) (length ps) refl) rising) taken in
      rule_of (copy_started d (Copy source base target) ps)
      (record {
        copied = all-put (is_kept_in (started d.tasks new) d.volumes) (λ (b : RunningCopy ℕ). nat_lt (d.lsn + 1) b.number) c d.copies
            (ap (λ o. if_found o (is_kept_with d.volumes c) false) (started_new d (ordered d k) new refl) ∙ here) (started_copied new refl);
        apart = different-put (λ (u : Task). nat_lt new.number u.number) new target refl (with_room d.tasks) none
            (ap all_different (targets-room d.tasks) ∙ rule.apart);
        counted = started_counted new (and_both (nat_le 0 (length ps)) true (le-leb 0 (length ps) (omega arith)) refl);
      })

  -- the pieces of a difference go into a target that is no snapshot and is as long as the source
  taken : (target : ℕ) (v : Volume ℕ) (r : Piece ℕ → Bool) → is_none (volume_of d target) ≡ false → is_snapshot d target ≡ false
      → length v.chunks ≤ size_of d target
      → takes (map (λ (p : Piece ℕ). p.index) (filter r (indexed v.chunks))) (volume_of d target) ≡ true
  taken target v r stands plain long = of_volume (volume_of d target) stands plain long
    where
      of_volume : (o : Option (Volume ℕ)) → is_none o ≡ false → if_found o (λ w. is_snapshot_kind w.kind) false ≡ false
          → length v.chunks ≤ length (if_found o (λ (w : Volume ℕ). w.chunks) [])
          → takes (map (λ (p : Piece ℕ). p.index) (filter r (indexed v.chunks))) o ≡ true
      of_volume None e f l = cc
      of_volume (Some w) e f l =
          and_both (not (is_snapshot_kind w.kind)) _ (ap not f)
          (list_all-map (λ i. nat_lt i (length w.chunks)) (λ (p : Piece ℕ). p.index) (filter r (indexed v.chunks))
          ∙ all-filter (λ (p : Piece ℕ). nat_lt p.index (length w.chunks)) r (indexed v.chunks) (below_indexed 0 (length w.chunks) v.chunks (omega arith)))

copies_step : (misfit : Option Misfit) (d : Durable ℕ) (c : Change) → Kept d → copies_rule d ≡ true → judge misfit d c ≡ Accept
    → copies_rule (effect (λ s. s) (map (λ _. new_stamp d c) (changed_indexes (λ s. s) d c)) 0 d c) ≡ true
unfolding effect state_checks with_clone with_copy changed_indexes
copies_step misfit d (MakeContainer quota offers) k rule e = unfold copies_rule in rule
copies_step misfit d (MakeVolume home vtype chunks needs) k rule e =
    added_rule d k (record {
      number = d.lsn + 1;
      container = home;
      vtype = vtype;
      kind = Plain;
      reverted = 0;
      needs = needs;
      metadata = [];
      chunks = replicate chunks 0;
    }) refl
copies_step misfit d (DeleteVolume n) k rule e =
    let free : (is_bound d.bindings n || is_busy d n) ≡ false =
    not_refused (is_bound d.bindings n || is_busy d n) (ResourceInUse in_vvol) (passed_state misfit d (DeleteVolume n) e 1) in
    removed_rule d k n (or_parts (is_bound d.bindings n) (is_busy d n) free).1
copies_step misfit d (GrowVolume n chunks) k rule e =
    changed_rule d k n (λ v. record v { chunks = v.chunks ++ replicate (chunks - length v.chunks) 0 })
    (not_refused (is_busy d n) (ResourceInUse in_vvol) (passed_state misfit d (GrowVolume n chunks) e 3)) (λ v. refl)
copies_step misfit d (SetMetadata n key text) k rule e =
    volumes_rule d k (first_changed (λ (v : Volume ℕ). v.number == n) (λ v. record v { metadata = after_set v.metadata key text }) d.volumes)
    (alike_changed d k n (λ v. record v { metadata = after_set v.metadata key text }) (λ v. refl) (λ v indexes. refl))
copies_step misfit d (Snapshot n) k rule e =
    found_keeps copies_rule d (volume_of d n) (λ v. and_volume d (record v { number = d.lsn + 1; kind = SnapshotOf (record { 0 = n }) })) rule
    (λ v at. added_rule d k (record v { number = d.lsn + 1; kind = SnapshotOf (record { 0 = n }) }) refl)
copies_step misfit d (FastClone n) k rule e =
    found_keeps copies_rule d (volume_of d n) (λ v. and_volume d (record v { number = d.lsn + 1; kind = FastCloneOf (record { 0 = n }) })) rule
    (λ v at. added_rule d k (record v { number = d.lsn + 1; kind = FastCloneOf (record { 0 = n }) }) refl)
copies_step misfit d (Revert n snapshot) k rule e =
    let free : (is_bound d.bindings n || is_busy d n) ≡ false =
    not_refused (is_bound d.bindings n || is_busy d n) (ResourceInUse in_vvol) (passed_state misfit d (Revert n snapshot) e 3) in
    found_keeps copies_rule d (volume_of d snapshot) (λ s. with_volume d n (λ v. record v { chunks = s.chunks; reverted = d.lsn + 1 })) rule
    (λ s at. changed_rule d k n (λ v. record v { chunks = s.chunks; reverted = d.lsn + 1 })
    (or_parts (is_bound d.bindings n) (is_busy d n) free).1 (λ v. refl))
copies_step misfit d (Write n first blocks) k rule e =
    let is : List ℕ = touched_indexes d.geometry.chunk_blocks first blocks in
    changed_rule d k n (λ v. record v { chunks = put_at is (map (λ _. d.lsn + 1) is) v.chunks })
    (not_refused (is_busy d n) (ResourceInUse in_vvol) (passed_state misfit d (Write n first blocks) e 3)) (λ v. refl)
copies_step misfit d (Unmap n ranges) k rule e =
    changed_rule d k n (λ v. record v { chunks = unmapped_in (λ s. s) 0 ranges v.chunks })
    (not_refused (is_busy d n) (ResourceInUse in_vvol) (passed_state misfit d (Unmap n ranges) e 3)) (λ v. refl)
copies_step misfit d (SetEndpoints host endpoints) k rule e = unfold copies_rule in rule
copies_step misfit d (Bind host n) k rule e = unfold copies_rule in rule
copies_step misfit d (Unbind host endpoint secondary) k rule e = unfold copies_rule in rule
copies_step misfit d (UnbindAll host) k rule e = unfold copies_rule in rule
copies_step misfit d (StartClone n) k rule e =
    found_keeps copies_rule d (volume_of d n) (clone_started (λ s. s) 0 d n) rule (λ v at. clone_starts d k n v)
copies_step misfit d (StartCopy source base target) k rule e =
    let free : (is_bound d.bindings target || is_busy d target) ≡ false =
    not_refused (is_bound d.bindings target || is_busy d target) (ResourceInUse in_target) (passed_state misfit d (StartCopy source base target) e 5) in
    let stands : is_none (volume_of d target) ≡ false =
    not_refused (is_none (volume_of d target)) (NotFound in_target) (passed_state misfit d (StartCopy source base target) e 2) in
    let small : ((target == source) || nat_lt (size_of d target) (size_of d source)) ≡ false =
    not_refused ((target == source) || nat_lt (size_of d target) (size_of d source)) (InvalidArgument in_target)
    (passed_state misfit d (StartCopy source base target) e 3) in
    let plain : is_snapshot d target ≡ false =
    not_refused (is_snapshot d target) (IncompatibleVolume in_target) (passed_state misfit d (StartCopy source base target) e 4) in
    let long : size_of d source ≤ size_of d target =
    ltb-false (size_of d target) (size_of d source) (or_parts (target == source) (nat_lt (size_of d target) (size_of d source)) small).1 in
    found_keeps copies_rule d (volume_of d source)
    (λ v. if_found (volume_of d base) (λ w. copy_started d (Copy source base target) (difference (λ s. s) v.chunks w.chunks)) d) rule
    (λ v found. found_keeps copies_rule d (volume_of d base)
    (λ w. copy_started d (Copy source base target) (difference (λ s. s) v.chunks w.chunks)) rule
    (λ w at. let size : size_of d source ≡ length v.chunks = ap (λ o. length (if_found o (λ (u : Volume ℕ). u.chunks) [])) found in
    copy_starts d k source base target (difference (λ s. s) v.chunks w.chunks)
    (rising-filter (λ (p : Piece ℕ). p.index) (λ (p : Piece ℕ). is_unshared (map (λ s. s) w.chunks) p.index p.chunk) (indexed v.chunks)
    (rising_indexed v.chunks))
    (taken d k target v (λ (p : Piece ℕ). is_unshared (map (λ s. s) w.chunks) p.index p.chunk) stands plain (omega (arith, size, long)))
    (or_parts (is_bound d.bindings target) (is_busy d target) free).1))
copies_step misfit d (Turn n) k rule e = turns_keep d k n
copies_step misfit d (Cancel n) k rule e = cancelled_rule d k n

pub copies_stay : (misfit : Option Misfit) → (d : Durable ℕ) → (change : Change) → keeps_shape_rules d ≡ true → has_its_fields change ≡ true
    → judge misfit d change ≡ Accept → copies_rule (apply_shape d change) ≡ true
unfolding apply_shape apply copies_rule
copies_stay misfit d change rules fields accepted = copies_step misfit d change (kept d rules) (kept d rules).copies accepted
