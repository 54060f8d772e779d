-- An accepted change keeps the rule on running clones, as the last lemma here says. The law the_rules_of_the_shape_stay
-- rests on it.
use Rattle.std.proofs.Common.{◌≡◌, ◌≤◌, ℕ, zero, suc, ◌+◌, ◌-◌, ◌==◌, ◌&&◌, ◌||◌, not, refl, ap, sym, ◌∙◌, Bool, true, false, cond, List, [], ◌∷◌, map, length, replicate, take, drop, set, arith, length-set}
use Rattle.std.specs.Prelude.{Option, Some, nat_le, nat_lt}
use Rattle.std.specs.List.{find, list_all}
use Rattle.std.proofs.lemmas.Bool.{leb-true, le-leb, eqb-true, eq-eqb, ne_eqb, or_right}
use Rattle.std.proofs.lemmas.Slice.Eq.{bytes_eq-Decides}
use Rattle.vv_units.specs.declared.volume.TaskState.TheVariants.{Running}
use Rattle.vv_flat.specs.Lists.{if_found, put_at, indexes_from, numbers_eq}
use Rattle.vv_flat.specs.State.{Volume, Job, Clone, Copy, Task, RunningClone, Piece, Durable, volume_of, task_of, clone_of}
use Rattle.vv_flat.specs.Space.{allocated_count, is_running, is_clone}
use Rattle.vv_flat.specs.Bits.{allocated_indexes}
use Rattle.vv_flat.specs.Tasks.{started, with_task, advanced, next_piece, turn_limit, without_clone, clone_goes_on, clone_ends, task_cancelled, cancelled, clone_of_volume, clone_started, with_clone, difference, copy_started, with_copy, turned, turned_indexes}
use Rattle.vv_flat.specs.Profiles.{Misfit}
use Rattle.vv_flat.specs.Refusals.{Accept}
use Rattle.vv_flat.specs.Changes.{Change, MakeContainer, MakeVolume, DeleteVolume, GrowVolume, SetMetadata, Snapshot, FastClone, Revert, Write, Unmap, SetEndpoints, Bind, Unbind, UnbindAll, StartClone, StartCopy, Turn, Cancel, judge, effect, apply, apply_shape, changed_indexes, new_stamp}
use Rattle.vv_flat.specs.Rules.{is_logged, is_source_logged, numbers_rule, is_clone_kept, clones_rule, keeps_shape_rules, has_its_fields}
use Rattle.vv_flat.proofs.Steps.{find-passes}
use Rattle.vv_flat.proofs.Shares.{and_left, and_right, and_both, list_all-both}
use Rattle.vv_flat.proofs.Known.{all-put, all-found}
use Rattle.vv_flat.proofs.MapLists.{map-same}
use Rattle.vv_flat.proofs.Pool.{is_kept}
use Rattle.vv_flat.proofs.Lookups.{none-left}
use Rattle.vv_flat.proofs.Charges.{clones_rise}
use Rattle.vv_flat.proofs.Kept.{Kept, kept}
use Rattle.vv_flat.proofs.KeepTasks.{ordered, each-changed, each-removed, put_at_long, TaskOf, runs_clone, task_passes, clones_run, clone_task, started_kept, started_new, advanced_other, advanced_self, cancelled_other, Runs, next_indexes, next_target, found_keeps, turn_keeps}

-- Allocated indexes from an index on.

abbrev allocated_from : ℕ → List ℕ → List ℕ
allocated_from i xs = indexes_from (λ i s. not (s == 0)) i xs

take_all : (r : ℕ → Bool) (k : ℕ) (ns : List ℕ) → list_all r ns ≡ true → list_all r (take k ns) ≡ true
take_all r zero ns e = refl
take_all r (suc k) [] e = refl
take_all r (suc k) (n ∷ ns) e = and_both (r n) _ (and_left (r n) (list_all r ns) e) (take_all r k ns (and_right (r n) (list_all r ns) e))

drop_all : (r : ℕ → Bool) (k : ℕ) (ns : List ℕ) → list_all r ns ≡ true → list_all r (drop k ns) ≡ true
drop_all r zero ns e = e
drop_all r (suc k) [] e = refl
drop_all r (suc k) (n ∷ ns) e = drop_all r k ns (and_right (r n) (list_all r ns) e)

least_step : (m i : ℕ) (ns : List ℕ) (b : Bool) → m ≤ i → list_all (λ n. nat_le m n) ns ≡ true → list_all (λ n. nat_le m n) (cond b (i ∷ ns) ns) ≡ true
least_step m i ns true l e = and_both (nat_le m i) _ (le-leb m i l) e
least_step m i ns false l e = e

-- none is below the first index
from_least : (m i : ℕ) (xs : List ℕ) → m ≤ i → list_all (λ n. nat_le m n) (allocated_from i xs) ≡ true
from_least m i [] l = refl
from_least m i (x ∷ xs) l = least_step m i (allocated_from (i + 1) xs) (not (x == 0)) l (from_least m (i + 1) xs (omega arith))

first_least : (m j : ℕ) (ns rest : List ℕ) → list_all (λ n. nat_le m n) ns ≡ true → ns ≡ j ∷ rest → m ≤ j
first_least m j ns rest e f =
    leb-true m j (and_left (nat_le m j) (list_all (λ n. nat_le m n) rest) (sym (ap (list_all (λ n. nat_le m n)) f) ∙ e))

-- One more chunk of a target is allocated: the next allocated one of its image.

set_later : (y : ℕ) (ys : List ℕ) (i j s : ℕ) → suc i ≤ j → set (y ∷ ys) (j - i) s ≡ y ∷ set ys (j - (i + 1)) s
set_later y ys i j s l = let e : j - i ≡ suc (j - (i + 1)) = omega arith in rw e

module _ (s : ℕ) (some : (s == 0) ≡ false) where
  more_step : (i k j x y : ℕ) (image target rest : List ℕ) (a b : Bool) → not (x == 0) ≡ a → not (y == 0) ≡ b
      → cond b (i ∷ allocated_from (i + 1) target) (allocated_from (i + 1) target)
      ≡ take k (cond a (i ∷ allocated_from (i + 1) image) (allocated_from (i + 1) image))
      → drop k (cond a (i ∷ allocated_from (i + 1) image) (allocated_from (i + 1) image)) ≡ j ∷ rest
      → ((k : ℕ) → allocated_from (i + 1) target ≡ take k (allocated_from (i + 1) image) → drop k (allocated_from (i + 1) image) ≡ j ∷ rest
      → allocated_from (i + 1) (set target (j - (i + 1)) s) ≡ take (suc k) (allocated_from (i + 1) image))
      → allocated_from i (set (y ∷ target) (j - i) s)
      ≡ take (suc k) (cond a (i ∷ allocated_from (i + 1) image) (allocated_from (i + 1) image))
  more_step i k j x y image target rest false false is at e f there =
      let l : i + 1 ≤ j =
      first_least (i + 1) j (drop k (allocated_from (i + 1) image)) rest
      (drop_all (λ n. nat_le (i + 1) n) k (allocated_from (i + 1) image) (from_least (i + 1) (i + 1) image (omega arith))) f in
      ap (allocated_from i) (set_later y target i j s (omega arith))
      ∙ ap (λ c. cond c (i ∷ allocated_from (i + 1) (set target (j - (i + 1)) s)) (allocated_from (i + 1) (set target (j - (i + 1)) s))) at
      ∙ there k e f
  more_step i k j x y image target rest false true is at e f there =
      let l : i + 1 ≤ i =
      first_least (i + 1) i (take k (allocated_from (i + 1) image)) (allocated_from (i + 1) target)
      (take_all (λ n. nat_le (i + 1) n) k (allocated_from (i + 1) image) (from_least (i + 1) (i + 1) image (omega arith))) (sym e) in
      absurd (omega arith)
  more_step i zero j x y image target rest true false is at e f there =
      let here : i ≡ j = cc in
      let zero_on : j - i ≡ 0 = omega arith in
      ap (λ m. allocated_from i (set (y ∷ target) m s)) zero_on
      ∙ ap (λ c. cond (not c) (i ∷ allocated_from (i + 1) target) (allocated_from (i + 1) target)) some
      ∙ ap (λ ns. i ∷ ns) e
  more_step i zero j x y image target rest true true is at e f there = cc
  more_step i (suc k) j x y image target rest true false is at e f there =
      let l : i + 1 ≤ i =
      first_least (i + 1) i (allocated_from (i + 1) target) (take k (allocated_from (i + 1) image))
      (from_least (i + 1) (i + 1) target (omega arith)) e in
      absurd (omega arith)
  more_step i (suc k) j x y image target rest true true is at e f there =
      let g : allocated_from (i + 1) target ≡ take k (allocated_from (i + 1) image) = cc in
      let l : i + 1 ≤ j =
      first_least (i + 1) j (drop k (allocated_from (i + 1) image)) rest
      (drop_all (λ n. nat_le (i + 1) n) k (allocated_from (i + 1) image) (from_least (i + 1) (i + 1) image (omega arith))) f in
      ap (allocated_from i) (set_later y target i j s (omega arith))
      ∙ ap (λ c. cond c (i ∷ allocated_from (i + 1) (set target (j - (i + 1)) s)) (allocated_from (i + 1) (set target (j - (i + 1)) s))) at
      ∙ ap (λ ns. i ∷ ns) (there k g f)

  nothing_left : (k : ℕ) (ns rest : List ℕ) (j : ℕ) → ns ≡ [] → drop k ns ≡ j ∷ rest → length ns ≡ 1
  nothing_left zero ns rest j e f = cc
  nothing_left (suc k) [] rest j e f = cc
  nothing_left (suc k) (n ∷ ns) rest j e f = cc

  one_more : (i k j : ℕ) (image target rest : List ℕ) → length target ≡ length image
      → allocated_from i target ≡ take k (allocated_from i image) → drop k (allocated_from i image) ≡ j ∷ rest
      → allocated_from i (set target (j - i) s) ≡ take (suc k) (allocated_from i image)
  one_more i k j [] target rest long e f =
      let z : length {A = ℕ} [] ≡ 1 = nothing_left k [] rest j refl f in absurd (omega arith)
  one_more i k j (x ∷ image) [] rest long e f = absurd (omega arith)
  one_more i k j (x ∷ image) (y ∷ target) rest long e f =
      more_step i k j x y image target rest (not (x == 0)) (not (y == 0)) refl refl e f
      (λ k g h. one_more (i + 1) k j image target rest (omega arith) g h)

  next_drop : (k j : ℕ) (ns rest : List ℕ) → drop k ns ≡ j ∷ rest → drop (suc k) ns ≡ rest
  next_drop zero j [] rest e = cc
  next_drop zero j (n ∷ ns) rest e = cc
  next_drop (suc k) j [] rest e = cc
  next_drop (suc k) j (n ∷ ns) rest e = next_drop k j ns rest e

  -- And so many more are.
  more_put : (image : List ℕ) (m k : ℕ) (target next : List ℕ) → length target ≡ length image
      → allocated_from 0 target ≡ take k (allocated_from 0 image) → drop k (allocated_from 0 image) ≡ next
      → allocated_from 0 (put_at (take m next) (map (λ _. s) (take m next)) target) ≡ take (k + length (take m next)) (allocated_from 0 image)
  more_put image zero k target next long e f = let z : k + 0 ≡ k = omega arith in rw z e
  more_put image (suc m) k target [] long e f = let z : k + 0 ≡ k = omega arith in rw z e
  more_put image (suc m) k target (j ∷ rest) long e f =
      let l : length (set target j s) ≡ length target = length-set target j s in
      let z : suc k + length (take m rest) ≡ k + suc (length (take m rest)) = omega arith in
      let at : j - 0 ≡ j = omega arith in
      more_put image m (suc k) (set target j s) rest (omega (arith, l, long))
      (sym (ap (λ i. allocated_from 0 (set target i s)) at) ∙ one_more 0 k j image target rest long e f)
      (next_drop k j (allocated_from 0 image) rest f)
      ∙ ap (λ n. take n (allocated_from 0 image)) z

-- Lists with one stamp put in at some indexes.

all_set : (r : ℕ → Bool) (i s : ℕ) (xs : List ℕ) → r s ≡ true → list_all r xs ≡ true → list_all r (set xs i s) ≡ true
all_set r i s [] e h = refl
all_set r zero s (x ∷ xs) e h = and_both (r s) (list_all r xs) e (and_right (r x) (list_all r xs) h)
all_set r (suc i) s (x ∷ xs) e h =
    and_both (r x) (list_all r (set xs i s)) (and_left (r x) (list_all r xs) h) (all_set r i s xs e (and_right (r x) (list_all r xs) h))

put_all : (r : ℕ → Bool) (is : List ℕ) (s : ℕ) (xs : List ℕ) → r s ≡ true → list_all r xs ≡ true → list_all r (put_at is (map (λ _. s) is) xs) ≡ true
put_all r [] s xs e h = h
put_all r (i ∷ is) s xs e h = put_all r is s (set xs i s) e (all_set r i s xs e h)

none_in_zeros : (i n : ℕ) → allocated_from i (replicate n 0) ≡ []
none_in_zeros i zero = refl
none_in_zeros i (suc n) = none_in_zeros (i + 1) n

zeros_pass : (n m : ℕ) → list_all (λ s. (s == 0) || (s == m)) (replicate n 0) ≡ true
zeros_pass zero m = refl
zeros_pass (suc n) m = zeros_pass n m

zeros_long : (n : ℕ) → length {A = ℕ} (replicate n 0) ≡ n
zeros_long zero = refl
zeros_long (suc n) = ap suc (zeros_long n)

-- The rule for one clone, taken apart.

record InStep (c : RunningClone ℕ) (t : Task) : Type 0 where
  total : t.total ≡ allocated_count c.image
  long : length c.target ≡ length c.image
  copied : allocated_indexes c.target ≡ take t.done (allocated_indexes c.image)
  stamps : list_all (λ s. (s == 0) || (s == c.number)) c.target ≡ true

in_step : (c : RunningClone ℕ) (t : Task) → is_clone_kept c t ≡ true → InStep c t
in_step c t e = record {
  total = eqb-true t.total (allocated_count c.image) (and_left _ _ (and_left _ _ (and_left _ _ e)));
  long = eqb-true (length c.target) (length c.image) (and_right _ _ (and_left _ _ (and_left _ _ e)));
  copied = (bytes_eq-Decides (allocated_indexes c.target) (take t.done (allocated_indexes c.image))).0 (and_right _ _ (and_left _ _ e));
  stamps = and_right _ _ e;
}

of_step : (c : RunningClone ℕ) (t : Task) → InStep c t → is_clone_kept c t ≡ true
of_step c t k =
    let a : (t.total == allocated_count c.image) ≡ true = eq-eqb t.total (allocated_count c.image) k.total in
    let b : (length c.target == length c.image) ≡ true = eq-eqb (length c.target) (length c.image) k.long in
    let e : numbers_eq (allocated_indexes c.target) (take t.done (allocated_indexes c.image)) ≡ true =
    (bytes_eq-Decides (allocated_indexes c.target) (take t.done (allocated_indexes c.image))).1 k.copied in
    and_both ((t.total == allocated_count c.image) && (length c.target == length c.image)
    && numbers_eq (allocated_indexes c.target) (take t.done (allocated_indexes c.image))) _
    (and_both ((t.total == allocated_count c.image) && (length c.target == length c.image)) _
    (and_both (t.total == allocated_count c.image) (length c.target == length c.image) a b) e) k.stamps

-- the rule for one clone, where the records are these
abbrev is_kept_in : List Task → RunningClone ℕ → Bool
is_kept_in tasks c = if_found (find (λ (t : Task). t.number == c.number) tasks) (is_clone_kept c) false

same_record : (tasks : List Task) (c : RunningClone ℕ) (o : Option Task) → find (λ (t : Task). t.number == c.number) tasks ≡ o
    → if_found o (is_clone_kept c) false ≡ true → is_kept_in tasks c ≡ true
same_record tasks c o e h = ap (λ w. if_found w (is_clone_kept c) false) e ∙ h

module _ (d : Durable ℕ) (k : Kept d) where
  rule_is : list_all (is_kept_in d.tasks) d.clones ≡ true
  rule_is = unfold clones_rule in k.clones

  -- another number than that of a copy's task
  clone_apart : (t : Task) → task_of d t.number ≡ Some t → is_clone t.job ≡ false → (m : ℕ) → task_passes d runs_clone m ≡ true → (t.number == m) ≡ false
  clone_apart t found copy m passes =
      let u : TaskOf d m runs_clone = clone_task d m passes in
      ne_eqb t.number m (λ e. let at : ◌≡◌ {A = Option Task} (Some t) (Some u.task) = sym found ∙ ap (λ j. task_of d j) e ∙ u.is_task in
      let same : ◌≡◌ {A = Task} t u.task = cc in
      let f : is_clone t.job ≡ true = ap (λ (w : Task). is_clone w.job) same ∙ and_right (is_running u.task) (is_clone u.task.job) u.passes in cc)

  started_keeps : (new : Task) → new.number ≡ d.lsn + 1 → list_all (is_kept_in (started d.tasks new)) d.clones ≡ true
  started_keeps new number =
      list_all-both (λ (c : RunningClone ℕ). task_passes d runs_clone c.number) (is_kept_in d.tasks) (is_kept_in (started d.tasks new))
      (λ c passes e. let u : TaskOf d c.number runs_clone = clone_task d c.number passes in
      same_record (started d.tasks new) c (Some u.task)
      (started_kept d (ordered d k) new number c.number u.task u.is_task (and_left (is_running u.task) (is_clone u.task.job) u.passes))
      (sym (ap (λ w. if_found w (is_clone_kept c) false) u.is_task) ∙ e)) d.clones (clones_run d k.form) rule_is

  clone_starts : (n : ℕ) (v : Volume ℕ) → clones_rule (clone_started (λ s. s) 0 d n v) ≡ true
  unfolding clones_rule
  clone_starts n v =
      let new : Task = record { number = d.lsn + 1; job = Clone n; state = Running; done = 0; total = allocated_count (map (λ s. s) v.chunks) } in
      let c : RunningClone ℕ = clone_of_volume 0 (d.lsn + 1) v in
      all-put (is_kept_in (started d.tasks new)) (λ (b : RunningClone ℕ). nat_lt (d.lsn + 1) b.number) c d.clones
      (same_record (started d.tasks new) c (Some new) (started_new d (ordered d k) new refl)
      (of_step c new (record {
        total = ap allocated_count (map-same (λ s. s) (λ s. refl) v.chunks);
        long = zeros_long (length v.chunks);
        copied = none_in_zeros 0 (length v.chunks);
        stamps = zeros_pass (length v.chunks) (d.lsn + 1);
      })))
      (started_keeps new refl)

  copy_starts : (job : Job) (ps : List (Piece ℕ)) → clones_rule (copy_started d job ps) ≡ true
  unfolding clones_rule
  copy_starts job ps = started_keeps (record { number = d.lsn + 1; job = job; state = Running; done = 0; total = length ps }) refl

  alone : (n : ℕ) → list_all (λ (c : RunningClone ℕ). not (c.number == n)) (without_clone n d.clones) ≡ true
  alone n = none-left (λ (c : RunningClone ℕ). c.number) n d.clones (clones_rise d k.form)

  turn_around : (a b : ℕ) → (a == b) ≡ false → (b == a) ≡ false
  turn_around a b e = ne_eqb b a (λ s. let f : (a == b) ≡ true = eq-eqb a b (sym s) in cc)

  -- the other clones, when a record is advanced
  others_keep : (t : Task) (n : ℕ) → task_of d t.number ≡ Some t → (c : RunningClone ℕ) → (c.number == t.number) ≡ false
      → is_kept_in d.tasks c ≡ true → is_kept_in (with_task d.tasks (advanced t n)) c ≡ true
  others_keep t n found c other e =
      same_record (with_task d.tasks (advanced t n)) c (task_of d c.number)
      (advanced_other d t n c.number found (turn_around c.number t.number other)) e

  copy_turns : (t : Task) (n : ℕ) → task_of d t.number ≡ Some t → is_clone t.job ≡ false
      → list_all (is_kept_in (with_task d.tasks (advanced t n))) d.clones ≡ true
  copy_turns t n found copy =
      list_all-both (λ (c : RunningClone ℕ). task_passes d runs_clone c.number) (is_kept_in d.tasks) (is_kept_in (with_task d.tasks (advanced t n)))
      (λ c passes e. others_keep t n found c (turn_around t.number c.number (clone_apart t found copy c.number passes)) e)
      d.clones (clones_run d k.form) rule_is

  logged_tasks : list_all (λ (t : Task). is_logged d.lsn t.number && (not (is_running t) || is_source_logged d.lsn t.job)) d.tasks ≡ true
  unfolding numbers_rule
  logged_tasks = and_right _ _ (and_left _ _ (and_left _ _ k.numbers))

  number_positive : (t : Task) → task_of d t.number ≡ Some t → (t.number == 0) ≡ false
  number_positive t found =
      let logged : (is_logged d.lsn t.number && (not (is_running t) || is_source_logged d.lsn t.job)) ≡ true =
      all-found (λ (u : Task). is_logged d.lsn u.number && (not (is_running u) || is_source_logged d.lsn u.job)) (λ (u : Task). u.number == t.number)
      t d.tasks logged_tasks found in
      let l : 1 ≤ t.number =
      leb-true 1 t.number
      (and_left (nat_le 1 t.number) (nat_le t.number d.lsn)
      (and_left (is_logged d.lsn t.number) (not (is_running t) || is_source_logged d.lsn t.job) logged)) in
      ne_eqb t.number 0 (λ e. omega arith)

  -- the clone whose turn it is
  turned_step : (n : ℕ) (t : Task) (c : RunningClone ℕ) → Runs d n t → clone_of d t.number ≡ Some c
      → is_clone_kept (record c { target = next_target n t c }) (advanced t (length (next_indexes t c))) ≡ true
  turned_step n t c r at =
      let s : InStep c t = in_step c t (is_kept d t c k.clones r.is_task at) in
      let number : c.number ≡ t.number = eqb-true c.number t.number (find-passes (λ (b : RunningClone ℕ). b.number == t.number) d.clones c at) in
      let some : (n == 0) ≡ false = ap (λ m. m == 0) (sym r.number) ∙ number_positive t r.is_task in
      let is : List ℕ = next_indexes t c in
      let next : drop t.done (allocated_from 0 c.image) ≡ drop t.done (allocated_from 0 (map (λ s. s) c.image)) =
      ap (λ xs. drop t.done (allocated_from 0 xs)) (sym (map-same (λ s. s) (λ s. refl) c.image)) in
      of_step (record c { target = next_target n t c }) (advanced t (length is)) (record {
        total = s.total;
        long = put_at_long is (map (λ _. n) is) c.target ∙ s.long;
        copied = more_put n some c.image turn_limit t.done c.target (drop t.done (allocated_from 0 (map (λ s. s) c.image))) s.long s.copied next;
        stamps = put_all (λ s. (s == 0) || (s == c.number)) is n c.target
            (or_right (n == 0) (n == c.number) (eq-eqb n c.number (sym r.number ∙ sym number))) s.stamps;
      })

  clone_turns_on : (n : ℕ) (t : Task) (c : RunningClone ℕ) → Runs d n t → clone_of d t.number ≡ Some c
      → clones_rule (clone_goes_on d t (length (next_indexes t c)) (next_target n t c)) ≡ true
  unfolding clones_rule
  clone_turns_on n t c r at =
      let count : ℕ = length (next_indexes t c) in
      let tasks : List Task = with_task d.tasks (advanced t count) in
      let number : c.number ≡ t.number = eqb-true c.number t.number (find-passes (λ (b : RunningClone ℕ). b.number == t.number) d.clones c at) in
      each-changed (λ (b : RunningClone ℕ). b.number == t.number) (is_kept_in tasks) (is_kept_in d.tasks)
      (λ b. record b { target = next_target n t c }) d.clones (alone t.number) rule_is
      (λ b other e. others_keep t count r.is_task b other e)
      (λ b found. let same : ◌≡◌ {A = RunningClone ℕ} c b = cc in
      ap (λ (z : RunningClone ℕ). is_kept_in tasks (record z { target = next_target n t c })) (sym same)
      ∙ same_record tasks (record c { target = next_target n t c }) (Some (advanced t count))
      (ap (λ m. find (λ (u : Task). u.number == m) tasks) number ∙ advanced_self d t count r.is_task) (turned_step n t c r at))

  clone_turns_out : (n : ℕ) (t : Task) (source : ℕ) (c : RunningClone ℕ) → Runs d n t
      → clones_rule (clone_ends d t (length (next_indexes t c)) source c (next_target n t c)) ≡ true
  unfolding clones_rule
  clone_turns_out n t source c r =
      each-removed (λ (b : RunningClone ℕ). b.number == t.number) (is_kept_in (with_task d.tasks (advanced t (length (next_indexes t c))))) (is_kept_in d.tasks)
      d.clones (alone t.number) rule_is (λ b other e. others_keep t (length (next_indexes t c)) r.is_task b other e)

  cancelled_keeps : (n : ℕ) → clones_rule (cancelled d n) ≡ true
  unfolding clones_rule cancelled
  cancelled_keeps n =
      each-removed (λ (b : RunningClone ℕ). b.number == n) (is_kept_in (task_cancelled d.tasks n)) (is_kept_in d.tasks)
      d.clones (alone n) rule_is
      (λ b other e. same_record (task_cancelled d.tasks n) b (task_of d b.number) (cancelled_other d n b.number (turn_around b.number n other)) e)

  turns_keep : (n : ℕ) → clones_rule (turned (λ s. s) (map (λ _. n) (turned_indexes (λ s. s) d n)) d n) ≡ true
  turns_keep n =
      turn_keeps clones_rule d n k.clones
      (λ t c r job at. clone_turns_on n t c r at)
      (λ t source c r job at. clone_turns_out n t source c r)
      (λ t r job. unfold clones_rule in (copy_turns t (next_piece t) r.is_task job))
      (λ t target c r job at. unfold clones_rule in (copy_turns t (next_piece t) r.is_task job))

clones_step : (d : Durable ℕ) (c : Change) → Kept d → clones_rule d ≡ true
    → clones_rule (effect (λ s. s) (map (λ _. new_stamp d c) (changed_indexes (λ s. s) d c)) 0 d c) ≡ true
unfolding effect with_clone with_copy changed_indexes clones_rule
clones_step d (MakeContainer quota offers) k rule = rule
clones_step d (MakeVolume home vtype chunks needs) k rule = rule
clones_step d (DeleteVolume n) k rule = rule
clones_step d (GrowVolume n chunks) k rule = rule
clones_step d (SetMetadata n key text) k rule = rule
clones_step d (Snapshot n) k rule = found_keeps clones_rule d (volume_of d n) _ rule (λ v at. rule)
clones_step d (FastClone n) k rule = found_keeps clones_rule d (volume_of d n) _ rule (λ v at. rule)
clones_step d (Revert n snapshot) k rule = found_keeps clones_rule d (volume_of d snapshot) _ rule (λ v at. rule)
clones_step d (Write n first blocks) k rule = rule
clones_step d (Unmap n ranges) k rule = rule
clones_step d (SetEndpoints host endpoints) k rule = rule
clones_step d (Bind host n) k rule = rule
clones_step d (Unbind host endpoint secondary) k rule = rule
clones_step d (UnbindAll host) k rule = rule
clones_step d (StartClone n) k rule =
    found_keeps clones_rule d (volume_of d n) (clone_started (λ s. s) 0 d n) rule (λ v at. clone_starts d k n v)
clones_step d (StartCopy source base target) k rule =
    found_keeps clones_rule d (volume_of d source) _ rule
    (λ v found. found_keeps clones_rule d (volume_of d base)
    (λ w. copy_started d (Copy source base target) (difference (λ s. s) v.chunks w.chunks)) rule
    (λ w at. copy_starts d k (Copy source base target) (difference (λ s. s) v.chunks w.chunks)))
clones_step d (Turn n) k rule = turns_keep d k n
clones_step d (Cancel n) k rule = cancelled_keeps d k n

pub clones_stay : (misfit : Option Misfit) → (d : Durable ℕ) → (change : Change) → keeps_shape_rules d ≡ true → has_its_fields change ≡ true
    → judge misfit d change ≡ Accept → clones_rule (apply_shape d change) ≡ true
unfolding apply_shape apply clones_rule
clones_stay misfit d change rules fields accepted = clones_step d change (kept d rules) (kept d rules).clones
