-- What the rules that the shape decides say, taken apart, and what starts, turns and cancellings do to the records of
-- tasks. That accepted changes keep the rules on bindings, running clones and running copies rests on these.
use Rattle.std.proofs.Common.{◌≡◌, ℕ, ◌+◌, ◌==◌, ◌&&◌, ◌||◌, not, refl, ap, sym, ◌∙◌, Bool, true, false, cond, List, [], ◌∷◌, map, length, set, length-set}
use Rattle.std.specs.Prelude.{Option, Some, None, is_some, nat_lt}
use Rattle.std.specs.List.{find, filter, list_all, list_any}
use Rattle.std.proofs.lemmas.List.Folds.{list_all-map}
use Rattle.std.proofs.lemmas.Bool.{not-true, eqb-true, eq-eqb, ne_eqb}
use Rattle.vv_units.specs.declared.volume.TaskState.TheVariants.{Running, Success, Cancelled}
use Rattle.vv_flat.specs.Lists.{if_found, first_changed, first_removed, put_at}
use Rattle.vv_flat.specs.State.{Job, Clone, Copy, Task, RunningClone, RunningCopy, Durable, task_of, clone_of, copy_of}
use Rattle.vv_flat.specs.Space.{is_running, is_running_state, is_clone, job_target, running_target}
use Rattle.vv_flat.specs.Tasks.{started, with_task, advanced, is_last, next_piece, turn_indexes, clone_goes_on, clone_ends, clone_turned, copy_goes_on, copy_ends, copy_turned, job_turned, turned, job_indexes, turned_indexes, task_cancelled}
use Rattle.vv_flat.specs.Form.{is_formed}
use Rattle.vv_flat.proofs.Steps.{find-passes}
use Rattle.vv_flat.proofs.Shares.{and_left, and_right, and_both, list_all-both}
use Rattle.vv_flat.proofs.Known.{all-removed, all-found}
use Rattle.vv_flat.proofs.Lookups.{find-put_other, find-put_new, find-changed, each-found, all-filtered}
use Rattle.vv_flat.proofs.Kept.{Kept}
use Rattle.vv_flat.proofs.Charges.{Ordered, in_order, room_kept, room_new, formed_tasks, formed_clones}

pub ordered : (d : Durable ℕ) → Kept d → Ordered d
ordered d k = in_order d k.form k.numbers k.names k.copies

-- Lists and tests.

not_or : (a b : Bool) → (not a && not b) ≡ not (a || b)
not_or true b = refl
not_or false b = refl

pub not_any : {A : Type 0} (p : A → Bool) (xs : List A) → not (list_any p xs) ≡ list_all (λ x. not (p x)) xs
not_any p [] = refl
not_any p (x ∷ xs) = sym (not_or (p x) (list_any p xs)) ∙ ap (λ b. not (p x) && b) (not_any p xs)

pub none_any : {A : Type 0} (p : A → Bool) (xs : List A) → list_any p xs ≡ false → list_all (λ x. not (p x)) xs ≡ true
none_any p xs e = sym (not_any p xs) ∙ ap not e

pub any_none : {A : Type 0} (p : A → Bool) (xs : List A) → list_all (λ x. not (p x)) xs ≡ true → list_any p xs ≡ false
any_none p xs e = not-true (list_any p xs) (not_any p xs ∙ e)

any_found : {A : Type 0} (x : A) (o : Option A) (r a : Bool) → is_some o ≡ r → is_some (cond a (Some x) o) ≡ (a || r)
any_found x o r true e = refl
any_found x o r false e = e

-- one is found where one passes
pub found-any : {A : Type 0} (p : A → Bool) (xs : List A) → is_some (find p xs) ≡ list_any p xs
found-any p [] = refl
found-any p (x ∷ xs) = any_found x (find p xs) (list_any p xs) (p x) (found-any p xs)

module _ {A : Type 0} (p : A → Bool) (g : A → A) where
  changed_there : (x y : A) (xs : List A) (b : Bool) → p x ≡ b → cond b (Some x) (find p xs) ≡ Some y → p (g y) ≡ true
      → (find p xs ≡ Some y → find p (first_changed p g xs) ≡ Some (g y))
      → find p (cond b (g x ∷ xs) (x ∷ first_changed p g xs)) ≡ Some (g y)
  changed_there x y xs true is e f there = let same : x ≡ y = cc in rw (same, f)
  changed_there x y xs false is e f there = rw is (there e)

  -- what is changed is found where it still passes
  pub find-changed_found : (y : A) (xs : List A) → find p xs ≡ Some y → p (g y) ≡ true → find p (first_changed p g xs) ≡ Some (g y)
  find-changed_found y [] e f = cc
  find-changed_found y (x ∷ xs) e f = changed_there x y xs (p x) refl e f (λ h. find-changed_found y xs h f)

module _ {A : Type 0} (p r s : A → Bool) where
  each_step : (g : A → A) (x : A) (xs : List A) (b : Bool) → p x ≡ b
      → list_all (λ y. not (p y)) (cond b xs (x ∷ first_removed p xs)) ≡ true → s x ≡ true → list_all s xs ≡ true
      → ((y : A) → p y ≡ false → s y ≡ true → r y ≡ true) → (b ≡ true → r (g x) ≡ true)
      → (b ≡ false → list_all (λ y. not (p y)) (first_removed p xs) ≡ true → list_all r (first_changed p g xs) ≡ true)
      → list_all r (cond b (g x ∷ xs) (x ∷ first_changed p g xs)) ≡ true
  each_step g x xs true is left e h others here there =
      and_both (r (g x)) (list_all r xs) (here refl)
      (list_all-both (λ y. not (p y)) s r (λ y f k. others y (not-true (p y) f) k) xs left h)
  each_step g x xs false is left e h others here there =
      and_both (r x) (list_all r (first_changed p g xs)) (others x is e)
      (there refl (and_right (not (p x)) (list_all (λ y. not (p y)) (first_removed p xs)) left))

  -- what holds of each item once the only one that passes is changed
  pub each-changed : (g : A → A) (xs : List A) → list_all (λ y. not (p y)) (first_removed p xs) ≡ true → list_all s xs ≡ true
      → ((y : A) → p y ≡ false → s y ≡ true → r y ≡ true) → ((y : A) → find p xs ≡ Some y → r (g y) ≡ true)
      → list_all r (first_changed p g xs) ≡ true
  each-changed g [] left h others here = refl
  each-changed g (x ∷ xs) left h others here =
      each_step g x xs (p x) refl left (and_left (s x) (list_all s xs) h) (and_right (s x) (list_all s xs) h) others
      (λ e. here x (rw e)) (λ e l. each-changed g xs l (and_right (s x) (list_all s xs) h) others (λ y f. here y (rw e f)))

  -- and once it is taken out
  pub each-removed : (xs : List A) → list_all (λ y. not (p y)) (first_removed p xs) ≡ true → list_all s xs ≡ true
      → ((y : A) → p y ≡ false → s y ≡ true → r y ≡ true) → list_all r (first_removed p xs) ≡ true
  each-removed xs left h others =
      list_all-both (λ y. not (p y)) s r (λ y f k. others y (not-true (p y) f) k) (first_removed p xs) left
      (all-removed s p xs h)

pub put_at_long : {A : Type 0} (is : List ℕ) (vs xs : List A) → length (put_at is vs xs) ≡ length xs
put_at_long [] vs xs = refl
put_at_long (i ∷ is) [] xs = refl
put_at_long (i ∷ is) (v ∷ vs) xs = put_at_long is vs (set xs i v) ∙ length-set xs i v

-- What is found of a task.
pub record TaskOf (d : Durable ℕ) (m : ℕ) (r : Task → Bool) : Type 0 where
  pub task : Task
  pub is_task : task_of d m ≡ Some task
  pub passes : r task ≡ true

pub task_found : (d : Durable ℕ) (m : ℕ) (r : Task → Bool) → if_found (task_of d m) r false ≡ true → TaskOf d m r
task_found d m r e = of_task (task_of d m) refl e
  where
    of_task : (o : Option Task) → task_of d m ≡ o → if_found o r false ≡ true → TaskOf d m r
    of_task None at f = cc
    of_task (Some t) at f = record { task = t; is_task = at; passes = f }

not_or_so : (b : Bool) → (not b || b) ≡ true
not_or_so true = refl
not_or_so false = refl

abbrev pub runs_clone : Task → Bool
runs_clone t = is_running t && is_clone t.job

module _ (d : Durable ℕ) where
  -- whether the task of a number passes a test
  pub task_passes : (Task → Bool) → ℕ → Bool
  task_passes r m = if_found (task_of d m) r false

  each_passes : (r : Task → Bool) → is_formed d ≡ true → list_all (λ (t : Task). task_passes r t.number) (filter r d.tasks) ≡ true
  unfolding task_passes
  each_passes r form =
      all-filtered r (λ (t : Task). task_passes r t.number) d.tasks
      (each-found (λ (t : Task). t.number) (λ (t : Task). not (r t) || task_passes r t.number) d.tasks (formed_tasks d form)
      (λ t found. ap (λ b. not (r t) || b) (ap (λ o. if_found o r false) found) ∙ not_or_so (r t)))

  -- the task of a running clone runs, and is a clone
  pub clones_run : is_formed d ≡ true → list_all (λ (c : RunningClone ℕ). task_passes runs_clone c.number) d.clones ≡ true
  clones_run form =
      sym (list_all-map (task_passes runs_clone) (λ (c : RunningClone ℕ). c.number) d.clones)
      ∙ ap (list_all (task_passes runs_clone)) (formed_clones d form)
      ∙ list_all-map (task_passes runs_clone) (λ (t : Task). t.number) (filter runs_clone d.tasks)
      ∙ each_passes runs_clone form

  pub clone_task : (m : ℕ) → task_passes runs_clone m ≡ true → TaskOf d m runs_clone
  unfolding task_passes
  clone_task m e = task_found d m runs_clone e

  -- The next log number is no task's.
  pub new_task_number : Ordered d → (m : ℕ) (t : Task) → task_of d m ≡ Some t → (d.lsn + 1 == m) ≡ false
  new_task_number o m t found =
      let is : t.number ≡ m = eqb-true t.number m (find-passes (λ (u : Task). u.number == m) d.tasks t found) in
      let other : (t.number == d.lsn + 1) ≡ false =
      not-true (t.number == d.lsn + 1)
      (all-found (λ (u : Task). not (u.number == d.lsn + 1)) (λ (u : Task). u.number == m) t d.tasks o.tasks found) in
      ne_eqb (d.lsn + 1) m (λ e. let f : (t.number == d.lsn + 1) ≡ true = eq-eqb t.number (d.lsn + 1) (is ∙ sym e) in cc)

  -- A start leaves the running tasks, and makes one more.
  pub started_kept : Ordered d → (new : Task) → new.number ≡ d.lsn + 1 → (m : ℕ) (t : Task) → task_of d m ≡ Some t → is_running t ≡ true
      → find (λ (u : Task). u.number == m) (started d.tasks new) ≡ Some t
  started_kept o new number m t found runs =
      find-put_other (λ (u : Task). nat_lt new.number u.number) (λ (u : Task). u.number == m) new _
      (ap (λ k. k == m) number ∙ new_task_number o m t found)
      ∙ room_kept d m t found runs

  pub started_new : Ordered d → (new : Task) → new.number ≡ d.lsn + 1
      → find (λ (u : Task). u.number == d.lsn + 1) (started d.tasks new) ≡ Some new
  started_new o new number =
      find-put_new (λ (u : Task). nat_lt new.number u.number) (λ (u : Task). u.number == d.lsn + 1) new _
      (eq-eqb new.number (d.lsn + 1) number) (room_new d o)

  -- A turn and a cancelling leave the other tasks.
  pub advanced_other : (t : Task) (n m : ℕ) → task_of d t.number ≡ Some t → (t.number == m) ≡ false
      → find (λ (u : Task). u.number == m) (with_task d.tasks (advanced t n)) ≡ task_of d m
  advanced_other t n m found other =
      find-changed (λ (u : Task). u.number == t.number) (λ (u : Task). u.number == m) (λ o. o) (λ _. advanced t n) d.tasks
      (λ u at. let same : ◌≡◌ {A = Task} t u = cc in ap (λ (w : Task). w.number == m) same)
      (λ u at is. let same : ◌≡◌ {A = Task} t u = cc in
      let f : (t.number == m) ≡ true = ap (λ (w : Task). w.number == m) same ∙ is in cc)

  pub advanced_self : (t : Task) (n : ℕ) → task_of d t.number ≡ Some t
      → find (λ (u : Task). u.number == t.number) (with_task d.tasks (advanced t n)) ≡ Some (advanced t n)
  advanced_self t n found =
      find-changed_found (λ (u : Task). u.number == t.number) (λ _. advanced t n) t d.tasks found (eq-eqb t.number t.number refl)

  pub cancelled_other : (n m : ℕ) → (n == m) ≡ false → find (λ (u : Task). u.number == m) (task_cancelled d.tasks n) ≡ task_of d m
  cancelled_other n m other =
      find-changed (λ (u : Task). u.number == n) (λ (u : Task). u.number == m) (λ o. o) (λ t. record t { state = Cancelled }) d.tasks
      (λ u at. refl)
      (λ u at is. let here : u.number ≡ n = eqb-true u.number n (find-passes (λ (w : Task). w.number == n) d.tasks u at) in
      let f : (n == m) ≡ true = ap (λ k. k == m) (sym here) ∙ is in cc)

-- A turn leaves a running task its target, or takes it away.
pub advanced_target : (t : Task) (n : ℕ) → is_running t ≡ true → (m : ℕ) → running_target (advanced t n) ≡ Some m → running_target t ≡ Some m
advanced_target t n runs m e = ap (λ b. cond b (job_target t.job) None) runs ∙ of_last (is_last t n) e
  where
    of_last : (b : Bool) → cond (is_running_state (cond b Success Running)) (job_target t.job) None ≡ Some m → job_target t.job ≡ Some m
    of_last true f = cc
    of_last false f = f

pub target_passes : (f : ℕ → Bool) (o w : Option ℕ) → ((m : ℕ) → w ≡ Some m → o ≡ Some m) → if_found o f true ≡ true → if_found w f true ≡ true
target_passes f o None from e = refl
target_passes f o (Some m) from e = sym (ap (λ z. if_found z f true) (from m refl)) ∙ e

-- Turns, case by case.

pub record Runs (d : Durable ℕ) (n : ℕ) (t : Task) : Type 0 where
  pub number : t.number ≡ n
  pub is_task : task_of d t.number ≡ Some t
  pub runs : is_running t ≡ true

-- the indexes of a clone's next turn, and the target after it
abbrev pub next_indexes : Task → RunningClone ℕ → List ℕ
next_indexes t c = turn_indexes (map (λ s. s) c.image) t.done

abbrev pub next_target : ℕ → Task → RunningClone ℕ → List ℕ
next_target n t c = put_at (next_indexes t c) (map (λ _. n) (next_indexes t c)) c.target

pub found_keeps : {A : Type 0} (r : Durable ℕ → Bool) (d : Durable ℕ) (o : Option A) (h : A → Durable ℕ) → r d ≡ true
    → ((x : A) → o ≡ Some x → r (h x) ≡ true) → r (if_found o h d) ≡ true
found_keeps r d None h here there = here
found_keeps r d (Some x) h here there = there x refl

either_keeps : (r : Durable ℕ → Bool) (b : Bool) (x y : Durable ℕ) → r x ≡ true → r y ≡ true → r (cond b x y) ≡ true
either_keeps r true x y h k = h
either_keeps r false x y h k = k

module _ (r : Durable ℕ → Bool) (d : Durable ℕ) (n : ℕ) (here : r d ≡ true)
    (clone_on : (t : Task) (c : RunningClone ℕ) → Runs d n t → is_clone t.job ≡ true → clone_of d t.number ≡ Some c
    → r (clone_goes_on d t (length (next_indexes t c)) (next_target n t c)) ≡ true)
    (clone_end : (t : Task) (source : ℕ) (c : RunningClone ℕ) → Runs d n t → is_clone t.job ≡ true → clone_of d t.number ≡ Some c
    → r (clone_ends d t (length (next_indexes t c)) source c (next_target n t c)) ≡ true)
    (copy_on : (t : Task) → Runs d n t → is_clone t.job ≡ false → r (copy_goes_on d t) ≡ true)
    (copy_end : (t : Task) (target : ℕ) (c : RunningCopy ℕ) → Runs d n t → is_clone t.job ≡ false → copy_of d t.number ≡ Some c
    → r (copy_ends d t target c) ≡ true) where
  clone_turn : (t : Task) (source : ℕ) → Runs d n t → is_clone t.job ≡ true → (o : Option (RunningClone ℕ)) → clone_of d t.number ≡ o
      → r (if_found o (clone_turned (λ s. s) (map (λ _. n) (if_found o (λ (c : RunningClone ℕ). turn_indexes (map (λ s. s) c.image) t.done) [])) d t source) d) ≡ true
  clone_turn t source runs job None e = here
  clone_turn t source runs job (Some c) e =
      either_keeps r (is_last t (length (next_indexes t c))) (clone_ends d t (length (next_indexes t c)) source c (next_target n t c))
      (clone_goes_on d t (length (next_indexes t c)) (next_target n t c)) (clone_end t source c runs job e) (clone_on t c runs job e)

  job_keeps : (t : Task) → Runs d n t → (job : Job) → t.job ≡ job
      → r (job_turned (λ s. s) (map (λ _. n) (job_indexes (λ s. s) d t job)) d t job) ≡ true
  job_keeps t runs (Clone source) e = clone_turn t source runs (ap is_clone e) (clone_of d t.number) refl
  job_keeps t runs (Copy source base target) e =
      found_keeps r d (copy_of d t.number) (copy_turned d t target) here
      (λ c at. either_keeps r (is_last t (next_piece t)) (copy_ends d t target c) (copy_goes_on d t)
      (copy_end t target c runs (ap is_clone e) at) (copy_on t runs (ap is_clone e)))

  -- what each case of a turn keeps, a turn keeps
  pub turn_keeps : r (turned (λ s. s) (map (λ _. n) (turned_indexes (λ s. s) d n)) d n) ≡ true
  unfolding turned turned_indexes
  turn_keeps = of_task (task_of d n) refl
    where
      run : (t : Task) → t.number ≡ n → task_of d t.number ≡ Some t → (b : Bool) → is_running t ≡ b
          → r (cond b (job_turned (λ s. s) (map (λ _. n) (cond b (job_indexes (λ s. s) d t t.job) [])) d t t.job) d) ≡ true
      run t number found true runs = job_keeps t (record { number = number; is_task = found; runs = runs }) t.job refl
      run t number found false runs = here

      of_task : (o : Option Task) → task_of d n ≡ o
          → r (if_found o (λ t. cond (is_running t) (job_turned (λ s. s) (map (λ _. n) (if_found o (λ t. cond (is_running t) (job_indexes (λ s. s) d t t.job) []) [])) d t t.job) d) d) ≡ true
      of_task None e = here
      of_task (Some t) e =
          let number : t.number ≡ n = eqb-true t.number n (find-passes (λ (u : Task). u.number == n) d.tasks t e) in
          let found : task_of d t.number ≡ Some t = ap (λ m. task_of d m) number ∙ e in
          run t number found (is_running t) refl
