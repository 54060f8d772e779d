-- The running clone or copy of a task that runs: it stands, and there is none of the other kind with that number.
use Rattle.std.proofs.Common.{ℕ, ◌≡◌, ◌==◌, ◌&&◌, ◌||◌, not, Bool, true, false, cond, List, [], ◌∷◌, map, Option, Some, None, refl, sym, ap, ◌∙◌}
use Rattle.std.specs.Prelude.{is_some, is_none}
use Rattle.std.specs.List.{find, filter, list_any}
use Rattle.std.proofs.lemmas.Bool.{eqb-true}
use Rattle.vv_flat.specs.Lists.{if_found}
use Rattle.vv_flat.specs.State.{Job, Clone, Copy, Task, Volume, RunningClone, RunningCopy, Durable, task_of, clone_of, copy_of, volume_of, container_of}
use Rattle.vv_flat.specs.Space.{is_running, is_clone, job_target, allocated_count}
use Rattle.vv_flat.specs.Rules.{names_rule, clones_rule, is_clone_kept, is_of_no_snapshot}
use Rattle.vv_flat.proofs.Shares.{and_left, and_right, and_both}
use Rattle.vv_flat.proofs.Steps.{find-passes}
use Rattle.vv_flat.proofs.Known.{all-found}
use Rattle.vv_flat.proofs.Kept.{Kept}
use Rattle.vv_flat.proofs.Charges.{Aimed, aimed, is_aimed}
use Rattle.vv_flat.proofs.KeepTasks.{ordered, found-any, runs_clone, task_passes, clones_run, clone_task}
use Rattle.vv_flat.proofs.KeepForm.{clones_are, copies_are}
use Rattle.vv_laws.proofs.AllocatedVolumes.{kept_total}

-- nothing is there where none is found
pub absent : {A : Type 0} (o : Option A) → o ≡ None → is_some o ≡ true → ⊥
absent None none some = absurd (cc)
absent (Some x) none some = absurd (cc)

pub present : {A : Type 0} (o : Option A) → is_none o ≡ false → is_some o ≡ true
present None some = absurd (cc)
present (Some x) some = refl

-- a check that refuses where a test fails
pub unnegated : (b : Bool) → not b ≡ false → b ≡ true
unnegated true e = refl
unnegated false e = cc

filtered_any : {A : Type 0} (p r : A → Bool) (x : A) (xs : List A) → find p xs ≡ Some x → r x ≡ true → list_any p (filter r xs) ≡ true
filtered_any p r x [] e passes = absurd (cc)
filtered_any p r x (y ∷ ys) e passes = go (p y) (r y) refl refl e (λ h. filtered_any p r x ys h passes)
  where
    go : (b c : Bool) → p y ≡ b → r y ≡ c → cond b (Some y) (find p ys) ≡ Some x → (find p ys ≡ Some x → list_any p (filter r ys) ≡ true)
        → list_any p (cond c (y ∷ filter r ys) (filter r ys)) ≡ true
    go true true is at e later = ap (λ b. b || list_any p (filter r ys)) is
    go true false is at e later = let same : y ≡ x = cc in let no_pass : r x ≡ false = ap r (sym same) ∙ at in absurd (cc)
    go false true is at e later = ap (λ b. b || list_any p (filter r ys)) is ∙ later e
    go false false is at e later = later e

any_keyed : {A : Type 0} (key : A → ℕ) (n : ℕ) (xs : List A) → list_any (λ x. key x == n) xs ≡ list_any (λ m. m == n) (map key xs)
any_keyed key n [] = refl
any_keyed key n (x ∷ xs) = ap (λ b. (key x == n) || b) (any_keyed key n xs)

-- rows by the numbers of the tasks that pass a test
keyed_there : {A : Type 0} (key : A → ℕ) (xs : List A) (r : Task → Bool) (n : ℕ) (t : Task) (tasks : List Task) → map key xs ≡ map (λ (t : Task). t.number) (filter r tasks)
    → find (λ (t : Task). t.number == n) tasks ≡ Some t → r t ≡ true → is_some (find (λ x. key x == n) xs) ≡ true
keyed_there key xs r n t tasks same found passes =
    found-any (λ x. key x == n) xs
    ∙ any_keyed key n xs
    ∙ ap (list_any (λ m. m == n)) same
    ∙ sym (any_keyed (λ (t : Task). t.number) n (filter r tasks))
    ∙ filtered_any (λ (t : Task). t.number == n) r t tasks found passes

clone_aims : (j : Job) (n : ℕ) → is_clone j ≡ true → job_target j ≡ Some n → ⊥
clone_aims (Clone v) n e f = absurd (cc)
clone_aims (Copy s b t) n e f = absurd (cc)

module _ (d : Durable ℕ) (kept : Kept d) (n : ℕ) (t : Task) (found : task_of d n ≡ Some t) where
  pub clone_there : is_running t ≡ true → is_clone t.job ≡ true → is_some (clone_of d n) ≡ true
  clone_there runs clones =
      keyed_there (λ (c : RunningClone ℕ). c.number) d.clones (λ (t : Task). is_running t && is_clone t.job) n t d.tasks (clones_are d kept) found
      (and_both (is_running t) (is_clone t.job) runs clones)

  pub copy_there : is_running t ≡ true → is_clone t.job ≡ false → is_some (copy_of d n) ≡ true
  copy_there runs copies =
      keyed_there (λ (c : RunningCopy ℕ). c.number) d.copies (λ (t : Task). is_running t && not (is_clone t.job)) n t d.tasks (copies_are d kept) found
      (and_both (is_running t) (not (is_clone t.job)) runs (ap not copies))

  pub no_clone : is_clone t.job ≡ false → clone_of d n ≡ None
  no_clone copies = go (clone_of d n) refl
    where
      go : (o : Option (RunningClone ℕ)) → clone_of d n ≡ o → o ≡ None
      go None is = refl
      go (Some c) is =
          let number : c.number ≡ n = eqb-true c.number n (find-passes (λ (b : RunningClone ℕ). b.number == n) d.clones c is) in
          let passes : task_passes d runs_clone c.number ≡ true =
          all-found (λ (b : RunningClone ℕ). task_passes d runs_clone b.number) (λ (b : RunningClone ℕ). b.number == n) c d.clones (clones_run d kept.form) is in
          let k = clone_task d n (ap (λ m. task_passes d runs_clone m) (sym number) ∙ passes) in
          let same : ◌≡◌ {A = Option Task} (Some t) (Some k.task) = sym found ∙ k.is_task in
          let one : ◌≡◌ {A = Task} t k.task = cc in
          let clones : is_clone t.job ≡ true = ap (λ (u : Task). is_clone u.job) one ∙ and_right (is_running k.task) (is_clone k.task.job) k.passes in
          absurd (cc)

  pub no_copy : is_clone t.job ≡ true → copy_of d n ≡ None
  no_copy clones = go (copy_of d n) refl
    where
      go : (o : Option (RunningCopy ℕ)) → copy_of d n ≡ o → o ≡ None
      go None is = refl
      go (Some c) is =
          let number : c.number ≡ n = eqb-true c.number n (find-passes (λ (b : RunningCopy ℕ). b.number == n) d.copies c is) in
          let a : Aimed d c = aimed d c (all-found (is_aimed d) (λ (b : RunningCopy ℕ). b.number == n) c d.copies (ordered d kept).aimed is) in
          let task : task_of d n ≡ Some a.task = ap (λ m. task_of d m) (sym number) ∙ a.is_task in
          let same : ◌≡◌ {A = Option Task} (Some t) (Some a.task) = sym found ∙ task in
          let one : ◌≡◌ {A = Task} t a.task = cc in
          absurd (clone_aims t.job a.number clones (ap (λ (u : Task). job_target u.job) one ∙ a.aims))

  -- a clone's task has as many chunks to copy as its image has allocated ones
  pub clone_total : (c : RunningClone ℕ) → clone_of d n ≡ Some c → t.total ≡ allocated_count c.image
  unfolding clones_rule
  clone_total c is =
      let number : c.number ≡ n = eqb-true c.number n (find-passes (λ (b : RunningClone ℕ). b.number == n) d.clones c is) in
      let task : task_of d c.number ≡ Some t = ap (λ m. task_of d m) number ∙ found in
      let keeps : if_found (task_of d c.number) (is_clone_kept c) false ≡ true =
      all-found (λ (b : RunningClone ℕ). if_found (task_of d b.number) (is_clone_kept b) false) (λ (b : RunningClone ℕ). b.number == n) c d.clones kept.clones is in
      kept_total c t (sym (ap (λ o. if_found o (is_clone_kept c) false) task) ∙ keeps)

module _ (d : Durable ℕ) (kept : Kept d) (n : ℕ) where
  -- the container of a clone stands, and that of a volume
  pub clone_home : (c : RunningClone ℕ) → clone_of d n ≡ Some c → is_some (container_of d c.container) ≡ true
  unfolding names_rule
  clone_home c is =
      all-found (λ (b : RunningClone ℕ). is_some (container_of d b.container)) (λ (b : RunningClone ℕ). b.number == n) c d.clones
      (and_right _ _ (and_left _ _ (and_left _ _ kept.names))) is

  pub volume_home : (v : Volume ℕ) → volume_of d n ≡ Some v → is_some (container_of d v.container) ≡ true
  unfolding names_rule
  volume_home v is =
      and_left (is_some (container_of d v.container)) (is_of_no_snapshot d v.kind)
      (all-found (λ (w : Volume ℕ). is_some (container_of d w.container) && is_of_no_snapshot d w.kind) (λ (w : Volume ℕ). w.number == n) v d.volumes
      (and_left _ _ (and_left _ _ (and_left _ _ kept.names))) is)
