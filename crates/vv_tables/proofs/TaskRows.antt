-- The row of a task that runs: running clones and copies stand in the rows of their numbers. For turns.
use Rattle.std.proofs.Common.{ℕ, ◌≡◌, ◌-◌, ◌==◌, ◌||◌, Bool, true, false, cond, List, [], ◌∷◌, map, Option, Some, None, option_map, refl, sym, ap, ◌∙◌}
use Rattle.std.specs.Prelude.{IsSome, option_and_then}
use Rattle.std.specs.List.{find, filter, list_any}
use Rattle.std.proofs.lemmas.Bool.{eqb-true}
use Rattle.vv_flat.specs.State.{Job, Clone, Copy, Task}
use Rattle.vv_flat.specs.Space.{is_running, job_target, running_target}
use Rattle.vv_flat.specs.Lists.{if_found}
use Rattle.vv_flat.specs.Tasks.{next_piece, is_last, with_task, advanced}
use Rattle.vv_flat.proofs.Steps.{find-passes}
use Rattle.vv_task.specs.Table.{noted, runs, left_of}
use Rattle.vv_tables.specs.Turns.{job_source, running_source}

-- an item of each task that passes a test
module _ (r : Task → Bool) (n : ℕ) (t : Task) where
  later : (b c : Bool) → c ≡ true → (b || c) ≡ true
  later true c g = refl
  later false c g = g

  any_of : (ts : List Task) → find (λ (u : Task). u.number == n) ts ≡ Some t → r t ≡ true → list_any (λ m. m == n) (map (λ (u : Task). u.number) (filter r ts)) ≡ true
  any_of [] e f = absurd (cc)
  any_of (u ∷ us) e f = go (u.number == n) refl e (r u) refl (λ g. any_of us g f)
    where
      go : (b : Bool) → (u.number == n) ≡ b → cond b (Some u) (find (λ (u : Task). u.number == n) us) ≡ Some t → (c : Bool) → r u ≡ c
          → (find (λ (u : Task). u.number == n) us ≡ Some t → list_any (λ m. m == n) (map (λ (u : Task). u.number) (filter r us)) ≡ true)
          → list_any (λ m. m == n) (map (λ (u : Task). u.number) (cond c (u ∷ filter r us) (filter r us))) ≡ true
      go true is g true of there = ap (λ b. b || list_any (λ m. m == n) (map (λ (u : Task). u.number) (filter r us))) is
      go true is g false of there = let same : u ≡ t = cc in let yes : r u ≡ true = ap r same ∙ f in absurd (cc)
      go false is g true of there = later (u.number == n) _ (there g)
      go false is g false of there = there g

pub any_found : {A : Type 0} (key : A → ℕ) (n : ℕ) (xs : List A) → list_any (λ m. m == n) (map key xs) ≡ true → IsSome (find (λ x. key x == n) xs)
any_found key n [] e = absurd (cc)
any_found {A} key n (x ∷ xs) e = go (key x == n) (any_found key n xs) e
  where
    go : (b : Bool) → (list_any (λ m. m == n) (map key xs) ≡ true → IsSome (find (λ y. key y == n) xs)) → (b || list_any (λ m. m == n) (map key xs)) ≡ true
        → IsSome (cond b (Some x) (find (λ y. key y == n) xs))
    go true later e = refl
    go false later e = later e

-- The rows that have the numbers of the tasks that pass a test have a row for each such task.
pub row_of_task : {A : Type 0} (key : A → ℕ) (r : Task → Bool) (xs : List A) (ts : List Task) (n : ℕ) (t : Task)
    → map key xs ≡ map (λ (u : Task). u.number) (filter r ts) → find (λ (u : Task). u.number == n) ts ≡ Some t → r t ≡ true → IsSome (find (λ x. key x == n) xs)
row_of_task key r xs ts n t same found passes = any_found key n xs (ap (list_any (λ m. m == n)) same ∙ any_of r n t ts found passes)

pub the_found : {A : Type 0} (o : Option A) → IsSome o → (x : A) × (o ≡ Some x)
the_found None e = absurd (cc)
the_found (Some x) e = (x, refl)

-- A running copy, and a running clone, as its record says.
pub record CopyTask (tasks : List Task) (n target : ℕ) : Type 0 where
  pub task : Task
  pub found : find (λ (t : Task). t.number == n) tasks ≡ Some task
  pub number : task.number ≡ n
  pub running : is_running task ≡ true
  pub source : ℕ
  pub base : ℕ
  pub job : task.job ≡ Copy source base target

pub record CloneTask (tasks : List Task) (n source : ℕ) : Type 0 where
  pub task : Task
  pub found : find (λ (t : Task). t.number == n) tasks ≡ Some task
  pub number : task.number ≡ n
  pub running : is_running task ≡ true
  pub job : task.job ≡ Clone source

module _ (tasks : List Task) (n m : ℕ) where
  numbered : (t : Task) → find (λ (u : Task). u.number == n) tasks ≡ Some t → t.number ≡ n
  numbered t found = eqb-true t.number n (find-passes (λ (u : Task). u.number == n) tasks t found)

  copy_of_job : (t : Task) → find (λ (u : Task). u.number == n) tasks ≡ Some t → is_running t ≡ true → (j : Job) → t.job ≡ j → job_target j ≡ Some m → CopyTask tasks n m
  copy_of_job t found runs (Clone volume) is e = absurd (cc)
  copy_of_job t found runs (Copy source base target) is e =
      let aims : target ≡ m = cc in
      record { task = t; found = found; number = numbered t found; running = runs; source = source; base = base; job = is ∙ ap (Copy source base) aims }

  copy_of_run : (t : Task) → find (λ (u : Task). u.number == n) tasks ≡ Some t → (b : Bool) → is_running t ≡ b → cond b (job_target t.job) None ≡ Some m → CopyTask tasks n m
  copy_of_run t found true runs e = copy_of_job t found runs t.job refl e
  copy_of_run t found false runs e = absurd (cc)

  pub copy_task : option_and_then running_target (find (λ (t : Task). t.number == n) tasks) ≡ Some m → CopyTask tasks n m
  copy_task e = go (find (λ (t : Task). t.number == n) tasks) refl e
    where
      go : (o : Option Task) → find (λ (t : Task). t.number == n) tasks ≡ o → option_and_then running_target o ≡ Some m → CopyTask tasks n m
      go None found e = absurd (cc)
      go (Some t) found e = copy_of_run t found (is_running t) refl e

  clone_of_job : (t : Task) → find (λ (u : Task). u.number == n) tasks ≡ Some t → is_running t ≡ true → (j : Job) → t.job ≡ j → job_source j ≡ Some m → CloneTask tasks n m
  clone_of_job t found runs (Copy source base target) is e = absurd (cc)
  clone_of_job t found runs (Clone volume) is e =
      let same : volume ≡ m = cc in
      record { task = t; found = found; number = numbered t found; running = runs; job = is ∙ ap Clone same }

  clone_of_run : (t : Task) → find (λ (u : Task). u.number == n) tasks ≡ Some t → (b : Bool) → is_running t ≡ b → cond b (job_source t.job) None ≡ Some m → CloneTask tasks n m
  clone_of_run t found true runs e = clone_of_job t found runs t.job refl e
  clone_of_run t found false runs e = absurd (cc)

  pub clone_task : option_and_then running_source (find (λ (t : Task). t.number == n) tasks) ≡ Some m → CloneTask tasks n m
  clone_task e = go (find (λ (t : Task). t.number == n) tasks) refl e
    where
      go : (o : Option Task) → find (λ (t : Task). t.number == n) tasks ≡ o → option_and_then running_source o ≡ Some m → CloneTask tasks n m
      go None found e = absurd (cc)
      go (Some t) found e = clone_of_run t found (is_running t) refl e

-- what the table of tasks tells of the task that is found
module _ (tasks : List Task) (n : ℕ) (t : Task) (found : find (λ (u : Task). u.number == n) tasks ≡ Some t) (m : ℕ) where
  pub next_told : option_map next_piece (find (λ (u : Task). u.number == n) tasks) ≡ Some m → m ≡ next_piece t
  next_told e = let both : Some (next_piece t) ≡ Some m = ap (option_map next_piece) (sym found) ∙ e in cc

  pub last_told : (b : Bool) → m ≡ next_piece t → option_map (λ (u : Task). is_last u m) (find (λ (u : Task). u.number == n) tasks) ≡ Some b → is_last t (next_piece t) ≡ b
  last_told b same e =
      let both : Some (is_last t m) ≡ Some b = ap (option_map (λ (u : Task). is_last u m)) (sym found) ∙ e in
      let here : is_last t m ≡ b = cc in
      ap (is_last t) (sym same) ∙ here

  pub noted_told : m ≡ next_piece t → noted tasks n m ≡ with_task tasks (advanced t (next_piece t))
  noted_told same =
      ap (λ (o : Option Task). if_found o (λ u. with_task tasks (advanced u m)) tasks) found
      ∙ ap (λ k. with_task tasks (advanced t k)) same

  pub last_at : (b : Bool) → option_map (λ (u : Task). is_last u m) (find (λ (u : Task). u.number == n) tasks) ≡ Some b → is_last t m ≡ b
  last_at b e = let both : Some (is_last t m) ≡ Some b = ap (option_map (λ (u : Task). is_last u m)) (sym found) ∙ e in cc

  pub noted_at : noted tasks n m ≡ with_task tasks (advanced t m)
  noted_at = ap (λ (o : Option Task). if_found o (λ u. with_task tasks (advanced u m)) tasks) found

  pub runs_at : is_running t ≡ true → runs tasks n ≡ true
  runs_at running = ap (λ (o : Option Task). if_found o is_running false) found ∙ running

  pub left_at : left_of tasks n ≡ t.total - t.done
  left_at = ap (λ (o : Option Task). if_found o (λ u. u.total - u.done) 0) found
