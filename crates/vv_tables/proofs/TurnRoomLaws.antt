-- What is known of a running copy before its turn: its target stands, and its turns copy no chunk.
use Rattle.std.proofs.Common.{ℕ, ◌≡◌, ◌==◌, true, false, cond, List, [], ◌∷◌, Option, Some, None, option_map, refl, sym, ap, ◌∙◌}
use Rattle.std.specs.Prelude.{IsSome, is_some, option_and_then}
use Rattle.std.specs.List.{find, list_all}
use Rattle.vv_record.specs.declared.record.ChunkCopy.{ChunkCopy}
use Rattle.vv_flat.specs.Lists.{if_found}
use Rattle.vv_flat.specs.State.{Clone, Copy, Task, Volume, Durable, volume_of}
use Rattle.vv_flat.specs.Chunks.{Entry, shape_of_tables}
use Rattle.vv_flat.specs.Space.{is_running, job_target, running_target}
use Rattle.vv_flat.specs.Rules.{names_rule}
use Rattle.vv_flat.specs.Tasks.{turned_indexes, job_indexes}
use Rattle.vv_flat.specs.Changes.{Turn, changed_indexes}
use Rattle.vv_flat.specs.WellFormed.{is_well_formed}
use Rattle.vv_flat.proofs.Known.{all-found}
use Rattle.vv_flat.proofs.Shares.{and_right}
use Rattle.vv_tables.specs.Filling.{copy_indexes, copy_places}
use Rattle.vv_tables.specs.Turns.{RunsCopy, job_source, running_source}
use Rattle.vv_tables.proofs.Accepted.{rules}
use Rattle.vv_tables.proofs.ShapeVolumes.{shape_found, shaped}
use Rattle.vv_tables.proofs.TaskRows.{CopyTask, copy_task}

abbrev stamp : Entry → ℕ
stamp e = e.stamp

-- ---- no chunk
pub no_indexes : (d : Durable Entry) (n target : ℕ) → RunsCopy d n target → changed_indexes stamp d (Turn n) ≡ []
unfolding changed_indexes turned_indexes
no_indexes d n target runs =
    let copying : CopyTask d.tasks n target = copy_task d.tasks n target runs in
    ap (λ (o : Option Task). if_found o (λ t. cond (is_running t) (job_indexes stamp d t t.job) []) []) copying.found
    ∙ ap (λ b. cond b (job_indexes stamp d copying.task copying.task.job) []) copying.running
    ∙ ap (job_indexes stamp d copying.task) copying.job

pub none_copied : (copies : List ChunkCopy) → copy_indexes copies ≡ [] → copy_places copies ≡ []
none_copied [] e = refl
none_copied (c ∷ cs) e = absurd (cc)

-- ---- the target
names_of : (d : Durable ℕ) → names_rule d ≡ true → list_all (λ (t : Task). if_found (running_target t) (λ n. is_some (volume_of d n)) true) d.tasks ≡ true
unfolding names_rule
names_of d e = and_right _ _ e

pub target_named : (d : Durable Entry) → is_well_formed d ≡ true → (n target : ℕ) → RunsCopy d n target → IsSome (volume_of d target)
target_named d well n target runs =
    let copying : CopyTask d.tasks n target = copy_task d.tasks n target runs in
    let task : Task = copying.task in
    let aims : running_target task ≡ Some target = ap (λ b. cond b (job_target task.job) None) copying.running ∙ ap job_target copying.job in
    let named : is_some (volume_of (shape_of_tables d) target) ≡ true =
    sym (ap (λ (o : Option ℕ). if_found o (λ m. is_some (volume_of (shape_of_tables d) m)) true) aims)
    ∙ all-found (λ (t : Task). if_found (running_target t) (λ m. is_some (volume_of (shape_of_tables d) m)) true) (λ (t : Task). t.number == n) task d.tasks (names_of (shape_of_tables d) (rules d well).names) copying.found in
    go (volume_of d target) (ap is_some (sym (shape_found d target)) ∙ named)
  where
    go : (o : Option (Volume Entry)) → is_some (option_map shaped o) ≡ true → IsSome o
    go None e = absurd (cc)
    go (Some v) e = refl

-- a task that runs with the job of a copy
pub runs_copy : (tasks : List Task) (n source base target : ℕ) → option_map (λ (t : Task). t.job) (find (λ (t : Task). t.number == n) tasks) ≡ Some (Copy source base target)
    → if_found (find (λ (t : Task). t.number == n) tasks) is_running false ≡ true → option_and_then running_target (find (λ (t : Task). t.number == n) tasks) ≡ Some target
runs_copy tasks n source base target job running = go (find (λ (t : Task). t.number == n) tasks) job running
  where
    go : (o : Option Task) → option_map (λ (t : Task). t.job) o ≡ Some (Copy source base target) → if_found o is_running false ≡ true → option_and_then running_target o ≡ Some target
    go None job running = absurd (cc)
    go (Some t) job running =
        let is : t.job ≡ Copy source base target = cc in
        ap (λ b. cond b (job_target t.job) None) running ∙ ap job_target is

-- .. and with that of a clone
pub runs_clone : (tasks : List Task) (n volume : ℕ) → option_map (λ (t : Task). t.job) (find (λ (t : Task). t.number == n) tasks) ≡ Some (Clone volume)
    → if_found (find (λ (t : Task). t.number == n) tasks) is_running false ≡ true → option_and_then running_source (find (λ (t : Task). t.number == n) tasks) ≡ Some volume
runs_clone tasks n volume job running = go (find (λ (t : Task). t.number == n) tasks) job running
  where
    go : (o : Option Task) → option_map (λ (t : Task). t.job) o ≡ Some (Clone volume) → if_found o is_running false ≡ true → option_and_then running_source o ≡ Some volume
    go None job running = absurd (cc)
    go (Some t) job running =
        let is : t.job ≡ Clone volume = cc in
        ap (λ b. cond b (job_source t.job) None) running ∙ ap job_source is

-- one target
pub one_target : (o : Option ℕ) (a b : ℕ) → o ≡ Some a → o ≡ Some b → a ≡ b
one_target o a b e f = let both : Some a ≡ Some b = sym e ∙ f in cc
