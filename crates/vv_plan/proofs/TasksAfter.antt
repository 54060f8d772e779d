-- The record of a task after a change of it, and the numbers of tables that keep their rules.
use Rattle.std.proofs.Common.{ℕ, ◌≡◌, ◌≤◌, ◌^◌, ◌-◌, ◌==◌, ◌&&◌, ◌||◌, Bool, true, false, not, cond, List, [], ◌∷◌, map, length, Option, Some, None, option_map, is_some, refl, sym, ap, subst, ◌∙◌}
use Rattle.std.specs.List.{find, filter, list_any}
use Rattle.std.proofs.lemmas.Bool.{eq-eqb, eqb-true, leb-true}
use Rattle.std.proofs.lemmas.Slice.Eq.{bytes_eq-Decides}
use Rattle.vv_flat.specs.Form.{is_formed, running_copies}
use Rattle.vv_units.specs.declared.volume.TaskState.TheVariants.{Cancelled}
use Rattle.vv_units.specs.declared.field.Field.TheVariants as field
use Rattle.vv_flat.specs.Lists.{if_found, put_at}
use Rattle.vv_flat.specs.State.{Job, Clone, Copy, Task, RunningClone, RunningCopy, Durable, task_of, clone_of, copy_of}
use Rattle.vv_flat.specs.Chunks.{Entry, shape_of_tables}
use Rattle.vv_flat.specs.Space.{is_running, is_clone}
use Rattle.vv_flat.specs.Tasks.{next_piece, is_last, advanced, with_task, turn_indexes, clone_turned, clone_goes_on, clone_ends, copy_turned, copy_goes_on, copy_ends, job_turned, turned, cancelled, task_cancelled}
use Rattle.vv_flat.specs.Changes.{Turn, Cancel, apply_shape, apply, effect}
use Rattle.vv_flat.specs.Rules.{numbers_rule}
use Rattle.vv_flat.specs.WellFormed.{is_well_formed}
use Rattle.vv_flat.proofs.Shares.{and_right}
use Rattle.vv_flat.proofs.Steps.{find-passes}
use Rattle.vv_flat.proofs.Kept.{Kept, kept}
use Rattle.vv_flat.proofs.KeepTasks.{find-changed_found, found-any}
use Rattle.vv_flat.proofs.NothingChanges.{first_changed-same}
use Rattle.vv_laws.proofs.WellFormed.{shape_rules}
use Rattle.vv_laws.proofs.KeptNumbers.{clone_stands, clone_turn_exact}
use Rattle.vv_reply.specs.declared.reply.Reply.TheVariants.{Refused}
use Rattle.vv_reply.specs.declared.reply.Refusal.TheVariants.{NotFound}
use Rattle.vv_meaning.specs.Calls.{task_told, task_after}
use Rattle.vv_plan.specs.TaskRecords.{record_turned}

-- ---- the log number
logged_few : (d : Durable ℕ) → numbers_rule d ≡ true → d.lsn ≤ 2 ^ 62 - 1
unfolding numbers_rule
logged_few d h = leb-true d.lsn (2 ^ 62 - 1) (and_right _ _ h)

pub lsn_few : (d : Durable Entry) → is_well_formed d ≡ true → d.lsn ≤ 2 ^ 62 - 1
lsn_few d well = logged_few (shape_of_tables d) (kept (shape_of_tables d) (shape_rules d well)).numbers

-- ---- a task that runs has its copy
running_any : (r : Task → Bool) (n : ℕ) (t : Task) (ts : List Task) → find (λ (u : Task). u.number == n) ts ≡ Some t → r t ≡ true
    → list_any (λ m. m == n) (map (λ (u : Task). u.number) (filter r ts)) ≡ true
running_any r n t [] e f = absurd (cc)
running_any r n t (u ∷ us) e f = go (u.number == n) refl e (r u) refl (λ g. running_any r n t us g f)
  where
    later : (b c : Bool) → c ≡ true → (b || c) ≡ true
    later true c g = refl
    later false c g = g

    go : (b : Bool) → (u.number == n) ≡ b → cond b (Some u) (find (λ (u : Task). u.number == n) us) ≡ Some t → (c : Bool) → r u ≡ c
        → (find (λ (u : Task). u.number == n) us ≡ Some t → list_any (λ m. m == n) (map (λ (u : Task). u.number) (filter r us)) ≡ true)
        → list_any (λ m. m == n) (map (λ (u : Task). u.number) (cond c (u ∷ filter r us) (filter r us))) ≡ true
    go true is g true of there = ap (λ b. b || list_any (λ m. m == n) (map (λ (u : Task). u.number) (filter r us))) is
    go true is g false of there = let same : ◌≡◌ {A = Task} u t = cc in let fails : r u ≡ true = ap r same ∙ f in absurd (cc)
    go false is g true of there = later (u.number == n) _ (there g)
    go false is g false of there = there g

any-map : {A B : Type 0} (p : B → Bool) (f : A → B) (xs : List A) → list_any p (map f xs) ≡ list_any (λ x. p (f x)) xs
any-map p f [] = refl
any-map p f (x ∷ xs) = ap (λ b. p (f x) || b) (any-map p f xs)

both : (b c : Bool) → b ≡ true → c ≡ false → (b && not c) ≡ true
both true false e f = refl
both true true e f = absurd (cc)
both false c e f = e

formed_copies : (d : Durable ℕ) → is_formed d ≡ true → map (λ (c : RunningCopy ℕ). c.number) d.copies ≡ running_copies d.tasks
unfolding is_formed
formed_copies d form = (bytes_eq-Decides (map (λ (c : RunningCopy ℕ). c.number) d.copies) (running_copies d.tasks)).0 (and_right _ _ form)

copy_stands : (d : Durable ℕ) → Kept d → (t : Task) → task_of d t.number ≡ Some t → is_running t ≡ true → is_clone t.job ≡ false
    → is_some (copy_of d t.number) ≡ true
copy_stands d rules t found runs copy =
    found-any (λ (c : RunningCopy ℕ). c.number == t.number) d.copies
    ∙ sym (any-map (λ m. m == t.number) (λ (c : RunningCopy ℕ). c.number) d.copies)
    ∙ ap (list_any (λ m. m == t.number)) (formed_copies d rules.form)
    ∙ running_any (λ (u : Task). is_running u && not (is_clone u.job)) t.number t d.tasks found (both (is_running t) (is_clone t.job) runs copy)

-- ---- turns
advanced_found : (d : Durable ℕ) (t : Task) (n : ℕ) → task_of d t.number ≡ Some t
    → find (λ (u : Task). u.number == t.number) (with_task d.tasks (advanced t n)) ≡ Some (advanced t n)
advanced_found d t n found = find-changed_found (λ (u : Task). u.number == t.number) (λ _. advanced t n) t d.tasks found (eq-eqb t.number t.number refl)

module _ (d : Durable ℕ) (rules : Kept d) (values : List ℕ) where
  clone_after : (t : Task) (source : ℕ) → task_of d t.number ≡ Some t → (o : Option (RunningClone ℕ)) → is_some o ≡ true
      → length (if_found o (λ (c : RunningClone ℕ). turn_indexes (map (λ s. s) c.image) t.done) []) ≡ next_piece t
      → task_of (if_found o (clone_turned (λ s. s) values d t source) d) t.number ≡ Some (advanced t (next_piece t))
  clone_after t source found None some exact = absurd (cc)
  clone_after t source found (Some c) some exact =
      either (is_last t (length (turn_indexes (map (λ s. s) c.image) t.done)))
      ∙ advanced_found d t (length (turn_indexes (map (λ s. s) c.image) t.done)) found
      ∙ ap (λ n. Some (advanced t n)) exact
    where
      either : (b : Bool) → task_of (cond b
          (clone_ends d t (length (turn_indexes (map (λ s. s) c.image) t.done)) source c (put_at (turn_indexes (map (λ s. s) c.image) t.done) values c.target))
          (clone_goes_on d t (length (turn_indexes (map (λ s. s) c.image) t.done)) (put_at (turn_indexes (map (λ s. s) c.image) t.done) values c.target))) t.number
          ≡ find (λ (u : Task). u.number == t.number) (with_task d.tasks (advanced t (length (turn_indexes (map (λ s. s) c.image) t.done))))
      either true = refl
      either false = refl

  copy_after : (t : Task) (target : ℕ) → task_of d t.number ≡ Some t → (o : Option (RunningCopy ℕ)) → is_some o ≡ true
      → task_of (if_found o (copy_turned d t target) d) t.number ≡ Some (advanced t (next_piece t))
  copy_after t target found None some = absurd (cc)
  copy_after t target found (Some c) some = either (is_last t (next_piece t)) ∙ advanced_found d t (next_piece t) found
    where
      either : (b : Bool) → task_of (cond b (copy_ends d t target c) (copy_goes_on d t)) t.number
          ≡ find (λ (u : Task). u.number == t.number) (with_task d.tasks (advanced t (next_piece t)))
      either true = refl
      either false = refl

  job_after : (t : Task) → task_of d t.number ≡ Some t → is_running t ≡ true → (job : Job) → t.job ≡ job
      → task_of (job_turned (λ s. s) values d t job) t.number ≡ Some (advanced t (next_piece t))
  job_after t found runs (Clone source) e =
      clone_after t source found (clone_of d t.number) (clone_stands d rules t found runs (ap is_clone e)) (clone_turn_exact d rules t found runs (ap is_clone e))
  job_after t found runs (Copy source base target) e =
      copy_after t target found (copy_of d t.number) (copy_stands d rules t found runs (ap is_clone e))

  -- the record of a task after a turn of it
  turned_record : (n : ℕ) → task_of (turned (λ s. s) values d n) n ≡ option_map record_turned (task_of d n)
  unfolding turned
  turned_record n = of_task (task_of d n) refl
    where
      run : (t : Task) → task_of d t.number ≡ Some t → (b : Bool) → is_running t ≡ b
          → task_of (cond b (job_turned (λ s. s) values d t t.job) d) t.number ≡ Some (cond b (advanced t (next_piece t)) t)
      run t found true runs = job_after t found runs t.job refl
      run t found false runs = found

      of_task : (o : Option Task) → task_of d n ≡ o
          → task_of (if_found o (λ t. cond (is_running t) (job_turned (λ s. s) values d t t.job) d) d) n ≡ option_map record_turned o
      of_task None e = e
      of_task (Some t) e =
          let number : t.number ≡ n = eqb-true t.number n (find-passes (λ (u : Task). u.number == n) d.tasks t e) in
          let found : task_of d t.number ≡ Some t = ap (λ m. task_of d m) number ∙ e in
          subst (λ m. task_of (cond (is_running t) (job_turned (λ s. s) values d t t.job) d) m ≡ Some (cond (is_running t) (advanced t (next_piece t)) t)) number
          (run t found (is_running t) refl)

pub turn_told : (d : Durable Entry) → is_well_formed d ≡ true → (n : ℕ)
    → if_found (option_map record_turned (task_of d n)) task_told (Refused (NotFound field.Task)) ≡ task_after (shape_of_tables d) (Turn n) n
unfolding task_after apply_shape apply effect
turn_told d well n =
    sym (ap (λ (o : Option Task). if_found o task_told (Refused (NotFound field.Task))) (turned_record (shape_of_tables d) (kept (shape_of_tables d) (shape_rules d well)) _ n))

-- ---- cancelling
abbrev pub record_cancelled : Task → Task
record_cancelled t = record t { state = Cancelled }

cancelled_record : (tasks : List Task) (n : ℕ) (o : Option Task) → find (λ (t : Task). t.number == n) tasks ≡ o
    → find (λ (t : Task). t.number == n) (task_cancelled tasks n) ≡ option_map record_cancelled o
cancelled_record tasks n None e =
    ap (λ (ts : List Task). find (λ (t : Task). t.number == n) ts)
    (first_changed-same (λ (t : Task). t.number == n) record_cancelled tasks (λ t found. absurd (cc)))
    ∙ e
cancelled_record tasks n (Some t) e =
    find-changed_found (λ (t : Task). t.number == n) record_cancelled t tasks e (find-passes (λ (u : Task). u.number == n) tasks t e)

pub cancel_told : (d : Durable Entry) (n : ℕ)
    → if_found (option_map record_cancelled (task_of d n)) task_told (Refused (NotFound field.Task)) ≡ task_after (shape_of_tables d) (Cancel n) n
unfolding task_after apply_shape apply effect cancelled
cancel_told d n =
    sym (ap (λ (o : Option Task). if_found o task_told (Refused (NotFound field.Task))) (cancelled_record d.tasks n (task_of d n) refl))
