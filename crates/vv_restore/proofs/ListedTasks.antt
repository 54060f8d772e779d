-- For well-formed tables that are put together again: each record of a task may be added behind those ahead of it.
use Rattle.std.proofs.Common.{ℕ, ◌≡◌, ◌+◌, ◌<◌, ◌≤◌, ◌==◌, ◌&&◌, ◌||◌, not, Bool, true, false, cond, List, ◌∷◌, ◌++◌, length, count_by, sym, ap, ◌∙◌, arith, subst}
use Rattle.std.specs.Prelude.{nat_le}
use Rattle.std.specs.List.{list_all}
use Rattle.std.proofs.lemmas.Bool.{leb-true, eqb-true}
use Rattle.std.proofs.lemmas.List.Sums.{sum_by-cons, sum_by-append}
use Rattle.vv_units.specs.declared.volume.TaskState.{TaskState}
use Rattle.vv_units.specs.declared.volume.TaskState.TheVariants.{Running, Success}
use Rattle.vv_flat.specs.State.{Task, Durable}
use Rattle.vv_flat.specs.Chunks.{Entry, shape_of_tables}
use Rattle.vv_flat.specs.Space.{is_running_state, is_running}
use Rattle.vv_flat.specs.Rules.{is_success, copies_rule}
use Rattle.vv_flat.specs.WellFormed.{is_well_formed}
use Rattle.vv_flat.proofs.Shares.{and_left, and_right}
use Rattle.vv_flat.proofs.Kept.{kept}
use Rattle.vv_laws.proofs.WellFormed.{shape_rules}
use Rattle.vv_tables.proofs.Limits.{limits}
use Rattle.vv_restore.proofs.TakenItems.{item_passes}
use Rattle.vv_restore.proofs.ListedItems.{listed_fewer}
use Rattle.vv_restore.proofs.ListedContainers.{limits_of}

abbrev is_counted : Task → Bool
is_counted t = nat_le t.done t.total && (not (is_success t.state) || (t.done == t.total))

tasks_counted : (d : Durable Entry) → copies_rule (shape_of_tables d) ≡ true → list_all is_counted d.tasks ≡ true
unfolding copies_rule
tasks_counted d e = and_right _ _ e

-- how often a task runs
abbrev running_once : Task → ℕ
running_once t = cond (is_running t) 1 0

-- where one runs, fewer run ahead of it than in all
fewer_run : (most : ℕ) (front : List Task) (t : Task) (back : List Task) → is_running t ≡ true → count_by is_running (front ++ t ∷ back) ≤ most
    → count_by is_running front < most
fewer_run most front t back runs few =
    let all : count_by is_running (front ++ t ∷ back) ≡ count_by is_running front + count_by is_running (t ∷ back) =
    sum_by-append running_once front (t ∷ back) in
    let first : count_by is_running (t ∷ back) ≡ running_once t + count_by is_running back =
    sum_by-cons running_once t back in
    let one : running_once t ≡ 1 = ap (λ (b : Bool). cond b 1 0) runs in
    omega (arith, few, all, first, one)

succeeded : (b : Bool) (done total : ℕ) → b ≡ true → (not b || (done == total)) ≡ true → done ≡ total
succeeded true done total is e = eqb-true done total e
succeeded false done total is e = absurd (cc)

module _ (d : Durable Entry) (well : is_well_formed d ≡ true) (front : List Task) (t : Task) (back : List Task)
    (is : d.tasks ≡ front ++ t ∷ back) where
  counted : is_counted t ≡ true
  counted =
      item_passes is_counted front t back
      (sym (ap (λ (ts : List Task). list_all is_counted ts) is) ∙ tasks_counted d (kept (shape_of_tables d) (shape_rules d well)).copies)

  pub task_room : length front < 256
  task_room = listed_fewer 256 front t back (subst (λ (ts : List Task). length ts ≤ 256) is (limits_of d well).tasks_few)

  pub task_may_run : t.state ≡ Running → count_by is_running front < 16
  task_may_run runs =
      fewer_run 16 front t back (ap (λ (s : TaskState). is_running_state s) runs)
      (subst (λ (ts : List Task). count_by is_running ts ≤ 16) is (limits d well).running)

  pub task_within : t.done ≤ t.total
  task_within = leb-true t.done t.total (and_left _ _ counted)

  pub task_whole : t.state ≡ Success → t.done ≡ t.total
  task_whole so = succeeded (is_success t.state) t.done t.total (ap (λ (s : TaskState). is_success s) so) (and_right _ _ counted)
