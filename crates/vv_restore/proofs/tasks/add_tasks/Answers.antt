use Rattle.std.proofs.Common.{◌≡◌, ◌+◌, ◌<◌, true, List, ◌∷◌, ◌++◌, length, take, drop, count_by, sym, ap, subst}
use Rattle.vv_flat.specs.State.{Task, Durable}
use Rattle.vv_flat.specs.Chunks.{Entry}
use Rattle.vv_flat.specs.Space.{is_running}
use Rattle.vv_task.specs.Table.{is_above_all}
use Rattle.vv_area.specs.Area.{tables_of}
use Rattle.vv_tables.proofs.RestoredOrder.{task_above}
use Rattle.vv_restore.proofs.ListedItems.{listed_row}
use Rattle.vv_restore.proofs.ListedTasks.{task_room, task_may_run, task_within, task_whole}
use Rattle.vv_restore.proofs.tasks.add_tasks.Goals as goal

pub add_task-requires : goal.add_task-requires
add_task-requires c =
    let d : Durable Entry = tables_of c.args.raw.now in
    let well = c.requires.well in
    let i = c.loop-row.row-index in
    let t : Task = c.row-item.result in
    let front : List Task = take i d.tasks in
    let back : List Task = drop (i + 1) d.tasks in
    let is : d.tasks ≡ front ++ t ∷ back =
    listed_row d.tasks c.items-row-items.result.now i t c.items-row-items.ensures c.loop-row-test.true c.row-item.is in
    let ahead : front ≡ c.loop-row.restored.tasks = sym (ap (λ (r : Durable Entry). r.tasks) c.loop-row.invariant) in
    record {
      above = subst (λ (ts : List Task). is_above_all t.number ts ≡ true) ahead (task_above d well front t back is);
      room = subst (λ (ts : List Task). length ts < 256) ahead (task_room d well front t back is);
      may_run = λ runs. subst (λ (ts : List Task). count_by is_running ts < 16) ahead (task_may_run d well front t back is runs);
      within = task_within d well front t back is;
      whole = task_whole d well front t back is;
    }
