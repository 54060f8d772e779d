-- What was interrupted stays as it is at a second interruption.
use Rattle.std.proofs.Common.{◌≡◌, refl, ap, []}
use Rattle.vv_units.specs.declared.volume.TaskState.{TaskState}
use Rattle.vv_units.specs.declared.volume.TaskState.TheVariants.{Running, Success, Cancelled, Interrupted}
use Rattle.vv_flat.specs.State.{Array, Task}
use Rattle.vv_flat.specs.Restart.{interrupted, interrupted_task}
use Rattle.vv_flat.proofs.MapLists.{map-after}

task_twice : (t : Task) → interrupted_task (interrupted_task t) ≡ interrupted_task t
task_twice t = go t.state
  where
    go : (state : TaskState) → interrupted_task (interrupted_task (record t { state = state })) ≡ interrupted_task (record t { state = state })
    go Running = refl
    go Success = refl
    go Cancelled = refl
    go Interrupted = refl

pub interrupt_twice : {X : Type 0} (a : Array X) → interrupted (interrupted a) ≡ interrupted a
interrupt_twice a =
    ap (λ tasks. record a { durable = record a.durable { tasks = tasks; clones = []; copies = [] } })
    (map-after interrupted_task interrupted_task interrupted_task task_twice a.durable.tasks)
