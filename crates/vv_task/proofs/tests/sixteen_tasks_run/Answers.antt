use Rattle.std.proofs.Common.{ap}
use Rattle.vv_task.specs.declared.task.Task.{Task}
use Rattle.vv_task.specs.Table.{record_of}
use Rattle.vv_task.proofs.RowLemmas.{next_started}
use Rattle.vv_task.proofs.tests.sixteen_tasks_run.Goals as goal

pub loop-number-preserved : goal.loop-number-preserved
loop-number-preserved g c =
    next_started c.loop-number.table c.start.new.self (record_of c.clone_task.result) c.loop-number.number (ap (λ (t : Task). t.id.0) c.clone_task.ensures)
    c.loop-number.invariant c.start.ensures
