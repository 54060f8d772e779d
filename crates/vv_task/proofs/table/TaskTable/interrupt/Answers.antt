use Rattle.vv_task.proofs.RowLemmas.{kept-interrupted}
use Rattle.vv_task.proofs.table.TaskTable.interrupt.Goals as goal

pub invariant_of-self : goal.invariant_of-self
invariant_of-self c = kept-interrupted _ _ _ _ c.self.invariant c.interrupt.ensures.items c.interrupt.ensures.capacity
