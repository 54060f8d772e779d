use Rattle.vv_task.proofs.RowLemmas.{kept-cancelled}
use Rattle.vv_task.proofs.table.TaskTable.cancel.Goals as goal

pub invariant_of-self : goal.invariant_of-self
invariant_of-self c = kept-cancelled _ _ _ _ c.args.id.0 c.self.invariant c.cancel.ensures.items c.cancel.ensures.capacity
