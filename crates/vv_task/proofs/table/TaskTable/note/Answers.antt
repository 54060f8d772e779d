use Rattle.std.proofs.Common.{◌≡◌, true, List, sym, subst}
use Rattle.vv_flat.specs.State.{Task}
use Rattle.vv_task.specs.Table.{runs}
use Rattle.vv_task.proofs.RowLemmas.{kept-noted}
use Rattle.vv_task.proofs.table.TaskTable.note.Goals as goal

pub invariant_of-self : goal.invariant_of-self
invariant_of-self c =
    kept-noted _ _ _ _ c.args.id.0 c.args.n c.self.invariant
    (subst (λ (xs : List Task). runs xs c.args.id.0 ≡ true) (sym c.self.view_is) c.requires.runs)
    c.note.ensures.items c.note.ensures.capacity
