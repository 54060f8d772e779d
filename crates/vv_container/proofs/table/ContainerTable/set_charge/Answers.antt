use Rattle.vv_container.proofs.RowLemmas.{kept-charged}
use Rattle.vv_container.proofs.table.ContainerTable.set_charge.Goals as goal

pub invariant_of-self : goal.invariant_of-self
invariant_of-self c =
    kept-charged _ _ _ _ c.args.id.0 c.args.charge c.self.invariant c.set_charge.ensures.items c.set_charge.ensures.capacity
