use Rattle.vv_bind.proofs.TableLemmas.{kept-out}
use Rattle.vv_bind.proofs.table.BindTable.unbind_all.Goals as goal

pub invariant_of-self : goal.invariant_of-self
invariant_of-self c = kept-out _ _ _ _ _ _ c.args.host.0 c.self.invariant c.take_out.ensures.items c.take_out.ensures.capacity
