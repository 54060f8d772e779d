use Rattle.vv_core.proofs.Kept.{interrupted_form_of}
use Rattle.vv_core.proofs.array_core.Core.interrupt.Goals as goal

pub invariant_of-self : goal.invariant_of-self
invariant_of-self c =
    interrupted_form_of c.self.inside.tables.durable c.interrupt.new.self.durable c.self.inside.waiting c.interrupt.ensures.durable c.self.invariant
