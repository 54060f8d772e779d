use Rattle.std.proofs.Common.{not}
use Rattle.vv_flat.specs.State.{Address}
use Rattle.vv_flat.specs.Bindings.{is_address}
use Rattle.vv_lun.proofs.Addresses.{kept_fewer}
use Rattle.vv_lun.proofs.attentions.Attentions.clear.Goals as goal

pub invariant_of-self : goal.invariant_of-self
invariant_of-self c =
    kept_fewer _ _ _ _ (λ (b : Address). not (is_address b c.of.result)) c.self.invariant c.take_out.ensures.items c.take_out.ensures.capacity
