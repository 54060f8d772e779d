use Rattle.std.proofs.Common.{◌==◌, not}
use Rattle.vv_flat.specs.State.{Address}
use Rattle.vv_lun.proofs.Addresses.{kept_fewer}
use Rattle.vv_lun.proofs.attentions.Attentions.clear_host.Goals as goal

pub invariant_of-self : goal.invariant_of-self
invariant_of-self c =
    kept_fewer _ _ _ _ (λ (b : Address). not (b.host == c.args.host.0)) c.self.invariant c.take_out_of.ensures.items c.take_out_of.ensures.capacity
