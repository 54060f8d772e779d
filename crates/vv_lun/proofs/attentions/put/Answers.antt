use Rattle.std.proofs.Common.{◌∙◌}
use Rattle.vv_flat.specs.Bindings.{is_below}
use Rattle.vv_lun.proofs.Addresses.{put_here}
use Rattle.vv_lun.proofs.attentions.put.Goals as goal

pub returns-clause-items : goal.returns-clause-items
returns-clause-items c =
    c.in-Ok.ensures.items
    ∙ put_here (is_below c.args.address) c.args.addresses.now.items c.deref.result.now c.args.address c.place_in_order-at.result c.deref.ensures.value c.place_in_order-at.ensures.at
