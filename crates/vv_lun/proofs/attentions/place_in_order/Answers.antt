use Rattle.std.proofs.Common.{ap, length, ◌∙◌, unwrap_or}
use Rattle.vv_flat.specs.Bindings.{is_below}
use Rattle.vv_flat.proofs.Positions.{position_or}
use Rattle.vv_lun.proofs.attentions.place_in_order.Goals as goal

pub returns-clause-at : goal.returns-clause-at
returns-clause-at c =
    c.unwrap_or.ensures ∙ ap (λ r. unwrap_or r (length c.args.addresses.now)) c.place_above.ensures
    ∙ position_or (is_below c.args.address) c.args.addresses.now
