use Rattle.std.proofs.Common.{◌∙◌}
use Rattle.vv_bind.proofs.RowLemmas.{put_step}
use Rattle.vv_bind.proofs.rows.put.Goals as goal

pub returns-clause-items : goal.returns-clause-items
returns-clause-items c =
    c.in-Ok.ensures.items
    ∙ put_step c.args.bindings.now.items c.deref.result.now c.args.binding c.host.result.0 c.endpoint.result.0 c.secondary.result.0
    c.place_in_order-at.result c.host.ensures c.endpoint.ensures c.secondary.ensures c.deref.ensures.value c.place_in_order-at.ensures.at
