use Rattle.std.proofs.Common.{◌∙◌}
use Rattle.vv_bind.proofs.RowLemmas.{put_context_step}
use Rattle.vv_bind.proofs.rows.put_context.Goals as goal

pub returns-clause-items : goal.returns-clause-items
returns-clause-items c =
    c.in-Ok.ensures.items
    ∙ put_context_step c.args.contexts.now.items c.deref.result.now c.args.context c.host.result.0
    c.context_place_in_order-at.result c.host.ensures c.deref.ensures.value c.context_place_in_order-at.ensures.at
