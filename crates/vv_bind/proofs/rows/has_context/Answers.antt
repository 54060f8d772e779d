use Rattle.std.proofs.Common.{◌∙◌}
use Rattle.vv_bind.proofs.TableLemmas.{has_is}
use Rattle.vv_bind.proofs.rows.has_context.Goals as goal

pub returns : goal.returns
returns c = c.is_some.ensures ∙ has_is c.args.contexts.now c.args.host.0 c.context_place.result c.context_place.ensures
