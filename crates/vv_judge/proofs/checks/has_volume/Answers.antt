use Rattle.std.proofs.Common.{◌∙◌}
use Rattle.vv_judge.proofs.Shapes.{stands_where_lent}
use Rattle.vv_judge.proofs.checks.has_volume.Goals as goal

pub returns : goal.returns
returns c =
    c.is_some.ensures ∙ stands_where_lent _ _ c.args.tables.now.durable c.args.id.0 c.volume.result c.volume.ensures
