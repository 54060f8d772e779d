use Rattle.vv_flat.specs.Chunks.{shape_of_tables}
use Rattle.vv_event.specs.Events.{change_of}
use Rattle.vv_profile.specs.Known.{all_known}
use Rattle.vv_core.proofs.TellableRefusals.{verdict_tellable}
use Rattle.vv_core.proofs.judging.verdict_on.Goals as goal

pub returns-clause-tellable : goal.returns-clause-tellable
returns-clause-tellable g c =
    verdict_tellable (all_known c.args.capabilities.now) (shape_of_tables c.args.tables.now.durable) (change_of c.args.event.now) c.judge.result c.requires c.judge.ensures
