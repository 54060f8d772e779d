use Rattle.std.proofs.Common.{sym}
use Rattle.vv_core.proofs.TurnPlans.{turn_journaled}
use Rattle.vv_core.proofs.planning_changes.journal_turn.Goals as goal

pub returns-clause-planned : goal.returns-clause-planned
returns-clause-planned c capabilities v accepted =
    turn_journaled capabilities c.args.tables.now.durable v c.args.task c.in-Ok.event c.task_turned.result c.in-Ok.ensures (sym accepted) c.task_turned.ensures
