use Rattle.std.proofs.Common.{sym, ap}
use Rattle.vv_meaning.specs.Asks.{Ask}
use Rattle.vv_profile.specs.Known.{all_known}
use Rattle.vv_core.proofs.CommandPlans.{planned_alike, refused_alike}
use Rattle.vv_core.proofs.planning_commands.plan_command.Goals as goal

pub returns-clause-planned : goal.returns-clause-planned
returns-clause-planned g c queues =
    let payload = c.args.command.now.payload in
    planned_alike (all_known c.args.capabilities.now) c.args.tables.now.durable _ _ payload (ap (λ (a : Ask). a.deed) (sym (c.in-Ok.ensures.ask queues))) c.plan_ask.result
    (c.plan_ask.ensures.planned payload)

pub returns-clause-refused : goal.returns-clause-refused
returns-clause-refused g c queues =
    let payload = c.args.command.now.payload in
    refused_alike (all_known c.args.capabilities.now) c.args.tables.now.durable _ _ (ap (λ (a : Ask). a.deed) (sym (c.in-Ok.ensures.ask queues))) c.plan_ask.result
    (c.plan_ask.ensures.refused payload)
