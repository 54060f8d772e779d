use Rattle.std.proofs.Common.{true, false}
use Rattle.vv_core.proofs.WaitingSteps.{command_volatile}
use Rattle.vv_core.proofs.step.command_step.Goals as goal

pub returns-then-clears-clause-step : goal.returns-then-clears-clause-step
returns-then-clears-clause-step c =
    command_volatile c.args.tables.now c.args.waiting.now c.attentions.result.now c.args.command.now c.in_ok-ask.ask true c.attentions.ensures c.in_ok-ask.ensures.ask c.if-clears.ensures

pub returns-clause-step : goal.returns-clause-step
returns-clause-step c =
    command_volatile c.args.tables.now c.args.waiting.now c.attentions.result.now c.args.command.now c.in_ok-ask.ask false c.attentions.ensures c.in_ok-ask.ensures.ask c.if-clears.ensures
