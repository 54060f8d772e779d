use Rattle.std.proofs.Common.{true, false, ◌∙◌}
use Rattle.vv_flat.specs.Chunks.{shape_of_tables}
use Rattle.vv_flat.specs.Volatile.{head_taken}
use Rattle.vv_meaning.specs.Commands.{command_of}
use Rattle.vv_core.proofs.WaitingSteps.{command_volatile, served_none, served_some}
use Rattle.vv_core.proofs.step.serve_step.Goals as goal

pub returns-in_default-clause-step : goal.returns-in_default-clause-step
returns-in_default-clause-step c = served_none (shape_of_tables c.args.tables.now.durable) c.args.waiting.now c.args.taken.0 c.in_default.ensures

pub returns-then-clears-clause-step : goal.returns-then-clears-clause-step
returns-then-clears-clause-step c =
    let command = c.in-Some.command.now in
    let after = head_taken c.args.waiting.now c.args.taken.0 in
    command_volatile c.args.tables.now after c.attentions.result.now command c.in_ok-ask.ask true c.attentions.ensures c.in_ok-ask.ensures.ask c.if-clears.ensures
    ∙ served_some (shape_of_tables c.args.tables.now.durable) c.args.waiting.now c.args.taken.0 (command_of command) c.in-Some.ensures

pub returns-clause-step : goal.returns-clause-step
returns-clause-step c =
    let command = c.in-Some.command.now in
    let after = head_taken c.args.waiting.now c.args.taken.0 in
    command_volatile c.args.tables.now after c.attentions.result.now command c.in_ok-ask.ask false c.attentions.ensures c.in_ok-ask.ensures.ask c.if-clears.ensures
    ∙ served_some (shape_of_tables c.args.tables.now.durable) c.args.waiting.now c.args.taken.0 (command_of command) c.in-Some.ensures
