use Rattle.std.proofs.Common.{true, sym, ap, ◌∙◌}
use Rattle.vv_flat.specs.Volatile.{is_queue_full}
use Rattle.vv_meaning.specs.Commands.{command_of}
use Rattle.vv_calls.specs.declared.call.ScsiCall.{ScsiCall}
use Rattle.vv_flat.specs.Volatile.{submitted}
use Rattle.vv_flat.specs.Chunks.{shape_of_tables}
use Rattle.vv_core.proofs.WaitingSteps.{full_stays, submit_volatile}
use Rattle.vv_core.proofs.step.submit_step.Goals as goal

pub returns-then-is_full-clause-step : goal.returns-then-is_full-clause-step
returns-then-is_full-clause-step c =
    full_stays (shape_of_tables c.args.tables.now.durable) c.args.waiting.now (command_of c.args.command.now) (ap is_queue_full (sym c.queue.ensures) ∙ sym c.if-is_full.ensures)

pub returns-then-submission-clause-step : goal.returns-then-submission-clause-step
returns-then-submission-clause-step c =
    ap (λ (x : ScsiCall). submitted c.args.waiting.now (command_of x)) c.in_ok-copy.ensures
    ∙ submit_volatile c.args.waiting.now c.queues.result.now c.args.command.now c.queued-submission.result true c.queues.ensures c.queued-submission.ensures (sym c.if-submission.true) (shape_of_tables c.args.tables.now.durable)
