use Rattle.std.proofs.Common.{Option, option_map, ap, ◌∙◌}
use Rattle.vv_units.specs.declared.field.Field.TheVariants as field
use Rattle.vv_flat.specs.Lists.{if_found}
use Rattle.vv_flat.specs.State.{Task}
use Rattle.vv_reply.specs.declared.reply.Reply.TheVariants.{Refused}
use Rattle.vv_reply.specs.declared.reply.Refusal.TheVariants.{NotFound}
use Rattle.vv_meaning.specs.Calls.{task_told}
use Rattle.vv_plan.specs.TaskRecords.{record_turned}
use Rattle.vv_plan.proofs.TasksAfter.{turn_told}
use Rattle.vv_plan.proofs.accepted.task_turned.Goals as goal

pub returns-in-Some : goal.returns-in-Some
returns-in-Some c =
    c.task_told.ensures ∙ ap task_told c.after_turn.ensures
    ∙ ap (λ (o : Option Task). if_found (option_map record_turned o) task_told (Refused (NotFound field.Task))) c.in-Some.ensures
    ∙ turn_told c.args.tables.now.durable c.lsn-lsn.ensures.well c.args.id.0

pub returns-in-None : goal.returns-in-None
returns-in-None c =
    c.not_found.ensures
    ∙ ap (λ (o : Option Task). if_found (option_map record_turned o) task_told (Refused (NotFound field.Task))) c.in-None.ensures
    ∙ turn_told c.args.tables.now.durable c.lsn-lsn.ensures.well c.args.id.0
