use Rattle.std.proofs.Common.{ap, ◌∙◌}
use Rattle.vv_units.specs.declared.field.Field.TheVariants as field
use Rattle.vv_reply.specs.declared.reply.Answer.TheVariants as answer
use Rattle.vv_reply.specs.declared.reply.Reply.TheVariants.{Done, Refused}
use Rattle.vv_reply.specs.declared.reply.Refusal.TheVariants.{NotFound}
use Rattle.vv_meaning.specs.Calls.{volume_told}
use Rattle.vv_plan.proofs.ShapeTold.{no_volume, volume_is}
use Rattle.vv_plan.proofs.queries.query_volume.Goals as goal

pub returns-in_default : goal.returns-in_default
returns-in_default c =
    c.not_found.ensures ∙ no_volume c.args.tables.now.durable c.args.id.0 volume_told (Refused (NotFound field.Vvol)) c.in_default.ensures

pub returns : goal.returns
returns c =
    let head = c.in-Some.head.now in
    ap (λ pairs. Done (answer.Volume c.allocated.result c.size.result head.container head.kind pairs c.in_ok-profile.profile head.reverted head.vtype)) c.in_ok-metadata.ensures
    ∙ ap (λ needs. Done (answer.Volume c.allocated.result c.size.result head.container head.kind head.metadata needs head.reverted head.vtype)) c.in_ok-profile.ensures
    ∙ volume_is c.args.tables.now.durable c.args.id.0 head c.allocated.result c.size.result (Refused (NotFound field.Vvol)) c.in-Some.ensures c.allocated.ensures c.size.ensures
