use Rattle.std.proofs.Common.{Some, sym, ap, ◌∙◌}
use Rattle.vv_flat.specs.Chunks.{shape_of_tables}
use Rattle.vv_plan.specs.Plans.{accepted_reply, with_volatile}
use Rattle.vv_plan.proofs.ReplyRows.{copy_accepted}
use Rattle.vv_plan.proofs.replies.accepted_reply.Goals as goal

pub returns-in-CopyDiffsToVirtualVolume : goal.returns-in-CopyDiffsToVirtualVolume
returns-in-CopyDiffsToVirtualVolume c v =
    let d = shape_of_tables c.args.tables.now.durable in
    let at = c.in-CopyDiffsToVirtualVolume in
    ap (λ r. Some r) c.copy_started.ensures ∙ copy_accepted d v at.source at.base at.target ∙ ap (λ k. accepted_reply (with_volatile d v) k) (sym at.is)
