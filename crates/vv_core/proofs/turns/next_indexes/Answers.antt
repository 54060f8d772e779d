use Rattle.std.proofs.Common.{◌+◌, ◌<◌, length, sym, ap, ◌∙◌, arith}
use Rattle.vv_core.specs.Turns.{image_stamps, next_of}
use Rattle.vv_core.proofs.TurnWalk.{behind, behind_step, walk_ends, index_few, stamp_there, no_stamp_there}
use Rattle.vv_core.proofs.turns.next_indexes.Goals as goal

pub returns-in_default : goal.returns-in_default
returns-in_default c =
    let d = c.args.tables.now.durable in
    let n = c.args.task.0 in
    sym (walk_ends (image_stamps d n) c.loop-task.indexes.items c.loop-task.ahead c.loop-task.index (no_stamp_there d n c.loop-task.index c.in_default.ensures))
    ∙ c.loop-task.invariant

pub overflow_add-index : goal.overflow_add-index
overflow_add-index c =
    let d = c.args.tables.now.durable in
    let n = c.args.task.0 in
    let few = index_few d n c.loop-task.index c.in-Some.entry.stamp c.lsn-well_formed.ensures.well (stamp_there d n c.loop-task.index c.in-Some.entry c.in-Some.ensures) in
    let below : c.loop-task.index < 1048576 = few.1 in
    omega (arith, below)

pub loop-task-smaller : goal.loop-task-smaller
loop-task-smaller c =
    let d = c.args.tables.now.durable in
    let n = c.args.task.0 in
    let few = index_few d n c.loop-task.index c.in-Some.entry.stamp c.lsn-well_formed.ensures.well (stamp_there d n c.loop-task.index c.in-Some.entry c.in-Some.ensures) in
    let within : c.loop-task.index < length (image_stamps d n) = few.0 in
    omega (arith, within)

pub loop-task-preserved : goal.loop-task-preserved
loop-task-preserved c =
    let d = c.args.tables.now.durable in
    let n = c.args.task.0 in
    sym (c.in_ok-ahead.ensures (behind (image_stamps d n) (c.loop-task.index + 1)))
    ∙ ap (next_of c.loop-task.indexes.items c.loop-task.ahead)
    (sym (behind_step (image_stamps d n) c.loop-task.index c.in-Some.entry.stamp (stamp_there d n c.loop-task.index c.in-Some.entry c.in-Some.ensures)))
    ∙ c.loop-task.invariant
