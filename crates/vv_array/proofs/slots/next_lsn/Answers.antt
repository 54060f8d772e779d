use Rattle.std.proofs.Common.{◌≤◌, arith}
use Rattle.vv_flat.specs.Refusals.{last_lsn}
use Rattle.vv_array.proofs.OpenedSlots.{lsn_below}
use Rattle.vv_array.proofs.slots.next_lsn.Goals as goal

pub overflow_add-result : goal.overflow_add-result
overflow_add-result c =
    let small : c.args.core.now.array.durable.lsn ≤ last_lsn = lsn_below c.args.core.now.array.durable c.lsn.ensures.well in
    omega (arith, small, c.lsn.ensures.number)
