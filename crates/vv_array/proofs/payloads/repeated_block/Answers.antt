use Rattle.std.proofs.Common.{refl}
use Rattle.vv_array.proofs.RepeatedBlocks.{same_more}
use Rattle.vv_array.proofs.payloads.repeated_block.Goals as goal

pub repeats-preserved : goal.repeats-preserved
repeats-preserved c = rw (c.in-Ok.ensures.items, c.repeats.invariant, same_more c.repeats.counter c.args.block.now) refl
