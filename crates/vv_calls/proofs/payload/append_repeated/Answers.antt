use Rattle.std.proofs.Common.{append_assoc, refl}
use Rattle.vv_calls.proofs.Repeats.{repeated_more}
use Rattle.vv_calls.proofs.payload.append_repeated.Goals as goal

pub repeats-preserved : goal.repeats-preserved
repeats-preserved c =
    rw (c.in-Ok.ensures.items, c.repeats.invariant, repeated_more c.repeats.counter c.args.bytes.now, append_assoc) refl
