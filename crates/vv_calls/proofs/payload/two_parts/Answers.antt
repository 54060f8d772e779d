use Rattle.std.proofs.Common.{sym}
use Rattle.vv_calls.proofs.Pairs.{no_pair}
use Rattle.vv_calls.proofs.payload.two_parts.Goals as goal

pub returns-then-items-ne2 : goal.returns-then-items-ne2
returns-then-items-ne2 c = sym (no_pair c.args.items.now c.if-items-ne2.true)
