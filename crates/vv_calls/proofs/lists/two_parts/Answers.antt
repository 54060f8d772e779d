use Rattle.std.proofs.Common.{sym}
use Rattle.vv_calls.proofs.Behind.{no_named_number}
use Rattle.vv_calls.proofs.lists.two_parts.Goals as goal

pub returns-then-items-ne2 : goal.returns-then-items-ne2
returns-then-items-ne2 c = sym (no_named_number c.args.items.now c.if-items-ne2.true)
