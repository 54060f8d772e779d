use Rattle.std.proofs.Common.{arith}
use Rattle.vv_array.proofs.area.feed.Goals as goal

pub returns-clause-bytes : goal.returns-clause-bytes
returns-clause-bytes c = λ i. omega (arith, c.type_inv.piece i)
