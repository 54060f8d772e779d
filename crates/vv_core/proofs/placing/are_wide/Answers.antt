use Rattle.std.proofs.Common.{arith}
use Rattle.vv_core.proofs.placing.are_wide.Goals as goal

pub returns : goal.returns
returns c = λ k. omega (arith, c.type_inv.numbers k)
