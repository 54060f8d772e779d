use Rattle.std.proofs.Common.{vec_len}
use Rattle.vv_bind.proofs.table.BindTable.close.Given as goal

abbrev pub decreases-loop-binding : goal.decreases-loop-binding
decreases-loop-binding l = vec_len l.bindings
