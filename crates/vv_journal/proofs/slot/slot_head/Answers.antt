use Rattle.vv_journal.proofs.Bytes.{number_of_four, number_of_zeros}
use Rattle.vv_journal.proofs.slot.slot_head.Goals as goal
use Rattle.std.proofs.Common.{arith}

pub returns-clause-len : goal.returns-clause-len
returns-clause-len c = number_of_four c.to_be_bytes-bytes.result c.args.len c.to_be_bytes-bytes.ensures (omega arith)

pub returns-clause-zeros : goal.returns-clause-zeros
returns-clause-zeros c = number_of_zeros
