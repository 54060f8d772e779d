use Rattle.std.proofs.Common.{arith}
use Rattle.vv_record.proofs.RecordLaws.{read_is_spelled}
use Rattle.vv_record.proofs.tests.again.Goals as goal

-- what was read has a spelling
pub encode-requires : goal.encode-requires
encode-requires c =
    let both = read_is_spelled c.args.bytes.now c.in_ok-record.record (λ i. omega (arith, c.type_inv.bytes i)) c.in_ok-record.ensures in
    both.1
