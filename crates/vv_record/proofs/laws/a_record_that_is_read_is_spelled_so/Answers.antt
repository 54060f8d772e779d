use Rattle.vv_record.proofs.RecordLaws.{read_is_spelled}
use Rattle.vv_record.proofs.laws.a_record_that_is_read_is_spelled_so.Goals as goal

pub returns : goal.returns
returns c bytes r h e = read_is_spelled bytes r h e
