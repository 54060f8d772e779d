use Rattle.vv_record.proofs.RecordLaws.{spelled_is_read}
use Rattle.vv_record.proofs.laws.a_spelled_record_is_read.Goals as goal

pub returns : goal.returns
returns c r h = spelled_is_read r h
