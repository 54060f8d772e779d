use Rattle.vv_record.proofs.RecordLaws.{spelled_is_read}
use Rattle.vv_array.proofs.journaling.record_bytes.Goals as goal

pub returns-clause-spelled : goal.returns-clause-spelled
returns-clause-spelled c = rw c.in_ok-bytes.ensures.exact (spelled_is_read c.args.planned.now.record c.requires)
