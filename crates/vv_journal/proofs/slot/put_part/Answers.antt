use Rattle.std.proofs.Common.{arith}
use Rattle.vv_disk.proofs.Bytes.{put_over}
use Rattle.vv_journal.proofs.slot.put_part.Goals as goal

pub returns : goal.returns
returns c = put_over _ _ _ _ _ c.copy_from_slice.ensures.after (omega arith) c.requires
