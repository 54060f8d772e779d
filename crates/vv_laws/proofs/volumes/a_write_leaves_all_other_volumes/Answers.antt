use Rattle.vv_laws.proofs.WrittenVolumes.{others_stay}
use Rattle.vv_laws.proofs.volumes.a_write_leaves_all_other_volumes.Goals as goal

pub returns : goal.returns
returns c d n other first blocks bytes apart = others_stay d n other first blocks bytes apart
