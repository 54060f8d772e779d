use Rattle.vv_laws.proofs.WrittenVolumes.{volume_written}
use Rattle.vv_laws.proofs.volumes.a_write_writes_its_volume.Goals as goal

pub returns : goal.returns
returns c d n first blocks bytes volume found has = volume_written d n first blocks bytes volume found has
