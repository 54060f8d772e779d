use Rattle.vv_laws.proofs.WrittenVolumes.{volume_bytes_written}
use Rattle.vv_laws.proofs.volumes.a_written_volume_has_the_new_bytes_at_their_place.Goals as goal

pub returns : goal.returns
returns c chunk_blocks size chunks whole first blocks stamp new has inside = volume_bytes_written chunk_blocks size chunks whole first blocks stamp new has inside
