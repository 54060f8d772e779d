use Rattle.vv_laws.proofs.ChunkBytes.{write_by_parts}
use Rattle.vv_laws.proofs.volumes.a_write_replaces_parts_of_chunks.Goals as goal

pub returns : goal.returns
returns c chunk_blocks chunks first new stamp whole inside = write_by_parts chunk_blocks chunks first new stamp whole inside
