use Rattle.vv_laws.proofs.ChunkBytes.{some_blocks, read_by_parts}
use Rattle.vv_laws.proofs.volumes.a_read_joins_parts_of_chunks.Goals as goal

pub returns : goal.returns
returns c chunk_blocks size first blocks chunks whole = read_by_parts chunk_blocks (some_blocks chunk_blocks size) first blocks chunks whole
