use Rattle.vv_laws.proofs.KeptNumbers.{write_touches}
use Rattle.vv_laws.proofs.counts.a_write_touches_few_chunks.Goals as goal

pub returns : goal.returns
returns c chunk_blocks first blocks size least most = write_touches chunk_blocks first blocks size least most
