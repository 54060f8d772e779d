use Rattle.std.proofs.Common.{arith}
use Rattle.vv_journal.proofs.Bytes.{number_of_four, number_of_version, number_of_words}
use Rattle.vv_journal.proofs.fresh.header_fields.Goals as goal

pub returns-clause-words : goal.returns-clause-words
returns-clause-words c = number_of_words

pub returns-clause-version : goal.returns-clause-version
returns-clause-version c = number_of_version

pub returns-clause-chunk_blocks : goal.returns-clause-chunk_blocks
returns-clause-chunk_blocks c = number_of_four c.to_be_bytes-b.result c.args.geometry.chunk_blocks c.to_be_bytes-b.ensures (omega arith)

pub returns-clause-pool_chunks : goal.returns-clause-pool_chunks
returns-clause-pool_chunks c = number_of_four c.to_be_bytes-c.result c.args.geometry.pool_chunks c.to_be_bytes-c.ensures (omega arith)

pub returns-clause-map_chunks : goal.returns-clause-map_chunks
returns-clause-map_chunks c = number_of_four c.to_be_bytes-p.result c.args.geometry.map_chunks c.to_be_bytes-p.ensures (omega arith)
