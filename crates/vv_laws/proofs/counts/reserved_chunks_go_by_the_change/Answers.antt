use Rattle.vv_laws.proofs.KeptNumbers.{reserved_well}
use Rattle.vv_laws.proofs.counts.reserved_chunks_go_by_the_change.Goals as goal

pub returns : goal.returns
returns c misfit d change well accepted = reserved_well misfit d change well accepted
