use Rattle.vv_laws.proofs.AllocatedVolumes.{allocated_after}
use Rattle.vv_laws.proofs.counts.allocated_chunks_go_by_the_change.Goals as goal

pub returns : goal.returns
returns c misfit d change well accepted volume = allocated_after misfit d change well accepted volume
