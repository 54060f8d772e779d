use Rattle.vv_flat.proofs.Pool.{pool_stays}
use Rattle.vv_flat.proofs.laws.chunks_stay_within_the_pool.Goals as goal

pub returns : goal.returns
returns c misfit d change rule accepted fits = pool_stays misfit d change rule accepted fits
