use Rattle.vv_flat.proofs.NothingChanges.{nothing_changes}
use Rattle.vv_flat.proofs.laws.nothing_leaves_all_as_it_is.Goals as goal

pub returns : goal.returns
returns g c stamp values unmapped misfit d change e = nothing_changes stamp unmapped misfit values d change e
