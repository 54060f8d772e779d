use Rattle.vv_laws.proofs.BoundVolumes.{bound_stands}
use Rattle.vv_laws.proofs.units.a_bound_volume_stands_and_is_not_busy.Goals as goal

pub returns : goal.returns
returns c d well address binding at = bound_stands d well address binding at
