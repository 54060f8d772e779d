use Rattle.vv_laws.proofs.Planning.{planned_fits}
use Rattle.vv_laws.proofs.plans.what_is_planned_fits.Goals as goal

pub returns : goal.returns
returns c tables misfit change well accepted = planned_fits tables misfit change well accepted
