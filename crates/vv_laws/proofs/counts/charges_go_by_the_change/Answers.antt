use Rattle.vv_laws.proofs.ChargedCounts.{charge_after}
use Rattle.vv_laws.proofs.counts.charges_go_by_the_change.Goals as goal

pub returns : goal.returns
returns c misfit d change well accepted container = charge_after misfit d change well accepted container
