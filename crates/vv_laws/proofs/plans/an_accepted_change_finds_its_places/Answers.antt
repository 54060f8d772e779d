use Rattle.vv_laws.proofs.Planning.{enough_fresh}
use Rattle.vv_laws.proofs.plans.an_accepted_change_finds_its_places.Goals as goal

pub returns : goal.returns
returns c tables misfit change well accepted = enough_fresh tables misfit change well accepted
