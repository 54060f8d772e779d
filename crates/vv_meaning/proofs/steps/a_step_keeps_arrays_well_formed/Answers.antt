use Rattle.vv_meaning.proofs.Moves.{step_well}
use Rattle.vv_meaning.proofs.steps.a_step_keeps_arrays_well_formed.Goals as goal

pub returns : goal.returns
returns c capabilities old line recovered answer new step forms well = step_well capabilities old line recovered answer new step forms well
