use Rattle.vv_meaning.proofs.Moves.{step_state}
use Rattle.vv_meaning.proofs.steps.a_step_keeps_states.Goals as goal

pub returns : goal.returns
returns c capabilities old line recovered answer new step is = step_state capabilities old line recovered answer new step is
