use Rattle.vv_meaning.proofs.Moves.{run_state}
use Rattle.vv_meaning.proofs.steps.a_run_keeps_states.Goals as goal

pub returns : goal.returns
returns c capabilities old new lines reports run is = run_state capabilities old new lines reports run is
