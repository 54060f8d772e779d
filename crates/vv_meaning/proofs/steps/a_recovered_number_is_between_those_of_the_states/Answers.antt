use Rattle.vv_meaning.proofs.Moves.{step_recovered}
use Rattle.vv_meaning.proofs.steps.a_recovered_number_is_between_those_of_the_states.Goals as goal

pub returns : goal.returns
returns c capabilities old line recovered answer new n step is told = step_recovered capabilities old line recovered answer new n step is told
