use Rattle.vv_meaning.proofs.Moves.{step_number}
use Rattle.vv_meaning.proofs.steps.log_numbers_never_fall.Goals as goal

pub returns : goal.returns
returns c capabilities old line recovered answer new step is = step_number capabilities old line recovered answer new step is
