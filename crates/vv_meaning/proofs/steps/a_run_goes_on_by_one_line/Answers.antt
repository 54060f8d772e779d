use Rattle.vv_meaning.proofs.Moves.{run_goes_on}
use Rattle.vv_meaning.proofs.steps.a_run_goes_on_by_one_line.Goals as goal

pub returns : goal.returns
returns c capabilities old mid new lines reports line report run step = run_goes_on capabilities old mid new lines reports line report run step
