use Rattle.vv_meaning.proofs.Moves.{step_fits}
use Rattle.vv_meaning.proofs.steps.every_reply_of_a_step_has_a_text.Goals as goal

pub returns : goal.returns
returns c capabilities old line recovered answer new step well = step_fits capabilities old line recovered answer new step well
