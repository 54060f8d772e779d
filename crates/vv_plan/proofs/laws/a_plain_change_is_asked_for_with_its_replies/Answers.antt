use Rattle.vv_plan.proofs.PlannedRows.{change_told}
use Rattle.vv_plan.proofs.laws.a_plain_change_is_asked_for_with_its_replies.Goals as goal

pub returns : goal.returns
returns c a call change accepted nothing e f g = change_told a call change accepted nothing e f g
