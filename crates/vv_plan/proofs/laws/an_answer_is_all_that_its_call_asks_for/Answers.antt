use Rattle.vv_plan.proofs.PlannedRows.{answer_told}
use Rattle.vv_plan.proofs.laws.an_answer_is_all_that_its_call_asks_for.Goals as goal

pub returns : goal.returns
returns c a call reply e = answer_told a call reply e
