use Rattle.vv_core.proofs.PlanTexts.{plan_has_text}
use Rattle.vv_core.proofs.planning.have_texts.Goals as goal

pub returns : goal.returns
returns c = λ capabilities v call p plan.
    plan_has_text capabilities (record { durable = c.args.tables.now.durable; volatile = v }) call c.lsn-well_formed.ensures.well p plan
