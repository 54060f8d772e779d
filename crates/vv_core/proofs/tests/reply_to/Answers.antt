use Rattle.vv_core.proofs.tests.reply_to.Goals as goal

pub done-requires-clause-fits : goal.done-requires-clause-fits
done-requires-clause-fits g c =
    let plan = rw c.in-Ok-Journal.field-0-is at c.in-Ok-Journal.ensures.planned in
    plan.fits

pub done-requires-clause-forms : goal.done-requires-clause-forms
done-requires-clause-forms g c =
    let plan = rw c.in-Ok-Journal.field-0-is at c.in-Ok-Journal.ensures.planned in
    plan.forms
