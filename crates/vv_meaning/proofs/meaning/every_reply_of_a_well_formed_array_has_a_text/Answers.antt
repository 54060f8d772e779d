use Rattle.vv_meaning.proofs.Fitting.{reply_fits}
use Rattle.vv_meaning.proofs.meaning.every_reply_of_a_well_formed_array_has_a_text.Goals as goal

pub returns : goal.returns
returns c capabilities a call well = reply_fits capabilities a call well
