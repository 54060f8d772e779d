use Rattle.vv_meaning.proofs.Deeds.{call_keeps_array}
use Rattle.vv_meaning.proofs.meaning.a_call_keeps_an_array_well_formed.Goals as goal

pub returns : goal.returns
returns c capabilities a call forms well = call_keeps_array capabilities a call forms well
