use Rattle.vv_reply.proofs.RisingNames.{names_rise_in}
use Rattle.vv_reply.proofs.laws.the_names_of_every_reply_rise.Goals as goal

pub returns : goal.returns
returns c reply = names_rise_in reply
