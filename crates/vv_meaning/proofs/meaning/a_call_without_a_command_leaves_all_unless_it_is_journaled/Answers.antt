use Rattle.vv_meaning.proofs.Deeds.{call_leaves_all}
use Rattle.vv_meaning.proofs.meaning.a_call_without_a_command_leaves_all_unless_it_is_journaled.Goals as goal

pub returns : goal.returns
returns c capabilities a call command journaled = call_leaves_all capabilities a call command journaled
