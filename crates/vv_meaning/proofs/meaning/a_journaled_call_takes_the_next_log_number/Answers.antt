use Rattle.vv_meaning.proofs.Moves.{journaled_number}
use Rattle.vv_meaning.proofs.meaning.a_journaled_call_takes_the_next_log_number.Goals as goal

pub returns : goal.returns
returns c capabilities a call journaled = journaled_number capabilities a call journaled
