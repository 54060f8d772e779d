use Rattle.vv_laws.proofs.KeptNumbers.{turn_exact}
use Rattle.vv_laws.proofs.counts.a_turn_copies_the_least_of_16_and_what_is_left.Goals as goal

pub returns : goal.returns
returns c d well task found runs clone = turn_exact d well task found runs clone
