use Rattle.std.specs.Prelude.{refl}
use Rattle.vv_meaning.specs.Calls.{asked}
use Rattle.vv_meaning.proofs.table.the_reply_to_a_restart.Goals as goal

pub returns : goal.returns
unfolding asked
returns c a = refl
