use Rattle.vv_laws.proofs.Replays.{replay_on}
use Rattle.vv_laws.proofs.logs.a_log_goes_on_where_its_front_ended.Goals as goal

pub returns : goal.returns
returns c at tables front rest = replay_on at tables front rest
