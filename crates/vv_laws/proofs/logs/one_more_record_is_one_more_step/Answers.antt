use Rattle.vv_laws.proofs.Replays.{replay_one}
use Rattle.vv_laws.proofs.logs.one_more_record_is_one_more_step.Goals as goal

pub returns : goal.returns
returns c tables records next = replay_one tables records next
