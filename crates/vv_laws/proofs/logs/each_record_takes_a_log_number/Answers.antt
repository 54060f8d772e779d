use Rattle.vv_laws.proofs.Replays.{replay_lsn}
use Rattle.vv_laws.proofs.logs.each_record_takes_a_log_number.Goals as goal

pub returns : goal.returns
returns c tables after records goes = replay_lsn 0 tables after records goes
