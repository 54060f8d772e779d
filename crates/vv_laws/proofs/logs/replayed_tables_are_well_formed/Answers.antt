use Rattle.vv_laws.proofs.Replays.{replay_well}
use Rattle.vv_laws.proofs.logs.replayed_tables_are_well_formed.Goals as goal

pub returns : goal.returns
returns c tables after records well forms goes = replay_well 0 tables after records well forms goes
