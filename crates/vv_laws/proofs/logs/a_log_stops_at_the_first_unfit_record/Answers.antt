use Rattle.vv_laws.proofs.Replays.{first_unfit}
use Rattle.vv_laws.proofs.logs.a_log_stops_at_the_first_unfit_record.Goals as goal

pub returns : goal.returns
returns c tables records fault fails = first_unfit tables records fault fails
