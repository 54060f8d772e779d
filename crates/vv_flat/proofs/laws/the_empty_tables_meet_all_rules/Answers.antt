use Rattle.vv_flat.proofs.KeepInterrupted.{empty_meets}
use Rattle.vv_flat.proofs.laws.the_empty_tables_meet_all_rules.Goals as goal

pub returns : goal.returns
returns c geometry = empty_meets geometry
