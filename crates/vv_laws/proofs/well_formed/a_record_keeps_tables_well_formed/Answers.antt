use Rattle.vv_laws.proofs.WellFormed.{record_well}
use Rattle.vv_laws.proofs.well_formed.a_record_keeps_tables_well_formed.Goals as goal

pub returns : goal.returns
returns c tables change places well forms fit = record_well tables change places well forms fit
