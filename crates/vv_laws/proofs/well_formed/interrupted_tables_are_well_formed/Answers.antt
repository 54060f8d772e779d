use Rattle.vv_laws.proofs.WellFormed.{interruption_well}
use Rattle.vv_laws.proofs.well_formed.interrupted_tables_are_well_formed.Goals as goal

pub returns : goal.returns
returns c tables well = interruption_well tables well
