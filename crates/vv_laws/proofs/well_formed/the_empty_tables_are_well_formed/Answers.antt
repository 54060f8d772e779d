use Rattle.vv_laws.proofs.WellFormed.{empty_well}
use Rattle.vv_laws.proofs.well_formed.the_empty_tables_are_well_formed.Goals as goal

pub returns : goal.returns
returns c geometry = empty_well geometry
