use Rattle.vv_laws.proofs.WellFormed.{well_formed_is}
use Rattle.vv_laws.proofs.well_formed.well_formed_tables_have_that_shape_and_share.Goals as goal

pub returns : goal.returns
returns c tables = well_formed_is tables
