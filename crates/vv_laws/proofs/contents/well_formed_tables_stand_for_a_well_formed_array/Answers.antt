use Rattle.vv_laws.proofs.FilledArrays.{filled_well}
use Rattle.vv_laws.proofs.contents.well_formed_tables_stand_for_a_well_formed_array.Goals as goal

pub returns : goal.returns
returns c bytes_at tables well long = filled_well bytes_at tables well long
