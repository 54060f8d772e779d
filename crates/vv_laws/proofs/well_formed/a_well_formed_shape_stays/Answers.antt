use Rattle.vv_laws.proofs.KeepForms.{well_formed_stays}
use Rattle.vv_laws.proofs.well_formed.a_well_formed_shape_stays.Goals as goal

pub returns : goal.returns
returns c misfit d change well forms accepted = well_formed_stays misfit d change well forms accepted
