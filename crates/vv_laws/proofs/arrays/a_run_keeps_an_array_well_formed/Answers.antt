use Rattle.vv_laws.proofs.WellFormedArrays.{run_stays}
use Rattle.vv_laws.proofs.arrays.a_run_keeps_an_array_well_formed.Goals as goal

pub returns : goal.returns
returns c capabilities a run well rightly = run_stays capabilities a run well rightly
