use Rattle.vv_laws.proofs.BoundVolumes.{unmap_passes}
use Rattle.vv_laws.proofs.units.an_unmap_that_a_unit_lets_through_passes_the_checks_of_state.Goals as goal

pub returns : goal.returns
returns c d well address binding at descriptors inside plain = unmap_passes d well address binding at descriptors inside plain
