use Rattle.vv_laws.proofs.BoundVolumes.{write_passes}
use Rattle.vv_laws.proofs.units.a_write_that_a_unit_lets_through_passes_the_checks_of_state.Goals as goal

pub returns : goal.returns
returns c d well address binding at first blocks inside plain = write_passes d well address binding at first blocks inside plain
