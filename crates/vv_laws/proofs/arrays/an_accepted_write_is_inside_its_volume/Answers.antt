use Rattle.vv_laws.proofs.WellFormedArrays.{write_inside}
use Rattle.vv_laws.proofs.arrays.an_accepted_write_is_inside_its_volume.Goals as goal

pub returns : goal.returns
returns c misfit d n first blocks volume found accepted = write_inside misfit d n first blocks volume found accepted
