use Rattle.std.proofs.Common.{ap}
use Rattle.vv_flat.specs.Changes.{judge}
use Rattle.vv_flat.proofs.laws.arrays_of_one_shape_are_answered_alike.Goals as goal

pub returns : goal.returns
returns c d e same misfit change = ap (λ s. judge misfit s change) same
