use Rattle.vv_area.proofs.AreaLengths.{length-area}
use Rattle.vv_area.proofs.laws.a_spelling_has_its_length.Goals as goal

pub returns : goal.returns
returns c spelling d h = length-area spelling d h
