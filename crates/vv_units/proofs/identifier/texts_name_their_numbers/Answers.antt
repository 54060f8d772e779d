use Rattle.vv_units.proofs.IdentifierLemmas.{read_back}
use Rattle.vv_units.proofs.identifier.texts_name_their_numbers.Goals as goal

pub returns : goal.returns
returns c = read_back
