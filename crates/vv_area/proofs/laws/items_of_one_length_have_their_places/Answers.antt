use Rattle.vv_area.specs.Spelling.{entry_spelling, binding_spelling, piece_spelling}
use Rattle.vv_area.proofs.AreaLengths.{length-entry, length-binding, length-piece}
use Rattle.vv_area.proofs.PieceLemmas.{drop_items}
use Rattle.vv_area.proofs.laws.items_of_one_length_have_their_places.Goals as goal

pub returns-clause-entries : goal.returns-clause-entries
returns-clause-entries c k xs = drop_items 12 entry_spelling length-entry k xs

pub returns-clause-bindings : goal.returns-clause-bindings
returns-clause-bindings c k xs = drop_items 18 binding_spelling length-binding k xs

pub returns-clause-pieces : goal.returns-clause-pieces
returns-clause-pieces c k xs = drop_items 16 piece_spelling length-piece k xs
