use Rattle.vv_area.proofs.PieceLemmas.{cut_texts, cut_piece}
use Rattle.vv_area.proofs.laws.a_piece_is_cut.Goals as goal

pub returns-clause-texts : goal.returns-clause-texts
returns-clause-texts c at n xs ys = cut_texts at n xs ys

pub returns-clause-pieces : goal.returns-clause-pieces
returns-clause-pieces c at m n text = cut_piece at m n text
