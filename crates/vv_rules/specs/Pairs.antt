-- Pairs of numbers. A pair of an index and a stamp stands for a piece of a shape.
use Rattle.std.specs.Prelude.{ℕ, ◌==◌, ◌&&◌, Bool, true, not, List, [], ◌∷◌}
use Rattle.std.specs.List.{list_any}
use Rattle.vv_flat.specs.State.{Piece}
use Rattle.vv_flat.specs.Sharing.{Standing}
use Rattle.vv_rules.specs.declared.pairs.Pair.{Pair}

abbrev pub piece_of : Pair → Piece ℕ
piece_of p = record { index = p.first; chunk = p.second }

-- the pair of an entry, and its piece in the shape
abbrev pub pair_of : Standing → Pair
pair_of a = record { first = a.piece.index; second = a.piece.chunk.stamp }

abbrev pub shape_of_standing : Standing → Piece ℕ
shape_of_standing a = record { index = a.piece.index; chunk = a.piece.chunk.stamp }

abbrev pub is_allocated : Piece ℕ → Bool
is_allocated p = not (p.chunk == 0)

abbrev pub is_pair : Pair → Pair → Bool
is_pair p q = (p.first == q.first) && (p.second == q.second)

-- whether no pair comes twice
abbrev pub are_single : List Pair → Bool
are_single [] = true
are_single (p ∷ ps) = not (list_any (is_pair p) ps) && are_single ps
