-- What the chunks of a source add to a difference copy.
use Rattle.std.specs.Prelude.{ℕ, ◌==◌, ◌&&◌, ◌*◌, Bool, not, List, map, drop, filter, if◌then◌else◌}
use Rattle.vv_flat.specs.Lists.{mapped_from}
use Rattle.vv_flat.specs.State.{Piece, Durable}
use Rattle.vv_flat.specs.Bits.{is_unshared}
use Rattle.vv_flat.specs.Tasks.{difference}
use Rattle.vv_flat.specs.Changes.{stamps_of}

-- a piece, where it differs from the base's
abbrev pub one_piece : ℕ → ℕ → ℕ
one_piece stamp base = if not (stamp == base) then 1 else 0

-- one that allocates a chunk of the target, where it is allocated and the target's is not
abbrev pub one_allocating : ℕ → ℕ → ℕ → ℕ
one_allocating stamp base target =
    if not (stamp == base) then (if not (stamp == 0) && (target == 0) then 1 else 0) else 0

-- a chunk at its index
abbrev pub piece : ℕ → ℕ → Piece ℕ
piece i stamp = record { index = i; chunk = stamp }

-- whether it differs from the chunk of a base
abbrev pub differs : List ℕ → Piece ℕ → Bool
differs base p = is_unshared (map (λ s. s) base) p.index p.chunk

-- the pieces of the chunks from an index on
abbrev pub pieces_from : List ℕ → List ℕ → ℕ → List (Piece ℕ)
pieces_from source base i = filter (differs base) (mapped_from piece i (drop i source))

-- the pieces of a copy of the chunks in which a source differs from a base
abbrev pub copy_pieces : Durable ℕ → ℕ → ℕ → List (Piece ℕ)
copy_pieces d source base = difference (λ s. s) (stamps_of d source) (stamps_of d base)

-- those of the k-th 64 chunks and of all behind them
abbrev pub pieces_left : Durable ℕ → ℕ → ℕ → ℕ → List (Piece ℕ)
pieces_left d source base k = pieces_from (stamps_of d source) (stamps_of d base) (64 * k)
