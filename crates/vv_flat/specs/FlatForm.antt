-- What a flat array keeps beside the rules of its shape: each chunk has its bytes, and a stamp tells them. This is this
-- project's own.
use Rattle.std.specs.Prelude.{ℕ, ◌==◌, ◌&&◌, ◌||◌, Bool, false, not, List, Option, None, Some, nat_le}
use Rattle.std.specs.List.{list_all}
use Rattle.vv_flat.specs.Lists.{if_found}
use Rattle.vv_flat.specs.State.{Volume, RunningClone, Piece, RunningCopy, Durable, all_pieces}
use Rattle.vv_flat.specs.Chunks.{ChunkValue, is_chunk_value, shape}
use Rattle.vv_flat.specs.Sharing.{stamps_tell_bytes}
use Rattle.vv_flat.specs.WellFormed.{is_well_formed_shape}

-- every chunk has its bytes, and zeros where it is unmapped
unfoldable pub has_chunk_values : Durable ChunkValue → Bool
has_chunk_values d =
    list_all (λ (p : Piece ChunkValue). is_chunk_value d.geometry.chunk_blocks p.chunk) (all_pieces d)

-- A stamp was given by the log, and the number of a running clone is one in its own target alone. `home` is the clone in
-- whose target the chunk is, if it is in one.
abbrev pub is_given : {X : Type 0} → ℕ → List (RunningClone X) → Option ℕ → ℕ → Bool
is_given {X} lsn clones home stamp =
    nat_le stamp lsn
    && list_all (λ (c : RunningClone X). not (stamp == c.number) || if_found home (λ n. n == c.number) false) clones

-- all stamps of an array were given so
unfoldable pub stamps_are_given : {X : Type 0} → (X → ℕ) → Durable X → Bool
stamps_are_given {X} stamp_of d =
    list_all (λ (v : Volume X). list_all (λ x. is_given d.lsn d.clones None (stamp_of x)) v.chunks) d.volumes
    && list_all (λ (c : RunningClone X). list_all (λ x. is_given d.lsn d.clones None (stamp_of x)) c.image
    && list_all (λ x. is_given d.lsn d.clones (Some c.number) (stamp_of x)) c.target) d.clones
    && list_all (λ (c : RunningCopy X). list_all (λ (p : Piece X). is_given d.lsn d.clones None (stamp_of p.chunk)) c.pieces) d.copies

-- A flat array whose shape is well-formed, whose stamps were given and tell the bytes, and whose chunks have them.
unfoldable pub is_well_formed_array : Durable ChunkValue → Bool
is_well_formed_array d =
    is_well_formed_shape (shape d) && stamps_are_given (λ (x : ChunkValue). x.stamp) d && stamps_tell_bytes d && has_chunk_values d
