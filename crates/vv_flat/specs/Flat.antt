-- The step of the flat array: what a change with its bytes makes of it. This is what the array does, said over volumes
-- that share nothing.
use Rattle.std.specs.Prelude.{ℕ, ◌+◌, ◌*◌, ◌==◌, Bool, true, List, [], length}
use Rattle.vv_units.specs.Sizes.{block_bytes}
use Rattle.vv_flat.specs.Lists.{if_found}
use Rattle.vv_flat.specs.State.{Volume, RunningClone, Durable, Array, volume_of, clone_of}
use Rattle.vv_flat.specs.Chunks.{ChunkValue, unmapped_value, written_values, copied_values}
use Rattle.vv_flat.specs.Changes.{Change, Write, Turn, apply, changed_indexes, attentions_after}

-- A write has the bytes of its blocks. What is handed in with any other change doesn't count.
abbrev pub has_its_bytes : Change → List ℕ → Bool
has_its_bytes (Write n first blocks) bytes = length bytes == blocks * block_bytes
has_its_bytes _ bytes = true

-- The new values of the chunks that a change touches, in rising order of their indexes.
unfoldable pub new_values : Durable ChunkValue → Change → List ℕ → List ChunkValue
new_values d (Write n first blocks) bytes =
    if_found (volume_of d n)
    (λ (v : Volume ChunkValue). written_values d.geometry.chunk_blocks v.chunks first bytes (d.lsn + 1)) []
new_values d (Turn n) bytes =
    if_found (clone_of d n)
    (λ (c : RunningClone ChunkValue). copied_values c.image (changed_indexes (λ x. x.stamp) d (Turn n)) n) []
new_values d _ bytes = []

-- the durable part after a change
unfoldable pub flat_after : Durable ChunkValue → Change → List ℕ → Durable ChunkValue
flat_after d change bytes =
    apply (λ x. x.stamp) (new_values d change bytes) (unmapped_value d.geometry.chunk_blocks) d change

-- and the whole array
abbrev pub array_after : Array ChunkValue → Change → List ℕ → Array ChunkValue
array_after a change bytes = record {
  durable = flat_after a.durable change bytes;
  volatile = record a.volatile { attentions = attentions_after a.durable change a.volatile.attentions };
}
