-- Blocks that are read and written chunk by chunk: which part of each chunk they are. This is this project's own.
use Rattle.std.specs.Prelude.{ℕ, ◌+◌, ◌-◌, ◌*◌, ◌==◌, Bool, List, [], take, drop, length, slice_get, unwrap_or, option_map}
use Rattle.std.specs.List.{list_all}
use Rattle.vv_flat.specs.Chunks.{ChunkValue, chunk_bytes, overwritten}

-- whether all chunks of a volume have the bytes of so many blocks
abbrev pub are_whole : ℕ → List ChunkValue → Bool
are_whole chunk_blocks chunks = list_all (λ (x : ChunkValue). length x.bytes == chunk_bytes chunk_blocks) chunks

-- the bytes of the chunk at an index
abbrev pub bytes_in : List ChunkValue → ℕ → List ℕ
bytes_in chunks i = unwrap_or (option_map (λ (x : ChunkValue). x.bytes) (slice_get chunks i)) []

-- where the chunk at an index begins in the bytes of its volume
abbrev pub chunk_start : ℕ → ℕ → ℕ
chunk_start chunk_blocks i = i * chunk_bytes chunk_blocks

-- the part of a chunk that a read of so many bytes from a place of the volume on takes, the chunk beginning at `start`
abbrev pub part_read : ℕ → ℕ → ℕ → List ℕ → List ℕ
part_read start at count bytes = drop (at - start) (take (at + count - start) bytes)

-- the bytes of such a chunk after a write of new bytes from a place of the volume on
abbrev pub part_written : ℕ → ℕ → ℕ → List ℕ → List ℕ → List ℕ
part_written size start at new bytes =
    overwritten bytes (at - start) (take (size - (at - start)) (drop (start - at) new))
