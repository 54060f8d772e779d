-- Sizes: blocks of 512 bytes, chunks of blocks, and MB of 2^20 bytes. The numbers are this project's own choice.
use Rattle.std.specs.Prelude.{ℕ, ◌+◌, ◌-◌, ◌*◌, ◌/◌, ◌==◌, ◌&&◌, ◌||◌, ◌≤◌, Bool, IsTrue, Option, Some, None, nat_le, if◌then◌else◌}

-- the bytes of a block
abbrev pub block_bytes : ℕ
block_bytes = 512

-- the blocks of one MB
abbrev pub mb_blocks : ℕ
mb_blocks = 2048

-- the most chunks of one volume
abbrev pub volume_chunks_limit : ℕ
volume_chunks_limit = 1048576

-- The blocks of a chunk are a power of two from 8 to 2048.
abbrev pub is_chunk_size : ℕ → Bool
is_chunk_size blocks =
    (blocks == 8) || (blocks == 16) || (blocks == 32) || (blocks == 64) || (blocks == 128)
    || (blocks == 256) || (blocks == 512) || (blocks == 1024) || (blocks == 2048)

-- The numbers of an array that may be: the blocks of a chunk, the chunks of the pool, of at most 4 GiB in all,
-- and how many entries the lists of all volumes may have together.
pub record IsGeometry (chunk_blocks pool_chunks map_chunks : ℕ) : Type 0 where
  pub chunk_size : IsTrue (is_chunk_size chunk_blocks)
  pub some_chunks : 1 ≤ pool_chunks
  pub few_chunks : pool_chunks ≤ 262144
  pub small_pool : pool_chunks * chunk_blocks ≤ 8388608
  pub map_from : 64 ≤ map_chunks
  pub map_to : map_chunks ≤ 1048576

-- the whole chunks that so many MB take
abbrev pub chunks_in : ℕ → ℕ → ℕ
chunks_in chunk_blocks mb = mb * (mb_blocks / chunk_blocks)

-- the chunks of a volume of so many MB, of which there is at least one and no more than a volume may have
abbrev pub volume_chunks : ℕ → ℕ → Option ℕ
volume_chunks chunk_blocks mb =
    if nat_le 1 mb && nat_le (chunks_in chunk_blocks mb) volume_chunks_limit
    then Some (chunks_in chunk_blocks mb) else None

-- A command of so many blocks from a block on touches the chunks from that of its first block to that of its last.
abbrev pub first_touched : ℕ → ℕ → ℕ
first_touched first_block chunk_blocks = first_block / chunk_blocks

abbrev pub touched_count : ℕ → ℕ → ℕ → ℕ
touched_count first_block blocks chunk_blocks =
    (first_block + blocks - 1) / chunk_blocks + 1 - first_block / chunk_blocks
