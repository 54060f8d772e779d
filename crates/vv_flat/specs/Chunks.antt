-- Chunks and their bytes. A block is 512 bytes, and a chunk is as many blocks as the geometry says. Reads and writes
-- are those of the block commands of SBC; the stamp of a chunk, the log number of the last write that touched it or 0
-- where it is unmapped, is this project's own.
use Rattle.std.specs.Prelude.{ℕ, ◌+◌, ◌-◌, ◌*◌, ◌/◌, ◌==◌, ◌&&◌, ◌||◌, Bool, not, List, [], ◌++◌, filter, map, take, drop, length, replicate, slice_get, Option, Some, None, unwrap_or, option_map, nat_le, nat_lt, zero, suc, if◌then◌else◌}
use Rattle.std.specs.List.{flat_map, list_any, list_all}
use Rattle.std.specs.Str.{bytes_eq}
use Rattle.vv_units.specs.Sizes.{block_bytes, first_touched, touched_count as blocks_touch}
use Rattle.vv_flat.specs.Lists.{numbers_from, put_at, mapped_from, any_from}
use Rattle.vv_flat.specs.State.{Durable, map_durable}

-- the value of a chunk in the flat array
pub record ChunkValue : Type 0 where
  pub stamp : ℕ
  pub bytes : List ℕ

-- what the tables have in its place: where in the pool its bytes are
pub record Entry : Type 0 where
  pub place : Option ℕ
  pub stamp : ℕ

abbrev pub chunk_bytes : ℕ → ℕ
chunk_bytes chunk_blocks = chunk_blocks * block_bytes

-- a chunk that is unmapped reads as zeros
abbrev pub unmapped_value : ℕ → ChunkValue
unmapped_value chunk_blocks = record { stamp = 0; bytes = replicate (chunk_bytes chunk_blocks) 0 }

abbrev pub unmapped_entry : Entry
unmapped_entry = record { place = None; stamp = 0 }

-- whether a chunk has its bytes, and where it is unmapped zeros alone
abbrev pub is_chunk_value : ℕ → ChunkValue → Bool
is_chunk_value chunk_blocks x =
    (length x.bytes == chunk_bytes chunk_blocks) && (not (x.stamp == 0) || list_all (λ b. b == 0) x.bytes)

-- The chunk that an entry stands for: its stamp, with the bytes at its place, or with zeros where it has none.
abbrev pub filled : ℕ → (ℕ → List ℕ) → Entry → ChunkValue
filled chunk_blocks bytes_at entry = record {
  stamp = entry.stamp;
  bytes = unwrap_or (option_map bytes_at entry.place) (replicate (chunk_bytes chunk_blocks) 0);
}

-- The shape of the flat array and that of tables: their stamps.
abbrev pub shape : Durable ChunkValue → Durable ℕ
shape d = map_durable (λ (x : ChunkValue). x.stamp) d

abbrev pub shape_of_tables : Durable Entry → Durable ℕ
shape_of_tables tables = map_durable (λ (e : Entry). e.stamp) tables

-- the flat array that tables stand for, where the pool has these bytes at its places
abbrev pub filled_tables : (ℕ → List ℕ) → Durable Entry → Durable ChunkValue
filled_tables bytes_at tables = map_durable (filled tables.geometry.chunk_blocks bytes_at) tables

-- the blocks of a volume
abbrev pub volume_blocks : {X : Type 0} → ℕ → List X → ℕ
volume_blocks chunk_blocks chunks = length chunks * chunk_blocks

-- the bytes of a volume: those of its chunks, one after the other
abbrev pub bytes_of : List ChunkValue → List ℕ
bytes_of chunks = flat_map (λ (x : ChunkValue). x.bytes) chunks

-- what a read of so many blocks from this block on gives
abbrev pub blocks_read : List ChunkValue → ℕ → ℕ → List ℕ
blocks_read chunks first blocks = take (blocks * block_bytes) (drop (first * block_bytes) (bytes_of chunks))

-- the list with the new items from this place on
abbrev pub overwritten : List ℕ → ℕ → List ℕ → List ℕ
overwritten bytes at new = take at bytes ++ new ++ drop (at + length new) bytes

-- The first chunk that holds at least one of these blocks, of which there is at least one, and how many such chunks
-- there are.
abbrev pub touched_first : ℕ → ℕ → ℕ
touched_first chunk_blocks first = first_touched first chunk_blocks

abbrev pub touched_count : ℕ → ℕ → ℕ → ℕ
touched_count chunk_blocks first blocks = blocks_touch first blocks chunk_blocks

-- The indexes of the chunks that hold at least one of these blocks, in rising order.
abbrev pub touched_indexes : ℕ → ℕ → ℕ → List ℕ
touched_indexes chunk_blocks first blocks =
    if blocks == 0 then [] else numbers_from (touched_first chunk_blocks first) (touched_count chunk_blocks first blocks)

-- the chunk at this index of a volume with these bytes
abbrev pub chunk_in : ℕ → List ℕ → ℕ → List ℕ
chunk_in chunk_blocks bytes i = take (chunk_bytes chunk_blocks) (drop (i * chunk_bytes chunk_blocks) bytes)

-- The new values of the chunks that a write of these bytes from this block on touches, in rising order: their bytes
-- once the volume's bytes are replaced, each with the write's stamp.
unfoldable pub written_values : ℕ → List ChunkValue → ℕ → List ℕ → ℕ → List ChunkValue
written_values chunk_blocks chunks first new stamp =
    let bytes = overwritten (bytes_of chunks) (first * block_bytes) new in
    map (λ i. record { stamp = stamp; bytes = chunk_in chunk_blocks bytes i })
    (touched_indexes chunk_blocks first (length new / block_bytes))

-- A write: it replaces those bytes, and each chunk that holds at least one of them gets its stamp.
abbrev pub written : ℕ → List ChunkValue → ℕ → List ℕ → ℕ → List ChunkValue
written chunk_blocks chunks first new stamp =
    put_at (touched_indexes chunk_blocks first (length new / block_bytes))
    (written_values chunk_blocks chunks first new stamp) chunks

-- one block as often as a WRITE SAME writes it
abbrev pub same_blocks : List ℕ → ℕ → List ℕ
same_blocks block zero = []
same_blocks block (suc blocks) = block ++ same_blocks block blocks

-- the new values of a WRITE SAME of one block
abbrev pub same_values : ℕ → List ChunkValue → ℕ → ℕ → List ℕ → ℕ → List ChunkValue
same_values chunk_blocks chunks first blocks block stamp =
    written_values chunk_blocks chunks first (same_blocks block blocks) stamp

-- The data of a COMPARE AND WRITE are the blocks to compare with and then the blocks to write.
abbrev pub compared_half : ℕ → List ℕ → List ℕ
compared_half blocks payload = take (blocks * block_bytes) payload

abbrev pub written_half : ℕ → List ℕ → List ℕ
written_half blocks payload = drop (blocks * block_bytes) payload

-- whether the blocks that stand are the ones to compare with
unfoldable pub compares : List ChunkValue → ℕ → ℕ → List ℕ → Bool
compares chunks first blocks payload = bytes_eq (blocks_read chunks first blocks) (compared_half blocks payload)

-- the new values of a COMPARE AND WRITE that finds no miscompare
abbrev pub compare_values : ℕ → List ChunkValue → ℕ → ℕ → List ℕ → ℕ → List ChunkValue
compare_values chunk_blocks chunks first blocks payload stamp =
    written_values chunk_blocks chunks first (written_half blocks payload) stamp

-- the new values of a clone's turn: the image's bytes at these indexes, each with the task's number as stamp
unfoldable pub copied_values : List ChunkValue → List ℕ → ℕ → List ChunkValue
copied_values image indexes stamp =
    map (λ i. record { stamp = stamp; bytes = unwrap_or (option_map (λ (x : ChunkValue). x.bytes) (slice_get image i)) [] }) indexes

-- the new entries of a write or a turn whose chunks were put at these places, in the same order
abbrev pub placed_entries : List ℕ → ℕ → List Entry
placed_entries places stamp = map (λ p. record { place = Some p; stamp = stamp }) places

-- whether a chunk is in one of the ranges, each being a first chunk and a number of chunks
abbrev pub is_in_ranges : List (ℕ × ℕ) → ℕ → Bool
is_in_ranges ranges i = list_any (λ (r : ℕ × ℕ). nat_le r.0 i && nat_lt i (r.0 + r.1)) ranges

-- UNMAP of whole chunks in these ranges: those of them that are allocated are unmapped, and all others stay.
abbrev pub unmapped_in : {X : Type 0} → (X → ℕ) → X → List (ℕ × ℕ) → List X → List X
unmapped_in stamp_of unmapped ranges chunks =
    mapped_from (λ i x. if is_in_ranges ranges i && not (stamp_of x == 0) then unmapped else x) 0 chunks

-- whether it would unmap any
abbrev pub unmaps_any : List (ℕ × ℕ) → List ℕ → Bool
unmaps_any ranges stamps = any_from (λ i s. is_in_ranges ranges i && not (s == 0)) 0 stamps

-- the chunks that a descriptor of an UNMAP, a first block and a number of blocks, covers wholly
abbrev pub whole_chunks : ℕ → ℕ → ℕ → ℕ × ℕ
whole_chunks chunk_blocks first blocks =
    let from = (first + chunk_blocks - 1) / chunk_blocks in (from, (first + blocks) / chunk_blocks - from)

-- the ranges of an UNMAP with these descriptors, of which those that cover no whole chunk give none
abbrev pub unmap_ranges : ℕ → List (ℕ × ℕ) → List (ℕ × ℕ)
unmap_ranges chunk_blocks descriptors =
    filter (λ (r : ℕ × ℕ). not (r.1 == 0)) (map (λ (r : ℕ × ℕ). whole_chunks chunk_blocks r.0 r.1) descriptors)
