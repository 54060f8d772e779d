-- Words on ranges of chunks.
use Rattle.std.specs.Prelude.{ℕ, ◌+◌, ◌==◌, Bool, not, List, map, slice_index, nat_lt}
use Rattle.std.specs.List.{list_any}
use Rattle.vv_flat.specs.Lists.{numbers_from}
use Rattle.vv_record.specs.declared.record.ChunkRange.{ChunkRange}

-- each range as the pair of its first chunk and its number of chunks
abbrev pub range_pairs : List ChunkRange → List (ℕ × ℕ)
range_pairs ranges = map (λ (r : ChunkRange). (r.first_chunk, r.chunks)) ranges

-- whether a range is not inside so many chunks
abbrev pub is_past : ℕ → ChunkRange → Bool
is_past size r = nat_lt size (r.first_chunk + r.chunks)

-- whether a chunk of a range is allocated
abbrev pub unmaps_some : List ℕ → ChunkRange → Bool
unmaps_some stamps r = list_any (λ i. not (slice_index stamps i == 0)) (numbers_from r.first_chunk r.chunks)
