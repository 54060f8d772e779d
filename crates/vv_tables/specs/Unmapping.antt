-- Chunks of a volume that are unmapped.
use Rattle.std.specs.Prelude.{ℕ, ◌+◌, Bool, List, map, nat_le}
use Rattle.std.specs.List.{list_all}
use Rattle.vv_record.specs.declared.record.ChunkRange.{ChunkRange}
use Rattle.vv_flat.specs.Chunks.{Entry, unmapped_entry, unmapped_in}
use Rattle.vv_vols.specs.Shelf.{ShelfState}
use Rattle.vv_vols.specs.Calls.{with_chunks}

-- ranges of chunks, each as its first chunk and a number of chunks
abbrev pub range_pairs : List ChunkRange → List (ℕ × ℕ)
range_pairs ranges = map (λ (r : ChunkRange). (r.first_chunk, r.chunks)) ranges

-- whether all of them lie inside a volume of so many chunks
abbrev pub are_inside : ℕ → List (ℕ × ℕ) → Bool
are_inside size ranges = list_all (λ (r : ℕ × ℕ). nat_le (r.0 + r.1) size) ranges

-- the allocated chunks of a volume in these ranges are unmapped
abbrev pub with_unmapped : ShelfState → ℕ → List (ℕ × ℕ) → ShelfState
with_unmapped s n ranges = with_chunks s n (unmapped_in (λ (e : Entry). e.stamp) unmapped_entry ranges)
