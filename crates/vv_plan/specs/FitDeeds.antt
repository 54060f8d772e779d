-- What holds of all that commands ask for: blocks that are read lie inside their volume, and no command moves more blocks,
-- or unmaps more ranges, than one may.
use Rattle.std.specs.Prelude.{ℕ, ◌+◌, ◌==◌, ◌&&◌, Bool, true, not, length, nat_le, nat_lt}
use Rattle.std.specs.List.{list_all}
use Rattle.vv_flat.specs.State.{Durable}
use Rattle.vv_flat.specs.Chunks.{volume_blocks}
use Rattle.vv_flat.specs.Changes.{Change, Write, Unmap, stamps_of}
use Rattle.vv_meaning.specs.Asks.{Deed, Answered, Reads, Changes}

-- the most blocks of one command
abbrev pub block_limit : ℕ
block_limit = 2048

-- the most ranges of one UNMAP
abbrev pub range_limit : ℕ
range_limit = 64

-- some of so many blocks
abbrev pub is_readable : ℕ → ℕ → ℕ → Bool
is_readable size first blocks = nat_lt first size && nat_le (first + blocks) size && nat_le blocks block_limit

-- a change that a command asks for
abbrev pub is_fit_change : Change → Bool
is_fit_change (Write volume first blocks) = nat_le blocks block_limit
is_fit_change (Unmap volume ranges) =
    nat_le (length ranges) range_limit && list_all (λ (r : ℕ × ℕ). not (r.1 == 0)) ranges
is_fit_change _ = true

-- .. and all else
abbrev pub is_fit : Durable ℕ → Deed → Bool
is_fit d (Answered reply) = true
is_fit d (Reads volume first blocks) =
    is_readable (volume_blocks d.geometry.chunk_blocks (stamps_of d volume)) first blocks
is_fit d (Changes wanted) = is_fit_change wanted.change
