-- What a volume answers to the commands about its blocks (SBC-4), where no unit attention waits. A range of blocks is
-- the logical block address of the first, and how many they are. The order of the answers is this project's own choice:
-- first the form of a parameter list, then the range, then the write protection.
use Rattle.std.specs.Prelude.{ℕ, ◌+◌, ◌==◌, ◌||◌, Bool, List, length, Result, Ok, Err, nat_le, nat_lt, if◌then◌else◌}
use Rattle.std.specs.List.{list_any}
use Rattle.vv_cdb.specs.declared.sense.Sense.{Sense}
use Rattle.vv_cdb.specs.declared.command.Command.{Command}
use Rattle.vv_cdb.specs.declared.command.Command.TheVariants.{Read, Write, Sync, Unmap, Compare, Same, Capacity10, Capacity16}
use Rattle.vv_cdb.specs.UnmapLists.{ranges_in}
use Rattle.vv_lun.specs.declared.unit.Action.{Action}
use Rattle.vv_lun.specs.Senses.{lba_out_of_range, write_protected}
use Rattle.vv_lun.specs.Actions.{answered, answered_within, done, refused, to_read, to_write, to_write_same, to_compare, to_unmap}
use Rattle.vv_lun.specs.Answers.{capacity_10, capacity_16}

-- whether a range begins at the end of the volume or past it, or ends past it
abbrev pub is_outside : ℕ → ℕ × ℕ → Bool
is_outside blocks range = nat_le blocks range.0 || nat_lt blocks (range.0 + range.1)

-- a range that is outside the volume is refused
abbrev pub within : ℕ → ℕ × ℕ → Action → Action
within blocks range action = if is_outside blocks range then refused lba_out_of_range else action

-- a snapshot is not written
abbrev pub if_writable : Bool → Action → Action
if_writable snapshot action = if snapshot then refused write_protected else action

-- where there is nothing to do, it is done
abbrev pub unless_none : ℕ → Action → Action
unless_none number action = if number == 0 then done else action

abbrev pub read : ℕ → ℕ × ℕ → Action
read blocks range = within blocks range (unless_none range.1 (to_read range))

abbrev pub write : ℕ → Bool → ℕ × ℕ → Action
write blocks snapshot range = within blocks range (if_writable snapshot (unless_none range.1 (to_write range)))

abbrev pub compare : ℕ → Bool → ℕ × ℕ → Action
compare blocks snapshot range = within blocks range (if_writable snapshot (unless_none range.1 (to_compare range)))

-- WRITE SAME always has a block
abbrev pub write_same : ℕ → Bool → ℕ × ℕ → Action
write_same blocks snapshot range = within blocks range (if_writable snapshot (to_write_same range))

-- SYNCHRONIZE CACHE moves no block
abbrev pub synchronize : ℕ → ℕ × ℕ → Action
synchronize blocks range = within blocks range done

-- UNMAP of some ranges
abbrev pub unmap_ranges : ℕ → Bool → List (ℕ × ℕ) → Action
unmap_ranges blocks snapshot ranges =
    if list_any (is_outside blocks) ranges then refused lba_out_of_range
    else if_writable snapshot (unless_none (length ranges) (to_unmap ranges))

abbrev pub unmap_read : ℕ → Bool → Result (List (ℕ × ℕ)) Sense → Action
unmap_read blocks snapshot (Ok ranges) = unmap_ranges blocks snapshot ranges
unmap_read blocks snapshot (Err sense) = refused sense

-- UNMAP, by its parameter list
abbrev pub unmap : ℕ → Bool → List ℕ → Action
unmap blocks snapshot payload = unmap_read blocks snapshot (ranges_in payload)

-- The answer of a volume of so many blocks to each command. READ CAPACITY is answered with its data, and TEST UNIT
-- READY is done at once; INQUIRY and REQUEST SENSE are answered before (`Decided`).
abbrev pub block_command : ℕ → Bool → Command → List ℕ → Action
block_command blocks snapshot Capacity10 payload = answered (capacity_10 blocks)
block_command blocks snapshot (Capacity16 alloc_len) payload = answered_within alloc_len (capacity_16 blocks)
block_command blocks snapshot (Read lba n) payload = read blocks (lba, n)
block_command blocks snapshot (Write lba n) payload = write blocks snapshot (lba, n)
block_command blocks snapshot (Sync lba n) payload = synchronize blocks (lba, n)
block_command blocks snapshot (Unmap list_len) payload = unmap blocks snapshot payload
block_command blocks snapshot (Compare lba n) payload = compare blocks snapshot (lba, n)
block_command blocks snapshot (Same lba n) payload = write_same blocks snapshot (lba, n)
block_command blocks snapshot _ payload = done
