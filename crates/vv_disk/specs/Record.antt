-- The record of a disk in memory: its writes and syncs, with the bytes of all writes in one list.
use Rattle.std.specs.Prelude.{◌≡◌, ℕ, ◌+◌, ◌*◌, ◌≤◌, List, length, take, drop, map, sum_by, All, vec_capacity}
use Rattle.vv_disk.specs.declared.record.Entry.{Entry}
use Rattle.vv_disk.specs.declared.record.Entry.TheVariants.{Write, Sync}
use Rattle.vv_disk.specs.declared.record.Record.TheInside.{Inside}
use Rattle.vv_disk.specs.Images.{overwritten}
use Rattle.vv_disk.specs.MemDisk.{Done, Wrote, Synced, cost_of}

-- what an entry says, with the bytes of all writes
abbrev pub done_by : List ℕ → Entry → Done
done_by bytes (Write at from len) = Wrote at (take len (drop from bytes))
done_by bytes Sync = Synced

abbrev pub done_of : List Entry → List ℕ → List Done
done_of entries bytes = map (done_by bytes) entries

-- a disk's bytes after it
abbrev pub redone : List ℕ → Done → List ℕ
redone disk (Wrote at bytes) = overwritten disk at bytes
redone disk Synced = disk

-- the bytes of an entry are among so many
abbrev pub IsAmong : ℕ → Entry → Type 0
IsAmong size (Write at from len) = from + len ≤ size
IsAmong size Sync = Unit {0}

-- what a record is seen as: its writes and syncs, and its room
abbrev pub recorded : Inside → List Done × ℕ
recorded record' = (done_of record'.entries.items record'.bytes.items, record'.room)

pub record IsSound (inside : Inside) : Type 0 where
  pub among : All (IsAmong (length inside.bytes.items)) inside.entries.items
  pub used : sum_by cost_of (done_of inside.entries.items inside.bytes.items) ≡ 64 * length inside.entries.items + length inside.bytes.items
  pub within : 64 * length inside.entries.items + length inside.bytes.items ≤ inside.room
  pub entries_room : inside.room ≤ 64 * vec_capacity inside.entries + 63
  pub bytes_room : inside.room ≤ vec_capacity inside.bytes
