-- The memory for an event that is put on the disk.
use Rattle.std.specs.Prelude.{◌≡◌, ◌≤◌, ℕ, false, length, Ok}
use Rattle.vv_data.specs.Layout.{chunk_bytes}
use Rattle.vv_units.specs.declared.geometry.Geometry.{Geometry}
use Rattle.vv_flat.specs.State.{Array}
use Rattle.vv_flat.specs.Chunks.{Entry, ChunkValue}
use Rattle.vv_journal.specs.Half.{payload_limit}
use Rattle.vv_calls.specs.declared.call.Call.{Call}
use Rattle.vv_record.specs.Records.{record_in}
use Rattle.vv_record.specs.declared.record.Event.{Event}
use Rattle.vv_record.specs.declared.record.Event.TheVariants as event
use Rattle.vv_event.specs.Events.{change_of}
use Rattle.vv_meaning.specs.Meaning.{blocks_at, differs}
use Rattle.vv_core.specs.Plans.{payload_of, blocks_written, blocks_compared}
use Rattle.vv_array.specs.declared.putting.PlannedEvent.{PlannedEvent}
use Rattle.vv_array.specs.declared.putting.EventMemory.{EventMemory}
use Rattle.vv_array.specs.Payloads.{repeated_bytes}

-- How many bytes the buffer for an event has: those of a chunk where it is a write or a turn, else none.
abbrev pub buffer_bytes : Geometry → Event → ℕ
buffer_bytes geometry (event.Write volume first_block blocks places) = chunk_bytes geometry
buffer_bytes geometry (event.Turn task copies) = chunk_bytes geometry
buffer_bytes _ _ = 0

-- It has the record's bytes and the repeated block, and its buffers are long enough.
pub record IsEventMemory (a : Array Entry) (c : Call) (planned : PlannedEvent) (memory : EventMemory) : Type 0 where
  pub spelled : record_in memory.payload.items ≡ Ok planned.record
  pub short : length memory.payload.items ≤ payload_limit
  pub repeated : memory.repeated.items ≡ repeated_bytes planned.fill (blocks_written planned.record.event) (payload_of a.volatile c)
  pub chunk : length memory.chunk.items ≡ buffer_bytes a.durable.geometry planned.record.event
  pub tables : 4096 ≤ length memory.tables.items

-- The blocks of the flat array where a planned event writes are those to compare with, if it compares them.
abbrev pub Compares : Array Entry → Call → PlannedEvent → Array ChunkValue → Type 0
Compares a c planned m =
    differs (blocks_at m.durable) (change_of planned.record.event)
    (blocks_compared planned.compare (blocks_written planned.record.event) (payload_of a.volatile c)) ≡ false
