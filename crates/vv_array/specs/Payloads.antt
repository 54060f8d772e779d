-- The bytes that fill the new chunks of an event.
use Rattle.std.specs.Prelude.{ℕ, Bool, List, [], if◌then◌else◌}
use Rattle.vv_flat.specs.State.{Volatile}
use Rattle.vv_flat.specs.Chunks.{same_blocks}
use Rattle.vv_calls.specs.declared.call.Call.{Call}
use Rattle.vv_record.specs.declared.record.Event.{Event}
use Rattle.vv_meaning.specs.Meaning.{bytes_for}
use Rattle.vv_core.specs.declared.planned.Fill.{Fill}
use Rattle.vv_core.specs.declared.planned.Fill.TheVariants as fill
use Rattle.vv_core.specs.Plans.{payload_of, bytes_filled, blocks_written}

-- one block as often as there are blocks, where that fills them
abbrev pub repeated_bytes : Fill → ℕ → List ℕ → List ℕ
repeated_bytes fill.Same blocks payload = same_blocks payload blocks
repeated_bytes fill.Nothing blocks payload = []
repeated_bytes fill.Bytes blocks payload = []
repeated_bytes (fill.Image task) blocks payload = []

-- the bytes that an event is planned to bring
abbrev pub planned_bytes : Volatile → Call → Event → Fill → Bool → List ℕ
planned_bytes v c e filled compare = bytes_for (bytes_filled filled compare (blocks_written e) (payload_of v c))

-- how many blocks are compared ahead of an event
abbrev pub blocks_to_compare : Bool → Event → ℕ
blocks_to_compare compare e = if compare then blocks_written e else 0
