-- What each call asks of an array: a row a call. Which refusal it gets is said by `judge` for the change that it asks for,
-- and nothing of that is said again here. The names of calls are those of VASA 2.0 and this project's own.
use Rattle.std.specs.Prelude.{ℕ, ◌+◌, ◌-◌, List, [], map, Bool, length, nat_lt, Option, None, is_none, unwrap_or, option_map, if◌then◌else◌}
use Rattle.vv_units.specs.Sizes.{volume_chunks}
use Rattle.vv_units.specs.declared.field.Field.{Field}
use Rattle.vv_units.specs.declared.field.Field.TheVariants as field
use Rattle.vv_units.specs.declared.numbers.ContainerId.{ContainerId}
use Rattle.vv_units.specs.declared.numbers.EndpointId.{EndpointId}
use Rattle.vv_flat.specs.Lists.{if_found}
use Rattle.vv_flat.specs.State.{Address, Container, Volume, Task, Durable, Array, container_of, volume_of, task_of}
use Rattle.vv_flat.specs.Space.{used, reserved, free, entries, charge, allocated_count}
use Rattle.vv_flat.specs.Bits.{allocated_bits, unshared_bits, unshared_count, bits_within}
use Rattle.vv_flat.specs.Bindings.{bound_address, count_left, host_bindings}
use Rattle.vv_flat.specs.Tasks.{difference}
use Rattle.vv_flat.specs.Changes as change
use Rattle.vv_flat.specs.Changes.{Change, apply_shape, stamps_of, size_of, allocated_of}
use Rattle.vv_calls.specs.declared.call.Call.{Call}
use Rattle.vv_calls.specs.declared.call.Call.TheVariants as call
use Rattle.vv_reply.specs.declared.reply.Answer.TheVariants as answer
use Rattle.vv_reply.specs.declared.reply.Reply.{Reply}
use Rattle.vv_reply.specs.declared.reply.Reply.TheVariants.{Done, Refused}
use Rattle.vv_reply.specs.declared.reply.Refusal.TheVariants.{NotFound, InvalidArgument}
use Rattle.vv_meaning.specs.Asks.{NewBytes, Without, OfImage, AsFault, Ask, answered, wants}
use Rattle.vv_meaning.specs.Told.{done}
use Rattle.vv_meaning.specs.Commands.{commanded, queued, served, command_of}

-- a change that a call asks for, with the replies where it is accepted and where it would change nothing
abbrev pub asks_for : Array ℕ → Change → NewBytes → Reply → Reply → Ask
asks_for a change bytes accepted nothing = wants a.volatile (record {
  change = change;
  bytes = bytes;
  compared = None;
  form = AsFault;
  accepted = accepted;
  nothing = nothing;
})

-- a change with one reply, which brings no bytes
abbrev pub asks : Array ℕ → Change → Reply → Ask
asks a change reply = asks_for a change Without reply reply

-- the number of what an accepted change makes
abbrev pub new_number : Durable ℕ → ℕ
new_number d = d.lsn + 1

-- so many MB in chunks, and 0 where no volume has that size
abbrev pub chunks_asked : Durable ℕ → ℕ → ℕ
chunks_asked d mb = unwrap_or (volume_chunks d.geometry.chunk_blocks mb) 0

-- a container that is named, and else the first
abbrev pub container_asked : Option ContainerId → ℕ
container_asked container = unwrap_or (option_map (λ (k : ContainerId). k.0) container) 0

-- A task as its record tells it, or that there is none.

abbrev pub task_told : Task → Reply
task_told t = Done (answer.TaskNow t.done t.state (record { 0 = t.number }) t.total)

abbrev pub task_now : Durable ℕ → ℕ → Reply
task_now d n = if_found (task_of d n) task_told (Refused (NotFound field.Task))

-- as its record is after a change of it
unfoldable pub task_after : Durable ℕ → Change → ℕ → Reply
unfolding apply_shape
task_after d change n = task_now (apply_shape d change) n

-- the address of a binding
abbrev pub bound_at : Address → Reply
bound_at address = Done (answer.Bound (record { 0 = address.endpoint }) (record { 0 = address.secondary }))

-- how many pieces a copy has
abbrev pub piece_count : Durable ℕ → ℕ → ℕ → ℕ
piece_count d source base = length (difference (λ s. s) (stamps_of d source) (stamps_of d base))

-- Queries. Each volume or container that is named stands, and else it is the reply that it doesn't.

abbrev pub if_stands : Durable ℕ → ℕ → Field → Reply → Reply
if_stands d n name reply = if is_none (volume_of d n) then Refused (NotFound name) else reply

-- Bits of a volume of so many chunks: so many from a first one on, or all behind it, or all.

abbrev pub bits_from : List Bool → ℕ → ℕ → Reply
bits_from bits first count =
    if nat_lt (length bits) first then Refused (InvalidArgument field.First)
    else if nat_lt (length bits - first) count then Refused (InvalidArgument field.Count)
    else Done (answer.Bits (bits_within first count bits))

abbrev pub bits_asked : List Bool → Option ℕ → Option ℕ → Reply
bits_asked bits first count =
    let start = unwrap_or first 0 in
    bits_from bits start (unwrap_or count (length bits - start))

unfoldable pub pool_told : Durable ℕ → Reply
unfolding used reserved free entries
pool_told d = Done (answer.Pool d.geometry.pool_chunks (entries d) (free d) (reserved d) (used d))

abbrev pub charge_told : Durable ℕ → Container → Reply
charge_told d k = Done (answer.Charge (charge d k.number) k.quota)

abbrev pub volume_told : Volume ℕ → Reply
volume_told v =
    Done (answer.Volume (allocated_count v.chunks) (length v.chunks) (record { 0 = v.container }) v.kind v.metadata v.needs
    v.reverted v.vtype)

-- The table.
unfoldable pub asked : Array ℕ → Call → Ask
unfolding task_after pool_told commanded queued served
asked a (call.CreateStorageContainer quota offers) =
    asks a (change.MakeContainer quota offers) (Done (answer.Container (record { 0 = new_number a.durable })))
asked a (call.CreateVirtualVolume container vtype mb profile) =
    asks a (change.MakeVolume (container_asked container) vtype (chunks_asked a.durable mb) (unwrap_or profile []))
    (Done (answer.Vvol (record { 0 = new_number a.durable })))
asked a (call.DeleteVirtualVolume vvol) = asks a (change.DeleteVolume vvol.0) done
asked a (call.ResizeVirtualVolume vvol mb) = asks a (change.GrowVolume vvol.0 (chunks_asked a.durable mb)) done
asked a (call.SetMetadata vvol key value) = asks a (change.SetMetadata vvol.0 key value) done
asked a (call.SnapshotVirtualVolume vvol) =
    asks a (change.Snapshot vvol.0) (Done (answer.Vvol (record { 0 = new_number a.durable })))
asked a (call.FastCloneVirtualVolume vvol) =
    asks a (change.FastClone vvol.0) (Done (answer.Vvol (record { 0 = new_number a.durable })))
asked a (call.RevertVirtualVolume vvol snapshot) = asks a (change.Revert vvol.0 snapshot.0) done
asked a (call.CloneVirtualVolume vvol) =
    asks a (change.StartClone vvol.0)
    (Done (answer.CloneStart (record { 0 = new_number a.durable }) (record { 0 = new_number a.durable })
    (allocated_of a.durable vvol.0)))
asked a (call.CopyDiffsToVirtualVolume source base target) =
    asks a (change.StartCopy source.0 base.0 target.0)
    (Done (answer.CopyStart (record { 0 = new_number a.durable }) (piece_count a.durable source.0 base.0)))
asked a (call.Turn task) =
    asks_for a (change.Turn task.0) OfImage (task_after a.durable (change.Turn task.0) task.0) (task_now a.durable task.0)
asked a (call.GetTaskUpdate task) = answered a.volatile (task_now a.durable task.0)
asked a (call.CancelTask task) = asks a (change.Cancel task.0) (task_after a.durable (change.Cancel task.0) task.0)
asked a (call.SetPEContext host endpoints) =
    asks a (change.SetEndpoints host.0 (map (λ (e : EndpointId). e.0) endpoints)) done
asked a (call.BindVirtualVolume host vvol) =
    asks a (change.Bind host.0 vvol.0) (bound_at (bound_address a.durable.contexts a.durable.bindings host.0 vvol.0))
asked a (call.UnbindVirtualVolume host endpoint secondary) =
    asks a (change.Unbind host.0 endpoint.0 secondary.0)
    (Done (answer.Left (count_left a.durable.bindings
    (record { host = host.0; endpoint = endpoint.0; secondary = secondary.0 }))))
asked a (call.UnbindAllVirtualVolumesFromHost host) =
    asks a (change.UnbindAll host.0) (Done (answer.Removed (host_bindings a.durable.bindings host.0)))
asked a (call.AllocatedBitmapVirtualVolume vvol first count) =
    answered a.volatile
    (if_stands a.durable vvol.0 field.Vvol (bits_asked (allocated_bits (stamps_of a.durable vvol.0)) first count))
asked a (call.UnsharedBitmapVirtualVolume vvol base first count) =
    answered a.volatile
    (if_stands a.durable vvol.0 field.Vvol
    (if_stands a.durable base.0 field.Base
    (bits_asked (unshared_bits (stamps_of a.durable vvol.0) (stamps_of a.durable base.0)) first count)))
asked a (call.UnsharedChunksVirtualVolume vvol base) =
    answered a.volatile
    (if_stands a.durable vvol.0 field.Vvol
    (if_stands a.durable base.0 field.Base
    (Done (answer.Count (unshared_count (stamps_of a.durable vvol.0) (stamps_of a.durable base.0))))))
asked a call.QueryPool = answered a.volatile (pool_told a.durable)
asked a (call.QueryStorageContainer container) =
    answered a.volatile
    (if_found (container_of a.durable container.0) (charge_told a.durable) (Refused (NotFound field.Container)))
asked a (call.QueryVirtualVolume vvol) =
    answered a.volatile (if_found (volume_of a.durable vvol.0) volume_told (Refused (NotFound field.Vvol)))
asked a (call.Scsi command) = commanded a (command_of command)
asked a (call.Submit command) = queued a (command_of command)
asked a (call.Serve host) = served a host.0
asked a call.Restart = answered a.volatile done
