-- What a command to a logical unit asks of an array: at once, when it is submitted, and when it is served. Queues and
-- unit attentions are those of SAM-5; that the data's length is looked at first is this project's own choice.
use Rattle.std.specs.Prelude.{ℕ, ◌+◌, ◌==◌, Bool, false, not, List, [], length, Option, Some, None, Result, Ok, Err, if◌then◌else◌}
use Rattle.std.specs.List.{list_any}
use Rattle.vv_units.specs.declared.field.Field.TheVariants as field
use Rattle.vv_flat.specs.Lists.{if_found}
use Rattle.vv_flat.specs.State.{Address, Binding, QueuedCommand, Volatile, Durable, Array}
use Rattle.vv_flat.specs.Chunks.{volume_blocks, compared_half, written_half, unmap_ranges}
use Rattle.vv_flat.specs.Bindings.{endpoints_of, binding_at}
use Rattle.vv_flat.specs.Volatile.{is_queue_full, queue_of, queue_head, submitted, head_taken, has_attention, without_attention}
use Rattle.vv_flat.specs.Changes.{Write, Unmap, stamps_of, is_snapshot}
use Rattle.vv_calls.specs.declared.call.ScsiCall.{ScsiCall}
use Rattle.vv_cdb.specs.declared.sense.Sense.{Sense}
use Rattle.vv_cdb.specs.declared.command.Command.{Command}
use Rattle.vv_cdb.specs.Cdbs.{decoded, data_length}
use Rattle.vv_lun.specs.declared.unit.Action.{Action}
use Rattle.vv_lun.specs.declared.unit.Action.TheVariants as action
use Rattle.vv_lun.specs.Units.{UnitState, Unbound, Endpoint, Bound}
use Rattle.vv_lun.specs.Decided.{decided}
use Rattle.vv_reply.specs.declared.reply.Answer.TheVariants.{Queued, NothingServed}
use Rattle.vv_reply.specs.declared.reply.Reply.{Reply}
use Rattle.vv_reply.specs.declared.reply.Reply.TheVariants.{Done, Refused, Scsi}
use Rattle.vv_reply.specs.declared.reply.Refusal.TheVariants.{InvalidArgument}
use Rattle.vv_meaning.specs.Asks.{NewBytes, Without, These, Repeated, AsSense, Deed, Answered, Reads, Changes, Ask, answered}
use Rattle.vv_meaning.specs.Told.{good, task_set_full}

-- What is at an address. Secondary identifier 0 at an endpoint of the host is the endpoint itself; a volume is where it
-- is bound for the host, and anywhere else is nothing.

abbrev pub is_endpoint_of_host : Durable ℕ → Address → Bool
is_endpoint_of_host d address = list_any (λ e. e == address.endpoint) (endpoints_of d.contexts address.host)

abbrev pub bound_unit : Array ℕ → Address → Binding → UnitState
bound_unit a address b =
    Bound b.volume (volume_blocks a.durable.geometry.chunk_blocks (stamps_of a.durable b.volume))
    (is_snapshot a.durable b.volume) (has_attention a.volatile.attentions address)

unfoldable pub unit_at : Array ℕ → Address → UnitState
unit_at a address =
    if address.secondary == 0
    then (if is_endpoint_of_host a.durable address then Endpoint address.endpoint else Unbound)
    else if_found (binding_at a.durable.bindings address) (bound_unit a address) Unbound

-- the volume of a unit whose blocks a command moves; none but a volume has blocks
abbrev pub volume_in : UnitState → ℕ
volume_in (Bound volume blocks snapshot attention) = volume
volume_in _ = 0

-- A command is answered with its data or with a sense, and a unit attention that it tells is cleared.

abbrev pub ended : List ℕ → Option Sense → Reply
ended bytes None = good bytes
ended bytes (Some sense) = Scsi (record { status = 0x02; sense = Some sense; cause = None; payload = bytes })

abbrev pub cleared : Bool → Address → Volatile → Volatile
cleared clears address volatile =
    if clears then record volatile { attentions = without_attention volatile.attentions address } else volatile

-- A write of blocks, once those that stand compare with others if this is asked for. It ends well also where nothing
-- would change.
abbrev pub writes : (volume first blocks : ℕ) → NewBytes → Option (List ℕ) → Deed
writes volume first blocks bytes compared = Changes (record {
  change = Write volume first blocks;
  bytes = bytes;
  compared = compared;
  form = AsSense;
  accepted = good [];
  nothing = good [];
})

-- UNMAP of the whole chunks that its descriptors cover
abbrev pub unmaps : ℕ → ℕ → List (ℕ × ℕ) → Deed
unmaps chunk_blocks volume descriptors = Changes (record {
  change = Unmap volume (unmap_ranges chunk_blocks descriptors);
  bytes = Without;
  compared = None;
  form = AsSense;
  accepted = good [];
  nothing = good [];
})

-- what is done with the data of a command to a volume
abbrev pub deed_of : ℕ → ℕ → List ℕ → Action → Deed
deed_of chunk_blocks volume payload (action.Reply bytes sense clears) = Answered (ended bytes sense)
deed_of chunk_blocks volume payload (action.Read first blocks) = Reads volume first blocks
deed_of chunk_blocks volume payload (action.Write first blocks) = writes volume first blocks (These payload) None
deed_of chunk_blocks volume payload (action.Same first blocks) = writes volume first blocks (Repeated payload blocks) None
deed_of chunk_blocks volume payload (action.Compare first blocks) =
    writes volume first blocks (These (written_half blocks payload)) (Some (compared_half blocks payload))
deed_of chunk_blocks volume payload (action.Unmap descriptors) = unmaps chunk_blocks volume descriptors

abbrev pub clears_attention : Action → Bool
clears_attention (action.Reply bytes sense clears) = clears
clears_attention _ = false

abbrev pub done_at : Array ℕ → Address → List ℕ → ℕ → Action → Ask
done_at a address payload volume act = record {
  volatile = cleared (clears_attention act) address a.volatile;
  deed = deed_of a.durable.geometry.chunk_blocks volume payload act;
}

-- A command that is decoded and takes another number of bytes is refused, whatever is at its address.

abbrev pub has_other_length : Result Command Sense → List ℕ → Bool
has_other_length (Ok command) payload = not (length payload == data_length command)
has_other_length (Err sense) payload = false

abbrev pub wrong_data : Reply
wrong_data = Refused (InvalidArgument field.Data)

-- A command that is done at once, by what is at its address now.
unfoldable pub commanded : Array ℕ → QueuedCommand → Ask
commanded a c =
    let unit = unit_at a c.address in
    if has_other_length (decoded c.cdb) c.payload then answered a.volatile wrong_data
    else done_at a c.address c.payload (volume_in unit) (decided unit (decoded c.cdb) c.payload)

-- A command that is put behind the others of its host, if there is room. What is at its address doesn't count yet.
unfoldable pub queued : Array ℕ → QueuedCommand → Ask
queued a c =
    let queue = queue_of a.volatile c.address.host in
    if has_other_length (decoded c.cdb) c.payload then answered a.volatile wrong_data
    else if is_queue_full queue then answered a.volatile task_set_full
    else answered (submitted a.volatile c) (Done (Queued (length queue + 1)))

-- The first command of a host's queue is taken off it and done, if there is one.
unfoldable pub served : Array ℕ → ℕ → Ask
unfolding commanded
served a host =
    if_found (queue_head a.volatile host) (commanded (record a { volatile = head_taken a.volatile host }))
    (answered a.volatile (Done NothingServed))

-- the command of a line
abbrev pub command_of : ScsiCall → QueuedCommand
command_of c = record {
  address = record { host = c.host.0; endpoint = c.endpoint.0; secondary = c.secondary.0 };
  cdb = c.cdb;
  payload = c.payload;
}
