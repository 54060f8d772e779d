-- What a call is planned to do, and when a plan is right. That what it asks for is told by the definitions of the whole
-- array alone: a plan says with what memory and at which places it is done.
use Rattle.std.specs.Prelude.{◌≡◌, ◌≤◌, ◌+◌, ℕ, List, [], Bool, true, false, IsTrue, Option, Some, None, ◌⊎◌, if◌then◌else◌}
use Rattle.vv_flat.specs.Lists.{if_found}
use Rattle.vv_flat.specs.State.{QueuedCommand, Volatile, Volume, Durable, Array, volume_of}
use Rattle.vv_flat.specs.Chunks.{Entry, shape_of_tables, volume_blocks, compared_half, written_half}
use Rattle.vv_flat.specs.Volatile.{queue_head}
use Rattle.vv_flat.specs.Profiles.{Capability}
use Rattle.vv_flat.specs.Refusals.{Verdict, Refuse, Nothing, Accept}
use Rattle.vv_flat.specs.Changes.{Change, Turn}
use Rattle.vv_flat.specs.Fields.{change_has_forms}
use Rattle.vv_flat.specs.Flat.{has_its_bytes}
use Rattle.vv_flat.specs.Logs.{record_fits}
use Rattle.vv_flat.specs.Plans.{planned_places}
use Rattle.vv_calls.specs.declared.call.Call.{Call}
use Rattle.vv_calls.specs.declared.call.Call.TheVariants as call
use Rattle.vv_reply.specs.declared.reply.Reply.{Reply}
use Rattle.vv_reply.specs.declared.reply.Reply.TheVariants as reply
use Rattle.vv_reply.specs.declared.reply.Refusal.{Refusal}
use Rattle.vv_reply.specs.declared.reply.Refusal.TheVariants as fault
use Rattle.vv_record.specs.declared.record.Event.{Event}
use Rattle.vv_record.specs.declared.record.Event.TheVariants as event
use Rattle.vv_record.specs.Spelling.{is_spellable}
use Rattle.vv_event.specs.Events.{change_of, places_of, log_record}
use Rattle.vv_meaning.specs.Asks.{NewBytes, Without, These, Repeated, OfImage, Wanted, Deed, Answered, Reads, Changes}
use Rattle.vv_meaning.specs.Told.{refused_as}
use Rattle.vv_meaning.specs.Calls.{asked}
use Rattle.vv_meaning.specs.Meaning.{verdict_on, bytes_for}
use Rattle.vv_core.specs.Core.{entry_shape}
use Rattle.vv_core.specs.declared.planned.Fill.{Fill}
use Rattle.vv_core.specs.declared.planned.Fill.TheVariants as fill
use Rattle.vv_core.specs.declared.planned.Planned.{Planned}
use Rattle.vv_core.specs.declared.planned.Planned.TheVariants as planned

-- The bytes that came with the command that a call is about: its own, or those of the first command of a host that is
-- served.
abbrev pub payload_of : Volatile → Call → List ℕ
payload_of v (call.Scsi command) = command.payload
payload_of v (call.Serve host) = if_found (queue_head v host.0) (λ (c : QueuedCommand). c.payload) []
payload_of v _ = []

-- the blocks that an event writes
abbrev pub blocks_written : Event → ℕ
blocks_written (event.Write volume first_block blocks places) = blocks
blocks_written _ = 0

-- the bytes that fill the new chunks of so many blocks, from those that came with a command
abbrev pub bytes_filled : Fill → Bool → ℕ → List ℕ → NewBytes
bytes_filled fill.Nothing compare blocks payload = Without
bytes_filled fill.Bytes compare blocks payload = These (if compare then written_half blocks payload else payload)
bytes_filled fill.Same compare blocks payload = Repeated payload blocks
bytes_filled (fill.Image task) compare blocks payload = OfImage

-- the task whose image fills new chunks, if one does
abbrev pub image_filling : Fill → Option ℕ
image_filling fill.Nothing = None
image_filling fill.Bytes = None
image_filling fill.Same = None
image_filling (fill.Image task) = Some task.0

-- the task whose turn a change is, if it is one
abbrev pub turning_task : Change → Option ℕ
turning_task (Turn task) = Some task
turning_task _ = None

-- the blocks that are to stand where a write is to be, if it is to compare them first
abbrev pub blocks_compared : Bool → ℕ → List ℕ → Option (List ℕ)
blocks_compared compare blocks payload = if compare then Some (compared_half blocks payload) else None

-- The reply to a deed where it is the same whatever bytes stand and whatever the disk does: at once, or of a change that is
-- refused or would change nothing.

abbrev pub settled_by : Verdict → Wanted → Option Reply
settled_by (Refuse refusal) w = Some (refused_as w.form refusal)
settled_by Nothing w = Some w.nothing
settled_by Accept w = None

abbrev pub settled_reply : List Capability → Durable ℕ → Deed → Option Reply
settled_reply capabilities d (Answered answer) = Some answer
settled_reply capabilities d (Reads volume first blocks) = None
settled_reply capabilities d (Changes w) = settled_by (verdict_on capabilities d w.change) w

-- .. of a call
abbrev pub settled : List Capability → Array Entry → Call → Option Reply
settled capabilities a c = settled_reply capabilities (shape_of_tables a.durable) (asked (entry_shape a) c).deed

abbrev pub is_refusal : Reply → Bool
is_refusal (reply.Refused refusal) = true
is_refusal _ = false

-- An answer is the settled reply, where that is no refusal.
pub record IsAnswerPlan (capabilities : List Capability) (a : Array Entry) (c : Call) (answer : Reply) : Type 0 where
  pub settles : settled capabilities a c ≡ Some answer
  pub is_no_refusal : is_refusal answer ≡ false

-- Blocks are read of a volume that has them.
pub record IsReadPlan (a : Array Entry) (c : Call) (volume first blocks : ℕ) : Type 0 where
  pub asks : (asked (entry_shape a) c).deed ≡ Reads volume first blocks
  pub stands : Volume Entry
  pub stands_is : volume_of a.durable volume ≡ Some stands
  pub within : first + blocks ≤ volume_blocks a.durable.geometry.chunk_blocks stands.chunks
  pub few : blocks ≤ 2048

-- A change that is accepted is journaled as this event, at the lowest places that no entry names. What fills its new chunks is
-- what the call brings: nothing, its bytes, its one block, or the image of the task whose turn it is. It brings as many bytes as
-- it needs. The event can be spelled, and its record fits.
pub record IsJournalPlan (capabilities : List Capability) (a : Array Entry) (c : Call) (e : Event) (filled : Fill) (compare : Bool) (answer : Reply) : Type 0 where
  pub wanted : Wanted
  pub asks : (asked (entry_shape a) c).deed ≡ Changes wanted
  pub accepted : verdict_on capabilities (shape_of_tables a.durable) wanted.change ≡ Accept
  pub change : change_of e ≡ wanted.change
  pub reply_is : answer ≡ wanted.accepted
  pub bytes : bytes_filled filled compare (blocks_written e) (payload_of a.volatile c) ≡ wanted.bytes
  pub image : image_filling filled ≡ turning_task wanted.change
  pub compared : blocks_compared compare (blocks_written e) (payload_of a.volatile c) ≡ wanted.compared
  pub brings : IsTrue (has_its_bytes wanted.change (bytes_for wanted.bytes))
  pub places : places_of e ≡ planned_places a.durable (change_of e)
  pub fits : IsTrue (record_fits a.durable (log_record (record { first_after_open = false; event = e })))
  pub forms : IsTrue (change_has_forms (change_of e))
  pub spellable : IsTrue (is_spellable (record { first_after_open = false; event = e }))

-- A plan for a call is right.
abbrev pub IsPlannedFor : List Capability → Array Entry → Call → Planned → Type 0
IsPlannedFor capabilities a c (planned.Answer answer) = IsAnswerPlan capabilities a c answer
IsPlannedFor capabilities a c (planned.Read volume first blocks) = IsReadPlan a c volume.0 first blocks
IsPlannedFor capabilities a c (planned.Journal e filled compare answer) = IsJournalPlan capabilities a c e filled compare answer

-- A call is refused: that is its settled reply, or there was no memory.
abbrev pub IsRefusedFor : List Capability → Array Entry → Call → Refusal → Type 0
IsRefusedFor capabilities a c refusal = (refusal ≡ fault.NoMemory) ⊎ (settled capabilities a c ≡ Some (reply.Refused refusal))
