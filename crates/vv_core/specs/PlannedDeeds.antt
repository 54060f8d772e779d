-- When a plan for a deed is right, over tables, where these bytes came with the command: as `Plans` says it of a call, of
-- what the call asks for.
use Rattle.std.specs.Prelude.{◌≡◌, ◌≤◌, ◌+◌, ◌<◌, ◌^◌, ℕ, ⊤, List, Bool, false, IsTrue, Some, ◌⊎◌}
use Rattle.vv_flat.specs.State.{Volume, Durable, volume_of}
use Rattle.vv_flat.specs.Chunks.{Entry, shape_of_tables, volume_blocks}
use Rattle.vv_flat.specs.Profiles.{Capability}
use Rattle.vv_flat.specs.Refusals as flat
use Rattle.vv_flat.specs.Refusals.{Accept}
use Rattle.vv_flat.specs.Fields.{change_has_forms}
use Rattle.vv_flat.specs.Logs.{record_fits}
use Rattle.vv_flat.specs.Plans.{planned_places}
use Rattle.vv_record.specs.declared.record.Event.{Event}
use Rattle.vv_record.specs.Spelling.{is_spellable}
use Rattle.vv_event.specs.Events.{change_of, places_of, log_record}
use Rattle.vv_judge.specs.declared.answer.Verdict.{Verdict}
use Rattle.vv_judge.specs.declared.answer.Verdict.TheVariants as verdict
use Rattle.vv_judge.specs.Seen.{seen_refusal}
use Rattle.vv_reply.specs.declared.reply.Reply.{Reply}
use Rattle.vv_reply.specs.declared.reply.Reply.TheVariants as reply
use Rattle.vv_reply.specs.declared.reply.Refusal.{Refusal}
use Rattle.vv_reply.specs.declared.reply.Refusal.TheVariants as fault
use Rattle.vv_meaning.specs.Asks.{Wanted, Deed, Reads, Changes}
use Rattle.vv_meaning.specs.Meaning.{verdict_on}
use Rattle.vv_core.specs.declared.planned.Fill.{Fill}
use Rattle.vv_core.specs.declared.planned.Planned.{Planned}
use Rattle.vv_core.specs.declared.planned.Planned.TheVariants as planned
use Rattle.vv_core.specs.Plans.{settled_reply, is_refusal, blocks_written, bytes_filled, image_filling, turning_task, blocks_compared}

pub record IsDeedAnswered (capabilities : List Capability) (d : Durable Entry) (deed : Deed) (answer : Reply) : Type 0 where
  pub settles : settled_reply capabilities (shape_of_tables d) deed ≡ Some answer
  pub is_no_refusal : is_refusal answer ≡ false

pub record IsDeedRead (d : Durable Entry) (deed : Deed) (volume first blocks : ℕ) : Type 0 where
  pub asks : deed ≡ Reads volume first blocks
  pub stands : Volume Entry
  pub stands_is : volume_of d volume ≡ Some stands
  pub within : first + blocks ≤ volume_blocks d.geometry.chunk_blocks stands.chunks
  pub few : blocks ≤ 2048

pub record IsDeedJournaled (capabilities : List Capability) (d : Durable Entry) (deed : Deed) (payload : List ℕ) (e : Event) (filled : Fill) (compare : Bool) (answer : Reply) : Type 0 where
  pub wanted : Wanted
  pub asks : deed ≡ Changes wanted
  pub accepted : verdict_on capabilities (shape_of_tables d) wanted.change ≡ Accept
  pub change : change_of e ≡ wanted.change
  pub reply_is : answer ≡ wanted.accepted
  pub bytes : bytes_filled filled compare (blocks_written e) payload ≡ wanted.bytes
  pub image : image_filling filled ≡ turning_task wanted.change
  pub compared : blocks_compared compare (blocks_written e) payload ≡ wanted.compared
  pub places : places_of e ≡ planned_places d (change_of e)
  pub fits : IsTrue (record_fits d (log_record (record { first_after_open = false; event = e })))
  pub forms : IsTrue (change_has_forms (change_of e))
  pub spellable : IsTrue (is_spellable (record { first_after_open = false; event = e }))

-- A plan for a deed is right.
abbrev pub IsDeedPlanned : List Capability → Durable Entry → Deed → List ℕ → Planned → Type 0
IsDeedPlanned capabilities d deed payload (planned.Answer answer) = IsDeedAnswered capabilities d deed answer
IsDeedPlanned capabilities d deed payload (planned.Read volume first blocks) = IsDeedRead d deed volume.0 first blocks
IsDeedPlanned capabilities d deed payload (planned.Journal e filled compare answer) =
    IsDeedJournaled capabilities d deed payload e filled compare answer

-- A deed is refused: that is its settled reply, or there was no memory.
abbrev pub IsDeedRefused : List Capability → Durable Entry → Deed → Refusal → Type 0
IsDeedRefused capabilities d deed refusal =
    (refusal ≡ fault.NoMemory) ⊎ (settled_reply capabilities (shape_of_tables d) deed ≡ Some (reply.Refused refusal))

-- a refusal of a profile names one of a list's first needs, whose number has 32 bits
abbrev pub IsTellable : flat.Refusal → Type 0
IsTellable (flat.InvalidProfile at why) = at < 2 ^ 32
IsTellable _ = ⊤

abbrev pub IsTellableVerdict : Verdict → Type 0
IsTellableVerdict (verdict.Refuse refusal) = IsTellable (seen_refusal refusal)
IsTellableVerdict verdict.Nothing = ⊤
IsTellableVerdict verdict.Accept = ⊤
