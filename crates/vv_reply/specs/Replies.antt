-- The line of each reply: an object whose members stand in the order of their names' bytes.
use Rattle.std.specs.Prelude.{ℕ, ◌≤◌, ◌<◌, ◌==◌, List, [], ◌∷◌, ◌++◌, length, true, false, codes, if◌then◌else◌, Option, Some, None, ⊤}
use Rattle.vv_units.specs.Names.{field_text}
use Rattle.vv_units.specs.Identifiers.{identifier_limit}
use Rattle.vv_units.specs.declared.volume.VolumeKind.{VolumeKind}
use Rattle.vv_units.specs.declared.volume.VolumeKind.TheVariants.{Plain, SnapshotOf, FastCloneOf, FullCloneOf}
use Rattle.vv_calls.specs.declared.call.LineFault.{LineFault}
use Rattle.vv_calls.specs.declared.call.LineFault.TheVariants as line
use Rattle.vv_cdb.specs.declared.sense.Sense.{Sense}
use Rattle.vv_reply.specs.declared.reply.Reply.{Reply}
use Rattle.vv_reply.specs.declared.reply.Reply.TheVariants.{Done, Refused, Scsi, Line}
use Rattle.vv_reply.specs.declared.reply.Answer.{Answer}
use Rattle.vv_reply.specs.declared.reply.Answer.TheVariants.{Empty, Container, Vvol, CloneStart, CopyStart, TaskNow, Bound, Left, Removed, Bits, Count, Pool, Charge, Volume, Queued, NothingServed}
use Rattle.vv_reply.specs.declared.reply.Refusal.{Refusal}
use Rattle.vv_reply.specs.declared.reply.Refusal.TheVariants.{NotFound, InvalidArgument, IncompatibleVolume, NoEndpoint, ResourceInUse, NotCancellable, Exhausted, TooMany, InvalidProfile, OverQuota, PoolFull, MapFull, ReadFault, WriteFault, Damaged, NoMemory}
use Rattle.vv_reply.specs.Objects.{quoted, number, flag, identifier, object}
use Rattle.vv_reply.specs.Runs.{hex_text}
use Rattle.vv_reply.specs.Values.{type_text, kind_text, origin, why_text, state_text, part_text, bits, runs, sense_text, pairs, needs}

-- what a call gives
abbrev pub answer_members : Answer → List (List ℕ × List ℕ)
answer_members Empty = (codes "ok", flag true) ∷ []
answer_members (Container container) = (codes "container", identifier container.0) ∷ (codes "ok", flag true) ∷ []
answer_members (Vvol vvol) = (codes "ok", flag true) ∷ (codes "vvol", identifier vvol.0) ∷ []
answer_members (CloneStart target task total) = (codes "ok", flag true) ∷ (codes "target", identifier target.0) ∷ (codes "task", number task.0) ∷ (codes "total", number total) ∷ []
answer_members (CopyStart task total) = (codes "ok", flag true) ∷ (codes "task", number task.0) ∷ (codes "total", number total) ∷ []
answer_members (TaskNow done state task total) = (codes "done", number done) ∷ (codes "ok", flag true) ∷ (codes "state", quoted (state_text state)) ∷ (codes "task", number task.0) ∷ (codes "total", number total) ∷ []
answer_members (Bound endpoint secondary) = (codes "endpoint", number endpoint.0) ∷ (codes "ok", flag true) ∷ (codes "secondary", number secondary.0) ∷ []
answer_members (Left left) = (codes "left", number left) ∷ (codes "ok", flag true) ∷ []
answer_members (Removed removed) = (codes "ok", flag true) ∷ (codes "removed", number removed) ∷ []
answer_members (Bits flags) = (codes "bits", bits flags) ∷ (codes "ok", flag true) ∷ []
answer_members (Count count) = (codes "count", number count) ∷ (codes "ok", flag true) ∷ []
answer_members (Pool chunks entries free reserved used) = (codes "chunks", number chunks) ∷ (codes "entries", number entries) ∷ (codes "free", number free) ∷ (codes "ok", flag true) ∷ (codes "reserved", number reserved) ∷ (codes "used", number used) ∷ []
answer_members (Charge charged quota) = (codes "charged", number charged) ∷ (codes "ok", flag true) ∷ (codes "quota", number quota) ∷ []
answer_members (Volume allocated chunks container kind metadata profile reverted vtype) = (codes "allocated", number allocated) ∷ (codes "chunks", number chunks) ∷ (codes "container", identifier container.0) ∷ (codes "kind", quoted (kind_text kind)) ∷ (codes "metadata", pairs metadata) ∷ (codes "of", origin kind) ∷ (codes "ok", flag true) ∷ (codes "profile", needs profile) ∷ (codes "reverted", number reverted) ∷ (codes "type", quoted (type_text vtype)) ∷ []
answer_members (Queued queued) = (codes "ok", flag true) ∷ (codes "queued", number queued) ∷ []
answer_members NothingServed = (codes "ok", flag true) ∷ (codes "served", flag false) ∷ []

-- Why a call is refused. Beside the sense of a command its members stand behind those of the cause, up to the last.
abbrev pub cause_members : Refusal → List (List ℕ × List ℕ)
cause_members (NotFound name) = (codes "fault", quoted (codes "NotFound")) ∷ (codes "name", quoted (field_text name)) ∷ (codes "ok", flag false) ∷ []
cause_members (InvalidArgument name) = (codes "fault", quoted (codes "InvalidArgument")) ∷ (codes "name", quoted (field_text name)) ∷ (codes "ok", flag false) ∷ []
cause_members (IncompatibleVolume name) = (codes "fault", quoted (codes "IncompatibleVolume")) ∷ (codes "name", quoted (field_text name)) ∷ (codes "ok", flag false) ∷ []
cause_members (NoEndpoint name) = (codes "fault", quoted (codes "NoEndpoint")) ∷ (codes "name", quoted (field_text name)) ∷ (codes "ok", flag false) ∷ []
cause_members (ResourceInUse name) = (codes "fault", quoted (codes "ResourceInUse")) ∷ (codes "name", quoted (field_text name)) ∷ (codes "ok", flag false) ∷ []
cause_members (NotCancellable name) = (codes "fault", quoted (codes "NotCancellable")) ∷ (codes "name", quoted (field_text name)) ∷ (codes "ok", flag false) ∷ []
cause_members Exhausted = (codes "fault", quoted (codes "Exhausted")) ∷ (codes "ok", flag false) ∷ []
cause_members (TooMany many) = (codes "fault", quoted (codes "TooMany")) ∷ (codes "limit", number many.limit) ∷ (codes "name", quoted (field_text many.name)) ∷ (codes "ok", flag false) ∷ []
cause_members (InvalidProfile at why) = (codes "at", number at) ∷ (codes "fault", quoted (codes "InvalidProfile")) ∷ (codes "ok", flag false) ∷ []
cause_members (OverQuota charged asked quota) = (codes "asked", number asked) ∷ (codes "charged", number charged) ∷ (codes "fault", quoted (codes "OverQuota")) ∷ (codes "ok", flag false) ∷ (codes "quota", number quota) ∷ []
cause_members (PoolFull free asked) = (codes "asked", number asked) ∷ (codes "fault", quoted (codes "PoolFull")) ∷ (codes "free", number free) ∷ (codes "ok", flag false) ∷ []
cause_members (MapFull entries asked limit) = (codes "asked", number asked) ∷ (codes "entries", number entries) ∷ (codes "fault", quoted (codes "MapFull")) ∷ (codes "limit", number limit) ∷ (codes "ok", flag false) ∷ []
cause_members ReadFault = (codes "fault", quoted (codes "ReadFault")) ∷ (codes "ok", flag false) ∷ []
cause_members WriteFault = (codes "fault", quoted (codes "WriteFault")) ∷ (codes "ok", flag false) ∷ []
cause_members (Damaged damage) = (codes "fault", quoted (codes "Damaged")) ∷ (codes "found", number damage.found) ∷ (codes "ok", flag false) ∷ (codes "part", quoted (part_text damage.part)) ∷ (codes "place", number damage.place) ∷ []
cause_members NoMemory = (codes "fault", quoted (codes "NoMemory")) ∷ (codes "ok", flag false) ∷ []

abbrev pub last_members : Refusal → List (List ℕ × List ℕ)
last_members (InvalidProfile at why) = (codes "why", quoted (why_text why)) ∷ []
last_members refusal = []

abbrev pub refusal_members : List (List ℕ × List ℕ) → Refusal → List (List ℕ × List ℕ)
refusal_members senses refusal = cause_members refusal ++ senses ++ last_members refusal

-- How a command ended: status 00 is GOOD, and else there is a sense, or the queue was full.

abbrev pub status_member : ℕ → List ℕ × List ℕ
status_member status = (codes "status", quoted (hex_text status))

abbrev pub sense_members : ℕ → Sense → List (List ℕ × List ℕ)
sense_members status sense = (codes "sense", sense_text sense) ∷ status_member status ∷ []

-- the members that stand beside a cause
abbrev pub senses_of : Option (ℕ × Sense) → List (List ℕ × List ℕ)
senses_of None = []
senses_of (Some pair) = sense_members pair.0 pair.1

abbrev pub failed_members : ℕ → Sense → Option Refusal → List (List ℕ × List ℕ)
failed_members status sense None = (codes "ok", flag false) ∷ sense_members status sense
failed_members status sense (Some cause) = refusal_members (sense_members status sense) cause

abbrev pub ended_members : ℕ → List ℕ → List (List ℕ × List ℕ)
ended_members status payload =
    if status == 0 then (codes "data", runs payload) ∷ (codes "ok", flag true) ∷ status_member status ∷ []
    else (codes "ok", flag false) ∷ status_member status ∷ []

abbrev pub command_members : ℕ → Option Sense → Option Refusal → List ℕ → List (List ℕ × List ℕ)
command_members status None cause payload = ended_members status payload
command_members status (Some sense) cause payload = failed_members status sense cause

-- why a line is no call
abbrev pub line_members : LineFault → List (List ℕ × List ℕ)
line_members line.NotJson = (codes "fault", quoted (codes "NotJson")) ∷ (codes "ok", flag false) ∷ []
line_members line.UnknownCall = (codes "fault", quoted (codes "UnknownCall")) ∷ (codes "ok", flag false) ∷ []
line_members (line.MissingField name) = (codes "fault", quoted (codes "MissingField")) ∷ (codes "name", quoted (field_text name)) ∷ (codes "ok", flag false) ∷ []
line_members (line.BadField name) = (codes "fault", quoted (codes "BadField")) ∷ (codes "name", quoted (field_text name)) ∷ (codes "ok", flag false) ∷ []
line_members line.LineTooLong = (codes "fault", quoted (codes "LineTooLong")) ∷ (codes "ok", flag false) ∷ []
line_members line.NoMemory = (codes "fault", quoted (codes "NoMemory")) ∷ (codes "ok", flag false) ∷ []

abbrev pub members_of : Reply → List (List ℕ × List ℕ)
members_of (Done answer) = answer_members answer
members_of (Refused refusal) = refusal_members [] refusal
members_of (Scsi reply) = command_members reply.status reply.sense reply.cause reply.payload
members_of (Line fault) = line_members fault

abbrev pub text_of : Reply → List ℕ
text_of reply = object (members_of reply)

-- an image was opened again with this log number
abbrev pub recovered_text : ℕ → List ℕ
recovered_text lsn = object ((codes "recovered", number lsn) ∷ [])

-- What is asked of a reply: its identifiers have numbers that have texts, and its lists aren't longer than any of the
-- array's.

abbrev pub FitsKind : VolumeKind → Type 0
FitsKind Plain = ⊤
FitsKind (SnapshotOf volume) = volume.0 < identifier_limit
FitsKind (FastCloneOf volume) = volume.0 < identifier_limit
FitsKind (FullCloneOf volume) = volume.0 < identifier_limit

abbrev pub FitsAnswer : Answer → Type 0
FitsAnswer (Container container) = container.0 < identifier_limit
FitsAnswer (Vvol vvol) = vvol.0 < identifier_limit
FitsAnswer (CloneStart target task total) = target.0 < identifier_limit
FitsAnswer (Bits flags) = length flags ≤ 1048576
FitsAnswer (Volume allocated chunks container kind metadata profile reverted vtype) =
    (container.0 < identifier_limit) × FitsKind kind × (length metadata ≤ 256) × (length profile ≤ 256)
FitsAnswer answer = ⊤

abbrev pub FitsReply : Reply → Type 0
FitsReply (Done answer) = FitsAnswer answer
FitsReply (Scsi reply) = length reply.payload ≤ 1048576
FitsReply reply = ⊤
