-- The names of the members of each reply rise, reply by reply. It serves the law.
use Rattle.std.proofs.Common.{IsTrue, refl, Option, Some, None, true, false, Bool, ◌≡◌, ◌==◌, ℕ, List, []}
use Rattle.vv_cdb.specs.declared.sense.Sense.{Sense}
use Rattle.vv_calls.specs.declared.call.LineFault.{LineFault}
use Rattle.vv_calls.specs.declared.call.LineFault.TheVariants as line
use Rattle.vv_reply.specs.declared.reply.Reply.{Reply}
use Rattle.vv_reply.specs.declared.reply.Reply.TheVariants.{Done, Refused, Scsi, Line}
use Rattle.vv_reply.specs.declared.reply.Answer.{Answer}
use Rattle.vv_reply.specs.declared.reply.Answer.TheVariants.{Empty, Container, Vvol, CloneStart, CopyStart, TaskNow, Bound, Left, Removed, Bits, Count, Pool, Charge, Volume, Queued, NothingServed}
use Rattle.vv_reply.specs.declared.reply.Refusal.{Refusal}
use Rattle.vv_reply.specs.declared.reply.Refusal.TheVariants.{NotFound, InvalidArgument, IncompatibleVolume, NoEndpoint, ResourceInUse, NotCancellable, Exhausted, TooMany, InvalidProfile, OverQuota, PoolFull, MapFull, ReadFault, WriteFault, Damaged, NoMemory}
use Rattle.vv_reply.specs.Objects.{names_rise}
use Rattle.vv_reply.specs.Replies.{members_of, answer_members, refusal_members, command_members, ended_members, line_members, sense_members}

answer_rises : (answer : Answer) → IsTrue (names_rise (answer_members answer))
answer_rises Empty = refl
answer_rises (Container container) = refl
answer_rises (Vvol vvol) = refl
answer_rises (CloneStart target task total) = refl
answer_rises (CopyStart task total) = refl
answer_rises (TaskNow done state task total) = refl
answer_rises (Bound endpoint secondary) = refl
answer_rises (Left left) = refl
answer_rises (Removed removed) = refl
answer_rises (Bits flags) = refl
answer_rises (Count count) = refl
answer_rises (Pool chunks entries free reserved used) = refl
answer_rises (Charge charged quota) = refl
answer_rises (Volume allocated chunks container kind metadata profile reverted vtype) = refl
answer_rises (Queued queued) = refl
answer_rises NothingServed = refl

refusal_rises : (refusal : Refusal) → IsTrue (names_rise (refusal_members [] refusal))
refusal_rises (NotFound name) = refl
refusal_rises (InvalidArgument name) = refl
refusal_rises (IncompatibleVolume name) = refl
refusal_rises (NoEndpoint name) = refl
refusal_rises (ResourceInUse name) = refl
refusal_rises (NotCancellable name) = refl
refusal_rises Exhausted = refl
refusal_rises (TooMany many) = refl
refusal_rises (InvalidProfile at why) = refl
refusal_rises (OverQuota charged asked quota) = refl
refusal_rises (PoolFull free asked) = refl
refusal_rises (MapFull entries asked limit) = refl
refusal_rises ReadFault = refl
refusal_rises WriteFault = refl
refusal_rises (Damaged damage) = refl
refusal_rises NoMemory = refl

cause_rises : (status : ℕ) → (sense : Sense) → (refusal : Refusal) → IsTrue (names_rise (refusal_members (sense_members status sense) refusal))
cause_rises status sense (NotFound name) = refl
cause_rises status sense (InvalidArgument name) = refl
cause_rises status sense (IncompatibleVolume name) = refl
cause_rises status sense (NoEndpoint name) = refl
cause_rises status sense (ResourceInUse name) = refl
cause_rises status sense (NotCancellable name) = refl
cause_rises status sense Exhausted = refl
cause_rises status sense (TooMany many) = refl
cause_rises status sense (InvalidProfile at why) = refl
cause_rises status sense (OverQuota charged asked quota) = refl
cause_rises status sense (PoolFull free asked) = refl
cause_rises status sense (MapFull entries asked limit) = refl
cause_rises status sense ReadFault = refl
cause_rises status sense WriteFault = refl
cause_rises status sense (Damaged damage) = refl
cause_rises status sense NoMemory = refl

ended_rises : (b : Bool) → (status : ℕ) → (payload : List ℕ) → (status == 0) ≡ b → IsTrue (names_rise (ended_members status payload))
ended_rises true status payload e = rw e refl
ended_rises false status payload e = rw e refl

line_rises : (fault : LineFault) → IsTrue (names_rise (line_members fault))
line_rises line.NotJson = refl
line_rises line.UnknownCall = refl
line_rises (line.MissingField name) = refl
line_rises (line.BadField name) = refl
line_rises line.LineTooLong = refl
line_rises line.NoMemory = refl

command_rises : (status : ℕ) → (sense : Option Sense) → (cause : Option Refusal) → (payload : List ℕ) → IsTrue (names_rise (command_members status sense cause payload))
command_rises status None cause payload = ended_rises (status == 0) status payload refl
command_rises status (Some sense) None payload = refl
command_rises status (Some sense) (Some cause) payload = cause_rises status sense cause

pub names_rise_in : (reply : Reply) → IsTrue (names_rise (members_of reply))
names_rise_in (Done answer) = answer_rises answer
names_rise_in (Refused refusal) = refusal_rises refusal
names_rise_in (Scsi reply) = command_rises reply.status reply.sense reply.cause reply.payload
names_rise_in (Line fault) = line_rises fault
