-- Which replies have the member `"ok":true`: for the function that counts one.
use Rattle.std.proofs.Common.{◌≡◌, ◌==◌, ℕ, List, Bool, true, false, refl, Some, None}
use Rattle.std.specs.Prelude.{Option}
use Rattle.std.specs.List.{list_any}
use Rattle.vv_calls.specs.declared.call.LineFault.{LineFault}
use Rattle.vv_calls.specs.declared.call.LineFault.TheVariants as line
use Rattle.vv_cdb.specs.declared.sense.Sense.{Sense}
use Rattle.vv_reply.specs.declared.reply.Reply.TheVariants.{Done, Refused, Line}
use Rattle.vv_reply.specs.declared.reply.Answer.{Answer}
use Rattle.vv_reply.specs.declared.reply.Answer.TheVariants.{Empty, Container, Vvol, CloneStart, CopyStart, TaskNow, Bound, Left, Removed, Bits, Count, Pool, Charge, Volume, Queued, NothingServed}
use Rattle.vv_reply.specs.declared.reply.Refusal.{Refusal}
use Rattle.vv_reply.specs.declared.reply.Refusal.TheVariants.{NotFound, InvalidArgument, IncompatibleVolume, NoEndpoint, ResourceInUse, NotCancellable, Exhausted, TooMany, InvalidProfile, OverQuota, PoolFull, MapFull, ReadFault, WriteFault, Damaged, NoMemory}
use Rattle.vv_reply.specs.Replies.{refusal_members, sense_members, command_members}
use Rattle.vv_run.specs.Loading.{is_yes, says_ok}

pub says_done : (answer : Answer) → says_ok (Done answer) ≡ true
says_done Empty = refl
says_done (Container container) = refl
says_done (Vvol vvol) = refl
says_done (CloneStart target task total) = refl
says_done (CopyStart task total) = refl
says_done (TaskNow done state task total) = refl
says_done (Bound endpoint secondary) = refl
says_done (Left left) = refl
says_done (Removed removed) = refl
says_done (Bits flags) = refl
says_done (Count count) = refl
says_done (Pool chunks entries free reserved used) = refl
says_done (Charge charged quota) = refl
says_done (Volume allocated chunks container kind metadata profile reverted vtype) = refl
says_done (Queued queued) = refl
says_done NothingServed = refl

pub says_refused : (refusal : Refusal) → says_ok (Refused refusal) ≡ false
says_refused (NotFound name) = refl
says_refused (InvalidArgument name) = refl
says_refused (IncompatibleVolume name) = refl
says_refused (NoEndpoint name) = refl
says_refused (ResourceInUse name) = refl
says_refused (NotCancellable name) = refl
says_refused Exhausted = refl
says_refused (TooMany many) = refl
says_refused (InvalidProfile at why) = refl
says_refused (OverQuota charged asked quota) = refl
says_refused (PoolFull free asked) = refl
says_refused (MapFull entries asked limit) = refl
says_refused ReadFault = refl
says_refused WriteFault = refl
says_refused (Damaged damage) = refl
says_refused NoMemory = refl

-- .. beside the sense of a command
says_sensed : (status : ℕ) (sense : Sense) (refusal : Refusal) → list_any is_yes (refusal_members (sense_members status sense) refusal) ≡ false
says_sensed status sense (NotFound name) = refl
says_sensed status sense (InvalidArgument name) = refl
says_sensed status sense (IncompatibleVolume name) = refl
says_sensed status sense (NoEndpoint name) = refl
says_sensed status sense (ResourceInUse name) = refl
says_sensed status sense (NotCancellable name) = refl
says_sensed status sense Exhausted = refl
says_sensed status sense (TooMany many) = refl
says_sensed status sense (InvalidProfile at why) = refl
says_sensed status sense (OverQuota charged asked quota) = refl
says_sensed status sense (PoolFull free asked) = refl
says_sensed status sense (MapFull entries asked limit) = refl
says_sensed status sense ReadFault = refl
says_sensed status sense WriteFault = refl
says_sensed status sense (Damaged damage) = refl
says_sensed status sense NoMemory = refl

pub says_line : (fault : LineFault) → says_ok (Line fault) ≡ false
says_line line.NotJson = refl
says_line line.UnknownCall = refl
says_line (line.MissingField name) = refl
says_line (line.BadField name) = refl
says_line line.LineTooLong = refl
says_line line.NoMemory = refl

pub says_failed : (status : ℕ) (sense : Sense) (cause : Option Refusal) (payload : List ℕ) → list_any is_yes (command_members status (Some sense) cause payload) ≡ false
says_failed status sense None payload = refl
says_failed status sense (Some refusal) payload = says_sensed status sense refusal

ended_by : (status : ℕ) (payload : List ℕ) (b : Bool) → status == 0 ≡ b → list_any is_yes (command_members status None None payload) ≡ b
ended_by status payload true is = rw is refl
ended_by status payload false is = rw is refl

pub says_ended : (status : ℕ) (cause : Option Refusal) (payload : List ℕ) → list_any is_yes (command_members status None cause payload) ≡ (status == 0)
says_ended status cause payload = ended_by status payload (status == 0) refl
