-- The durable array, step by step: what a line may be answered, and the state that it may leave, where memory may run out
-- and the disk may fail. This is this project's own.
use Rattle.std.specs.Prelude.{◌≡◌, ℕ, ◌+◌, ◌==◌, ◌&&◌, ◌||◌, Bool, true, false, not, IsTrue, IsFalse, List, [], ◌∷◌, ◌++◌, Option, Some, None, Ok, Err, ⊤, ◌⊎◌, nat_lt}
use Rattle.std.specs.List.{flat_map}
use Rattle.vv_units.specs.declared.damage.Damage.{Damage}
use Rattle.vv_flat.specs.Lists.{if_found}
use Rattle.vv_flat.specs.State.{Task, Durable, Array, task_of}
use Rattle.vv_flat.specs.Chunks.{ChunkValue, shape}
use Rattle.vv_flat.specs.Space.{is_running, is_clone}
use Rattle.vv_flat.specs.FlatForm.{is_well_formed_array}
use Rattle.vv_flat.specs.Restart.{restarted}
use Rattle.vv_flat.specs.Profiles.{Capability}
use Rattle.vv_flat.specs.Changes.{Change, Write, Turn}
use Rattle.vv_flat.specs.Replay.{is_accepted}
use Rattle.vv_calls.specs.Lines.{line_reading}
use Rattle.vv_calls.specs.declared.call.Call.{Call}
use Rattle.vv_calls.specs.declared.call.Call.TheVariants as call
use Rattle.vv_calls.specs.declared.call.LineFault.{LineFault}
use Rattle.vv_reply.specs.Replies.{text_of, recovered_text}
use Rattle.vv_reply.specs.declared.reply.Reply.{Reply}
use Rattle.vv_reply.specs.declared.reply.Reply.TheVariants.{Refused, Line}
use Rattle.vv_reply.specs.declared.reply.Refusal.TheVariants as fault
use Rattle.vv_meaning.specs.Asks.{Form, AsFault, AsSense, Deed, Answered, Reads, Changes}
use Rattle.vv_meaning.specs.Told.{done, read_failed_as, write_failed_as}
use Rattle.vv_meaning.specs.Calls.{asked}
use Rattle.vv_meaning.specs.Meaning.{array_shape, verdict_on, reply, next}

-- A call is journaled where it takes a log number.
unfoldable pub is_journaled : List Capability → Array ChunkValue → Call → Bool
unfolding next
is_journaled capabilities m c = (next capabilities m c).durable.lsn == m.durable.lsn + 1

-- Whether a call moves blocks between the disk and memory: it reads or writes at least one block and isn't refused, or it
-- is a turn of a running clone that has chunks left to copy.

abbrev pub is_write : Change → Bool
is_write (Write volume first blocks) = not (blocks == 0)
is_write _ = false

abbrev pub is_copying : Durable ℕ → Change → Bool
is_copying d (Turn n) =
    if_found (task_of d n) (λ (t : Task). is_running t && is_clone t.job && nat_lt t.done t.total) false
is_copying d _ = false

abbrev pub deed_moves_blocks : List Capability → Durable ℕ → Deed → Bool
deed_moves_blocks capabilities d (Answered reply) = false
deed_moves_blocks capabilities d (Reads volume first blocks) = not (blocks == 0)
deed_moves_blocks capabilities d (Changes w) =
    (is_write w.change && is_accepted (verdict_on capabilities d w.change)) || is_copying d w.change

unfoldable pub moves_blocks : List Capability → Array ChunkValue → Call → Bool
unfolding asked verdict_on
moves_blocks capabilities m c = deed_moves_blocks capabilities (shape m.durable) (asked (array_shape m) c).deed

-- How a fault of the disk is told to a call: to a command with its sense, and else as a fault alone.

abbrev pub form_of : Deed → Form
form_of (Answered reply) = AsFault
form_of (Reads volume first blocks) = AsSense
form_of (Changes w) = w.form

unfoldable pub form_for : Array ChunkValue → Call → Form
unfolding asked
form_for m c = form_of (asked (array_shape m) c).deed

-- An array is up, and is this one; or it is down, since a write or a reopening failed: then the disk stands for the array
-- before the call or for the one after it.
pub data State : Type 0 where
  Up : (array : Array ChunkValue) → State
  Down : (before after : Array ChunkValue) → State

-- the two arrays of one that is down are the same, or a log number apart
abbrev pub IsState : State → Type 0
IsState (Up m) = ⊤
IsState (Down a b) = (a ≡ b) ⊎ (b.durable.lsn ≡ a.durable.lsn + 1)

-- the log number that it has at least
abbrev pub least_number : State → ℕ
least_number (Up m) = m.durable.lsn
least_number (Down a b) = a.durable.lsn

-- each array of a state is well-formed
abbrev pub is_well_formed_state : State → Bool
is_well_formed_state (Up m) = is_well_formed_array m.durable
is_well_formed_state (Down a b) = is_well_formed_array a.durable && is_well_formed_array b.durable

abbrev pub no_memory : Reply
no_memory = Refused fault.NoMemory

abbrev pub is_restart : Call → Bool
is_restart call.Restart = true
is_restart _ = false

-- What a reopening that fails is answered, also at a command, since that wasn't looked at.
pub data IsReopenFault (answer : Reply) : Type 0 where
  ReadFault : answer ≡ Refused fault.ReadFault → IsReopenFault answer
  WriteFault : answer ≡ Refused fault.WriteFault → IsReopenFault answer
  Damaged : (damage : Damage) → answer ≡ Refused (fault.Damaged damage) → IsReopenFault answer

-- What a call other than a restart may be answered by an array that is up: its reply; that a read failed, where it moves
-- blocks; that a write failed, where it is journaled; or that there was no memory.
pub data CallStep (capabilities : List Capability) (m : Array ChunkValue) (c : Call) (answer : Reply) (new : State) : Type 0 where
  Served : answer ≡ reply capabilities m c → new ≡ Up (next capabilities m c) → CallStep capabilities m c answer new
  ReadFailed : IsTrue (moves_blocks capabilities m c) → answer ≡ read_failed_as (form_for m c) → new ≡ Up m
      → CallStep capabilities m c answer new
  WriteFailed : IsTrue (is_journaled capabilities m c) → answer ≡ write_failed_as (form_for m c)
      → new ≡ Down m (next capabilities m c) → CallStep capabilities m c answer new
  WithoutMemory : answer ≡ no_memory → new ≡ Up m → CallStep capabilities m c answer new

-- Once an array was reopened for a call, the call is served; a restart is done already.
pub data ReopenedStep (capabilities : List Capability) (m : Array ChunkValue) (c : Call) (answer : Reply) (new : State) : Type 0 where
  Restarted : IsTrue (is_restart c) → answer ≡ done → new ≡ Up m → ReopenedStep capabilities m c answer new
  Called : IsFalse (is_restart c) → CallStep capabilities m c answer new → ReopenedStep capabilities m c answer new

-- A step: from a state, at a line, to the log number that was recovered, if the image was opened again, a reply and a
-- state. There are no others than these.
pub data Step (capabilities : List Capability) (old : State) (line : List ℕ) (recovered : Option ℕ) (answer : Reply) (new : State) : Type 0 where
  -- a line that is no call
  Faulty : (cause : LineFault) → line_reading line ≡ Err cause → recovered ≡ None → answer ≡ Line cause → new ≡ old
      → Step capabilities old line recovered answer new
  -- any line, where there is no memory
  NoMemory : recovered ≡ None → answer ≡ no_memory → new ≡ old → Step capabilities old line recovered answer new
  -- a restart without memory may leave the array down
  RestartWithoutMemory : (m : Array ChunkValue) → old ≡ Up m → line_reading line ≡ Ok call.Restart → recovered ≡ None
      → answer ≡ no_memory → new ≡ Down m m → Step capabilities old line recovered answer new
  -- a call of an array that is up
  Called : (m : Array ChunkValue) → (c : Call) → old ≡ Up m → line_reading line ≡ Ok c → IsFalse (is_restart c)
      → recovered ≡ None → CallStep capabilities m c answer new → Step capabilities old line recovered answer new
  -- a restart whose reopening fails
  RestartFailed : (m : Array ChunkValue) → old ≡ Up m → line_reading line ≡ Ok call.Restart → recovered ≡ None
      → IsReopenFault answer → new ≡ Down m m → Step capabilities old line recovered answer new
  -- a restart
  Restarted : (m : Array ChunkValue) → old ≡ Up m → line_reading line ≡ Ok call.Restart → recovered ≡ Some m.durable.lsn
      → answer ≡ done → new ≡ Up (restarted m) → Step capabilities old line recovered answer new
  -- a call of an array that is down, and stays so
  ReopenFailed : (a b : Array ChunkValue) → (c : Call) → old ≡ Down a b → line_reading line ≡ Ok c → recovered ≡ None
      → IsReopenFault answer → new ≡ Down a b → Step capabilities old line recovered answer new
  -- a call of an array that was down: it is up again, as one of the two
  Reopened : (a b m : Array ChunkValue) → (c : Call) → old ≡ Down a b → line_reading line ≡ Ok c → (m ≡ a) ⊎ (m ≡ b)
      → recovered ≡ Some m.durable.lsn → ReopenedStep capabilities (restarted m) c answer new
      → Step capabilities old line recovered answer new

-- What a line is answered, and its text: the line of the recovered number, if there is one, and the line of the reply.
pub record Report : Type 0 where
  pub recovered : Option ℕ
  pub answer : Reply

abbrev pub report_text : Report → List ℕ
report_text r = if_found r.recovered recovered_text [] ++ text_of r.answer

abbrev pub reports_text : List Report → List ℕ
reports_text reports = flat_map report_text reports

-- A run: a step for each line, each from the state that the one before left.
abbrev pub Run : List Capability → State → List (List ℕ) → List Report → State → Type 0
Run capabilities old [] [] new = new ≡ old
Run capabilities old (line ∷ lines) (r ∷ reports) new =
    (mid : State) × Step capabilities old line r.recovered r.answer mid × Run capabilities mid lines reports new
Run capabilities old [] (r ∷ reports) new = ⊥
Run capabilities old (line ∷ lines) [] new = ⊥
