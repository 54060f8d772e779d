-- How a fault of the disk is told to a call goes by the reply that the call would get. It serves calls whose disk fails.
use Rattle.std.proofs.Common.{◌≡◌, ℕ, Bool, true, false, not, cond, List, Option, None, Some, refl, sym, ap, ◌∙◌}
use Rattle.vv_units.specs.declared.field.Field.TheVariants as field
use Rattle.vv_flat.specs.Lists.{if_found}
use Rattle.vv_flat.specs.State.{QueuedCommand, Task, Durable, Array, task_of}
use Rattle.vv_flat.specs.Volatile.{is_queue_full, queue_of, queue_head, submitted, head_taken}
use Rattle.vv_flat.specs.Changes.{Change, Turn, Cancel, apply_shape}
use Rattle.vv_cdb.specs.Cdbs.{decoded}
use Rattle.vv_lun.specs.declared.unit.Action.{Action}
use Rattle.vv_lun.specs.declared.unit.Action.TheVariants as action
use Rattle.vv_lun.specs.Decided.{decided}
use Rattle.vv_calls.specs.declared.call.Call.{Call}
use Rattle.vv_calls.specs.declared.call.Call.TheVariants as call
use Rattle.vv_reply.specs.declared.reply.Answer.TheVariants.{Queued, NothingServed}
use Rattle.vv_reply.specs.declared.reply.Reply.{Reply}
use Rattle.vv_reply.specs.declared.reply.Reply.TheVariants.{Done, Refused}
use Rattle.vv_reply.specs.declared.reply.Refusal.TheVariants.{NotFound}
use Rattle.std.specs.Prelude.{length, ◌+◌}
use Rattle.vv_meaning.specs.Asks.{Form, AsFault, AsSense, Wanted, Deed, Answered, Reads, Changes, answered}
use Rattle.vv_meaning.specs.Told.{task_set_full}
use Rattle.vv_meaning.specs.Commands.{unit_at, volume_in, deed_of, done_at, has_other_length, wrong_data, commanded, queued, served, command_of}
use Rattle.vv_meaning.specs.Calls.{asked, task_told, task_after}
use Rattle.vv_array.specs.Telling.{ends_command, form_when}

fits_form : Form → Bool → Bool
fits_form AsSense b = b
fits_form AsFault b = not b

is_form : (f : Form) (b : Bool) → fits_form f b ≡ true → f ≡ form_when b
unfolding fits_form
is_form AsSense true e = refl
is_form AsSense false e = absurd (cc)
is_form AsFault true e = absurd (cc)
is_form AsFault false e = refl

-- a deed whose form is that of its reply
sensed : Deed → Bool
sensed (Answered r) = true
sensed (Reads volume first blocks) = true
sensed (Changes w) = fits_form w.form (ends_command w.accepted)

deed_sensed : (chunk_blocks volume : ℕ) (payload : List ℕ) (act : Action) → sensed (deed_of chunk_blocks volume payload act) ≡ true
unfolding sensed fits_form
deed_sensed chunk_blocks volume payload (action.Reply bytes sense clears) = refl
deed_sensed chunk_blocks volume payload (action.Read first blocks) = refl
deed_sensed chunk_blocks volume payload (action.Write first blocks) = refl
deed_sensed chunk_blocks volume payload (action.Same first blocks) = refl
deed_sensed chunk_blocks volume payload (action.Compare first blocks) = refl
deed_sensed chunk_blocks volume payload (action.Unmap ranges) = refl

commanded_sensed : (a : Array ℕ) (c : QueuedCommand) → sensed (commanded a c).deed ≡ true
unfolding commanded sensed
commanded_sensed a c = go (has_other_length (decoded c.cdb) c.payload)
  where
    go : (b : Bool) → sensed (cond b (answered a.volatile wrong_data)
        (done_at a c.address c.payload (volume_in (unit_at a c.address)) (decided (unit_at a c.address) (decoded c.cdb) c.payload))).deed ≡ true
    go true = refl
    go false = deed_sensed a.durable.geometry.chunk_blocks (volume_in (unit_at a c.address)) c.payload (decided (unit_at a c.address) (decoded c.cdb) c.payload)

queued_sensed : (a : Array ℕ) (c : QueuedCommand) → sensed (queued a c).deed ≡ true
unfolding queued sensed
queued_sensed a c = go (has_other_length (decoded c.cdb) c.payload) (is_queue_full (queue_of a.volatile c.address.host))
  where
    go : (b full : Bool) → sensed (cond b (answered a.volatile wrong_data) (cond full (answered a.volatile task_set_full)
        (answered (submitted a.volatile c) (Done (Queued (length (queue_of a.volatile c.address.host) + 1)))))).deed ≡ true
    go true full = refl
    go false true = refl
    go false false = refl

served_sensed : (a : Array ℕ) (host : ℕ) → sensed (served a host).deed ≡ true
unfolding served sensed
served_sensed a host = go (queue_head a.volatile host)
  where
    go : (head : Option QueuedCommand) → sensed (if_found head (commanded (record a { volatile = head_taken a.volatile host }))
        (answered a.volatile (Done NothingServed))).deed ≡ true
    go None = refl
    go (Some c) = commanded_sensed (record a { volatile = head_taken a.volatile host }) c

-- a task is told as a fault or without one, never as a command's end
told_plainly : (found : Option Task) → fits_form AsFault (ends_command (if_found found task_told (Refused (NotFound field.Task)))) ≡ true
unfolding fits_form
told_plainly None = refl
told_plainly (Some t) = refl

task_plainly : (d : Durable ℕ) (change : Change) (n : ℕ) → fits_form AsFault (ends_command (task_after d change n)) ≡ true
unfolding task_after
task_plainly d change n = told_plainly (task_of (apply_shape d change) n)

asked_sensed : (a : Array ℕ) (c : Call) → sensed (asked a c).deed ≡ true
unfolding asked sensed fits_form
asked_sensed a (call.Scsi c) = commanded_sensed a (command_of c)
asked_sensed a (call.Submit c) = queued_sensed a (command_of c)
asked_sensed a (call.Serve host) = served_sensed a host.0
asked_sensed a (call.Turn task) = task_plainly a.durable (Turn task.0) task.0
asked_sensed a (call.CancelTask task) = task_plainly a.durable (Cancel task.0) task.0
asked_sensed a _ = refl

wanted_sensed : (w : Wanted) → sensed (Changes w) ≡ true → w.form ≡ form_when (ends_command w.accepted)
unfolding sensed
wanted_sensed w e = is_form w.form (ends_command w.accepted) e

-- how a fault is told to a call that asks for a change
pub form_of_change : (a : Array ℕ) (c : Call) (w : Wanted) → (asked a c).deed ≡ Changes w → w.form ≡ form_when (ends_command w.accepted)
form_of_change a c w e = wanted_sensed w (ap sensed (sym e) ∙ asked_sensed a c)
