-- No reply that is decided by the array alone tells a fault of the disk, of the image or of memory: what is settled, what is
-- read, and what an accepted change is answered. It serves the causes that calls of an array tell with their replies.
use Rattle.std.proofs.Common.{◌≡◌, ℕ, ◌+◌, ◌-◌, Bool, true, false, cond, List, [], length, Option, None, Some, refl, sym, ap, ◌∙◌, subst}
use Rattle.std.specs.Prelude.{nat_lt, is_none, unwrap_or}
use Rattle.vv_units.specs.declared.field.Field.{Field}
use Rattle.vv_units.specs.declared.field.Field.TheVariants as field
use Rattle.vv_flat.specs.Lists.{if_found}
use Rattle.vv_flat.specs.State.{Container, Volume, QueuedCommand, Task, Durable, Array, container_of, volume_of, task_of}
use Rattle.vv_flat.specs.Chunks.{Entry, shape_of_tables}
use Rattle.vv_flat.specs.Bits.{allocated_bits, unshared_bits, unshared_count, bits_within}
use Rattle.vv_flat.specs.Volatile.{is_queue_full, queue_of, queue_head, submitted, head_taken}
use Rattle.vv_flat.specs.Profiles.{Capability}
use Rattle.vv_flat.specs.Refusals as flat
use Rattle.vv_flat.specs.Refusals.{Refusal, Verdict, Refuse, Nothing, Accept}
use Rattle.vv_flat.specs.Changes.{Change, Turn, Cancel, apply_shape, stamps_of}
use Rattle.vv_cdb.specs.Cdbs.{decoded}
use Rattle.vv_lun.specs.declared.unit.Action.{Action}
use Rattle.vv_lun.specs.declared.unit.Action.TheVariants as action
use Rattle.vv_lun.specs.Decided.{decided}
use Rattle.vv_calls.specs.declared.call.Call.{Call}
use Rattle.vv_calls.specs.declared.call.Call.TheVariants as call
use Rattle.vv_reply.specs.declared.reply.Answer.TheVariants as answer
use Rattle.vv_reply.specs.declared.reply.Reply.{Reply}
use Rattle.vv_reply.specs.declared.reply.Reply.TheVariants.{Done, Refused}
use Rattle.vv_reply.specs.declared.reply.Refusal.TheVariants as fault
use Rattle.vv_meaning.specs.Asks.{Form, AsFault, AsSense, Wanted, Deed, Answered, Reads, Changes, answered}
use Rattle.vv_meaning.specs.Told.{refused_as, task_set_full}
use Rattle.vv_meaning.specs.Commands.{unit_at, volume_in, deed_of, done_at, has_other_length, wrong_data, commanded, queued, served, command_of}
use Rattle.vv_meaning.specs.Calls.{asked, task_told, task_now, task_after, pool_told, if_stands, bits_from, bits_asked, charge_told, volume_told}
use Rattle.vv_meaning.specs.Meaning.{verdict_on}
use Rattle.vv_core.specs.Core.{entry_shape}
use Rattle.vv_core.specs.Plans.{settled, settled_by, settled_reply}
use Rattle.vv_array.specs.FaultsTold.{TellsNoFailure}

-- ---- refusals

pub refused_plain : (form : Form) (r : Refusal) → TellsNoFailure (refused_as form r)
refused_plain AsSense (flat.NotFound name) = refl
refused_plain AsSense (flat.InvalidArgument name) = refl
refused_plain AsSense (flat.IncompatibleVolume name) = refl
refused_plain AsSense (flat.NoEndpoint name) = refl
refused_plain AsSense (flat.ResourceInUse name) = refl
refused_plain AsSense (flat.NotCancellable name) = refl
refused_plain AsSense flat.OutOfRange = refl
refused_plain AsSense flat.WriteProtected = refl
refused_plain AsSense flat.Exhausted = refl
refused_plain AsSense (flat.TooMany name limit) = refl
refused_plain AsSense (flat.InvalidProfile at why) = refl
refused_plain AsSense (flat.OverQuota charged asked quota) = refl
refused_plain AsSense (flat.PoolFull free asked) = refl
refused_plain AsSense (flat.MapFull entries asked limit) = refl
refused_plain AsFault (flat.NotFound name) = refl
refused_plain AsFault (flat.InvalidArgument name) = refl
refused_plain AsFault (flat.IncompatibleVolume name) = refl
refused_plain AsFault (flat.NoEndpoint name) = refl
refused_plain AsFault (flat.ResourceInUse name) = refl
refused_plain AsFault (flat.NotCancellable name) = refl
refused_plain AsFault flat.OutOfRange = refl
refused_plain AsFault flat.WriteProtected = refl
refused_plain AsFault flat.Exhausted = refl
refused_plain AsFault (flat.TooMany name limit) = refl
refused_plain AsFault (flat.InvalidProfile at why) = refl
refused_plain AsFault (flat.OverQuota charged asked quota) = refl
refused_plain AsFault (flat.PoolFull free asked) = refl
refused_plain AsFault (flat.MapFull entries asked limit) = refl

plain_either : (b : Bool) (x y : Reply) → TellsNoFailure x → TellsNoFailure y → TellsNoFailure (cond b x y)
plain_either true x y e f = e
plain_either false x y e f = f

-- ---- queries

task_plain : (d : Durable ℕ) (n : ℕ) → TellsNoFailure (task_now d n)
task_plain d n = go (task_of d n)
  where
    go : (o : Option Task) → TellsNoFailure (if_found o task_told (Refused (fault.NotFound field.Task)))
    go None = refl
    go (Some t) = refl

changed_plain : (d : Durable ℕ) (c : Change) (n : ℕ) → TellsNoFailure (task_after d c n)
unfolding task_after
changed_plain d c n = task_plain (apply_shape d c) n

stands_plain : (d : Durable ℕ) (n : ℕ) (name : Field) (r : Reply) → TellsNoFailure r → TellsNoFailure (if_stands d n name r)
stands_plain d n name r e = plain_either (is_none (volume_of d n)) (Refused (fault.NotFound name)) r refl e

bits_plain : (bits : List Bool) (first count : Option ℕ) → TellsNoFailure (bits_asked bits first count)
bits_plain bits first count = from (unwrap_or first 0) (unwrap_or count (length bits - unwrap_or first 0))
  where
    from : (s n : ℕ) → TellsNoFailure (bits_from bits s n)
    from s n =
        plain_either (nat_lt (length bits) s) (Refused (fault.InvalidArgument field.First))
        (cond (nat_lt (length bits - s) n) (Refused (fault.InvalidArgument field.Count)) (Done (answer.Bits (bits_within s n bits)))) refl
        (plain_either (nat_lt (length bits - s) n) (Refused (fault.InvalidArgument field.Count)) (Done (answer.Bits (bits_within s n bits))) refl refl)

container_plain : (d : Durable ℕ) (o : Option Container) → TellsNoFailure (if_found o (charge_told d) (Refused (fault.NotFound field.Container)))
container_plain d None = refl
container_plain d (Some k) = refl

volume_plain : (o : Option (Volume ℕ)) → TellsNoFailure (if_found o volume_told (Refused (fault.NotFound field.Vvol)))
volume_plain None = refl
volume_plain (Some v) = refl

-- ---- deeds

-- no reply that is told of a deed tells a failure
PlainDeed : Deed → Type 0
PlainDeed (Answered r) = TellsNoFailure r
PlainDeed (Reads volume first n) = true ≡ true
PlainDeed (Changes w) = TellsNoFailure w.nothing × TellsNoFailure w.accepted

action_plain : (chunk_blocks volume : ℕ) (payload : List ℕ) (act : Action) → PlainDeed (deed_of chunk_blocks volume payload act)
unfolding PlainDeed
action_plain chunk_blocks volume payload (action.Reply bytes None clears) = refl
action_plain chunk_blocks volume payload (action.Reply bytes (Some sense) clears) = refl
action_plain chunk_blocks volume payload (action.Read first n) = refl
action_plain chunk_blocks volume payload (action.Write first n) = (refl, refl)
action_plain chunk_blocks volume payload (action.Same first n) = (refl, refl)
action_plain chunk_blocks volume payload (action.Compare first n) = (refl, refl)
action_plain chunk_blocks volume payload (action.Unmap ranges) = (refl, refl)

commanded_plain : (a : Array ℕ) (c : QueuedCommand) → PlainDeed (commanded a c).deed
unfolding PlainDeed commanded
commanded_plain a c = go (has_other_length (decoded c.cdb) c.payload)
  where
    go : (b : Bool) → PlainDeed (cond b (answered a.volatile wrong_data)
        (done_at a c.address c.payload (volume_in (unit_at a c.address)) (decided (unit_at a c.address) (decoded c.cdb) c.payload))).deed
    go true = refl
    go false =
        action_plain a.durable.geometry.chunk_blocks (volume_in (unit_at a c.address)) c.payload (decided (unit_at a c.address) (decoded c.cdb) c.payload)

queued_plain : (a : Array ℕ) (c : QueuedCommand) → PlainDeed (queued a c).deed
unfolding PlainDeed queued
queued_plain a c = go (has_other_length (decoded c.cdb) c.payload) (is_queue_full (queue_of a.volatile c.address.host))
  where
    go : (b full : Bool) → PlainDeed (cond b (answered a.volatile wrong_data) (cond full (answered a.volatile task_set_full)
        (answered (submitted a.volatile c) (Done (answer.Queued (length (queue_of a.volatile c.address.host) + 1)))))).deed
    go true full = refl
    go false true = refl
    go false false = refl

served_plain : (a : Array ℕ) (host : ℕ) → PlainDeed (served a host).deed
unfolding PlainDeed served
served_plain a host = go (queue_head a.volatile host)
  where
    go : (head : Option QueuedCommand) → PlainDeed (if_found head (commanded (record a { volatile = head_taken a.volatile host }))
        (answered a.volatile (Done answer.NothingServed))).deed
    go None = refl
    go (Some c) = commanded_plain (record a { volatile = head_taken a.volatile host }) c

asked_plain : (a : Array ℕ) (c : Call) → PlainDeed (asked a c).deed
unfolding PlainDeed asked pool_told
asked_plain a (call.Turn task) = (task_plain a.durable task.0, changed_plain a.durable (Turn task.0) task.0)
asked_plain a (call.GetTaskUpdate task) = task_plain a.durable task.0
asked_plain a (call.CancelTask task) = (changed_plain a.durable (Cancel task.0) task.0, changed_plain a.durable (Cancel task.0) task.0)
asked_plain a (call.AllocatedBitmapVirtualVolume vvol first count) =
    let bits : List Bool = allocated_bits (stamps_of a.durable vvol.0) in
    stands_plain a.durable vvol.0 field.Vvol (bits_asked bits first count) (bits_plain bits first count)
asked_plain a (call.UnsharedBitmapVirtualVolume vvol base first count) =
    let bits : List Bool = unshared_bits (stamps_of a.durable vvol.0) (stamps_of a.durable base.0) in
    stands_plain a.durable vvol.0 field.Vvol (if_stands a.durable base.0 field.Base (bits_asked bits first count))
    (stands_plain a.durable base.0 field.Base (bits_asked bits first count) (bits_plain bits first count))
asked_plain a (call.UnsharedChunksVirtualVolume vvol base) =
    let count : Reply = Done (answer.Count (unshared_count (stamps_of a.durable vvol.0) (stamps_of a.durable base.0))) in
    stands_plain a.durable vvol.0 field.Vvol (if_stands a.durable base.0 field.Base count) (stands_plain a.durable base.0 field.Base count refl)
asked_plain a call.QueryPool = refl
asked_plain a (call.QueryStorageContainer container) = container_plain a.durable (container_of a.durable container.0)
asked_plain a (call.QueryVirtualVolume vvol) = volume_plain (volume_of a.durable vvol.0)
asked_plain a (call.Scsi c) = commanded_plain a (command_of c)
asked_plain a (call.Submit c) = queued_plain a (command_of c)
asked_plain a (call.Serve host) = served_plain a host.0
asked_plain a call.Restart = refl
asked_plain a _ = (refl, refl)

-- ---- what a plan tells

some_plain : (x y : Reply) → Some x ≡ Some y → TellsNoFailure x → TellsNoFailure y
some_plain x y same plain = subst (λ (r : Reply). TellsNoFailure r) (one x y same) plain
  where
    one : (x y : Reply) → Some x ≡ Some y → x ≡ y
    one x y same = cc

verdict_plain : (v : Verdict) (w : Wanted) (answer : Reply) → TellsNoFailure w.nothing → settled_by v w ≡ Some answer → TellsNoFailure answer
verdict_plain (Refuse r) w answer plain is = some_plain (refused_as w.form r) answer is (refused_plain w.form r)
verdict_plain Nothing w answer plain is = some_plain w.nothing answer is plain
verdict_plain Accept w answer plain is = absurd cc

deed_plain : (capabilities : List Capability) (d : Durable ℕ) (deed : Deed) (answer : Reply) → PlainDeed deed → settled_reply capabilities d deed ≡ Some answer → TellsNoFailure answer
unfolding PlainDeed
deed_plain capabilities d (Answered r) answer plain is = some_plain r answer is plain
deed_plain capabilities d (Reads volume first n) answer plain is = absurd cc
deed_plain capabilities d (Changes w) answer plain is = verdict_plain (verdict_on capabilities d w.change) w answer plain.0 is

-- a settled reply tells no failure
pub settled_plain : (capabilities : List Capability) (a : Array Entry) (c : Call) (answer : Reply) → settled capabilities a c ≡ Some answer → TellsNoFailure answer
settled_plain capabilities a c answer is =
    deed_plain capabilities (shape_of_tables a.durable) (asked (entry_shape a) c).deed answer (asked_plain (entry_shape a) c) is

wanted_plain : (deed : Deed) (w : Wanted) → PlainDeed deed → deed ≡ Changes w → TellsNoFailure w.accepted
unfolding PlainDeed
wanted_plain deed w plain is = of_changes (subst (λ (x : Deed). PlainDeed x) is plain)
  where
    of_changes : PlainDeed (Changes w) → TellsNoFailure w.accepted
    of_changes both = both.1

-- nor does the one to a change that is accepted
pub accepted_plain : (a : Array Entry) (c : Call) (w : Wanted) → (asked (entry_shape a) c).deed ≡ Changes w → TellsNoFailure w.accepted
accepted_plain a c w is = wanted_plain (asked (entry_shape a) c).deed w (asked_plain (entry_shape a) c) is
