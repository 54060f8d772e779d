-- What a deed does to an array: the deeds of every call bring their bytes, and what the flat array's steps keep is kept.
use Rattle.std.proofs.Common.{◌≡◌, ◌≤◌, ℕ, zero, suc, ◌+◌, ◌-◌, ◌*◌, ◌==◌, ◌&&◌, not, refl, ap, sym, ◌∙◌, Bool, true, false, cond, List, ◌++◌, length, drop, arith, length-drop}
use Rattle.std.specs.Prelude.{Option, Some, None, Result, Ok, Err}
use Rattle.std.proofs.lemmas.List.{length-append}
use Rattle.std.proofs.lemmas.Bool.{eqb-true, eq-eqb}
use Rattle.vv_flat.specs.Lists.{if_found}
use Rattle.vv_flat.specs.State.{Address, QueuedCommand, Durable, Array}
use Rattle.vv_flat.specs.Chunks.{ChunkValue, shape, same_blocks}
use Rattle.vv_flat.specs.Volatile.{is_queue_full, queue_of, queue_head, submitted, head_taken}
use Rattle.vv_flat.specs.Profiles.{Capability}
use Rattle.vv_flat.specs.Refusals.{Verdict, Refuse, Nothing, Accept}
use Rattle.vv_flat.specs.Changes.{Change, MakeContainer, MakeVolume, DeleteVolume, GrowVolume, SetMetadata, Snapshot, FastClone, Revert, Write, Unmap, SetEndpoints, Bind, Unbind, UnbindAll, StartClone, StartCopy, Turn, Cancel, judge, misfit_in, apply, apply_shape, attentions_after}
use Rattle.vv_flat.specs.Replay.{is_accepted}
use Rattle.vv_flat.specs.Fields.{change_has_forms}
use Rattle.vv_flat.specs.Flat.{has_its_bytes, flat_after, array_after}
use Rattle.vv_flat.specs.FlatForm.{is_well_formed_array}
use Rattle.vv_flat.specs.Answers.{answer, next as flat_next}
use Rattle.vv_flat.proofs.Steps.{flat_step}
use Rattle.vv_laws.specs.VolatileForm.{has_volatile_form}
use Rattle.vv_laws.proofs.VolatileForms.{next_form, submitted_form, taken_form, cleared_form}
use Rattle.vv_laws.proofs.WellFormedArrays.{next_stays}
use Rattle.vv_cdb.specs.declared.sense.Sense.{Sense}
use Rattle.vv_cdb.specs.declared.command.Command.{Command}
use Rattle.vv_cdb.specs.declared.command.Command.TheVariants as command
use Rattle.vv_cdb.specs.Cdbs.{decoded, data_length}
use Rattle.vv_cdb.specs.UnmapLists.{ranges_in}
use Rattle.vv_lun.specs.declared.unit.Action.{Action}
use Rattle.vv_lun.specs.declared.unit.Action.TheVariants as action
use Rattle.vv_lun.specs.Units.{UnitState, Unbound, Endpoint, Bound}
use Rattle.std.specs.List.{list_any}
use Rattle.vv_lun.specs.Senses.{lba_out_of_range, write_protected}
use Rattle.vv_lun.specs.Actions.{refused, done, attention_told, to_read, to_write, to_write_same, to_compare, to_unmap}
use Rattle.vv_lun.specs.Commands.{is_outside, within, if_writable, unless_none, block_command, unmap_read}
use Rattle.vv_lun.specs.Decided.{decided, unbound_command, endpoint_command, volume_command}
use Rattle.vv_calls.specs.declared.call.Call.{Call}
use Rattle.vv_calls.specs.declared.call.Call.TheVariants as call
use Rattle.vv_calls.specs.Formed.{IsFormed}
use Rattle.vv_reply.specs.declared.reply.Answer.TheVariants.{Queued, NothingServed}
use Rattle.vv_reply.specs.declared.reply.Reply.TheVariants.{Done}
use Rattle.vv_meaning.specs.Asks.{Wanted, Deed, Answered, Reads, Changes, answered}
use Rattle.std.specs.Str.{bytes_eq}
use Rattle.vv_meaning.specs.Told.{task_set_full, good, miscompared}
use Rattle.vv_meaning.specs.Commands.{unit_at, volume_in, cleared, clears_attention, deed_of, done_at, has_other_length, wrong_data, commanded, queued, served, command_of}
use Rattle.vv_meaning.specs.Calls.{asked}
use Rattle.vv_meaning.specs.Forms.{call_has_forms, is_command_call}
use Rattle.vv_meaning.specs.Meaning.{array_shape, BlocksAt, blocks_at, verdict_on, differs, is_done, bytes_for, after_deed, next, shape_after, shape_after_deed, next_shape, reply_to, told, reply_over, reply}
use Rattle.vv_meaning.specs.Steps.{is_journaled}

-- The answer to a change goes by the shape.

misfit_alike : (capabilities : List Capability) (d : Durable ChunkValue) (change : Change) → misfit_in capabilities d change ≡ misfit_in capabilities (shape d) change
unfolding misfit_in
misfit_alike capabilities d (MakeContainer quota offers) = refl
misfit_alike capabilities d (MakeVolume k vtype chunks needs) = refl
misfit_alike capabilities d (DeleteVolume n) = refl
misfit_alike capabilities d (GrowVolume n chunks) = refl
misfit_alike capabilities d (SetMetadata n key text) = refl
misfit_alike capabilities d (Snapshot n) = refl
misfit_alike capabilities d (FastClone n) = refl
misfit_alike capabilities d (Revert n snapshot) = refl
misfit_alike capabilities d (Write n first blocks) = refl
misfit_alike capabilities d (Unmap n ranges) = refl
misfit_alike capabilities d (SetEndpoints host endpoints) = refl
misfit_alike capabilities d (Bind host n) = refl
misfit_alike capabilities d (Unbind host endpoint secondary) = refl
misfit_alike capabilities d (UnbindAll host) = refl
misfit_alike capabilities d (StartClone n) = refl
misfit_alike capabilities d (StartCopy source base target) = refl
misfit_alike capabilities d (Turn n) = refl
misfit_alike capabilities d (Cancel n) = refl

pub answered_by_shape : (capabilities : List Capability) (a : Array ChunkValue) (change : Change)
    → answer capabilities a change ≡ verdict_on capabilities (shape a.durable) change
unfolding answer verdict_on
answered_by_shape capabilities a change = ap (λ m. judge m (shape a.durable) change) (misfit_alike capabilities a.durable change)

-- A change that is asked for is a step of the flat array, but for a miscompare, which leaves all.

joined : {A : Type 0} (b d : Bool) (x y : A) → cond (b && not d) x y ≡ cond d y (cond b x y)
joined true true x y = refl
joined true false x y = refl
joined false true x y = refl
joined false false x y = refl

deed_is : (capabilities : List Capability) (a : Array ChunkValue) (w : Wanted)
    → after_deed capabilities a (Changes w)
    ≡ cond (differs (blocks_at a.durable) w.change w.compared) a (flat_next capabilities a w.change (bytes_for w.bytes))
unfolding flat_next
deed_is capabilities a w =
    joined (is_accepted (verdict_on capabilities (shape a.durable) w.change)) (differs (blocks_at a.durable) w.change w.compared)
    (array_after a w.change (bytes_for w.bytes)) a
    ∙ ap (λ v. cond (differs (blocks_at a.durable) w.change w.compared) a (cond (is_accepted v) (array_after a w.change (bytes_for w.bytes)) a))
    (sym (answered_by_shape capabilities a w.change))

one_of : {A : Type 0} (P : A → Bool) (b : Bool) (x y : A) → P x ≡ true → P y ≡ true → P (cond b x y) ≡ true
one_of P true x y e f = e
one_of P false x y e f = f

deed_keeps : (P : Array ChunkValue → Bool) (capabilities : List Capability) (a : Array ChunkValue) (w : Wanted) → P a ≡ true
    → P (flat_next capabilities a w.change (bytes_for w.bytes)) ≡ true → P (after_deed capabilities a (Changes w)) ≡ true
deed_keeps P capabilities a w e f =
    ap P (deed_is capabilities a w) ∙ one_of P (differs (blocks_at a.durable) w.change w.compared) a (flat_next capabilities a w.change (bytes_for w.bytes)) e f

-- The form of queues and attentions.

deed_form : (capabilities : List Capability) (a : Array ChunkValue) (deed : Deed) → has_volatile_form a ≡ true
    → has_volatile_form (after_deed capabilities a deed) ≡ true
deed_form capabilities a (Answered reply) e = e
deed_form capabilities a (Reads volume first blocks) e = e
deed_form capabilities a (Changes w) e =
    deed_keeps (λ (x : Array ChunkValue). has_volatile_form x) capabilities a w e (next_form capabilities a w.change (bytes_for w.bytes) e)

cleared_keeps : (a : Array ChunkValue) (clears : Bool) (address : Address) → has_volatile_form a ≡ true
    → has_volatile_form (record a { volatile = cleared clears address a.volatile }) ≡ true
cleared_keeps a true address e = cleared_form a address e
cleared_keeps a false address e = e

commanded_form : (a : Array ChunkValue) (c : QueuedCommand) → has_volatile_form a ≡ true
    → has_volatile_form (record a { volatile = (commanded (array_shape a) c).volatile }) ≡ true
unfolding commanded
commanded_form a c e = go (has_other_length (decoded c.cdb) c.payload)
  where
    act : Action
    act = decided (unit_at (array_shape a) c.address) (decoded c.cdb) c.payload

    go : (b : Bool) → has_volatile_form (record a {
      volatile = (cond b (answered a.volatile wrong_data)
          (done_at (array_shape a) c.address c.payload (volume_in (unit_at (array_shape a) c.address))
          (decided (unit_at (array_shape a) c.address) (decoded c.cdb) c.payload))).volatile;
    }) ≡ true
    go true = e
    go false = cleared_keeps a (clears_attention (decided (unit_at (array_shape a) c.address) (decoded c.cdb) c.payload)) c.address e

queued_form : (a : Array ChunkValue) (c : QueuedCommand) → 1 ≤ c.address.host → has_volatile_form a ≡ true
    → has_volatile_form (record a { volatile = (queued (array_shape a) c).volatile }) ≡ true
unfolding queued
queued_form a c least e = go (has_other_length (decoded c.cdb) c.payload) (is_queue_full (queue_of a.volatile c.address.host)) refl
  where
    go : (b full : Bool) → is_queue_full (queue_of a.volatile c.address.host) ≡ full → has_volatile_form (record a {
      volatile = (cond b (answered a.volatile wrong_data) (cond full (answered a.volatile task_set_full)
          (answered (submitted a.volatile c) (Done (Queued (length (queue_of a.volatile c.address.host) + 1)))))).volatile;
    }) ≡ true
    go true full is = e
    go false true is = e
    go false false is = submitted_form a c least is e

served_form : (a : Array ChunkValue) (host : ℕ) → 1 ≤ host → has_volatile_form a ≡ true
    → has_volatile_form (record a { volatile = (served (array_shape a) host).volatile }) ≡ true
unfolding served
served_form a host least e = go (queue_head a.volatile host)
  where
    go : (head : Option QueuedCommand) → has_volatile_form (record a {
      volatile = (if_found head (commanded (record (array_shape a) { volatile = head_taken a.volatile host }))
          (answered a.volatile (Done NothingServed))).volatile;
    }) ≡ true
    go None = e
    go (Some c) = commanded_form (record a { volatile = head_taken a.volatile host }) c (taken_form a host least e)

ask_form : (a : Array ChunkValue) (c : Call) → IsFormed c → has_volatile_form a ≡ true
    → has_volatile_form (record a { volatile = (asked (array_shape a) c).volatile }) ≡ true
unfolding asked
ask_form a (call.Scsi c) formed e = commanded_form a (command_of c) e
ask_form a (call.Submit c) formed e = queued_form a (command_of c) formed.host.0 e
ask_form a (call.Serve host) formed e = served_form a host.0 formed.0 e
ask_form a _ formed e = e

pub call_keeps_form : (capabilities : List Capability) (a : Array ChunkValue) (c : Call) → IsFormed c → has_volatile_form a ≡ true
    → has_volatile_form (next capabilities a c) ≡ true
unfolding next
call_keeps_form capabilities a c formed e =
    deed_form capabilities (record a { volatile = (asked (array_shape a) c).volatile }) (asked (array_shape a) c).deed (ask_form a c formed e)

-- The deed of every call brings its bytes.

brings : Deed → Bool
brings (Answered reply) = true
brings (Reads volume first blocks) = true
brings (Changes w) = has_its_bytes w.change (bytes_for w.bytes)

-- what comes with an action is what its command takes
paid : List ℕ → Action → Bool
paid payload (action.Write first blocks) = length payload == 512 * blocks
paid payload (action.Same first blocks) = length payload == 512
paid payload (action.Compare first blocks) = length payload == 1024 * blocks
paid payload (action.Reply bytes sense clears) = true
paid payload (action.Read first blocks) = true
paid payload (action.Unmap ranges) = true

paid_either : (payload : List ℕ) (b : Bool) (x y : Action) → paid payload x ≡ true → paid payload y ≡ true → paid payload (cond b x y) ≡ true
paid_either payload true x y e f = e
paid_either payload false x y e f = f

paid_unbound : (payload : List ℕ) (c : Command) → paid payload (unbound_command c) ≡ true
unfolding paid
paid_unbound payload (command.Inquiry true page room) = refl
paid_unbound payload (command.Inquiry false page room) = refl
paid_unbound payload _ = refl

paid_endpoint : (payload : List ℕ) (number : ℕ) (c : Command) → paid payload (endpoint_command number c) ≡ true
unfolding paid
paid_endpoint payload number command.TestReady = refl
paid_endpoint payload number _ = refl

paid_within : (payload : List ℕ) (blocks : ℕ) (range : ℕ × ℕ) (act : Action) → paid payload act ≡ true → paid payload (within blocks range act) ≡ true
unfolding paid
paid_within payload blocks range act e = paid_either payload (is_outside blocks range) (refused lba_out_of_range) act refl e

paid_writable : (payload : List ℕ) (snapshot : Bool) (act : Action) → paid payload act ≡ true → paid payload (if_writable snapshot act) ≡ true
unfolding paid
paid_writable payload snapshot act e = paid_either payload snapshot (refused write_protected) act refl e

paid_unless : (payload : List ℕ) (n : ℕ) (act : Action) → paid payload act ≡ true → paid payload (unless_none n act) ≡ true
unfolding paid
paid_unless payload n act e = paid_either payload (n == 0) done act refl e

paid_unmap : (payload : List ℕ) (blocks : ℕ) (snapshot : Bool) (read : Result (List (ℕ × ℕ)) Sense) → paid payload (unmap_read blocks snapshot read) ≡ true
unfolding paid
paid_unmap payload blocks snapshot (Err sense) = refl
paid_unmap payload blocks snapshot (Ok ranges) =
    let act : Action = unless_none (length ranges) (to_unmap ranges) in
    paid_either payload (list_any (is_outside blocks) ranges) (refused lba_out_of_range) (if_writable snapshot act) refl
    (paid_writable payload snapshot act (paid_unless payload (length ranges) (to_unmap ranges) refl))

paid_blocks : (payload : List ℕ) (blocks : ℕ) (snapshot : Bool) (c : Command) → (length payload == data_length c) ≡ true
    → paid payload (block_command blocks snapshot c payload) ≡ true
unfolding paid
paid_blocks payload blocks snapshot (command.Read lba n) e =
    paid_within payload blocks (lba, n) (unless_none n (to_read (lba, n))) (paid_unless payload n (to_read (lba, n)) refl)
paid_blocks payload blocks snapshot (command.Write lba n) e =
    let act : Action = unless_none n (to_write (lba, n)) in
    paid_within payload blocks (lba, n) (if_writable snapshot act)
    (paid_writable payload snapshot act (paid_unless payload n (to_write (lba, n)) e))
paid_blocks payload blocks snapshot (command.Compare lba n) e =
    let act : Action = unless_none n (to_compare (lba, n)) in
    paid_within payload blocks (lba, n) (if_writable snapshot act)
    (paid_writable payload snapshot act (paid_unless payload n (to_compare (lba, n)) e))
paid_blocks payload blocks snapshot (command.Same lba n) e =
    paid_within payload blocks (lba, n) (if_writable snapshot (to_write_same (lba, n)))
    (paid_writable payload snapshot (to_write_same (lba, n)) e)
paid_blocks payload blocks snapshot (command.Sync lba n) e = paid_within payload blocks (lba, n) done refl
paid_blocks payload blocks snapshot (command.Unmap n) e = paid_unmap payload blocks snapshot (ranges_in payload)
paid_blocks payload blocks snapshot _ e = refl

paid_volume : (payload : List ℕ) (volume blocks : ℕ) (snapshot attention : Bool) (c : Command) → (length payload == data_length c) ≡ true
    → paid payload (volume_command volume blocks snapshot attention c payload) ≡ true
unfolding paid
paid_volume payload volume blocks snapshot attention (command.Inquiry evpd page room) e = refl
paid_volume payload volume blocks snapshot attention (command.RequestSense room) e = refl
paid_volume payload volume blocks snapshot attention c e =
    paid_either payload attention attention_told (block_command blocks snapshot c payload) refl (paid_blocks payload blocks snapshot c e)

unrefused : (b : Bool) → not b ≡ false → b ≡ true
unrefused true e = refl
unrefused false e = cc

decided_paid : (unit : UnitState) (read : Result Command Sense) (payload : List ℕ) → has_other_length read payload ≡ false
    → paid payload (decided unit read payload) ≡ true
unfolding decided paid
decided_paid Unbound (Ok c) payload e = paid_unbound payload c
decided_paid Unbound (Err sense) payload e = refl
decided_paid (Endpoint number) (Ok c) payload e = paid_endpoint payload number c
decided_paid (Endpoint number) (Err sense) payload e = refl
decided_paid (Bound volume blocks snapshot attention) (Ok c) payload e =
    paid_volume payload volume blocks snapshot attention c (unrefused (length payload == data_length c) e)
decided_paid (Bound volume blocks snapshot attention) (Err sense) payload e =
    paid_either payload attention attention_told (refused sense) refl refl

same_length : (block : List ℕ) (n : ℕ) → length block ≡ 512 → length (same_blocks block n) ≡ n * 512
same_length block zero e = refl
same_length block (suc n) e =
    let front : length (block ++ same_blocks block n) ≡ length block + length (same_blocks block n) = length-append block (same_blocks block n) in
    let back : length (same_blocks block n) ≡ n * 512 = same_length block n e in
    omega (arith, front, back, e)

deed_brings : (chunk_blocks volume : ℕ) (payload : List ℕ) (act : Action) → paid payload act ≡ true
    → brings (deed_of chunk_blocks volume payload act) ≡ true
unfolding paid brings
deed_brings chunk_blocks volume payload (action.Reply bytes sense clears) e = refl
deed_brings chunk_blocks volume payload (action.Read first blocks) e = refl
deed_brings chunk_blocks volume payload (action.Write first blocks) e =
    let is : length payload ≡ 512 * blocks = eqb-true (length payload) (512 * blocks) e in
    eq-eqb (length payload) (blocks * 512) (omega (arith, is))
deed_brings chunk_blocks volume payload (action.Same first blocks) e =
    eq-eqb (length (same_blocks payload blocks)) (blocks * 512) (same_length payload blocks (eqb-true (length payload) 512 e))
deed_brings chunk_blocks volume payload (action.Compare first blocks) e =
    let is : length payload ≡ 1024 * blocks = eqb-true (length payload) (1024 * blocks) e in
    let left : length (drop (blocks * 512) payload) ≡ length payload - blocks * 512 = length-drop (blocks * 512) payload in
    eq-eqb (length (drop (blocks * 512) payload)) (blocks * 512) (omega (arith, is, left))
deed_brings chunk_blocks volume payload (action.Unmap ranges) e = refl

commanded_brings : (a : Array ℕ) (c : QueuedCommand) → brings (commanded a c).deed ≡ true
unfolding commanded brings
commanded_brings a c = go (has_other_length (decoded c.cdb) c.payload) refl
  where
    go : (b : Bool) → has_other_length (decoded c.cdb) c.payload ≡ b
        → brings (cond b (answered a.volatile wrong_data)
        (done_at a c.address c.payload (volume_in (unit_at a c.address)) (decided (unit_at a c.address) (decoded c.cdb) c.payload))).deed ≡ true
    go true is = refl
    go false is =
        deed_brings a.durable.geometry.chunk_blocks (volume_in (unit_at a c.address)) c.payload (decided (unit_at a c.address) (decoded c.cdb) c.payload)
        (decided_paid (unit_at a c.address) (decoded c.cdb) c.payload is)

queued_brings : (a : Array ℕ) (c : QueuedCommand) → brings (queued a c).deed ≡ true
unfolding queued brings
queued_brings a c = go (has_other_length (decoded c.cdb) c.payload) (is_queue_full (queue_of a.volatile c.address.host))
  where
    go : (b full : Bool) → brings (cond b (answered a.volatile wrong_data) (cond full (answered a.volatile task_set_full)
        (answered (submitted a.volatile c) (Done (Queued (length (queue_of a.volatile c.address.host) + 1)))))).deed ≡ true
    go true full = refl
    go false true = refl
    go false false = refl

served_brings : (a : Array ℕ) (host : ℕ) → brings (served a host).deed ≡ true
unfolding served brings
served_brings a host = go (queue_head a.volatile host)
  where
    go : (head : Option QueuedCommand) → brings (if_found head (commanded (record a { volatile = head_taken a.volatile host }))
        (answered a.volatile (Done NothingServed))).deed ≡ true
    go None = refl
    go (Some c) = commanded_brings (record a { volatile = head_taken a.volatile host }) c

asked_brings : (a : Array ℕ) (c : Call) → brings (asked a c).deed ≡ true
unfolding asked brings
asked_brings a (call.Scsi c) = commanded_brings a (command_of c)
asked_brings a (call.Submit c) = queued_brings a (command_of c)
asked_brings a (call.Serve host) = served_brings a host.0
asked_brings a _ = refl

-- .. as far as it is a change
pub call_brings : (a : Array ℕ) (c : Call) (w : Wanted) → (asked a c).deed ≡ Changes w → has_its_bytes w.change (bytes_for w.bytes) ≡ true
unfolding brings
call_brings a c w is = sym (ap brings is) ∙ asked_brings a c

-- So the shape after a call is known from the shape before it, and from the blocks that are compared.

attentions_alike : (d : Durable ChunkValue) (change : Change) (attentions : List Address)
    → attentions_after d change attentions ≡ attentions_after (shape d) change attentions
unfolding attentions_after
attentions_alike d (MakeContainer quota offers) attentions = refl
attentions_alike d (MakeVolume k vtype chunks needs) attentions = refl
attentions_alike d (DeleteVolume n) attentions = refl
attentions_alike d (GrowVolume n chunks) attentions = refl
attentions_alike d (SetMetadata n key text) attentions = refl
attentions_alike d (Snapshot n) attentions = refl
attentions_alike d (FastClone n) attentions = refl
attentions_alike d (Revert n snapshot) attentions = refl
attentions_alike d (Write n first blocks) attentions = refl
attentions_alike d (Unmap n ranges) attentions = refl
attentions_alike d (SetEndpoints host endpoints) attentions = refl
attentions_alike d (Bind host n) attentions = refl
attentions_alike d (Unbind host endpoint secondary) attentions = refl
attentions_alike d (UnbindAll host) attentions = refl
attentions_alike d (StartClone n) attentions = refl
attentions_alike d (StartCopy source base target) attentions = refl
attentions_alike d (Turn n) attentions = refl
attentions_alike d (Cancel n) attentions = refl

abbrev made : List (List QueuedCommand) → Durable ℕ → List Address → Array ℕ
made queues d attentions = record { durable = d; volatile = record { queues = queues; attentions = attentions } }

change_shape : (a : Array ChunkValue) (change : Change) (bytes : List ℕ) → has_its_bytes change bytes ≡ true
    → array_shape (array_after a change bytes) ≡ shape_after (array_shape a) change
change_shape a change bytes e =
    ap (λ d. made a.volatile.queues d (attentions_after a.durable change a.volatile.attentions)) (flat_step a.durable change bytes e)
    ∙ ap (made a.volatile.queues (apply_shape (shape a.durable) change)) (attentions_alike a.durable change a.volatile.attentions)

deed_shape : (capabilities : List Capability) (a : Array ChunkValue) (deed : Deed) → brings deed ≡ true
    → array_shape (after_deed capabilities a deed) ≡ shape_after_deed (blocks_at a.durable) capabilities (array_shape a) deed
unfolding brings
deed_shape capabilities a (Answered reply) e = refl
deed_shape capabilities a (Reads volume first blocks) e = refl
deed_shape capabilities a (Changes w) e = go (is_done (blocks_at a.durable) capabilities (shape a.durable) w)
  where
    go : (b : Bool) → array_shape (cond b (array_after a w.change (bytes_for w.bytes)) a)
        ≡ cond b (shape_after (array_shape a) w.change) (array_shape a)
    go true = change_shape a w.change (bytes_for w.bytes) e
    go false = refl

pub call_shape : (capabilities : List Capability) (a : Array ChunkValue) (c : Call)
    → array_shape (next capabilities a c) ≡ next_shape (blocks_at a.durable) capabilities (array_shape a) c
unfolding next next_shape
call_shape capabilities a c =
    deed_shape capabilities (record a { volatile = (asked (array_shape a) c).volatile }) (asked (array_shape a) c).deed
    (asked_brings (array_shape a) c)

-- The fields of the change that a call asks for have their forms where the call's have.

has_forms : Deed → Bool
has_forms (Answered reply) = true
has_forms (Reads volume first blocks) = true
has_forms (Changes w) = change_has_forms w.change

deed_forms : (chunk_blocks volume : ℕ) (payload : List ℕ) (act : Action) → has_forms (deed_of chunk_blocks volume payload act) ≡ true
unfolding has_forms change_has_forms
deed_forms chunk_blocks volume payload (action.Reply bytes sense clears) = refl
deed_forms chunk_blocks volume payload (action.Read first blocks) = refl
deed_forms chunk_blocks volume payload (action.Write first blocks) = refl
deed_forms chunk_blocks volume payload (action.Same first blocks) = refl
deed_forms chunk_blocks volume payload (action.Compare first blocks) = refl
deed_forms chunk_blocks volume payload (action.Unmap ranges) = refl

commanded_forms : (a : Array ℕ) (c : QueuedCommand) → has_forms (commanded a c).deed ≡ true
unfolding commanded has_forms
commanded_forms a c = go (has_other_length (decoded c.cdb) c.payload)
  where
    go : (b : Bool) → has_forms (cond b (answered a.volatile wrong_data)
        (done_at a c.address c.payload (volume_in (unit_at a c.address)) (decided (unit_at a c.address) (decoded c.cdb) c.payload))).deed ≡ true
    go true = refl
    go false =
        deed_forms a.durable.geometry.chunk_blocks (volume_in (unit_at a c.address)) c.payload (decided (unit_at a c.address) (decoded c.cdb) c.payload)

queued_forms : (a : Array ℕ) (c : QueuedCommand) → has_forms (queued a c).deed ≡ true
unfolding queued has_forms
queued_forms a c = go (has_other_length (decoded c.cdb) c.payload) (is_queue_full (queue_of a.volatile c.address.host))
  where
    go : (b full : Bool) → has_forms (cond b (answered a.volatile wrong_data) (cond full (answered a.volatile task_set_full)
        (answered (submitted a.volatile c) (Done (Queued (length (queue_of a.volatile c.address.host) + 1)))))).deed ≡ true
    go true full = refl
    go false true = refl
    go false false = refl

served_forms : (a : Array ℕ) (host : ℕ) → has_forms (served a host).deed ≡ true
unfolding served has_forms
served_forms a host = go (queue_head a.volatile host)
  where
    go : (head : Option QueuedCommand) → has_forms (if_found head (commanded (record a { volatile = head_taken a.volatile host }))
        (answered a.volatile (Done NothingServed))).deed ≡ true
    go None = refl
    go (Some c) = commanded_forms (record a { volatile = head_taken a.volatile host }) c

asked_forms : (a : Array ℕ) (c : Call) → call_has_forms c ≡ true → has_forms (asked a c).deed ≡ true
unfolding asked call_has_forms has_forms change_has_forms
asked_forms a (call.CreateStorageContainer quota offers) e = e
asked_forms a (call.CreateVirtualVolume container vtype mb profile) e = e
asked_forms a (call.SetMetadata vvol key value) e = e
asked_forms a (call.SetPEContext host endpoints) e = e
asked_forms a (call.BindVirtualVolume host vvol) e = e
asked_forms a (call.UnbindVirtualVolume host endpoint secondary) e = e
asked_forms a (call.UnbindAllVirtualVolumesFromHost host) e = e
asked_forms a (call.Scsi c) e = commanded_forms a (command_of c)
asked_forms a (call.Submit c) e = queued_forms a (command_of c)
asked_forms a (call.Serve host) e = served_forms a host.0
asked_forms a _ e = refl

-- So every call keeps a flat array well-formed.

deed_stays : (capabilities : List Capability) (a : Array ChunkValue) (deed : Deed) → brings deed ≡ true → has_forms deed ≡ true
    → is_well_formed_array a.durable ≡ true → is_well_formed_array (after_deed capabilities a deed).durable ≡ true
unfolding brings has_forms
deed_stays capabilities a (Answered reply) b f e = e
deed_stays capabilities a (Reads volume first blocks) b f e = e
deed_stays capabilities a (Changes w) b f e =
    deed_keeps (λ (x : Array ChunkValue). is_well_formed_array x.durable) capabilities a w e (next_stays capabilities a w.change (bytes_for w.bytes) e f b)

pub call_keeps_array : (capabilities : List Capability) (a : Array ChunkValue) (c : Call) → call_has_forms c ≡ true
    → is_well_formed_array a.durable ≡ true → is_well_formed_array (next capabilities a c).durable ≡ true
unfolding next
call_keeps_array capabilities a c f e =
    deed_stays capabilities (record a { volatile = (asked (array_shape a) c).volatile }) (asked (array_shape a) c).deed
    (asked_brings (array_shape a) c) (asked_forms (array_shape a) c f) e

-- A call takes one log number, or leaves the durable part.

same_or_done : (b : Bool) (a : Array ChunkValue) (change : Change) (bytes : List ℕ)
    → ((cond b (array_after a change bytes) a).durable.lsn == a.durable.lsn + 1) ≡ false → cond b (array_after a change bytes) a ≡ a
unfolding flat_after apply
same_or_done false a change bytes e = refl
same_or_done true a change bytes e =
    let same : (a.durable.lsn + 1 == a.durable.lsn + 1) ≡ true = eq-eqb (a.durable.lsn + 1) (a.durable.lsn + 1) refl in
    never (sym same ∙ e)
  where
    never : {A : Type 0} → true ≡ false → A
    never f = cc

deed_same : (capabilities : List Capability) (a : Array ChunkValue) (deed : Deed)
    → ((after_deed capabilities a deed).durable.lsn == a.durable.lsn + 1) ≡ false → after_deed capabilities a deed ≡ a
deed_same capabilities a (Answered reply) e = refl
deed_same capabilities a (Reads volume first blocks) e = refl
deed_same capabilities a (Changes w) e =
    same_or_done (is_done (blocks_at a.durable) capabilities (shape a.durable) w) a w.change (bytes_for w.bytes) e

pub call_leaves : (capabilities : List Capability) (a : Array ChunkValue) (c : Call) → is_journaled capabilities a c ≡ false
    → (next capabilities a c).durable ≡ a.durable
unfolding next is_journaled
call_leaves capabilities a c e =
    ap (λ (x : Array ChunkValue). x.durable)
    (deed_same capabilities (record a { volatile = (asked (array_shape a) c).volatile }) (asked (array_shape a) c).deed e)

-- A call without a command leaves queues and attentions too, where it isn't journaled.

kept_volatile : (a : Array ℕ) (c : Call) → is_command_call c ≡ false → (asked a c).volatile ≡ a.volatile
unfolding asked
kept_volatile a (call.Scsi c) e = cc
kept_volatile a (call.Submit c) e = cc
kept_volatile a (call.Serve host) e = cc
kept_volatile a _ e = refl

pub call_leaves_all : (capabilities : List Capability) (a : Array ChunkValue) (c : Call) → is_command_call c ≡ false
    → is_journaled capabilities a c ≡ false → next capabilities a c ≡ a
unfolding next is_journaled
call_leaves_all capabilities a c f e =
    deed_same capabilities (record a { volatile = (asked (array_shape a) c).volatile }) (asked (array_shape a) c).deed e
    ∙ ap (λ v. record a { volatile = v }) (kept_volatile (array_shape a) c f)

-- Replies of two arrays of one shape differ in bytes alone.

reply_alike : (p q : BlocksAt) (capabilities : List Capability) (d : Durable ℕ) (deed : Deed)
    → ((volume first blocks : ℕ) → p volume first blocks ≡ q volume first blocks)
    → reply_to p capabilities d deed ≡ reply_to q capabilities d deed
reply_alike p q capabilities d (Answered reply) same = refl
reply_alike p q capabilities d (Reads volume first blocks) same = ap good (same volume first blocks)
reply_alike p q capabilities d (Changes w) same = told_alike (verdict_on capabilities d w.change)
  where
    differs_alike : (change : Change) (compared : Option (List ℕ)) → differs p change compared ≡ differs q change compared
    differs_alike (Write volume first n) (Some expected) = ap (λ bytes. not (bytes_eq bytes expected)) (same volume first n)
    differs_alike _ _ = refl

    told_alike : (v : Verdict) → told p w v ≡ told q w v
    told_alike (Refuse refusal) = refl
    told_alike Nothing = refl
    told_alike Accept = ap (λ b. cond b miscompared w.accepted) (differs_alike w.change w.compared)

pub replies_alike : (capabilities : List Capability) (a b : Array ChunkValue) (c : Call) → array_shape a ≡ array_shape b
    → ((volume first blocks : ℕ) → blocks_at a.durable volume first blocks ≡ blocks_at b.durable volume first blocks)
    → reply capabilities a c ≡ reply capabilities b c
unfolding reply reply_over
replies_alike capabilities a b c shaped same =
    reply_alike (blocks_at a.durable) (blocks_at b.durable) capabilities (shape a.durable) (asked (array_shape a) c).deed same
    ∙ ap (λ s. reply_to (blocks_at b.durable) capabilities s.durable (asked s c).deed) shaped
