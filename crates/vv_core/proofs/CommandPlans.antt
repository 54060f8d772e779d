-- For plans of commands: what is answered, read or journaled is what the command asks for, when it is submitted and when it is
-- served.
use Rattle.std.proofs.Common.{ℕ, ◌≡◌, ◌≤◌, ◌<◌, ◌+◌, ◌*◌, ◌&&◌, true, List, [], length, Result, Ok, Err, IfOk, IfErr, refl, sym, ap, subst, ◌∙◌, arith}
use Rattle.std.specs.Prelude.{Option, Some, None, nat_le, nat_lt}
use Rattle.std.proofs.lemmas.Bool.{and_parts, leb-true, ltb-true}
use Rattle.vv_units.specs.declared.numbers.HostId.{HostId}
use Rattle.vv_flat.specs.Lists.{if_found}
use Rattle.vv_flat.specs.State.{Address, QueuedCommand, Volatile, Volume, Durable, volume_of}
use Rattle.vv_flat.specs.Chunks.{Entry, shape_of_tables}
use Rattle.vv_flat.specs.Volatile.{queue_head, head_taken}
use Rattle.vv_flat.specs.Profiles.{Capability}
use Rattle.vv_flat.specs.Refusals as flat
use Rattle.vv_flat.specs.Refusals.{Refuse, Nothing}
use Rattle.vv_flat.specs.Changes as change
use Rattle.vv_flat.specs.Changes.{size_of}
use Rattle.vv_calls.specs.declared.call.Call.TheVariants as call
use Rattle.vv_calls.specs.declared.call.ScsiCall.{ScsiCall}
use Rattle.vv_record.specs.declared.record.Event.{Event}
use Rattle.vv_record.specs.declared.record.Event.TheVariants as event
use Rattle.vv_event.specs.Events.{change_of}
use Rattle.vv_reply.specs.declared.reply.Reply.{Reply}
use Rattle.vv_reply.specs.declared.reply.Refusal.{Refusal}
use Rattle.vv_reply.specs.declared.reply.Reply.TheVariants.{Done}
use Rattle.vv_reply.specs.declared.reply.Answer.TheVariants.{NothingServed}
use Rattle.vv_meaning.specs.Asks.{AsSense, Wanted, Deed, Answered, Reads, Changes, Ask, answered}
use Rattle.vv_meaning.specs.Told.{good, refused_as}
use Rattle.vv_meaning.specs.Calls.{asked}
use Rattle.vv_meaning.specs.Commands.{command_of, commanded, queued, served}
use Rattle.vv_meaning.specs.Meaning.{verdict_on}
use Rattle.vv_tables.specs.Seen.{TablesView}
use Rattle.vv_tables.proofs.ShapeVolumes.{size_is}
use Rattle.vv_plan.specs.declared.queues.Submission.{Submission}
use Rattle.vv_plan.specs.FitDeeds.{is_fit}
use Rattle.vv_plan.specs.Plans.{with_volatile}
use Rattle.vv_plan.specs.SeenArrays.{seen_volatile, seen_array}
use Rattle.vv_plan.specs.SeenQueues.{seen_queues, submission_ask}
use Rattle.vv_core.specs.declared.planned.Planned.{Planned}
use Rattle.vv_core.specs.Plans.{payload_of, is_refusal, blocks_written}
use Rattle.vv_core.specs.PlannedDeeds.{IsDeedAnswered, IsDeedRead, IsDeedPlanned, IsDeedRefused}
use Rattle.vv_core.proofs.DeedPlans.{settles_refused, settles_nothing}

-- a change of a command that isn't accepted
module _ (capabilities : List Capability) (d : Durable Entry) (w : Wanted) (answer : Reply) where
  pub told_sense : (refusal : flat.Refusal) → w.form ≡ AsSense → Refuse refusal ≡ verdict_on capabilities (shape_of_tables d) w.change
      → answer ≡ refused_as AsSense refusal → IsDeedAnswered capabilities d (Changes w) answer
  told_sense refusal form e is = record {
    settles = settles_refused capabilities d w answer refusal e (is ∙ ap (λ f. refused_as f refusal) (sym form));
    is_no_refusal = ap is_refusal is;
  }

  pub told_good : w.nothing ≡ good [] → Nothing ≡ verdict_on capabilities (shape_of_tables d) w.change → answer ≡ good []
      → IsDeedAnswered capabilities d (Changes w) answer
  told_good same e is = record {
    settles = settles_nothing capabilities d w answer e (is ∙ sym same);
    is_no_refusal = ap is_refusal is;
  }

-- blocks that are read
pub read_fits : (d : Durable Entry) (n first blocks : ℕ) → is_fit (shape_of_tables d) (Reads n first blocks) ≡ true → IsDeedRead d (Reads n first blocks) n first blocks
read_fits d n first blocks h = go (volume_of d n) refl
  where
    go : (o : Option (Volume Entry)) → volume_of d n ≡ o → IsDeedRead d (Reads n first blocks) n first blocks
    go o is =
        let B : ℕ = d.geometry.chunk_blocks in
        let size : if_found o (λ (v : Volume Entry). length v.chunks) 0 ≡ size_of (shape_of_tables d) n =
        ap (λ (x : Option (Volume Entry)). if_found x (λ (v : Volume Entry). length v.chunks) 0) (sym is) ∙ size_is d n in
        let total : if_found o (λ (v : Volume Entry). length v.chunks) 0 * B ≡ size_of (shape_of_tables d) n * B = ap (λ k. k * B) size in
        let few = and_parts (nat_lt first (size_of (shape_of_tables d) n * B) && nat_le (first + blocks) (size_of (shape_of_tables d) n * B)) (nat_le blocks 2048) h in
        let range = and_parts (nat_lt first (size_of (shape_of_tables d) n * B)) (nat_le (first + blocks) (size_of (shape_of_tables d) n * B)) few.0 in
        let begins = ltb-true first (size_of (shape_of_tables d) n * B) range.0 in
        let ends : first + blocks ≤ size_of (shape_of_tables d) n * B = leb-true (first + blocks) (size_of (shape_of_tables d) n * B) range.1 in
        found o is total begins ends (leb-true blocks 2048 few.1)
      where
        found : (o : Option (Volume Entry)) → volume_of d n ≡ o
            → if_found o (λ (v : Volume Entry). length v.chunks) 0 * d.geometry.chunk_blocks ≡ size_of (shape_of_tables d) n * d.geometry.chunk_blocks
            → first < size_of (shape_of_tables d) n * d.geometry.chunk_blocks → first + blocks ≤ size_of (shape_of_tables d) n * d.geometry.chunk_blocks → blocks ≤ 2048
            → IsDeedRead d (Reads n first blocks) n first blocks
        found None is total begins ends few = absurd (omega (arith, total, begins))
        found (Some v) is total begins ends few = record { asks = refl; stands = v; stands_is = is; within = omega (arith, total, ends); few = few }

-- the blocks of a write
pub written_are : (e : Event) (volume first blocks : ℕ) → change_of e ≡ change.Write volume first blocks → blocks_written e ≡ blocks
unfolding change_of
written_are (event.MakeContainer quota offers) volume first blocks is = absurd (cc)
written_are (event.MakeVolume container vtype chunks needs) volume first blocks is = absurd (cc)
written_are (event.DeleteVolume v) volume first blocks is = absurd (cc)
written_are (event.GrowVolume v chunks) volume first blocks is = absurd (cc)
written_are (event.SetMetadata v key text) volume first blocks is = absurd (cc)
written_are (event.Snapshot v) volume first blocks is = absurd (cc)
written_are (event.FastClone v) volume first blocks is = absurd (cc)
written_are (event.Revert v snapshot) volume first blocks is = absurd (cc)
written_are (event.Write v from n places) volume first blocks is = cc
written_are (event.Unmap v ranges) volume first blocks is = absurd (cc)
written_are (event.SetEndpoints host endpoints) volume first blocks is = absurd (cc)
written_are (event.Bind host v) volume first blocks is = absurd (cc)
written_are (event.Unbind host endpoint secondary) volume first blocks is = absurd (cc)
written_are (event.UnbindAll host) volume first blocks is = absurd (cc)
written_are (event.StartClone v) volume first blocks is = absurd (cc)
written_are (event.StartCopy source base target) volume first blocks is = absurd (cc)
written_are (event.Turn task copies) volume first blocks is = absurd (cc)
written_are (event.Cancel task) volume first blocks is = absurd (cc)

-- Commands in the three calls that bring them.

pub at_once : (t : TablesView) (v : Volatile) (attentions : List Address) (c : ScsiCall) → attentions ≡ v.attentions
    → (commanded (seen_array t v.queues attentions) (command_of c)).deed ≡ (asked (with_volatile (shape_of_tables t.durable) v) (call.Scsi c)).deed
unfolding asked
at_once t v attentions c same = ap (λ xs. (commanded (seen_array t v.queues xs) (command_of c)).deed) same

pub submitted_deed : (d : Durable ℕ) (v : Volatile) (queues : List (List ScsiCall)) (c : ScsiCall) (s : Submission) → seen_queues queues ≡ v.queues
    → queued (with_volatile d (seen_volatile (seen_queues queues) v.attentions)) (command_of c) ≡ submission_ask (seen_volatile (seen_queues queues) v.attentions) (command_of c) s
    → (asked (with_volatile d v) (call.Submit c)).deed ≡ Answered s.reply
unfolding asked
submitted_deed d v queues c s same told =
    ap (λ xs. (queued (with_volatile d (seen_volatile xs v.attentions)) (command_of c)).deed) (sym same) ∙ ap (λ (a : Ask). a.deed) told

served_by : (d : Durable ℕ) (v : Volatile) (host : ℕ) (o : Option QueuedCommand) → o ≡ queue_head v host
    → (if_found o (commanded (with_volatile d (head_taken v host))) (answered v (Done NothingServed))).deed ≡ (served (with_volatile d v) host).deed
unfolding served
served_by d v host o e = ap (λ (x : Option QueuedCommand). (if_found x (commanded (with_volatile d (head_taken v host))) (answered v (Done NothingServed))).deed) e

pub served_deed : (t : TablesView) (v : Volatile) (host : HostId) (attentions : List Address) (c : ScsiCall) → attentions ≡ v.attentions → Some (command_of c) ≡ queue_head v host.0
    → (commanded (seen_array t (head_taken v host.0).queues attentions) (command_of c)).deed ≡ (asked (with_volatile (shape_of_tables t.durable) v) (call.Serve host)).deed
unfolding asked
served_deed t v host attentions c same e =
    ap (λ xs. (commanded (seen_array t (head_taken v host.0).queues xs) (command_of c)).deed) same
    ∙ served_by (shape_of_tables t.durable) v host.0 (Some (command_of c)) e

pub served_payload : (v : Volatile) (host : HostId) (c : ScsiCall) → Some (command_of c) ≡ queue_head v host.0 → c.payload ≡ payload_of v (call.Serve host)
served_payload v host c e = ap (λ (o : Option QueuedCommand). if_found o (λ (x : QueuedCommand). x.payload) []) e

pub served_nothing : (d : Durable ℕ) (v : Volatile) (host : HostId) → None ≡ queue_head v host.0 → (asked (with_volatile d v) (call.Serve host)).deed ≡ Answered (Done NothingServed)
unfolding asked
served_nothing d v host e = sym (served_by d v host.0 None e)

-- Of two deeds that are one, one plan.

pub planned_alike : (capabilities : List Capability) (d : Durable Entry) (x y : Deed) (payload : List ℕ) → x ≡ y → (r : Result Planned Refusal)
    → IfOk r (IsDeedPlanned capabilities d x payload) → IfOk r (IsDeedPlanned capabilities d y payload)
planned_alike capabilities d x y payload same (Ok p) h = subst (λ (z : Deed). IsDeedPlanned capabilities d z payload p) same h
planned_alike capabilities d x y payload same (Err refusal) h = h

pub refused_alike : (capabilities : List Capability) (d : Durable Entry) (x y : Deed) → x ≡ y → (r : Result Planned Refusal)
    → IfErr r (IsDeedRefused capabilities d x) → IfErr r (IsDeedRefused capabilities d y)
refused_alike capabilities d x y same (Ok p) h = h
refused_alike capabilities d x y same (Err refusal) h = subst (λ (z : Deed). IsDeedRefused capabilities d z refusal) same h
