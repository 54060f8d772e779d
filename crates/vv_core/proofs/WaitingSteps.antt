-- For what a call does to queues and attentions: it is what the call asks, and it keeps their form.
use Rattle.std.proofs.Common.{ℕ, ◌≡◌, Bool, true, false, cond, List, ◌+◌, length, refl, sym, ap, ◌∙◌}
use Rattle.std.specs.Prelude.{Option, Some, None}
use Rattle.vv_flat.specs.Lists.{if_found}
use Rattle.vv_flat.specs.State.{Address, QueuedCommand, Volatile, Durable}
use Rattle.vv_flat.specs.Chunks.{Entry, shape_of_tables}
use Rattle.vv_flat.specs.Volatile.{queue_of, queue_head, is_queue_full, submitted, head_taken}
use Rattle.vv_laws.specs.VolatileForm.{has_volatile_form}
use Rattle.vv_laws.proofs.VolatileForms.{submitted_form, taken_form, cleared_form}
use Rattle.vv_bind.specs.Table.{address}
use Rattle.vv_calls.specs.declared.call.ScsiCall.{ScsiCall}
use Rattle.vv_cdb.specs.Cdbs.{decoded}
use Rattle.vv_reply.specs.declared.reply.Answer.TheVariants.{Queued, NothingServed}
use Rattle.vv_reply.specs.declared.reply.Reply.TheVariants.{Done}
use Rattle.vv_meaning.specs.Asks.{Ask, answered}
use Rattle.vv_meaning.specs.Commands.{command_of, cleared, commanded, queued, served, has_other_length, wrong_data}
use Rattle.vv_meaning.specs.Told.{task_set_full}
use Rattle.vv_tables.specs.Seen.{TablesView}
use Rattle.vv_plan.specs.declared.asks.CommandAsk.{CommandAsk}
use Rattle.vv_plan.specs.declared.queues.Submission.{Submission}
use Rattle.vv_plan.specs.CommandAsks.{clears_asked, ask_at}
use Rattle.vv_plan.specs.Plans.{with_volatile}
use Rattle.vv_plan.specs.SeenArrays.{seen_volatile, seen_array}
use Rattle.vv_plan.specs.SeenQueues.{seen_queues, submission_ask}
use Rattle.vv_core.specs.declared.step.WaitingStep.{WaitingStep}
use Rattle.vv_core.specs.declared.step.WaitingStep.TheVariants as step
use Rattle.vv_core.specs.Rooms.{stepped, CanStep}

-- a command that is done at once
pub command_volatile : (t : TablesView) (v : Volatile) (attentions : List Address) (c : ScsiCall) (ask : CommandAsk) (b : Bool) → attentions ≡ v.attentions
    → ((queues : List (List QueuedCommand)) → commanded (seen_array t queues attentions) (command_of c) ≡ ask_at (command_of c).address c.payload (seen_volatile queues attentions) ask)
    → b ≡ clears_asked ask
    → cleared b (command_of c).address v ≡ (commanded (with_volatile (shape_of_tables t.durable) v) (command_of c)).volatile
command_volatile t v attentions c ask b same told clears =
    ap (λ x. cleared x (command_of c).address v) clears
    ∙ ap (λ xs. cleared (clears_asked ask) (command_of c).address (seen_volatile v.queues xs)) (sym same)
    ∙ ap (λ (a : Ask). a.volatile) (sym (told v.queues))
    ∙ ap (λ xs. (commanded (seen_array t v.queues xs) (command_of c)).volatile) same

-- one that is served
pub served_none : (d : Durable ℕ) (v : Volatile) (host : ℕ) → None ≡ queue_head v host → v ≡ (served (with_volatile d v) host).volatile
unfolding served
served_none d v host e =
    ap (λ (o : Option QueuedCommand). (if_found o (λ c. commanded (with_volatile d (head_taken v host)) c) (answered v (Done NothingServed))).volatile) e

pub served_some : (d : Durable ℕ) (v : Volatile) (host : ℕ) (c : QueuedCommand) → Some c ≡ queue_head v host
    → (commanded (with_volatile d (head_taken v host)) c).volatile ≡ (served (with_volatile d v) host).volatile
unfolding served
served_some d v host c e =
    ap (λ (o : Option QueuedCommand). (if_found o (λ c. commanded (with_volatile d (head_taken v host)) c) (answered v (Done NothingServed))).volatile) e

-- one that is put into a queue
pub full_stays : (d : Durable ℕ) (v : Volatile) (c : QueuedCommand) → is_queue_full (queue_of v c.address.host) ≡ true
    → v ≡ (queued (with_volatile d v) c).volatile
unfolding queued
full_stays d v c full = go (has_other_length (decoded c.cdb) c.payload) (is_queue_full (queue_of v c.address.host)) full
  where
    go : (b f : Bool) → f ≡ true
        → v ≡ (cond b (answered v wrong_data) (cond f (answered v task_set_full) (answered (submitted v c) (Done (Queued (length (queue_of v c.address.host) + 1)))))).volatile
    go true f e = refl
    go false true e = refl
    go false false e = absurd (cc)

pub submit_volatile : (v : Volatile) (queues : List (List ScsiCall)) (c : ScsiCall) (s : Submission) (b : Bool) → seen_queues queues ≡ v.queues
    → ((d : Durable ℕ) (attentions : List Address) → queued (with_volatile d (seen_volatile (seen_queues queues) attentions)) (command_of c)
    ≡ submission_ask (seen_volatile (seen_queues queues) attentions) (command_of c) s)
    → b ≡ s.is_taken → (d : Durable ℕ) → cond b (submitted v (command_of c)) v ≡ (queued (with_volatile d v) (command_of c)).volatile
submit_volatile v queues c s b same told taken d =
    ap (λ x. cond x (submitted v (command_of c)) v) taken
    ∙ ap (λ xs. cond s.is_taken (submitted (seen_volatile xs v.attentions) (command_of c)) (seen_volatile xs v.attentions)) (sym same)
    ∙ ap (λ (a : Ask). a.volatile) (sym (told d v.attentions))
    ∙ ap (λ xs. (queued (with_volatile d (seen_volatile xs v.attentions)) (command_of c)).volatile) same

-- a step keeps the form
pub stepped_form : (d : Durable Entry) (v : Volatile) (s : WaitingStep) → CanStep v s → has_volatile_form (record { durable = d; volatile = v }) ≡ true
    → has_volatile_form (record { durable = d; volatile = stepped v s }) ≡ true
stepped_form d v step.Stay can e = e
stepped_form d v (step.Submit c) can e = submitted_form (record { durable = d; volatile = v }) (command_of c) can.0.from_one can.1 e
stepped_form d v (step.Clear host endpoint secondary) can e =
    cleared_form (record { durable = d; volatile = v }) (address host.0 endpoint.0 secondary.0) e
stepped_form d v (step.Take taken) can e = taken_form (record { durable = d; volatile = v }) taken.0 can.from_one e
stepped_form d v (step.TakeAndClear taken host endpoint secondary) can e =
    cleared_form (record { durable = d; volatile = head_taken v taken.0 }) (address host.0 endpoint.0 secondary.0)
    (taken_form (record { durable = d; volatile = v }) taken.0 can.from_one e)

-- a step that can be done, of what is seen
pub can_seen : (v w : Volatile) (s t : WaitingStep) → v ≡ w → s ≡ t → CanStep w t → CanStep v s
can_seen v w s t same is can = rw (same, is) can
