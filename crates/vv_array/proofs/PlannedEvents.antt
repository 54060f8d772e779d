-- What a planned event comes to over the flat array of the tables, and what calls whose events are put on the disk leave. It
-- serves `put_or_tell` and `journaled`.
use Rattle.std.proofs.Common.{◌≡◌, ◌⊎◌, inl, inr, ⊎_elim, ℕ, ◌&&◌, ◌||◌, Bool, true, false, cond, List, Option, Some, refl, sym, ap, ◌∙◌, subst}
use Rattle.vv_disk.specs.Images.{EachImage}
use Rattle.vv_flat.specs.State.{Array, Durable}
use Rattle.vv_flat.specs.Chunks.{Entry, ChunkValue, shape_of_tables}
use Rattle.vv_flat.specs.Profiles.{Capability}
use Rattle.vv_flat.specs.Refusals.{Verdict}
use Rattle.vv_flat.specs.Changes.{Change}
use Rattle.vv_flat.specs.Replay.{is_accepted}
use Rattle.vv_calls.specs.declared.call.Call.{Call}
use Rattle.vv_reply.specs.declared.reply.Reply.{Reply}
use Rattle.vv_record.specs.declared.record.Event.{Event}
use Rattle.vv_event.specs.Events.{change_of}
use Rattle.vv_meaning.specs.Asks.{NewBytes, Changes}
use Rattle.vv_meaning.specs.Meaning.{blocks_at, bytes_for, differs, verdict_on, reply, next}
use Rattle.vv_meaning.specs.Steps.{is_journaled, moves_blocks, form_for, is_write, is_copying}
use Rattle.vv_core.specs.Core.{entry_shape}
use Rattle.vv_core.specs.declared.planned.Fill.{Fill}
use Rattle.vv_core.specs.Plans.{IsJournalPlan, blocks_compared, blocks_written, payload_of}
use Rattle.vv_array.specs.Standing.{flat_over, StandsKept}
use Rattle.vv_array.specs.Chunks.{flat_applied}
use Rattle.vv_array.specs.Moments.{LeftBy}
use Rattle.vv_array.specs.Payloads.{planned_bytes}
use Rattle.vv_array.specs.Puts.{moves_chunks}
use Rattle.vv_array.specs.Telling.{ends_command, form_when}
use Rattle.vv_array.proofs.PlannedCalls.{change_is, change_next, change_done, done_journaled, form_by, moves_by}
use Rattle.vv_array.proofs.ToldForms.{form_of_change}

moved : (write accepted copies : Bool) → accepted ≡ true → (write || copies) ≡ true → ((write && accepted) || copies) ≡ true
moved true accepted copies e h = ap (λ (b : Bool). b || copies) e
moved false accepted copies e h = h

module _ (capabilities : List Capability) (a : Array Entry) (content : List ℕ) (m : Array ChunkValue) (c : Call) (is : flat_over content a ≡ m)
    (e : Event) (filled : Fill) (compare : Bool) (answer : Reply) (plan : IsJournalPlan capabilities a c e filled compare answer) where
  pub plan_form : form_for m c ≡ form_when (ends_command answer)
  plan_form =
      form_by capabilities a content m c is (Changes plan.wanted) plan.asks
      ∙ form_of_change (entry_shape a) c plan.wanted plan.asks
      ∙ ap (λ (r : Reply). form_when (ends_command r)) (sym plan.reply_is)

  pub plan_moves : moves_chunks a.durable (change_of e) ≡ true → moves_blocks capabilities m c ≡ true
  plan_moves moves =
      moves_by capabilities a content m c is (Changes plan.wanted) plan.asks
      ∙ moved (is_write plan.wanted.change) (is_accepted (verdict_on capabilities (shape_of_tables a.durable) plan.wanted.change)) (is_copying (shape_of_tables a.durable) plan.wanted.change)
      (ap (λ (v : Verdict). is_accepted v) plan.accepted)
      (ap (λ (k : Change). moves_chunks a.durable k) (sym plan.change) ∙ moves)

  module _ (same : differs (blocks_at m.durable) (change_of e) (blocks_compared compare (blocks_written e) (payload_of a.volatile c)) ≡ false) where
    no_miscompare : differs (blocks_at m.durable) plan.wanted.change plan.wanted.compared ≡ false
    no_miscompare =
        ap (λ (k : Change). differs (blocks_at m.durable) k plan.wanted.compared) (sym plan.change)
        ∙ ap (λ (o : Option (List ℕ)). differs (blocks_at m.durable) (change_of e) o) (sym plan.compared)
        ∙ same

    pub plan_reply : answer ≡ reply capabilities m c
    plan_reply = plan.reply_is ∙ sym (change_is capabilities a content m c is plan.wanted false plan.asks plan.accepted no_miscompare)

    pub plan_next : next capabilities m c ≡ flat_applied a m c e (planned_bytes a.volatile c e filled compare)
    plan_next =
        change_next capabilities a content m c is plan.wanted false plan.asks plan.accepted no_miscompare
        ∙ change_done capabilities a content m c is e plan.wanted plan.change
        ∙ ap (λ (brought : NewBytes). flat_applied a m c e (bytes_for brought)) (sym plan.bytes)

    pub plan_journaled : is_journaled capabilities m c ≡ true
    plan_journaled = done_journaled capabilities a content m c is plan.wanted plan.asks plan.accepted no_miscompare

    -- what a crash may leave
    pub plan_left : EachImage (LeftBy capabilities m c) (λ image. StandsKept m image ⊎ StandsKept (flat_applied a m c e (planned_bytes a.volatile c e filled compare)) image)
    plan_left image left =
        ⊎_elim (λ stands. inl stands)
        (λ stands. inr (plan_journaled, subst (λ (x : Array ChunkValue). StandsKept x image) (sym plan_next) stands)) left
