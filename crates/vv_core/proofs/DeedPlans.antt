-- For plans: what is planned for a deed is planned for each call that asks for it.
use Rattle.std.proofs.Common.{ℕ, ◌≡◌, Bool, List, Result, Ok, Err, IfOk, IfErr, refl, sym, ap, subst, ◌∙◌, inl}
use Rattle.std.specs.Prelude.{Some, None}
use Rattle.vv_flat.specs.State.{Durable, Array}
use Rattle.vv_flat.specs.Chunks.{Entry, shape_of_tables}
use Rattle.vv_flat.specs.Profiles.{Capability}
use Rattle.vv_flat.specs.Refusals as flat
use Rattle.vv_flat.specs.Refusals.{Verdict, Refuse, Nothing, Accept}
use Rattle.vv_flat.specs.Changes.{Change, judge, misfit_in}
use Rattle.vv_flat.specs.Fields.{change_has_forms}
use Rattle.vv_flat.specs.Plans.{planned_places}
use Rattle.vv_laws.proofs.Answering.{accepted_without}
use Rattle.vv_calls.specs.declared.call.Call.{Call}
use Rattle.vv_reply.specs.declared.reply.Reply.{Reply}
use Rattle.vv_reply.specs.declared.reply.Refusal.{Refusal}
use Rattle.vv_reply.specs.declared.reply.Refusal.TheVariants as fault
use Rattle.vv_record.specs.declared.record.Event.{Event}
use Rattle.vv_meaning.specs.Asks.{Wanted, Deed, Changes}
use Rattle.vv_meaning.specs.Told.{refused_as}
use Rattle.vv_meaning.specs.Calls.{asked}
use Rattle.vv_meaning.specs.Meaning.{verdict_on}
use Rattle.vv_meaning.proofs.Deeds.{call_brings}
use Rattle.vv_core.specs.Core.{entry_shape}
use Rattle.vv_core.specs.Placed.{IsPlacedEvent}
use Rattle.vv_core.specs.declared.planned.Fill.{Fill}
use Rattle.vv_core.specs.declared.planned.Planned.{Planned}
use Rattle.vv_core.specs.declared.planned.Planned.TheVariants as planned
use Rattle.vv_core.specs.Plans.{payload_of, settled_reply, settled_by, blocks_written, bytes_filled, image_filling, turning_task, blocks_compared, IsPlannedFor, IsRefusedFor}
use Rattle.vv_core.specs.PlannedDeeds.{IsDeedPlanned, IsDeedRefused, IsDeedJournaled}

module _ (capabilities : List Capability) (a : Array Entry) (c : Call) where
  for_call : (p : Planned) → IsDeedPlanned capabilities a.durable (asked (entry_shape a) c).deed (payload_of a.volatile c) p → IsPlannedFor capabilities a c p
  for_call (planned.Answer answer) h = record { settles = h.settles; is_no_refusal = h.is_no_refusal }
  for_call (planned.Read volume first blocks) h = record { asks = h.asks; stands = h.stands; stands_is = h.stands_is; within = h.within; few = h.few }
  for_call (planned.Journal e filled compare answer) h = record {
    wanted = h.wanted;
    asks = h.asks;
    accepted = h.accepted;
    change = h.change;
    reply_is = h.reply_is;
    bytes = h.bytes;
    image = h.image;
    compared = h.compared;
    brings = call_brings (entry_shape a) c h.wanted h.asks;
    places = h.places;
    fits = h.fits;
    forms = h.forms;
    spellable = h.spellable;
  }

  -- of the deed that a call asks for, and the bytes that came with it
  pub planned_call : (deed : Deed) (payload : List ℕ) → deed ≡ (asked (entry_shape a) c).deed → payload ≡ payload_of a.volatile c → (r : Result Planned Refusal)
      → IfOk r (IsDeedPlanned capabilities a.durable deed payload) → IfOk r (IsPlannedFor capabilities a c)
  planned_call deed payload same came (Ok p) h =
      for_call p (subst (λ (x : Deed). IsDeedPlanned capabilities a.durable x (payload_of a.volatile c) p) same
      (subst (λ (xs : List ℕ). IsDeedPlanned capabilities a.durable deed xs p) came h))
  planned_call deed payload same came (Err refusal) h = h

  pub refused_call : (deed : Deed) → deed ≡ (asked (entry_shape a) c).deed → (r : Result Planned Refusal) → IfErr r (IsDeedRefused capabilities a.durable deed)
      → IfErr r (IsRefusedFor capabilities a c)
  refused_call deed same (Ok p) h = h
  refused_call deed same (Err refusal) h = subst (λ (x : Deed). IsDeedRefused capabilities a.durable x refusal) same h

-- A change that is refused, or would change nothing, has its reply.
module _ (capabilities : List Capability) (d : Durable Entry) (w : Wanted) (answer : Reply) where
  pub settles_refused : (refusal : flat.Refusal) → Refuse refusal ≡ verdict_on capabilities (shape_of_tables d) w.change → answer ≡ refused_as w.form refusal
      → settled_reply capabilities (shape_of_tables d) (Changes w) ≡ Some answer
  settles_refused refusal e is = ap (λ (v : Verdict). settled_by v w) (sym e) ∙ ap (λ (r : Reply). Some r) (sym is)

  pub settles_nothing : Nothing ≡ verdict_on capabilities (shape_of_tables d) w.change → answer ≡ w.nothing
      → settled_reply capabilities (shape_of_tables d) (Changes w) ≡ Some answer
  settles_nothing e is = ap (λ (v : Verdict). settled_by v w) (sym e) ∙ ap (λ (r : Reply). Some r) (sym is)

  -- One that is accepted is journaled as its event.
  pub placed_journal : (payload : List ℕ) (e : Event) (filled : Fill) (compare : Bool) → IsPlacedEvent d w.change e
      → Accept ≡ verdict_on capabilities (shape_of_tables d) w.change → answer ≡ w.accepted
      → bytes_filled filled compare (blocks_written e) payload ≡ w.bytes → image_filling filled ≡ turning_task w.change
      → blocks_compared compare (blocks_written e) payload ≡ w.compared
      → IsDeedJournaled capabilities d (Changes w) payload e filled compare answer
  placed_journal payload e filled compare placed accepted is bytes image compared = record {
    wanted = w;
    asks = refl;
    accepted = sym accepted;
    change = placed.change_is;
    reply_is = is;
    bytes = bytes;
    image = image;
    compared = compared;
    places = placed.places ∙ ap (planned_places d) (sym placed.change_is);
    fits = placed.fits;
    forms = ap change_has_forms placed.change_is ∙ placed.forms;
    spellable = placed.spellable;
  }

-- A known reply that is settled, as a plan.
module _ (capabilities : List Capability) (a : Array Entry) (c : Call) (answer : Reply)
    (known : settled_reply capabilities (shape_of_tables a.durable) (asked (entry_shape a) c).deed ≡ Some answer) where
  pub settled_call : (r : Result Planned Refusal)
      → IfOk r (λ plan. (cs : List Capability) (d : Durable Entry) (deed : Deed) (payload : List ℕ)
      → settled_reply cs (shape_of_tables d) deed ≡ Some answer → IsDeedPlanned cs d deed payload plan)
      → IfOk r (IsPlannedFor capabilities a c)
  settled_call (Ok p) h = for_call capabilities a c p (h capabilities a.durable (asked (entry_shape a) c).deed (payload_of a.volatile c) known)
  settled_call (Err refusal) h = h

  pub settled_fault : (r : Result Planned Refusal)
      → IfErr r (λ refusal. (cs : List Capability) (d : Durable Entry) (deed : Deed)
      → settled_reply cs (shape_of_tables d) deed ≡ Some answer → IsDeedRefused cs d deed refusal)
      → IfErr r (IsRefusedFor capabilities a c)
  settled_fault (Ok p) h = h
  settled_fault (Err refusal) h = h capabilities a.durable (asked (entry_shape a) c).deed known

-- .. and for a deed
module _ (capabilities : List Capability) (d : Durable Entry) (deed : Deed) (payload : List ℕ) (answer : Reply)
    (known : settled_reply capabilities (shape_of_tables d) deed ≡ Some answer) where
  pub settled_deed : (r : Result Planned Refusal)
      → IfOk r (λ plan. (cs : List Capability) (d : Durable Entry) (deed : Deed) (payload : List ℕ)
      → settled_reply cs (shape_of_tables d) deed ≡ Some answer → IsDeedPlanned cs d deed payload plan)
      → IfOk r (IsDeedPlanned capabilities d deed payload)
  settled_deed (Ok p) h = h capabilities d deed payload known
  settled_deed (Err refusal) h = h

  pub settled_deed_fault : (r : Result Planned Refusal)
      → IfErr r (λ refusal. (cs : List Capability) (d : Durable Entry) (deed : Deed)
      → settled_reply cs (shape_of_tables d) deed ≡ Some answer → IsDeedRefused cs d deed refusal)
      → IfErr r (IsDeedRefused capabilities d deed)
  settled_deed_fault (Ok p) h = h
  settled_deed_fault (Err refusal) h = h capabilities d deed known

-- where there was no memory
pub fault_deed : (capabilities : List Capability) (d : Durable Entry) (deed : Deed) (r : Result Planned Refusal) → IfErr r (λ refusal. refusal ≡ fault.NoMemory)
    → IfErr r (IsDeedRefused capabilities d deed)
fault_deed capabilities d deed (Ok p) h = h
fault_deed capabilities d deed (Err refusal) h = inl h

pub fault_call : (capabilities : List Capability) (a : Array Entry) (c : Call) (r : Result Planned Refusal) → IfErr r (λ refusal. refusal ≡ fault.NoMemory)
    → IfErr r (IsRefusedFor capabilities a c)
fault_call capabilities a c (Ok p) h = h
fault_call capabilities a c (Err refusal) h = inl h

-- what is accepted with any misfit is accepted without one
pub accepted_alone : (capabilities : List Capability) (d : Durable ℕ) (ch : Change) → Accept ≡ verdict_on capabilities d ch → judge None d ch ≡ Accept
unfolding verdict_on
accepted_alone capabilities d ch e = accepted_without (misfit_in capabilities d ch) d ch (sym e)

-- of a call that is one of a kind
pub call_alike : (capabilities : List Capability) (a : Array Entry) (x y : Call) → x ≡ y → (r : Result Planned Refusal) → IfOk r (IsPlannedFor capabilities a y)
    → IfOk r (IsPlannedFor capabilities a x)
call_alike capabilities a x y same (Ok p) h = subst (λ (z : Call). IsPlannedFor capabilities a z p) (sym same) h
call_alike capabilities a x y same (Err refusal) h = h

pub fault_alike : (capabilities : List Capability) (a : Array Entry) (x y : Call) → x ≡ y → (r : Result Planned Refusal) → IfErr r (IsRefusedFor capabilities a y)
    → IfErr r (IsRefusedFor capabilities a x)
fault_alike capabilities a x y same (Ok p) h = h
fault_alike capabilities a x y same (Err refusal) h = subst (λ (z : Call). IsRefusedFor capabilities a z refusal) (sym same) h
