-- Each reply of a plan has a text. This serves plans.
use Rattle.std.proofs.Common.{◌≡◌, refl, sym, subst, true, List}
use Rattle.std.specs.Prelude.{Option, Some, None, Result, Ok, Err, IfOk}
use Rattle.vv_flat.specs.State.{Array}
use Rattle.vv_flat.specs.Chunks.{Entry, shape_of_tables}
use Rattle.vv_flat.specs.Profiles.{Capability}
use Rattle.vv_flat.specs.Refusals.{Verdict, Refuse, Nothing, Accept}
use Rattle.vv_flat.specs.WellFormed.{is_well_formed, is_well_formed_shape}
use Rattle.vv_laws.proofs.WellFormed.{well_formed_shape}
use Rattle.vv_calls.specs.declared.call.Call.{Call}
use Rattle.vv_reply.specs.Replies.{FitsReply}
use Rattle.vv_reply.specs.declared.reply.Reply.{Reply}
use Rattle.vv_meaning.specs.Asks.{Wanted, Deed, Answered, Reads, Changes}
use Rattle.vv_meaning.specs.Calls.{asked}
use Rattle.vv_meaning.specs.Meaning.{verdict_on}
use Rattle.vv_meaning.proofs.Fitting.{refused_fits, answered_fits, changes_fit}
use Rattle.vv_core.specs.Core.{entry_shape}
use Rattle.vv_core.specs.Plans.{settled, settled_reply, settled_by, IsPlannedFor}
use Rattle.vv_core.specs.PlanTexts.{HasText}
use Rattle.vv_core.specs.declared.planned.Planned.{Planned}
use Rattle.vv_core.specs.declared.planned.Planned.TheVariants as planned

pub ok_texts : {E : Type 0} (result : Result Planned E) (P : Planned → Type 0) → IfOk result P → ((p : Planned) → P p → HasText p) → IfOk result HasText
ok_texts (Ok p) P held texts = texts p held
ok_texts (Err e) P held texts = tt

some_is : (x y : Reply) → Some x ≡ Some y → x ≡ y
some_is x y e = cc

none_is : (o : Option Reply) (y : Reply) → o ≡ None → o ≡ Some y → FitsReply y
none_is o y e f = absurd (cc)

by_verdict : (w : Wanted) (v : Verdict) (r : Reply) → (v ≡ Nothing → FitsReply w.nothing) → settled_by v w ≡ Some r → FitsReply r
by_verdict w (Refuse refusal) r nothing is = subst FitsReply (some_is _ r is) (refused_fits w.form refusal)
by_verdict w Nothing r nothing is = subst FitsReply (some_is w.nothing r is) (nothing refl)
by_verdict w Accept r nothing is = none_is None r refl is

module _ (capabilities : List Capability) (a : Array Entry) (c : Call) (well : is_well_formed a.durable ≡ true) where
  shaped : is_well_formed_shape (shape_of_tables a.durable) ≡ true
  shaped = well_formed_shape a.durable well

  by_deed : (deed : Deed) → (asked (entry_shape a) c).deed ≡ deed → (r : Reply) → settled_reply capabilities (shape_of_tables a.durable) deed ≡ Some r → FitsReply r
  by_deed (Answered x) at r is = subst FitsReply (some_is x r is) (answered_fits (entry_shape a) c shaped x at)
  by_deed (Reads volume first blocks) at r is = none_is None r refl is
  by_deed (Changes w) at r is =
      by_verdict w (verdict_on capabilities (shape_of_tables a.durable) w.change) r
      (changes_fit capabilities (entry_shape a) c shaped w at).0 is

  pub settled_has_text : (r : Reply) → settled capabilities a c ≡ Some r → FitsReply r
  settled_has_text r is = by_deed (asked (entry_shape a) c).deed refl r is

  pub plan_has_text : (p : Planned) → IsPlannedFor capabilities a c p → HasText p
  plan_has_text (planned.Answer answer) plan = settled_has_text answer plan.settles
  plan_has_text (planned.Read volume first blocks) plan = tt
  plan_has_text (planned.Journal e filled compare answer) plan =
      subst FitsReply (sym plan.reply_is)
      ((changes_fit capabilities (entry_shape a) c shaped plan.wanted plan.asks).1 plan.accepted)
