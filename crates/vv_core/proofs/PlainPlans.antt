-- For plans of calls that take no place: their answers, and the replies to their changes.
use Rattle.std.proofs.Common.{ℕ, ◌≡◌, ◌∙◌, List, Ok, IsSome, false, refl, sym, ap}
use Rattle.std.specs.Prelude.{Option, Some, None}
use Rattle.vv_flat.specs.State.{Volatile, Durable, Array}
use Rattle.vv_flat.specs.Chunks.{Entry, shape_of_tables}
use Rattle.vv_flat.specs.Changes.{Change}
use Rattle.vv_flat.specs.Profiles.{Capability}
use Rattle.vv_flat.specs.Refusals as flat
use Rattle.vv_flat.specs.Refusals.{Refuse, Nothing, Accept}
use Rattle.vv_calls.specs.declared.call.Call.{Call}
use Rattle.vv_record.specs.declared.record.Event.{Event}
use Rattle.vv_reply.specs.declared.reply.Reply.{Reply}
use Rattle.vv_meaning.specs.Asks.{AsFault, Ask, Changes}
use Rattle.vv_meaning.specs.Told.{refused_as}
use Rattle.vv_meaning.specs.Calls.{asked}
use Rattle.vv_meaning.specs.Meaning.{verdict_on}
use Rattle.vv_plan.specs.Plans.{plain_change, accepted_reply, nothing_reply, answered_reply, with_volatile}
use Rattle.vv_plan.proofs.PlannedRows.{answer_told}
use Rattle.vv_core.specs.Placed.{IsPlacedEvent}
use Rattle.vv_core.specs.declared.planned.Fill.TheVariants as fill
use Rattle.vv_core.specs.declared.planned.Planned.TheVariants as planned
use Rattle.vv_core.specs.Plans.{payload_of, settled_reply, IsPlannedFor}
use Rattle.vv_core.specs.FormedChanges.{IsFormedChange}
use Rattle.vv_core.proofs.DeedPlans.{planned_call, settles_refused, settles_nothing, placed_journal}
use Rattle.vv_core.proofs.PlainRows.{PlainRow, plain_wanted, plain_row, turns_none}

same_item : {A : Type 0} (x y : A) (o : Option A) → Some x ≡ o → o ≡ Some y → x ≡ y
same_item x y o e f = let g : Some x ≡ Some y = e ∙ f in cc

-- the replies stand
none_where : {A B : Type 0} (o : Option A) (p : Option B) → ((x : A) → Some x ≡ o → (y : B) × (p ≡ Some y)) → IsSome o → None ≡ p → ⊥
none_where None p f some e = cc
none_where (Some x) p f some e = let h = f x refl in let g : None ≡ Some h.0 = e ∙ h.1 in cc

pub one_is_accepted : (a : Array ℕ) (c : Call) → IsSome (plain_change a c) → None ≡ accepted_reply a c → ⊥
one_is_accepted a c some e =
    none_where (plain_change a c) (accepted_reply a c) (λ change f. let row : PlainRow a c change = plain_row a c change f in (row.accepted, row.accepted_is)) some e

pub one_is_nothing : (a : Array ℕ) (c : Call) → IsSome (plain_change a c) → None ≡ nothing_reply a c → ⊥
one_is_nothing a c some e =
    none_where (plain_change a c) (nothing_reply a c) (λ change f. let row : PlainRow a c change = plain_row a c change f in (row.nothing, row.nothing_is)) some e

pub is_there : {A : Type 0} (x : A) (o : Option A) → Some x ≡ o → IsSome o
is_there x None e = absurd (cc)
is_there x (Some y) e = refl

module _ (capabilities : List Capability) (d : Durable Entry) (v : Volatile) (c : Call) where
  pub answer_settled : (answer : Reply) → Some answer ≡ answered_reply (with_volatile (shape_of_tables d) v) c
      → settled_reply capabilities (shape_of_tables d) (asked (with_volatile (shape_of_tables d) v) c).deed ≡ Some answer
  answer_settled answer e = ap (λ (k : Ask). settled_reply capabilities (shape_of_tables d) k.deed) (answer_told (with_volatile (shape_of_tables d) v) c answer e)

  module _ (change : Change) (e : Some change ≡ plain_change (with_volatile (shape_of_tables d) v) c) where
    row : PlainRow (with_volatile (shape_of_tables d) v) c change
    row = plain_row (with_volatile (shape_of_tables d) v) c change e

    pub plain_refused : (refusal : flat.Refusal) (answer : Reply) → Refuse refusal ≡ verdict_on capabilities (shape_of_tables d) change → answer ≡ refused_as AsFault refusal
        → settled_reply capabilities (shape_of_tables d) (asked (with_volatile (shape_of_tables d) v) c).deed ≡ Some answer
    plain_refused refusal answer r is =
        ap (settled_reply capabilities (shape_of_tables d)) row.asks
        ∙ settles_refused capabilities d (plain_wanted change row.accepted row.nothing) answer refusal r is

    pub plain_nothing : (answer : Reply) → Nothing ≡ verdict_on capabilities (shape_of_tables d) change → Some answer ≡ nothing_reply (with_volatile (shape_of_tables d) v) c
        → settled_reply capabilities (shape_of_tables d) (asked (with_volatile (shape_of_tables d) v) c).deed ≡ Some answer
    plain_nothing answer r is =
        ap (settled_reply capabilities (shape_of_tables d)) row.asks
        ∙ settles_nothing capabilities d (plain_wanted change row.accepted row.nothing) answer r (same_item answer row.nothing (nothing_reply (with_volatile (shape_of_tables d) v) c) is row.nothing_is)

    pub plain_journaled : (event : Event) (answer : Reply) → IsFormedChange change → IsPlacedEvent d change event → Accept ≡ verdict_on capabilities (shape_of_tables d) change
        → Some answer ≡ accepted_reply (with_volatile (shape_of_tables d) v) c
        → IsPlannedFor capabilities (record { durable = d; volatile = v }) c (planned.Journal event fill.Nothing false answer)
    plain_journaled event answer formed placed accepted is =
        planned_call capabilities (record { durable = d; volatile = v }) c (Changes (plain_wanted change row.accepted row.nothing)) (payload_of v c) (sym row.asks) refl
        (Ok (planned.Journal event fill.Nothing false answer))
        (placed_journal capabilities d (plain_wanted change row.accepted row.nothing) answer (payload_of v c) event fill.Nothing false placed accepted
        (same_item answer row.accepted (accepted_reply (with_volatile (shape_of_tables d) v) c) is row.accepted_is) refl (sym (turns_none change formed)) refl)
