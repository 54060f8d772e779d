-- What the meaning of a call over a flat array comes to where the call was planned over the tables for which the array stands.
-- It serves the calls that an array that is up serves.
use Rattle.std.proofs.Common.{◌≡◌, ℕ, ◌+◌, ◌==◌, ◌&&◌, ◌||◌, Bool, true, false, not, cond, List, Option, None, Some, refl, sym, ap, ◌∙◌}
use Rattle.std.proofs.lemmas.Bool.{eq-eqb}
use Rattle.vv_flat.specs.State.{Address, Volatile, Durable, Array}
use Rattle.vv_flat.specs.Chunks.{Entry, ChunkValue, shape, shape_of_tables, filled_tables}
use Rattle.vv_flat.specs.Profiles.{Capability}
use Rattle.vv_flat.specs.Refusals.{Verdict, Refuse, Nothing, Accept}
use Rattle.vv_flat.specs.Changes.{Change, MakeContainer, MakeVolume, DeleteVolume, GrowVolume, SetMetadata, Snapshot, FastClone, Revert, Write, Unmap, SetEndpoints, Bind, Unbind, UnbindAll, StartClone, StartCopy, Turn, Cancel, apply, attentions_after}
use Rattle.vv_flat.specs.Flat.{flat_after, array_after}
use Rattle.vv_flat.specs.Replay.{is_accepted}
use Rattle.vv_laws.proofs.OtherContents.{filled_shape}
use Rattle.vv_calls.specs.declared.call.Call.{Call}
use Rattle.vv_reply.specs.declared.reply.Reply.{Reply}
use Rattle.vv_record.specs.declared.record.Event.{Event}
use Rattle.vv_event.specs.Events.{change_of}
use Rattle.vv_image.specs.Standing.{bytes_at_place}
use Rattle.vv_meaning.specs.Asks.{Wanted, Deed, Answered, Reads, Changes}
use Rattle.vv_meaning.specs.Told.{good, miscompared}
use Rattle.vv_meaning.specs.Calls.{asked}
use Rattle.vv_meaning.specs.Meaning.{array_shape, BlocksAt, blocks_at, verdict_on, differs, told, reply_to, reply_over, reply, is_done, bytes_for, after_deed, after_ask, next}
use Rattle.vv_meaning.specs.Steps.{is_journaled, moves_blocks, deed_moves_blocks, form_for, form_of}
use Rattle.vv_meaning.proofs.Filled.{tables_asked}
use Rattle.vv_core.specs.Core.{entry_shape, passed, applied}
use Rattle.vv_core.specs.Plans.{settled, settled_reply, settled_by}
use Rattle.vv_array.specs.Standing.{flat_over}
use Rattle.vv_array.specs.Chunks.{flat_applied}

-- the flat array with what waits once a call was asked
unfoldable pub waits : Array Entry → Array ChunkValue → Call → Array ChunkValue
waits a m c = record m { volatile = (passed a c).volatile }

-- ---- a deed that is settled

settled_verdict : (blocks : BlocksAt) (w : Wanted) (v : Verdict) (answer : Reply) → settled_by v w ≡ Some answer → told blocks w v ≡ answer
settled_verdict blocks w (Refuse refusal) answer e = cc
settled_verdict blocks w Nothing answer e = cc
settled_verdict blocks w Accept answer e = absurd (cc)

settled_told : (blocks : BlocksAt) (capabilities : List Capability) (d : Durable ℕ) (deed : Deed) (answer : Reply) → settled_reply capabilities d deed ≡ Some answer → reply_to blocks capabilities d deed ≡ answer
settled_told blocks capabilities d (Answered r) answer e = cc
settled_told blocks capabilities d (Reads volume first n) answer e = absurd (cc)
settled_told blocks capabilities d (Changes w) answer e = settled_verdict blocks w (verdict_on capabilities d w.change) answer e

unaccepted : (w : Wanted) (v : Verdict) (answer : Reply) → settled_by v w ≡ Some answer → is_accepted v ≡ false
unaccepted w (Refuse refusal) answer e = refl
unaccepted w Nothing answer e = refl
unaccepted w Accept answer e = absurd (cc)

left_alone : {A : Type 0} (b d : Bool) (x y : A) → b ≡ false → cond (b && d) x y ≡ y
left_alone true d x y e = absurd (cc)
left_alone false d x y e = refl

settled_stays : (capabilities : List Capability) (x : Array ChunkValue) (deed : Deed) (answer : Reply) → settled_reply capabilities (shape x.durable) deed ≡ Some answer → after_deed capabilities x deed ≡ x
settled_stays capabilities x (Answered r) answer e = refl
settled_stays capabilities x (Reads volume first n) answer e = refl
settled_stays capabilities x (Changes w) answer e =
    left_alone (is_accepted (verdict_on capabilities (shape x.durable) w.change)) (not (differs (blocks_at x.durable) w.change w.compared))
    (array_after x w.change (bytes_for w.bytes)) x (unaccepted w (verdict_on capabilities (shape x.durable) w.change) answer e)

-- ---- a change that is accepted

accepted_told : (blocks : BlocksAt) (capabilities : List Capability) (d : Durable ℕ) (w : Wanted) (b : Bool) → verdict_on capabilities d w.change ≡ Accept → differs blocks w.change w.compared ≡ b
    → reply_to blocks capabilities d (Changes w) ≡ cond b miscompared w.accepted
accepted_told blocks capabilities d w b accepted is = ap (told blocks w) accepted ∙ ap (λ (x : Bool). cond x miscompared w.accepted) is

accepted_after : (capabilities : List Capability) (x : Array ChunkValue) (w : Wanted) (b : Bool) → verdict_on capabilities (shape x.durable) w.change ≡ Accept → differs (blocks_at x.durable) w.change w.compared ≡ b
    → after_deed capabilities x (Changes w) ≡ cond b x (array_after x w.change (bytes_for w.bytes))
accepted_after capabilities x w b accepted is =
    ap (λ (v : Verdict). cond (is_accepted v && not (differs (blocks_at x.durable) w.change w.compared)) (array_after x w.change (bytes_for w.bytes)) x) accepted
    ∙ ap (λ (d : Bool). cond (not d) (array_after x w.change (bytes_for w.bytes)) x) is
    ∙ turned b
  where
    turned : (d : Bool) → cond (not d) (array_after x w.change (bytes_for w.bytes)) x ≡ cond d x (array_after x w.change (bytes_for w.bytes))
    turned true = refl
    turned false = refl

-- ---- the attentions go by the tables

attentions_filled : (f : ℕ → List ℕ) (d : Durable Entry) (change : Change) (attentions : List Address) → attentions_after (filled_tables f d) change attentions ≡ attentions_after d change attentions
unfolding attentions_after
attentions_filled f d (MakeContainer quota offers) attentions = refl
attentions_filled f d (MakeVolume k vtype chunks needs) attentions = refl
attentions_filled f d (DeleteVolume n) attentions = refl
attentions_filled f d (GrowVolume n chunks) attentions = refl
attentions_filled f d (SetMetadata n key text) attentions = refl
attentions_filled f d (Snapshot n) attentions = refl
attentions_filled f d (FastClone n) attentions = refl
attentions_filled f d (Revert n snapshot) attentions = refl
attentions_filled f d (Write n first blocks) attentions = refl
attentions_filled f d (Unmap n ranges) attentions = refl
attentions_filled f d (SetEndpoints host endpoints) attentions = refl
attentions_filled f d (Bind host n) attentions = refl
attentions_filled f d (Unbind host endpoint secondary) attentions = refl
attentions_filled f d (UnbindAll host) attentions = refl
attentions_filled f d (StartClone n) attentions = refl
attentions_filled f d (StartCopy source base target) attentions = refl
attentions_filled f d (Turn n) attentions = refl
attentions_filled f d (Cancel n) attentions = refl

-- ---- a call, planned over tables

module _ (capabilities : List Capability) (a : Array Entry) (content : List ℕ) (m : Array ChunkValue) (c : Call) (is : flat_over content a ≡ m) where
  pub asked_same : asked (array_shape m) c ≡ asked (entry_shape a) c
  asked_same = ap (λ (x : Array ChunkValue). asked (array_shape x) c) (sym is) ∙ tables_asked (bytes_at_place a.durable.geometry content) a.durable a.volatile c

  pub shape_same : shape m.durable ≡ shape_of_tables a.durable
  shape_same = ap (λ (x : Array ChunkValue). shape x.durable) (sym is) ∙ filled_shape (bytes_at_place a.durable.geometry content) a.durable

  -- the reply, and what stands after it, by the deed
  pub reply_by : (deed : Deed) → (asked (entry_shape a) c).deed ≡ deed → reply capabilities m c ≡ reply_to (blocks_at m.durable) capabilities (shape_of_tables a.durable) deed
  unfolding reply reply_over
  reply_by deed e =
      ap (λ (d : Durable ℕ). reply_to (blocks_at m.durable) capabilities d (asked (array_shape m) c).deed) shape_same
      ∙ ap (λ (x : Deed). reply_to (blocks_at m.durable) capabilities (shape_of_tables a.durable) x) (ap (λ ask. ask.deed) asked_same ∙ e)

  pub next_by : (deed : Deed) → (asked (entry_shape a) c).deed ≡ deed → next capabilities m c ≡ after_deed capabilities (waits a m c) deed
  unfolding next passed waits
  next_by deed e =
      ap (after_ask capabilities m) asked_same
      ∙ ap (λ (x : Deed). after_deed capabilities (record m { volatile = (asked (entry_shape a) c).volatile }) x) e

  -- an answer that is settled
  pub settled_is : (answer : Reply) → settled capabilities a c ≡ Some answer → reply capabilities m c ≡ answer
  settled_is answer e =
      reply_by (asked (entry_shape a) c).deed refl
      ∙ settled_told (blocks_at m.durable) capabilities (shape_of_tables a.durable) (asked (entry_shape a) c).deed answer e

  pub settled_next : (answer : Reply) → settled capabilities a c ≡ Some answer → next capabilities m c ≡ waits a m c
  unfolding waits
  settled_next answer e =
      next_by (asked (entry_shape a) c).deed refl
      ∙ settled_stays capabilities (waits a m c) (asked (entry_shape a) c).deed answer
      (ap (λ (d : Durable ℕ). settled_reply capabilities d (asked (entry_shape a) c).deed) shape_same ∙ e)

  -- blocks that are read
  pub read_is : (volume first blocks : ℕ) → (asked (entry_shape a) c).deed ≡ Reads volume first blocks → reply capabilities m c ≡ good (blocks_at m.durable volume first blocks)
  read_is volume first blocks e = reply_by (Reads volume first blocks) e

  pub read_next : (volume first blocks : ℕ) → (asked (entry_shape a) c).deed ≡ Reads volume first blocks → next capabilities m c ≡ waits a m c
  read_next volume first blocks e = next_by (Reads volume first blocks) e

  -- a change that is accepted, and whether a miscompare is found
  pub change_is : (w : Wanted) (b : Bool) → (asked (entry_shape a) c).deed ≡ Changes w → verdict_on capabilities (shape_of_tables a.durable) w.change ≡ Accept → differs (blocks_at m.durable) w.change w.compared ≡ b
      → reply capabilities m c ≡ cond b miscompared w.accepted
  change_is w b e accepted differing =
      reply_by (Changes w) e ∙ accepted_told (blocks_at m.durable) capabilities (shape_of_tables a.durable) w b accepted differing

  pub change_next : (w : Wanted) (b : Bool) → (asked (entry_shape a) c).deed ≡ Changes w → verdict_on capabilities (shape_of_tables a.durable) w.change ≡ Accept → differs (blocks_at m.durable) w.change w.compared ≡ b
      → next capabilities m c ≡ cond b (waits a m c) (array_after (waits a m c) w.change (bytes_for w.bytes))
  unfolding waits
  change_next w b e accepted differing =
      next_by (Changes w) e
      ∙ accepted_after capabilities (waits a m c) w b (ap (λ (d : Durable ℕ). verdict_on capabilities d w.change) shape_same ∙ accepted) differing

  -- the array after it is the one after its event
  pub change_done : (event : Event) (w : Wanted) → change_of event ≡ w.change → array_after (waits a m c) w.change (bytes_for w.bytes) ≡ flat_applied a m c event (bytes_for w.bytes)
  unfolding waits applied
  change_done event w same =
      ap (λ (x : Change). array_after (waits a m c) x (bytes_for w.bytes)) (sym same)
      ∙ ap {B = Array ChunkValue} (λ (l : List Address). record {
        durable = flat_after m.durable (change_of event) (bytes_for w.bytes);
        volatile = record (passed a c).volatile { attentions = l };
      })
      (ap (λ (x : Array ChunkValue). attentions_after x.durable (change_of event) (passed a c).volatile.attentions) (sym is)
      ∙ attentions_filled (bytes_at_place a.durable.geometry content) a.durable (change_of event) (passed a c).volatile.attentions)

  -- which is journaled
  pub done_journaled : (w : Wanted) → (asked (entry_shape a) c).deed ≡ Changes w → verdict_on capabilities (shape_of_tables a.durable) w.change ≡ Accept → differs (blocks_at m.durable) w.change w.compared ≡ false
      → is_journaled capabilities m c ≡ true
  unfolding is_journaled flat_after apply waits
  done_journaled w e accepted differing =
      ap (λ (x : Array ChunkValue). x.durable.lsn == m.durable.lsn + 1) (change_next w false e accepted differing)
      ∙ eq-eqb (m.durable.lsn + 1) (m.durable.lsn + 1) refl

  -- how a fault of the disk is told
  pub form_by : (deed : Deed) → (asked (entry_shape a) c).deed ≡ deed → form_for m c ≡ form_of deed
  unfolding form_for
  form_by deed e = ap form_of (ap (λ ask. ask.deed) asked_same ∙ e)

  -- whether blocks are moved
  pub moves_by : (deed : Deed) → (asked (entry_shape a) c).deed ≡ deed → moves_blocks capabilities m c ≡ deed_moves_blocks capabilities (shape_of_tables a.durable) deed
  unfolding moves_blocks
  moves_by deed e =
      ap (λ (d : Durable ℕ). deed_moves_blocks capabilities d (asked (array_shape m) c).deed) shape_same
      ∙ ap (λ (x : Deed). deed_moves_blocks capabilities (shape_of_tables a.durable) x) (ap (λ ask. ask.deed) asked_same ∙ e)
