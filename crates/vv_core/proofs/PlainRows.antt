-- For plans of calls that take no place: their row is told by its change, and what their form says of that change.
use Rattle.std.proofs.Common.{ℕ, ◌≡◌, ◌==◌, ◌||◌, Bool, true, false, not, cond, List, [], ◌∷◌, map, length, refl, sym, ap, subst, ◌∙◌, arith}
use Rattle.std.specs.Prelude.{Option, Some, None, unwrap_or, IfSome}
use Rattle.std.specs.List.{list_any}
use Rattle.std.proofs.lemmas.Bool.{le-leb}
use Rattle.std.proofs.lemmas.List.{length-map}
use Rattle.vv_units.specs.declared.volume.Need.{Need}
use Rattle.vv_units.specs.declared.numbers.EndpointId.{EndpointId}
use Rattle.vv_flat.specs.State.{Durable, Array}
use Rattle.vv_flat.specs.Chunks.{Entry}
use Rattle.vv_flat.specs.Changes as change
use Rattle.vv_flat.specs.Changes.{Change, changed_indexes}
use Rattle.vv_record.specs.declared.record.Event.{Event}
use Rattle.vv_record.specs.declared.record.Event.TheVariants as event
use Rattle.vv_event.specs.Events.{change_of, places_of, indexes_of}
use Rattle.vv_calls.specs.declared.call.Call.{Call}
use Rattle.vv_calls.specs.declared.call.Call.TheVariants as call
use Rattle.vv_calls.specs.Formed.{IsFormed, AreNeeds, AreEndpoints}
use Rattle.vv_reply.specs.declared.reply.Reply.{Reply}
use Rattle.vv_meaning.specs.Asks.{Without, AsFault, Wanted, Ask, Deed, Answered, Reads, Changes}
use Rattle.vv_meaning.specs.Calls.{asked}
use Rattle.vv_meaning.specs.Forms.{is_command_call}
use Rattle.vv_plan.specs.Plans.{may_take_places, change_in, accepted_in, nothing_in, plain_change, answered_reply, accepted_reply, nothing_reply}
use Rattle.vv_plan.proofs.PlannedRows.{change_told}
use Rattle.vv_core.specs.Plans.{turning_task}
use Rattle.vv_core.specs.FormedChanges.{AreEndpointNumbers, IsFormedChange, has_few_needs}

-- ---- the row

-- what is wanted of a change that takes no place
abbrev pub plain_wanted : Change → Reply → Reply → Wanted
plain_wanted change accepted nothing = record {
  change = change;
  bytes = Without;
  compared = None;
  form = AsFault;
  accepted = accepted;
  nothing = nothing;
}

pub record PlainRow (a : Array ℕ) (c : Call) (change : Change) : Type 0 where
  pub accepted : Reply
  pub nothing : Reply
  pub accepted_is : accepted_reply a c ≡ Some accepted
  pub nothing_is : nothing_reply a c ≡ Some nothing
  pub asks : (asked a c).deed ≡ Changes (plain_wanted change accepted nothing)

no_command : (c : Call) → may_take_places c ≡ false → is_command_call c ≡ false
no_command (call.Turn task) e = refl
no_command c e = e

replies_in : {A : Type 0} (f : Deed → Option A) (a : Array ℕ) (c : Call) (x : A) (deed : Deed) (b : Bool) → b ≡ false → (asked a c).deed ≡ deed → f deed ≡ Some x
    → cond b None (f (asked a c).deed) ≡ Some x
replies_in {A} f a c x deed b e is h = ap (λ (k : Bool). cond k None (f (asked a c).deed)) e ∙ ap f is ∙ h

pub plain_row : (a : Array ℕ) (c : Call) (change : Change) → Some change ≡ plain_change a c → PlainRow a c change
unfolding plain_change accepted_reply nothing_reply
plain_row a c change e = go (may_take_places c) refl (asked a c).deed refl e
  where
    go : (b : Bool) → may_take_places c ≡ b → (deed : Deed) → (asked a c).deed ≡ deed → Some change ≡ cond b None (change_in deed) → PlainRow a c change
    go true places deed is f = absurd (cc)
    go false places (Answered reply) is f = absurd (cc)
    go false places (Reads volume first blocks) is f = absurd (cc)
    go false places (Changes w) is f =
        let command : is_command_call c ≡ false = no_command c places in
        let agreed : accepted_reply a c ≡ Some w.accepted = replies_in accepted_in a c w.accepted (Changes w) (is_command_call c) command is refl in
        let nothing : nothing_reply a c ≡ Some w.nothing = replies_in nothing_in a c w.nothing (Changes w) (is_command_call c) command is refl in
        record {
          accepted = w.accepted;
          nothing = w.nothing;
          accepted_is = agreed;
          nothing_is = nothing;
          asks = ap (λ (k : Ask). k.deed) (change_told a c change w.accepted w.nothing e (sym agreed) (sym nothing));
        }

-- a call that takes no place and asks for no change is answered at once
pub one_is_told : (a : Array ℕ) (c : Call) → may_take_places c ≡ false → None ≡ plain_change a c → None ≡ answered_reply a c → ⊥
unfolding plain_change answered_reply asked
one_is_told a (call.CreateStorageContainer quota offers) p e f = cc
one_is_told a (call.CreateVirtualVolume container vtype mb profile) p e f = cc
one_is_told a (call.DeleteVirtualVolume vvol) p e f = cc
one_is_told a (call.ResizeVirtualVolume vvol mb) p e f = cc
one_is_told a (call.SetMetadata vvol key value) p e f = cc
one_is_told a (call.SnapshotVirtualVolume vvol) p e f = cc
one_is_told a (call.FastCloneVirtualVolume vvol) p e f = cc
one_is_told a (call.RevertVirtualVolume vvol snapshot) p e f = cc
one_is_told a (call.CloneVirtualVolume vvol) p e f = cc
one_is_told a (call.CopyDiffsToVirtualVolume source base target) p e f = cc
one_is_told a (call.Turn task) p e f = cc
one_is_told a (call.GetTaskUpdate task) p e f = cc
one_is_told a (call.CancelTask task) p e f = cc
one_is_told a (call.SetPEContext host endpoints) p e f = cc
one_is_told a (call.BindVirtualVolume host vvol) p e f = cc
one_is_told a (call.UnbindVirtualVolume host endpoint secondary) p e f = cc
one_is_told a (call.UnbindAllVirtualVolumesFromHost host) p e f = cc
one_is_told a (call.Scsi command) p e f = cc
one_is_told a (call.Submit command) p e f = cc
one_is_told a (call.Serve host) p e f = cc
one_is_told a (call.AllocatedBitmapVirtualVolume vvol first count) p e f = cc
one_is_told a (call.UnsharedBitmapVirtualVolume vvol base first count) p e f = cc
one_is_told a (call.UnsharedChunksVirtualVolume vvol base) p e f = cc
one_is_told a call.QueryPool p e f = cc
one_is_told a (call.QueryStorageContainer container) p e f = cc
one_is_told a (call.QueryVirtualVolume vvol) p e f = cc
one_is_told a call.Restart p e f = cc

-- ---- the form

moved : (x y : Change) → Some y ≡ Some x → IsFormedChange x → IsFormedChange y
moved x y e h = let same : x ≡ y = cc in subst IsFormedChange same h

no_needs : (profile : Option (List Need)) → IfSome profile AreNeeds → AreNeeds (unwrap_or profile [])
no_needs None h = record { few = omega arith; differ = refl }
no_needs (Some needs) h = h

any_number : (es : List EndpointId) → list_any (λ n. n == 0) (map (λ (e : EndpointId). e.0) es) ≡ list_any (λ (e : EndpointId). e.0 == 0) es
any_number [] = refl
any_number (e ∷ es) = ap (λ b. (e.0 == 0) || b) (any_number es)

endpoint_numbers : (es : List EndpointId) → AreEndpoints es → AreEndpointNumbers (map (λ (e : EndpointId). e.0) es)
endpoint_numbers es h = record {
  few = let long : length (map (λ (e : EndpointId). e.0) es) ≡ length es = length-map es (λ (e : EndpointId). e.0) in let few = h.few in omega (arith, long, few);
  differ = h.differ;
  none_is_0 = ap not (any_number es) ∙ h.none_is_0;
}

pub formed_change : (a : Array ℕ) (c : Call) (ch : Change) → IsFormed c → Some ch ≡ plain_change a c → IsFormedChange ch
unfolding plain_change asked
formed_change a (call.CreateStorageContainer quota offers) ch h e = moved (change.MakeContainer quota offers) ch e h
formed_change a (call.CreateVirtualVolume container vtype mb profile) ch h e = moved (change.MakeVolume _ vtype _ (unwrap_or profile [])) ch e (no_needs profile (h.1))
formed_change a (call.DeleteVirtualVolume vvol) ch h e = moved (change.DeleteVolume vvol.0) ch e tt
formed_change a (call.ResizeVirtualVolume vvol mb) ch h e = moved (change.GrowVolume vvol.0 _) ch e tt
formed_change a (call.SetMetadata vvol key value) ch h e = moved (change.SetMetadata vvol.0 key value) ch e tt
formed_change a (call.SnapshotVirtualVolume vvol) ch h e = moved (change.Snapshot vvol.0) ch e tt
formed_change a (call.FastCloneVirtualVolume vvol) ch h e = moved (change.FastClone vvol.0) ch e tt
formed_change a (call.RevertVirtualVolume vvol snapshot) ch h e = moved (change.Revert vvol.0 snapshot.0) ch e tt
formed_change a (call.CloneVirtualVolume vvol) ch h e = moved (change.StartClone vvol.0) ch e tt
formed_change a (call.CopyDiffsToVirtualVolume source base target) ch h e = moved (change.StartCopy source.0 base.0 target.0) ch e tt
formed_change a (call.Turn task) ch h e = absurd (cc)
formed_change a (call.GetTaskUpdate task) ch h e = absurd (cc)
formed_change a (call.CancelTask task) ch h e = moved (change.Cancel task.0) ch e tt
formed_change a (call.SetPEContext host endpoints) ch h e =
    moved (change.SetEndpoints host.0 (map (λ (e : EndpointId). e.0) endpoints)) ch e (h.0, endpoint_numbers endpoints (h.1))
formed_change a (call.BindVirtualVolume host vvol) ch h e = moved (change.Bind host.0 vvol.0) ch e (h.0)
formed_change a (call.UnbindVirtualVolume host endpoint secondary) ch h e = moved (change.Unbind host.0 endpoint.0 secondary.0) ch e (h.0)
formed_change a (call.UnbindAllVirtualVolumesFromHost host) ch h e = moved (change.UnbindAll host.0) ch e h
formed_change a (call.Scsi command) ch h e = absurd (cc)
formed_change a (call.Submit command) ch h e = absurd (cc)
formed_change a (call.Serve host) ch h e = absurd (cc)
formed_change a (call.AllocatedBitmapVirtualVolume vvol first count) ch h e = absurd (cc)
formed_change a (call.UnsharedBitmapVirtualVolume vvol base first count) ch h e = absurd (cc)
formed_change a (call.UnsharedChunksVirtualVolume vvol base) ch h e = absurd (cc)
formed_change a call.QueryPool ch h e = absurd (cc)
formed_change a (call.QueryStorageContainer container) ch h e = absurd (cc)
formed_change a (call.QueryVirtualVolume vvol) ch h e = absurd (cc)
formed_change a call.Restart ch h e = absurd (cc)

pub few_needs : (ch : Change) → IsFormedChange ch → has_few_needs ch ≡ true
few_needs (change.MakeVolume k vtype chunks needs) h = le-leb (length needs) 8 h.few
few_needs _ h = refl

-- ---- what takes no place

pub record TakesNoPlace (d : Durable Entry) (e : Event) : Type 0 where
  pub none : changed_indexes (λ (x : Entry). x.stamp) d (change_of e) ≡ []
  pub places : places_of e ≡ []
  pub indexes : indexes_of e ≡ []

pub takes_none : (d : Durable Entry) (e : Event) → IsFormedChange (change_of e) → TakesNoPlace d e
unfolding change_of places_of indexes_of changed_indexes
takes_none d (event.MakeContainer quota offers) h = record { none = refl; places = refl; indexes = refl }
takes_none d (event.MakeVolume container vtype chunks needs) h = record { none = refl; places = refl; indexes = refl }
takes_none d (event.DeleteVolume volume) h = record { none = refl; places = refl; indexes = refl }
takes_none d (event.GrowVolume volume chunks) h = record { none = refl; places = refl; indexes = refl }
takes_none d (event.SetMetadata volume key text) h = record { none = refl; places = refl; indexes = refl }
takes_none d (event.Snapshot volume) h = record { none = refl; places = refl; indexes = refl }
takes_none d (event.FastClone volume) h = record { none = refl; places = refl; indexes = refl }
takes_none d (event.Revert volume snapshot) h = record { none = refl; places = refl; indexes = refl }
takes_none d (event.Write volume first blocks places) h = absurd h
takes_none d (event.Unmap volume ranges) h = record { none = refl; places = refl; indexes = refl }
takes_none d (event.SetEndpoints host endpoints) h = record { none = refl; places = refl; indexes = refl }
takes_none d (event.Bind host volume) h = record { none = refl; places = refl; indexes = refl }
takes_none d (event.Unbind host endpoint secondary) h = record { none = refl; places = refl; indexes = refl }
takes_none d (event.UnbindAll host) h = record { none = refl; places = refl; indexes = refl }
takes_none d (event.StartClone volume) h = record { none = refl; places = refl; indexes = refl }
takes_none d (event.StartCopy source base target) h = record { none = refl; places = refl; indexes = refl }
takes_none d (event.Turn task copies) h = absurd h
takes_none d (event.Cancel task) h = record { none = refl; places = refl; indexes = refl }

-- a change that takes no place is no turn
pub turns_none : (ch : Change) → IsFormedChange ch → turning_task ch ≡ None
turns_none (change.MakeContainer quota offers) h = refl
turns_none (change.MakeVolume container vtype chunks needs) h = refl
turns_none (change.DeleteVolume volume) h = refl
turns_none (change.GrowVolume volume chunks) h = refl
turns_none (change.SetMetadata volume key text) h = refl
turns_none (change.Snapshot volume) h = refl
turns_none (change.FastClone volume) h = refl
turns_none (change.Revert volume snapshot) h = refl
turns_none (change.Write volume first_block blocks) h = refl
turns_none (change.Unmap volume ranges) h = refl
turns_none (change.SetEndpoints host endpoints) h = refl
turns_none (change.Bind host volume) h = refl
turns_none (change.Unbind host endpoint secondary) h = refl
turns_none (change.UnbindAll host) h = refl
turns_none (change.StartClone volume) h = refl
turns_none (change.StartCopy source base target) h = refl
turns_none (change.Turn task) h = absurd h
turns_none (change.Cancel task) h = refl
