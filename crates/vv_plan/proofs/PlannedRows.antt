-- The row of a call is told by its change and its two replies, or by its answer.
use Rattle.std.proofs.Common.{ℕ, ◌≡◌, Some, sym, ap, ◌∙◌}
use Rattle.vv_flat.specs.State.{Array}
use Rattle.vv_flat.specs.Changes.{Change}
use Rattle.vv_calls.specs.declared.call.Call.{Call}
use Rattle.vv_calls.specs.declared.call.Call.TheVariants as call
use Rattle.vv_reply.specs.declared.reply.Reply.{Reply}
use Rattle.vv_meaning.specs.Asks.{Without, answered}
use Rattle.vv_meaning.specs.Calls.{asked, asks_for}
use Rattle.vv_plan.specs.Plans.{plain_change, accepted_reply, nothing_reply, answered_reply}

unsome : {A : Type 0} (x y : A) → Some x ≡ Some y → x ≡ y
unsome x y e = cc

pub answer_told : (a : Array ℕ) (c : Call) (reply : Reply) → Some reply ≡ answered_reply a c → asked a c ≡ answered a.volatile reply
unfolding answered_reply asked
answer_told a (call.CreateStorageContainer quota offers) reply e = absurd (cc)
answer_told a (call.CreateVirtualVolume container vtype mb profile) reply e = absurd (cc)
answer_told a (call.DeleteVirtualVolume vvol) reply e = absurd (cc)
answer_told a (call.ResizeVirtualVolume vvol mb) reply e = absurd (cc)
answer_told a (call.SetMetadata vvol key value) reply e = absurd (cc)
answer_told a (call.SnapshotVirtualVolume vvol) reply e = absurd (cc)
answer_told a (call.FastCloneVirtualVolume vvol) reply e = absurd (cc)
answer_told a (call.RevertVirtualVolume vvol snapshot) reply e = absurd (cc)
answer_told a (call.CloneVirtualVolume vvol) reply e = absurd (cc)
answer_told a (call.CopyDiffsToVirtualVolume source base target) reply e = absurd (cc)
answer_told a (call.Turn task) reply e = absurd (cc)
answer_told a (call.GetTaskUpdate task) reply e = ap (answered a.volatile) (sym (unsome _ _ e))
answer_told a (call.CancelTask task) reply e = absurd (cc)
answer_told a (call.SetPEContext host endpoints) reply e = absurd (cc)
answer_told a (call.BindVirtualVolume host vvol) reply e = absurd (cc)
answer_told a (call.UnbindVirtualVolume host endpoint secondary) reply e = absurd (cc)
answer_told a (call.UnbindAllVirtualVolumesFromHost host) reply e = absurd (cc)
answer_told a (call.Scsi command) reply e = absurd (cc)
answer_told a (call.Submit command) reply e = absurd (cc)
answer_told a (call.Serve host) reply e = absurd (cc)
answer_told a (call.AllocatedBitmapVirtualVolume vvol first count) reply e = ap (answered a.volatile) (sym (unsome _ _ e))
answer_told a (call.UnsharedBitmapVirtualVolume vvol base first count) reply e = ap (answered a.volatile) (sym (unsome _ _ e))
answer_told a (call.UnsharedChunksVirtualVolume vvol base) reply e = ap (answered a.volatile) (sym (unsome _ _ e))
answer_told a call.QueryPool reply e = ap (answered a.volatile) (sym (unsome _ _ e))
answer_told a (call.QueryStorageContainer container) reply e = ap (answered a.volatile) (sym (unsome _ _ e))
answer_told a (call.QueryVirtualVolume vvol) reply e = ap (answered a.volatile) (sym (unsome _ _ e))
answer_told a call.Restart reply e = ap (answered a.volatile) (sym (unsome _ _ e))

-- a change with its two replies
same_change : (a : Array ℕ) (x y : Change) (r s n m : Reply) → Some x ≡ Some y → Some r ≡ Some s → Some n ≡ Some m
    → asks_for a y Without s m ≡ asks_for a x Without r n
same_change a x y r s n m e f g =
    ap (λ (z : Change). asks_for a z Without s m) (sym (unsome x y e))
    ∙ ap (λ (z : Reply). asks_for a x Without z m) (sym (unsome r s f))
    ∙ ap (λ (z : Reply). asks_for a x Without r z) (sym (unsome n m g))

pub change_told : (a : Array ℕ) (c : Call) (change : Change) (accepted nothing : Reply) → Some change ≡ plain_change a c → Some accepted ≡ accepted_reply a c
    → Some nothing ≡ nothing_reply a c → asked a c ≡ asks_for a change Without accepted nothing
unfolding plain_change accepted_reply nothing_reply asked
change_told a (call.CreateStorageContainer quota offers) change accepted nothing e f g = same_change a change _ accepted _ nothing _ e f g
change_told a (call.CreateVirtualVolume container vtype mb profile) change accepted nothing e f g = same_change a change _ accepted _ nothing _ e f g
change_told a (call.DeleteVirtualVolume vvol) change accepted nothing e f g = same_change a change _ accepted _ nothing _ e f g
change_told a (call.ResizeVirtualVolume vvol mb) change accepted nothing e f g = same_change a change _ accepted _ nothing _ e f g
change_told a (call.SetMetadata vvol key value) change accepted nothing e f g = same_change a change _ accepted _ nothing _ e f g
change_told a (call.SnapshotVirtualVolume vvol) change accepted nothing e f g = same_change a change _ accepted _ nothing _ e f g
change_told a (call.FastCloneVirtualVolume vvol) change accepted nothing e f g = same_change a change _ accepted _ nothing _ e f g
change_told a (call.RevertVirtualVolume vvol snapshot) change accepted nothing e f g = same_change a change _ accepted _ nothing _ e f g
change_told a (call.CloneVirtualVolume vvol) change accepted nothing e f g = same_change a change _ accepted _ nothing _ e f g
change_told a (call.CopyDiffsToVirtualVolume source base target) change accepted nothing e f g = same_change a change _ accepted _ nothing _ e f g
change_told a (call.Turn task) change accepted nothing e f g = absurd (cc)
change_told a (call.GetTaskUpdate task) change accepted nothing e f g = absurd (cc)
change_told a (call.CancelTask task) change accepted nothing e f g = same_change a change _ accepted _ nothing _ e f g
change_told a (call.SetPEContext host endpoints) change accepted nothing e f g = same_change a change _ accepted _ nothing _ e f g
change_told a (call.BindVirtualVolume host vvol) change accepted nothing e f g = same_change a change _ accepted _ nothing _ e f g
change_told a (call.UnbindVirtualVolume host endpoint secondary) change accepted nothing e f g = same_change a change _ accepted _ nothing _ e f g
change_told a (call.UnbindAllVirtualVolumesFromHost host) change accepted nothing e f g = same_change a change _ accepted _ nothing _ e f g
change_told a (call.Scsi command) change accepted nothing e f g = absurd (cc)
change_told a (call.Submit command) change accepted nothing e f g = absurd (cc)
change_told a (call.Serve host) change accepted nothing e f g = absurd (cc)
change_told a (call.AllocatedBitmapVirtualVolume vvol first count) change accepted nothing e f g = absurd (cc)
change_told a (call.UnsharedBitmapVirtualVolume vvol base first count) change accepted nothing e f g = absurd (cc)
change_told a (call.UnsharedChunksVirtualVolume vvol base) change accepted nothing e f g = absurd (cc)
change_told a call.QueryPool change accepted nothing e f g = absurd (cc)
change_told a (call.QueryStorageContainer container) change accepted nothing e f g = absurd (cc)
change_told a (call.QueryVirtualVolume vvol) change accepted nothing e f g = absurd (cc)
change_told a call.Restart change accepted nothing e f g = absurd (cc)
