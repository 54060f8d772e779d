-- Rows of the replies to changes that calls ask for.
use Rattle.std.proofs.Common.{ℕ, ◌≡◌, Some, refl}
use Rattle.vv_units.specs.declared.numbers.TaskId.{TaskId}
use Rattle.vv_units.specs.declared.numbers.VolumeId.{VolumeId}
use Rattle.vv_flat.specs.State.{Volatile, Durable, Array}
use Rattle.vv_calls.specs.declared.call.Call.{Call}
use Rattle.vv_calls.specs.declared.call.Call.TheVariants as call
use Rattle.vv_reply.specs.declared.reply.Answer.TheVariants.{CopyStart}
use Rattle.vv_reply.specs.declared.reply.Reply.TheVariants.{Done}
use Rattle.vv_meaning.specs.Calls.{asked, new_number, piece_count}
use Rattle.vv_plan.specs.Plans.{accepted_reply, nothing_reply, with_volatile}

pub copy_accepted : (d : Durable ℕ) (v : Volatile) (source base target : VolumeId)
    → Some (Done (CopyStart (record { 0 = new_number d }) (piece_count d source.0 base.0))) ≡ accepted_reply (with_volatile d v) (call.CopyDiffsToVirtualVolume source base target)
unfolding accepted_reply asked
copy_accepted d v source base target = refl

-- all calls but a turn have one reply to an accepted change and to one that would change nothing
pub nothing_same : (a : Array ℕ) (c : Call) → ((task : TaskId) → c ≡ call.Turn task → ⊥) → accepted_reply a c ≡ nothing_reply a c
unfolding accepted_reply nothing_reply asked
nothing_same a (call.CreateStorageContainer quota offers) no_turn = refl
nothing_same a (call.CreateVirtualVolume container vtype mb profile) no_turn = refl
nothing_same a (call.DeleteVirtualVolume vvol) no_turn = refl
nothing_same a (call.ResizeVirtualVolume vvol mb) no_turn = refl
nothing_same a (call.SetMetadata vvol key value) no_turn = refl
nothing_same a (call.SnapshotVirtualVolume vvol) no_turn = refl
nothing_same a (call.FastCloneVirtualVolume vvol) no_turn = refl
nothing_same a (call.RevertVirtualVolume vvol snapshot) no_turn = refl
nothing_same a (call.CloneVirtualVolume vvol) no_turn = refl
nothing_same a (call.CopyDiffsToVirtualVolume source base target) no_turn = refl
nothing_same a (call.Turn task) no_turn = absurd (no_turn task refl)
nothing_same a (call.GetTaskUpdate task) no_turn = refl
nothing_same a (call.CancelTask task) no_turn = refl
nothing_same a (call.SetPEContext host endpoints) no_turn = refl
nothing_same a (call.BindVirtualVolume host vvol) no_turn = refl
nothing_same a (call.UnbindVirtualVolume host endpoint secondary) no_turn = refl
nothing_same a (call.UnbindAllVirtualVolumesFromHost host) no_turn = refl
nothing_same a (call.Scsi command) no_turn = refl
nothing_same a (call.Submit command) no_turn = refl
nothing_same a (call.Serve host) no_turn = refl
nothing_same a (call.AllocatedBitmapVirtualVolume vvol first count) no_turn = refl
nothing_same a (call.UnsharedBitmapVirtualVolume vvol base first count) no_turn = refl
nothing_same a (call.UnsharedChunksVirtualVolume vvol base) no_turn = refl
nothing_same a call.QueryPool no_turn = refl
nothing_same a (call.QueryStorageContainer container) no_turn = refl
nothing_same a (call.QueryVirtualVolume vvol) no_turn = refl
nothing_same a call.Restart no_turn = refl
