-- The forms that hold of the fields of each call that is read.
use Rattle.std.specs.Prelude.{ℕ, ◌≤◌, ◌<◌, ◌^◌, ◌==◌, ◌&&◌, Bool, true, not, IsTrue, List, [], ◌∷◌, map, length, IfSome, ⊤}
use Rattle.std.specs.List.{list_any}
use Rattle.std.specs.Str.{bytes_eq}
use Rattle.vv_units.specs.Identifiers.{identifier_limit}
use Rattle.vv_units.specs.declared.volume.Offer.{Offer}
use Rattle.vv_units.specs.declared.volume.Need.{Need}
use Rattle.vv_units.specs.declared.numbers.HostId.{HostId}
use Rattle.vv_units.specs.declared.numbers.EndpointId.{EndpointId}
use Rattle.vv_units.specs.declared.numbers.VolumeId.{VolumeId}
use Rattle.vv_units.specs.declared.numbers.ContainerId.{ContainerId}
use Rattle.vv_calls.specs.Payload.{payload_limit}
use Rattle.vv_calls.specs.declared.call.Call.{Call}
use Rattle.vv_calls.specs.declared.call.Call.TheVariants.{CreateStorageContainer, CreateVirtualVolume, DeleteVirtualVolume, ResizeVirtualVolume, SetMetadata, SnapshotVirtualVolume, FastCloneVirtualVolume, RevertVirtualVolume, CloneVirtualVolume, CopyDiffsToVirtualVolume, Turn, GetTaskUpdate, CancelTask, SetPEContext, BindVirtualVolume, UnbindVirtualVolume, UnbindAllVirtualVolumesFromHost, Scsi, Submit, Serve, AllocatedBitmapVirtualVolume, UnsharedBitmapVirtualVolume, UnsharedChunksVirtualVolume, QueryPool, QueryStorageContainer, QueryVirtualVolume, Restart}
use Rattle.vv_calls.specs.declared.call.ScsiCall.{ScsiCall}

-- whether no text, or no number, comes twice

abbrev pub texts_differ : List (List ℕ) → Bool
texts_differ [] = true
texts_differ (text ∷ texts) = not (list_any (bytes_eq text) texts) && texts_differ texts

abbrev pub numbers_differ : List ℕ → Bool
numbers_differ [] = true
numbers_differ (number ∷ numbers) = not (list_any (λ n. n == number) numbers) && numbers_differ numbers

-- Names have their form by their type, and numbers are of 64 bits.

pub record AreOffers (offers : List Offer) : Type 0 where
  pub few : length offers ≤ 16
  pub differ : IsTrue (texts_differ (map (λ (offer : Offer). offer.name) offers))

pub record AreNeeds (needs : List Need) : Type 0 where
  pub few : length needs ≤ 8
  pub differ : IsTrue (texts_differ (map (λ (need : Need). need.name) needs))

pub record AreEndpoints (endpoints : List EndpointId) : Type 0 where
  pub few : length endpoints ≤ 8
  pub differ : IsTrue (numbers_differ (map (λ (endpoint : EndpointId). endpoint.0) endpoints))
  pub none_is_0 : IsTrue (not (list_any (λ (endpoint : EndpointId). endpoint.0 == 0) endpoints))

abbrev pub IsHost : HostId → Type 0
IsHost host = (1 ≤ host.0) × (host.0 ≤ 64)

-- a volume, or a container, has a number with an identifier

abbrev pub IsVolume : VolumeId → Type 0
IsVolume volume = volume.0 < identifier_limit

abbrev pub IsContainer : ContainerId → Type 0
IsContainer container = container.0 < identifier_limit

-- a CDB of 1 to 16 bytes, and no more bytes with it than a line may carry
pub record IsCommand (call : ScsiCall) : Type 0 where
  pub host : IsHost call.host
  pub endpoint : 1 ≤ call.endpoint.0
  pub some : 1 ≤ length call.cdb
  pub short : length call.cdb ≤ 16
  pub payload : length call.payload ≤ payload_limit

abbrev pub IsFormed : Call → Type 0
IsFormed (CreateStorageContainer quota offers) = (quota < 2 ^ 32) × AreOffers offers
IsFormed (CreateVirtualVolume container kind size profile) = IfSome container IsContainer × IfSome profile AreNeeds
IsFormed (DeleteVirtualVolume vvol) = IsVolume vvol
IsFormed (ResizeVirtualVolume vvol size) = IsVolume vvol
IsFormed (SetMetadata vvol key value) = IsVolume vvol
IsFormed (SnapshotVirtualVolume vvol) = IsVolume vvol
IsFormed (FastCloneVirtualVolume vvol) = IsVolume vvol
IsFormed (RevertVirtualVolume vvol snapshot) = IsVolume vvol × IsVolume snapshot
IsFormed (CloneVirtualVolume vvol) = IsVolume vvol
IsFormed (CopyDiffsToVirtualVolume source base target) = IsVolume source × IsVolume base × IsVolume target
IsFormed (Turn task) = ⊤
IsFormed (GetTaskUpdate task) = ⊤
IsFormed (CancelTask task) = ⊤
IsFormed (SetPEContext host endpoints) = IsHost host × AreEndpoints endpoints
IsFormed (BindVirtualVolume host vvol) = IsHost host × IsVolume vvol
IsFormed (UnbindVirtualVolume host endpoint secondary) = IsHost host × (1 ≤ endpoint.0)
IsFormed (UnbindAllVirtualVolumesFromHost host) = IsHost host
IsFormed (Scsi call) = IsCommand call
IsFormed (Submit call) = IsCommand call
IsFormed (Serve host) = IsHost host
IsFormed (AllocatedBitmapVirtualVolume vvol first count) = IsVolume vvol
IsFormed (UnsharedBitmapVirtualVolume vvol base first count) = IsVolume vvol × IsVolume base
IsFormed (UnsharedChunksVirtualVolume vvol base) = IsVolume vvol × IsVolume base
IsFormed QueryPool = ⊤
IsFormed (QueryStorageContainer container) = IsContainer container
IsFormed (QueryVirtualVolume vvol) = IsVolume vvol
IsFormed Restart = ⊤
