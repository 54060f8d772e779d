-- The event of a record as the definitions of the whole array see it: a change, and the places that its new chunks take.
use Rattle.std.specs.Prelude.{ℕ, List, [], ◌∷◌, map}
use Rattle.vv_units.specs.declared.numbers.Place.{Place}
use Rattle.vv_units.specs.declared.numbers.EndpointId.{EndpointId}
use Rattle.vv_record.specs.declared.record.ChunkCopy.{ChunkCopy}
use Rattle.vv_record.specs.declared.record.ChunkRange.{ChunkRange}
use Rattle.vv_record.specs.declared.record.Event.{Event}
use Rattle.vv_record.specs.declared.record.Event.TheVariants.{MakeContainer, MakeVolume, DeleteVolume, GrowVolume, SetMetadata, Snapshot, FastClone, Revert, Write, Unmap, SetEndpoints, Bind, Unbind, UnbindAll, StartClone, StartCopy, Turn, Cancel}
use Rattle.vv_record.specs.declared.record.Record.{Record}
use Rattle.vv_flat.specs.Changes as change
use Rattle.vv_flat.specs.Changes.{Change}
use Rattle.vv_flat.specs.Logs.{LogRecord}

-- the change that an event is
unfoldable pub change_of : Event → Change
change_of (MakeContainer quota offers) = change.MakeContainer quota offers
change_of (MakeVolume container vtype chunks needs) = change.MakeVolume container.0 vtype chunks needs
change_of (DeleteVolume volume) = change.DeleteVolume volume.0
change_of (GrowVolume volume chunks) = change.GrowVolume volume.0 chunks
change_of (SetMetadata volume key note) = change.SetMetadata volume.0 key note
change_of (Snapshot volume) = change.Snapshot volume.0
change_of (FastClone volume) = change.FastClone volume.0
change_of (Revert volume snapshot) = change.Revert volume.0 snapshot.0
change_of (Write volume first blocks places) = change.Write volume.0 first blocks
change_of (Unmap volume ranges) = change.Unmap volume.0 (map (λ (r : ChunkRange). (r.first_chunk, r.chunks)) ranges)
change_of (SetEndpoints host endpoints) = change.SetEndpoints host.0 (map (λ (e : EndpointId). e.0) endpoints)
change_of (Bind host volume) = change.Bind host.0 volume.0
change_of (Unbind host endpoint secondary) = change.Unbind host.0 endpoint.0 secondary.0
change_of (UnbindAll host) = change.UnbindAll host.0
change_of (StartClone volume) = change.StartClone volume.0
change_of (StartCopy source base target) = change.StartCopy source.0 base.0 target.0
change_of (Turn task copies) = change.Turn task.0
change_of (Cancel task) = change.Cancel task.0

-- the places of its new chunks, in rising order of their indexes
unfoldable pub places_of : Event → List ℕ
places_of (Write volume first blocks places) = map (λ (p : Place). p.0) places
places_of (Turn task copies) = map (λ (c : ChunkCopy). c.place.0) copies
places_of _ = []

-- the indexes of these chunks, which a turn alone says
unfoldable pub indexes_of : Event → List ℕ
indexes_of (Turn task copies) = map (λ (c : ChunkCopy). c.index) copies
indexes_of _ = []

-- The event of a change, with these places for its new chunks; a turn says their indexes too.

-- a copy for each index, with its place
abbrev pub copies_of : List ℕ → List ℕ → List ChunkCopy
copies_of [] places = []
copies_of (index ∷ indexes) [] = []
copies_of (index ∷ indexes) (place ∷ places) = record { index = index; place = record { 0 = place } } ∷ copies_of indexes places

unfoldable pub event_of : Change → List ℕ → List ℕ → Event
event_of (change.MakeContainer quota offers) indexes places = MakeContainer quota offers
event_of (change.MakeVolume container vtype chunks needs) indexes places = MakeVolume (record { 0 = container }) vtype chunks needs
event_of (change.DeleteVolume volume) indexes places = DeleteVolume (record { 0 = volume })
event_of (change.GrowVolume volume chunks) indexes places = GrowVolume (record { 0 = volume }) chunks
event_of (change.SetMetadata volume key note) indexes places = SetMetadata (record { 0 = volume }) key note
event_of (change.Snapshot volume) indexes places = Snapshot (record { 0 = volume })
event_of (change.FastClone volume) indexes places = FastClone (record { 0 = volume })
event_of (change.Revert volume snapshot) indexes places = Revert (record { 0 = volume }) (record { 0 = snapshot })
event_of (change.Write volume first blocks) indexes places = Write (record { 0 = volume }) first blocks (map (λ p. let place : Place = record { 0 = p } in place) places)
event_of (change.Unmap volume ranges) indexes places = Unmap (record { 0 = volume }) (map (λ (r : ℕ × ℕ). let range : ChunkRange = record { first_chunk = r.0; chunks = r.1 } in range) ranges)
event_of (change.SetEndpoints host endpoints) indexes places = SetEndpoints (record { 0 = host }) (map (λ e. let endpoint : EndpointId = record { 0 = e } in endpoint) endpoints)
event_of (change.Bind host volume) indexes places = Bind (record { 0 = host }) (record { 0 = volume })
event_of (change.Unbind host endpoint secondary) indexes places = Unbind (record { 0 = host }) (record { 0 = endpoint }) (record { 0 = secondary })
event_of (change.UnbindAll host) indexes places = UnbindAll (record { 0 = host })
event_of (change.StartClone volume) indexes places = StartClone (record { 0 = volume })
event_of (change.StartCopy source base target) indexes places = StartCopy (record { 0 = source }) (record { 0 = base }) (record { 0 = target })
event_of (change.Turn task) indexes places = Turn (record { 0 = task }) (copies_of indexes places)
event_of (change.Cancel task) indexes places = Cancel (record { 0 = task })

-- a record of the journal as one of a log over tables
abbrev pub log_record : Record → LogRecord
log_record r = record {
  marked = r.first_after_open;
  change = change_of r.event;
  indexes = indexes_of r.event;
  places = places_of r.event;
}
