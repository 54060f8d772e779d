-- What the types of an event's fields say of them: numbers are inside their widths, and names, keys and notes have their forms.
use Rattle.std.specs.Prelude.{◌&&◌, Bool, true}
use Rattle.std.specs.List.{list_all}
use Rattle.vv_units.specs.Names.{is_name, is_key}
use Rattle.vv_units.specs.declared.volume.Offer.{Offer}
use Rattle.vv_units.specs.declared.volume.Need.{Need}
use Rattle.vv_units.specs.declared.numbers.EndpointId.{EndpointId}
use Rattle.vv_flat.specs.Fields.{is_number, is_optional_note}
use Rattle.vv_record.specs.declared.record.Event.{Event}
use Rattle.vv_record.specs.declared.record.Event.TheVariants.{MakeContainer, MakeVolume, DeleteVolume, GrowVolume, SetMetadata, Snapshot, FastClone, Revert, Write, Unmap, SetEndpoints, Bind, Unbind, UnbindAll, StartClone, StartCopy, Turn, Cancel}

abbrev pub is_typed_offer : Offer → Bool
is_typed_offer offer = is_name offer.name && is_number 64 offer.value

abbrev pub is_typed_need : Need → Bool
is_typed_need need = is_name need.name && is_number 64 need.value

abbrev pub is_typed_endpoint : EndpointId → Bool
is_typed_endpoint endpoint = is_number 16 endpoint.0

-- events that take no place
abbrev pub is_typed : Event → Bool
is_typed (MakeContainer quota offers) = list_all is_typed_offer offers
is_typed (MakeVolume container vtype chunks needs) = is_number 64 container.0 && list_all is_typed_need needs
is_typed (DeleteVolume volume) = is_number 64 volume.0
is_typed (GrowVolume volume chunks) = is_number 64 volume.0
is_typed (SetMetadata volume key optional) = is_number 64 volume.0 && is_key key && is_optional_note optional
is_typed (Snapshot volume) = is_number 64 volume.0
is_typed (FastClone volume) = is_number 64 volume.0
is_typed (Revert volume snapshot) = is_number 64 volume.0 && is_number 64 snapshot.0
is_typed (Write volume first_block blocks places) = true
is_typed (Unmap volume ranges) = is_number 64 volume.0
is_typed (SetEndpoints host endpoints) = list_all is_typed_endpoint endpoints
is_typed (Bind host volume) = is_number 64 volume.0
is_typed (Unbind host endpoint secondary) = is_number 16 endpoint.0 && is_number 16 secondary.0
is_typed (UnbindAll host) = true
is_typed (StartClone volume) = is_number 64 volume.0
is_typed (StartCopy source base target) = is_number 64 source.0 && is_number 64 base.0 && is_number 64 target.0
is_typed (Turn task copies) = true
is_typed (Cancel task) = is_number 64 task.0
