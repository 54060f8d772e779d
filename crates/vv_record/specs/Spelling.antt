-- The one spelling of a record, and which records have one.
use Rattle.std.specs.Prelude.{ℕ, ◌-◌, ◌^◌, ◌&&◌, Bool, true, not, List, [], ◌∷◌, ◌++◌, length, Option, Some, None, nat_lt, if◌then◌else◌}
use Rattle.std.specs.List.{flat_map, list_all}
use Rattle.vv_fields.specs.Fields.{be_bytes}
use Rattle.vv_units.specs.Names.{is_name, is_key, is_note}
use Rattle.vv_units.specs.Sizes.{volume_chunks_limit}
use Rattle.vv_units.specs.declared.volume.Offer.{Offer}
use Rattle.vv_units.specs.declared.volume.Need.{Need}
use Rattle.vv_units.specs.declared.volume.VvolType.{VvolType}
use Rattle.vv_units.specs.declared.volume.VvolType.TheVariants as vvol_type
use Rattle.vv_units.specs.declared.numbers.VolumeId.{VolumeId}
use Rattle.vv_units.specs.declared.numbers.HostId.{HostId}
use Rattle.vv_units.specs.declared.numbers.EndpointId.{EndpointId}
use Rattle.vv_units.specs.declared.numbers.Place.{Place}
use Rattle.vv_record.specs.declared.record.ChunkRange.{ChunkRange}
use Rattle.vv_record.specs.declared.record.ChunkCopy.{ChunkCopy}
use Rattle.vv_record.specs.declared.record.Event.{Event}
use Rattle.vv_record.specs.declared.record.Event.TheVariants.{MakeContainer, MakeVolume, DeleteVolume, GrowVolume, SetMetadata, Snapshot, FastClone, Revert, Write, Unmap, SetEndpoints, Bind, Unbind, UnbindAll, StartClone, StartCopy, Turn, Cancel}
use Rattle.vv_record.specs.declared.record.Record.{Record}
use Rattle.vv_record.specs.Reading.{is_within}
use Rattle.vv_record.specs.Forms.{is_quota, offers_have, needs_have, is_other_endpoint}

-- ---- the spelling

-- the most bytes of a record
abbrev pub record_limit : ℕ
record_limit = 4088

-- a length byte, and the bytes
abbrev pub text_spelling : List ℕ → List ℕ
text_spelling text = be_bytes 1 (length text) ++ text

-- a count of n bytes, and the items
abbrev pub list_spelling : {A : Type 0} → ℕ → (A → List ℕ) → List A → List ℕ
list_spelling n item items = be_bytes n (length items) ++ flat_map item items

abbrev pub type_number : VvolType → ℕ
type_number vvol_type.Config = 0
type_number vvol_type.Data = 1
type_number vvol_type.Swap = 2
type_number vvol_type.Memory = 3
type_number vvol_type.Other = 4

-- a note behind a 1, or a 0
abbrev pub note_spelling : Option (List ℕ) → List ℕ
note_spelling None = be_bytes 1 0
note_spelling (Some note) = be_bytes 1 1 ++ text_spelling note

abbrev pub offer_spelling : Offer → List ℕ
offer_spelling offer = text_spelling offer.name ++ be_bytes 8 offer.value

abbrev pub need_spelling : Need → List ℕ
need_spelling need = text_spelling need.name ++ be_bytes 8 need.value

abbrev pub place_spelling : Place → List ℕ
place_spelling place = be_bytes 4 place.0

abbrev pub range_spelling : ChunkRange → List ℕ
range_spelling range = be_bytes 4 range.first_chunk ++ be_bytes 4 range.chunks

abbrev pub endpoint_spelling : EndpointId → List ℕ
endpoint_spelling endpoint = be_bytes 2 endpoint.0

abbrev pub copy_spelling : ChunkCopy → List ℕ
copy_spelling copy = be_bytes 4 copy.index ++ place_spelling copy.place

abbrev pub offers_spelling : List Offer → List ℕ
offers_spelling offers = list_spelling 1 offer_spelling offers

abbrev pub needs_spelling : List Need → List ℕ
needs_spelling needs = list_spelling 1 need_spelling needs

abbrev pub places_spelling : List Place → List ℕ
places_spelling places = list_spelling 2 place_spelling places

abbrev pub ranges_spelling : List ChunkRange → List ℕ
ranges_spelling ranges = list_spelling 1 range_spelling ranges

abbrev pub endpoints_spelling : List EndpointId → List ℕ
endpoints_spelling endpoints = list_spelling 1 endpoint_spelling endpoints

abbrev pub copies_spelling : List ChunkCopy → List ℕ
copies_spelling copies = list_spelling 1 copy_spelling copies

abbrev pub kind_of : Event → ℕ
kind_of (MakeContainer quota offers) = 1
kind_of (MakeVolume container vtype chunks needs) = 2
kind_of (DeleteVolume volume) = 3
kind_of (GrowVolume volume chunks) = 4
kind_of (SetMetadata volume key optional) = 5
kind_of (Snapshot volume) = 6
kind_of (FastClone volume) = 7
kind_of (Revert volume snapshot) = 8
kind_of (Write volume first_block blocks places) = 9
kind_of (Unmap volume ranges) = 10
kind_of (SetEndpoints host endpoints) = 11
kind_of (Bind host volume) = 12
kind_of (Unbind host endpoint secondary) = 13
kind_of (UnbindAll host) = 14
kind_of (StartClone volume) = 15
kind_of (StartCopy source base target) = 16
kind_of (Turn task copies) = 17
kind_of (Cancel task) = 18

abbrev pub fields_spelling : Event → List ℕ
fields_spelling (MakeContainer quota offers) = be_bytes 8 quota ++ offers_spelling offers
fields_spelling (MakeVolume container vtype chunks needs) = be_bytes 8 container.0 ++ be_bytes 1 (type_number vtype) ++ be_bytes 4 chunks ++ needs_spelling needs
fields_spelling (DeleteVolume volume) = be_bytes 8 volume.0
fields_spelling (GrowVolume volume chunks) = be_bytes 8 volume.0 ++ be_bytes 4 chunks
fields_spelling (SetMetadata volume key optional) = be_bytes 8 volume.0 ++ text_spelling key ++ note_spelling optional
fields_spelling (Snapshot volume) = be_bytes 8 volume.0
fields_spelling (FastClone volume) = be_bytes 8 volume.0
fields_spelling (Revert volume snapshot) = be_bytes 8 volume.0 ++ be_bytes 8 snapshot.0
fields_spelling (Write volume first_block blocks places) = be_bytes 8 volume.0 ++ be_bytes 8 first_block ++ be_bytes 4 blocks ++ places_spelling places
fields_spelling (Unmap volume ranges) = be_bytes 8 volume.0 ++ ranges_spelling ranges
fields_spelling (SetEndpoints host endpoints) = be_bytes 4 host.0 ++ endpoints_spelling endpoints
fields_spelling (Bind host volume) = be_bytes 4 host.0 ++ be_bytes 8 volume.0
fields_spelling (Unbind host endpoint secondary) = be_bytes 4 host.0 ++ be_bytes 2 endpoint.0 ++ be_bytes 2 secondary.0
fields_spelling (UnbindAll host) = be_bytes 4 host.0
fields_spelling (StartClone volume) = be_bytes 8 volume.0
fields_spelling (StartCopy source base target) = be_bytes 8 source.0 ++ be_bytes 8 base.0 ++ be_bytes 8 target.0
fields_spelling (Turn task copies) = be_bytes 8 task.0 ++ copies_spelling copies
fields_spelling (Cancel task) = be_bytes 8 task.0

abbrev pub mark_of : Bool → ℕ
mark_of first_after_open = if first_after_open then 1 else 0

-- the mark, the kind and its fields
abbrev pub spelling : Record → List ℕ
spelling r = be_bytes 1 (mark_of r.first_after_open) ++ be_bytes 1 (kind_of r.event) ++ fields_spelling r.event

-- ---- which records have a spelling

-- a number of n bytes
abbrev pub fits : ℕ → ℕ → Bool
fits n value = nat_lt value (256 ^ n)

-- the number of chunks of a volume
abbrev pub is_size : ℕ → Bool
is_size chunks = is_within 1 volume_chunks_limit chunks

abbrev pub is_host : HostId → Bool
is_host host = is_within 1 64 host.0

abbrev pub is_volume : VolumeId → Bool
is_volume volume = fits 8 volume.0

abbrev pub is_optional_note : Option (List ℕ) → Bool
is_optional_note None = true
is_optional_note (Some note) = is_note note

-- each item passes a test that looks at those before it
abbrev pub each_behind : {A : Type 0} → (List A → A → Bool) → List A → List A → Bool
each_behind is_item before [] = true
each_behind is_item before (next ∷ items) = is_item before next && each_behind is_item (before ++ next ∷ []) items

-- the names of offers, of needs, and the endpoints of a list are all different

abbrev pub is_offer_behind : List Offer → Offer → Bool
is_offer_behind before offer = is_name offer.name && not (offers_have before offer.name) && fits 8 offer.value

abbrev pub are_offers : List Offer → Bool
are_offers offers = is_within 0 16 (length offers) && each_behind is_offer_behind [] offers

abbrev pub is_need_behind : List Need → Need → Bool
is_need_behind before need = is_name need.name && not (needs_have before need.name) && fits 8 need.value

abbrev pub are_needs : List Need → Bool
are_needs needs = is_within 0 8 (length needs) && each_behind is_need_behind [] needs

abbrev pub is_endpoint_behind : List EndpointId → EndpointId → Bool
is_endpoint_behind before endpoint = is_other_endpoint before endpoint && fits 2 endpoint.0

abbrev pub are_endpoints : List EndpointId → Bool
are_endpoints endpoints = is_within 0 8 (length endpoints) && each_behind is_endpoint_behind [] endpoints

abbrev pub is_place : Place → Bool
is_place place = fits 4 place.0

abbrev pub are_places : List Place → Bool
are_places places = is_within 1 257 (length places) && list_all is_place places

abbrev pub is_range : ChunkRange → Bool
is_range range = fits 4 range.first_chunk && is_within 1 (2 ^ 32 - 1) range.chunks

abbrev pub are_ranges : List ChunkRange → Bool
are_ranges ranges = is_within 1 64 (length ranges) && list_all is_range ranges

abbrev pub is_copy : ChunkCopy → Bool
is_copy copy = fits 4 copy.index && is_place copy.place

abbrev pub are_copies : List ChunkCopy → Bool
are_copies copies = is_within 0 16 (length copies) && list_all is_copy copies

abbrev pub is_spellable_event : Event → Bool
is_spellable_event (MakeContainer quota offers) = is_quota quota && are_offers offers
is_spellable_event (MakeVolume container vtype chunks needs) = fits 8 container.0 && is_size chunks && are_needs needs
is_spellable_event (DeleteVolume volume) = is_volume volume
is_spellable_event (GrowVolume volume chunks) = is_volume volume && is_size chunks
is_spellable_event (SetMetadata volume key optional) = is_volume volume && is_key key && is_optional_note optional
is_spellable_event (Snapshot volume) = is_volume volume
is_spellable_event (FastClone volume) = is_volume volume
is_spellable_event (Revert volume snapshot) = is_volume volume && is_volume snapshot
is_spellable_event (Write volume first_block blocks places) = is_volume volume && fits 8 first_block && is_within 1 2048 blocks && are_places places
is_spellable_event (Unmap volume ranges) = is_volume volume && are_ranges ranges
is_spellable_event (SetEndpoints host endpoints) = is_host host && are_endpoints endpoints
is_spellable_event (Bind host volume) = is_host host && is_volume volume
is_spellable_event (Unbind host endpoint secondary) = is_host host && fits 2 endpoint.0 && fits 2 secondary.0
is_spellable_event (UnbindAll host) = is_host host
is_spellable_event (StartClone volume) = is_volume volume
is_spellable_event (StartCopy source base target) = is_volume source && is_volume base && is_volume target
is_spellable_event (Turn task copies) = fits 8 task.0 && are_copies copies
is_spellable_event (Cancel task) = fits 8 task.0

-- the fields fit their bytes and are in their ranges
abbrev pub is_spellable : Record → Bool
is_spellable r = is_spellable_event r.event
