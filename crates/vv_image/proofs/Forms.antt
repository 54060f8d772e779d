-- The fields of the change of a record that has a spelling have their forms. It serves what is kept by the tables of an
-- image.
use Rattle.std.proofs.Common.{◌≡◌, ◌&&◌, ℕ, leb, true, List, [], ◌∷◌, map, length, Option, None, Some, refl, ap, ◌∙◌}
use Rattle.std.proofs.lemmas.Bool.{and_parts, and_from}
use Rattle.std.proofs.lemmas.List.{length-map}
use Rattle.vv_units.specs.declared.numbers.EndpointId.{EndpointId}
use Rattle.vv_flat.specs.Fields.{change_has_forms, is_number}
use Rattle.vv_flat.specs.Fields as form
use Rattle.vv_record.specs.declared.record.Event.{Event}
use Rattle.vv_record.specs.declared.record.Event.TheVariants.{MakeContainer, MakeVolume, DeleteVolume, GrowVolume, SetMetadata, Snapshot, FastClone, Revert, Write, Unmap, SetEndpoints, Bind, Unbind, UnbindAll, StartClone, StartCopy, Turn, Cancel}
use Rattle.vv_record.specs.Spelling.{is_spellable_event, are_offers, are_needs, are_endpoints, is_host, is_volume, is_size, fits, is_optional_note, each_behind, is_offer_behind, is_need_behind, is_endpoint_behind}
use Rattle.vv_record.specs.Forms.{is_quota}
use Rattle.vv_record.specs.Reading.{is_within}
use Rattle.vv_units.specs.Names.{is_key}
use Rattle.vv_area.specs.Spelling.{as_endpoints}
use Rattle.vv_area.proofs.ReadForms.{offers_fine, needs_fine, endpoints_fine}
use Rattle.vv_event.specs.Events.{change_of}

-- endpoints as their numbers are these endpoints
same_endpoints : (es : List EndpointId) → as_endpoints (map (λ (e : EndpointId). e.0) es) ≡ es
same_endpoints [] = refl
same_endpoints (e ∷ es) = ap (λ (rest : List EndpointId). e ∷ rest) (same_endpoints es)

note_fine : (note : Option (List ℕ)) → is_optional_note note ≡ true → form.is_optional_note note ≡ true
note_fine None h = refl
note_fine (Some note) h = h

pub event_has_forms : (e : Event) → is_spellable_event e ≡ true → change_has_forms (change_of e) ≡ true
unfolding change_has_forms change_of
event_has_forms (MakeContainer quota offers) h =
    let both = and_parts (is_quota quota) (are_offers offers) h in
    let few = and_parts (is_within 0 16 (length offers)) (each_behind is_offer_behind [] offers) both.1 in
    and_from _ _ (and_from _ _ both.0 (and_parts (leb 0 (length offers)) (leb (length offers) 16) few.0).1) (offers_fine offers both.1)
event_has_forms (MakeVolume container vtype chunks needs) h =
    let both = and_parts (fits 8 container.0 && is_size chunks) (are_needs needs) h in
    let few = and_parts (is_within 0 8 (length needs)) (each_behind is_need_behind [] needs) both.1 in
    and_from _ _ (and_parts (leb 0 (length needs)) (leb (length needs) 8) few.0).1 (needs_fine needs both.1)
event_has_forms (DeleteVolume volume) h = refl
event_has_forms (GrowVolume volume chunks) h = refl
event_has_forms (SetMetadata volume key note) h =
    let both = and_parts (is_volume volume && is_key key) (is_optional_note note) h in
    and_from _ _ (and_parts (is_volume volume) (is_key key) both.0).1 (note_fine note both.1)
event_has_forms (Snapshot volume) h = refl
event_has_forms (FastClone volume) h = refl
event_has_forms (Revert volume snapshot) h = refl
event_has_forms (Write volume first blocks places) h = refl
event_has_forms (Unmap volume ranges) h = refl
event_has_forms (SetEndpoints host endpoints) h =
    let both = and_parts (is_host host) (are_endpoints endpoints) h in
    let few = and_parts (is_within 0 8 (length endpoints)) (each_behind is_endpoint_behind [] endpoints) both.1 in
    let count : length (map (λ (e : EndpointId). e.0) endpoints) ≡ length endpoints = length-map endpoints (λ (e : EndpointId). e.0) in
    let few_numbers : leb (length (map (λ (e : EndpointId). e.0) endpoints)) 8 ≡ true = ap (λ (n : ℕ). leb n 8) count ∙ (and_parts (leb 0 (length endpoints)) (leb (length endpoints) 8) few.0).1 in
    let fine = endpoints_fine (map (λ (e : EndpointId). e.0) endpoints) (ap are_endpoints (same_endpoints endpoints) ∙ both.1) in
    and_from _ _ (and_from _ _ both.0 few_numbers) fine
event_has_forms (Bind host volume) h = (and_parts (is_host host) (is_volume volume) h).0
event_has_forms (Unbind host endpoint secondary) h = h
event_has_forms (UnbindAll host) h = h
event_has_forms (StartClone volume) h = refl
event_has_forms (StartCopy source base target) h = refl
event_has_forms (Turn task copies) h = refl
event_has_forms (Cancel task) h = refl
