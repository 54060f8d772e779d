-- No record that has a spelling is longer than the limit.
use Rattle.std.proofs.Common.{◌≡◌, ℕ, suc, ◌+◌, ◌*◌, ◌≤◌, ◌&&◌, Bool, true, List, [], ◌∷◌, ◌++◌, length, Option, Some, None, ◌∙◌, arith, length-append}
use Rattle.std.specs.List.{flat_map}
use Rattle.std.proofs.lemmas.Bool.{and_parts, leb-true}
use Rattle.vv_fields.specs.Fields.{be_bytes}
use Rattle.vv_fields.proofs.ByteLemmas.{length-be_bytes}
use Rattle.vv_units.specs.Names.{is_name, is_key, is_note}
use Rattle.vv_units.specs.declared.volume.Offer.{Offer}
use Rattle.vv_units.specs.declared.volume.Need.{Need}
use Rattle.vv_units.specs.declared.numbers.EndpointId.{EndpointId}
use Rattle.vv_units.specs.declared.numbers.Place.{Place}
use Rattle.vv_record.specs.declared.record.ChunkRange.{ChunkRange}
use Rattle.vv_record.specs.declared.record.ChunkCopy.{ChunkCopy}
use Rattle.vv_record.specs.declared.record.Event.{Event}
use Rattle.vv_record.specs.declared.record.Event.TheVariants.{MakeContainer, MakeVolume, DeleteVolume, GrowVolume, SetMetadata, Snapshot, FastClone, Revert, Write, Unmap, SetEndpoints, Bind, Unbind, UnbindAll, StartClone, StartCopy, Turn, Cancel}
use Rattle.vv_record.specs.declared.record.Record.{Record}
use Rattle.vv_record.specs.Spelling.{record_limit, text_spelling, list_spelling, type_number, note_spelling, offer_spelling, need_spelling, place_spelling, range_spelling, endpoint_spelling, copy_spelling, offers_spelling, needs_spelling, places_spelling, ranges_spelling, endpoints_spelling, copies_spelling, kind_of, fields_spelling, mark_of, spelling, each_behind, is_volume, is_optional_note, is_offer_behind, are_offers, is_need_behind, are_needs, is_endpoint_behind, are_endpoints, is_place, are_places, is_range, are_ranges, is_copy, are_copies, is_spellable_event, is_spellable}
use Rattle.vv_record.proofs.Passing.{each_behind-alone, between}

-- ---- texts

length-name : (name : List ℕ) → is_name name ≡ true → length name ≤ 24
length-name name h = leb-true _ _ (and_parts _ _ (and_parts _ _ h).0).1

pub length-key : (key : List ℕ) → is_key key ≡ true → length key ≤ 32
length-key key h = leb-true _ _ (and_parts _ _ (and_parts _ _ h).0).1

pub length-note : (note : List ℕ) → is_note note ≡ true → length note ≤ 96
length-note note h = leb-true _ _ (and_parts _ _ h).0

pub length-text : (text : List ℕ) → length (text_spelling text) ≡ 1 + length text
length-text text = omega (arith, length-append (be_bytes 1 (length text)) text, length-be_bytes 1 (length text))

length-optional_note : (note : Option (List ℕ)) → is_optional_note note ≡ true → length (note_spelling note) ≤ 98
length-optional_note None h = omega (arith, length-be_bytes 1 0)
length-optional_note (Some note) h = omega (arith, length-append (be_bytes 1 1) (text_spelling note), length-be_bytes 1 1, length-text note, length-note note h)

-- ---- lists

-- items that are each at most so long
pub length-items : {A : Type 0} (is_item : List A → A → Bool) (item : A → List ℕ) (w : ℕ) → ((before : List A) (next : A) → is_item before next ≡ true → length (item next) ≤ w)
    → (before items : List A) → each_behind is_item before items ≡ true → length (flat_map item items) ≤ w * length items
length-items is_item item w each before [] h = omega arith
length-items is_item item w each before (next ∷ items) h =
    let both = and_parts _ _ h in
    let front = each before next both.0 in
    let back = length-items is_item item w each (before ++ next ∷ []) items both.1 in
    let k : w * suc (length items) ≡ w + w * length items = omega arith in
    omega (arith, length-append (item next) (flat_map item items), front, back, k)

pub length-list : {A : Type 0} (n : ℕ) (item : A → List ℕ) (items : List A) → length (list_spelling n item items) ≡ n + length (flat_map item items)
length-list n item items = omega (arith, length-append (be_bytes n (length items)) (flat_map item items), length-be_bytes n (length items))

length-offer : (before : List Offer) (offer : Offer) → is_offer_behind before offer ≡ true → length (offer_spelling offer) ≤ 33
length-offer before offer h = omega (arith, length-append (text_spelling offer.name) (be_bytes 8 offer.value), length-be_bytes 8 offer.value, length-text offer.name, length-name offer.name (and_parts _ _ (and_parts _ _ h).0).0)

pub length-offers : (offers : List Offer) → are_offers offers ≡ true → length (offers_spelling offers) ≤ 529
length-offers offers h =
    let both = and_parts _ _ h in
    let count = (between 0 16 (length offers) both.0).to in
    omega (arith, length-list 1 offer_spelling offers, length-items is_offer_behind offer_spelling 33 length-offer [] offers both.1, count)

length-need : (before : List Need) (need : Need) → is_need_behind before need ≡ true → length (need_spelling need) ≤ 33
length-need before need h = omega (arith, length-append (text_spelling need.name) (be_bytes 8 need.value), length-be_bytes 8 need.value, length-text need.name, length-name need.name (and_parts _ _ (and_parts _ _ h).0).0)

pub length-needs : (needs : List Need) → are_needs needs ≡ true → length (needs_spelling needs) ≤ 265
length-needs needs h =
    let both = and_parts _ _ h in
    let count = (between 0 8 (length needs) both.0).to in
    omega (arith, length-list 1 need_spelling needs, length-items is_need_behind need_spelling 33 length-need [] needs both.1, count)

pub length-endpoints : (endpoints : List EndpointId) → are_endpoints endpoints ≡ true → length (endpoints_spelling endpoints) ≤ 17
length-endpoints endpoints h =
    let both = and_parts _ _ h in
    let count = (between 0 8 (length endpoints) both.0).to in
    let each : (before : List EndpointId) (next : EndpointId) → is_endpoint_behind before next ≡ true → length (endpoint_spelling next) ≤ 2 = λ before next is. omega (arith, length-be_bytes 2 next.0) in
    omega (arith, length-list 1 endpoint_spelling endpoints, length-items is_endpoint_behind endpoint_spelling 2 each [] endpoints both.1, count)

length-places : (places : List Place) → are_places places ≡ true → length (places_spelling places) ≤ 1030
length-places places h =
    let both = and_parts _ _ h in
    let count = (between 1 257 (length places) both.0).to in
    let each : (before : List Place) (next : Place) → is_place next ≡ true → length (place_spelling next) ≤ 4 = λ before next is. omega (arith, length-be_bytes 4 next.0) in
    omega (arith, length-list 2 place_spelling places, length-items (λ before. is_place) place_spelling 4 each [] places (each_behind-alone is_place [] places ∙ both.1), count)

length-ranges : (ranges : List ChunkRange) → are_ranges ranges ≡ true → length (ranges_spelling ranges) ≤ 513
length-ranges ranges h =
    let both = and_parts _ _ h in
    let count = (between 1 64 (length ranges) both.0).to in
    let each : (before : List ChunkRange) (next : ChunkRange) → is_range next ≡ true → length (range_spelling next) ≤ 8 =
    λ before next is. omega (arith, length-append (be_bytes 4 next.first_chunk) (be_bytes 4 next.chunks), length-be_bytes 4 next.first_chunk, length-be_bytes 4 next.chunks)
    in
    omega (arith, length-list 1 range_spelling ranges, length-items (λ before. is_range) range_spelling 8 each [] ranges (each_behind-alone is_range [] ranges ∙ both.1), count)

length-copies : (copies : List ChunkCopy) → are_copies copies ≡ true → length (copies_spelling copies) ≤ 129
length-copies copies h =
    let both = and_parts _ _ h in
    let count = (between 0 16 (length copies) both.0).to in
    let each : (before : List ChunkCopy) (next : ChunkCopy) → is_copy next ≡ true → length (copy_spelling next) ≤ 8 =
    λ before next is. omega (arith, length-append (be_bytes 4 next.index) (place_spelling next.place), length-be_bytes 4 next.index, length-be_bytes 4 next.place.0)
    in
    omega (arith, length-list 1 copy_spelling copies, length-items (λ before. is_copy) copy_spelling 8 each [] copies (each_behind-alone is_copy [] copies ∙ both.1), count)

-- ---- events

-- fields one behind the other
pub length-2 : (m n : ℕ) (a b : List ℕ) → length a ≤ m → length b ≤ n → length (a ++ b) ≤ m + n
length-2 m n a b p q = omega (arith, length-append a b)

pub number-at_most : (n value : ℕ) → length (be_bytes n value) ≤ n
number-at_most n value = omega (arith, length-be_bytes n value)

longer : (a b : ℕ) (text : List ℕ) → length text ≤ a → a ≤ b → length text ≤ b
longer a b text p q = omega arith

length-fields : (e : Event) → is_spellable_event e ≡ true → length (fields_spelling e) ≤ 1050
length-fields (MakeContainer quota offers) h = longer 537 1050 _ (length-2 8 529 _ _ (number-at_most 8 quota) (length-offers offers (and_parts _ _ h).1)) (omega arith)
length-fields (MakeVolume container vtype chunks needs) h = longer 278 1050 _ (length-2 13 265 _ _ (length-2 9 4 _ _ (length-2 8 1 _ _ (number-at_most 8 container.0) (number-at_most 1 (type_number vtype))) (number-at_most 4 chunks)) (length-needs needs (and_parts _ _ h).1)) (omega arith)
length-fields (DeleteVolume volume) h = longer 8 1050 _ (number-at_most 8 volume.0) (omega arith)
length-fields (GrowVolume volume chunks) h = longer 12 1050 _ (length-2 8 4 _ _ (number-at_most 8 volume.0) (number-at_most 4 chunks)) (omega arith)
length-fields (SetMetadata volume key optional) h =
    let both = and_parts (is_volume volume && is_key key) (is_optional_note optional) h in
    let text : length (text_spelling key) ≤ 33 = omega (arith, length-text key, length-key key (and_parts (is_volume volume) (is_key key) both.0).1) in
    longer 139 1050 _ (length-2 41 98 _ _ (length-2 8 33 _ _ (number-at_most 8 volume.0) text) (length-optional_note optional both.1)) (omega arith)
length-fields (Snapshot volume) h = longer 8 1050 _ (number-at_most 8 volume.0) (omega arith)
length-fields (FastClone volume) h = longer 8 1050 _ (number-at_most 8 volume.0) (omega arith)
length-fields (Revert volume snapshot) h = longer 16 1050 _ (length-2 8 8 _ _ (number-at_most 8 volume.0) (number-at_most 8 snapshot.0)) (omega arith)
length-fields (Write volume first_block blocks places) h = length-2 20 1030 _ _ (length-2 16 4 _ _ (length-2 8 8 _ _ (number-at_most 8 volume.0) (number-at_most 8 first_block)) (number-at_most 4 blocks)) (length-places places (and_parts _ _ h).1)
length-fields (Unmap volume ranges) h = longer 521 1050 _ (length-2 8 513 _ _ (number-at_most 8 volume.0) (length-ranges ranges (and_parts _ _ h).1)) (omega arith)
length-fields (SetEndpoints host endpoints) h = longer 21 1050 _ (length-2 4 17 _ _ (number-at_most 4 host.0) (length-endpoints endpoints (and_parts _ _ h).1)) (omega arith)
length-fields (Bind host volume) h = longer 12 1050 _ (length-2 4 8 _ _ (number-at_most 4 host.0) (number-at_most 8 volume.0)) (omega arith)
length-fields (Unbind host endpoint secondary) h = longer 8 1050 _ (length-2 6 2 _ _ (length-2 4 2 _ _ (number-at_most 4 host.0) (number-at_most 2 endpoint.0)) (number-at_most 2 secondary.0)) (omega arith)
length-fields (UnbindAll host) h = longer 4 1050 _ (number-at_most 4 host.0) (omega arith)
length-fields (StartClone volume) h = longer 8 1050 _ (number-at_most 8 volume.0) (omega arith)
length-fields (StartCopy source base target) h = longer 24 1050 _ (length-2 16 8 _ _ (length-2 8 8 _ _ (number-at_most 8 source.0) (number-at_most 8 base.0)) (number-at_most 8 target.0)) (omega arith)
length-fields (Turn task copies) h = longer 137 1050 _ (length-2 8 129 _ _ (number-at_most 8 task.0) (length-copies copies (and_parts _ _ h).1)) (omega arith)
length-fields (Cancel task) h = longer 8 1050 _ (number-at_most 8 task.0) (omega arith)

pub length-spelling : (r : Record) → is_spellable r ≡ true → length (spelling r) ≤ record_limit
length-spelling r h = longer 1052 4088 (spelling r) (length-2 2 1050 _ _ (length-2 1 1 _ _ (number-at_most 1 (mark_of r.first_after_open)) (number-at_most 1 (kind_of r.event))) (length-fields r.event h)) (omega arith)
