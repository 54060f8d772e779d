-- Each form of a field reads exactly what is spelled so.
use Rattle.std.proofs.Common.{◌≡◌, ℕ, zero, suc, ◌-◌, ◌^◌, ◌≤◌, ◌&&◌, Bool, true, false, cond, eqb, not, List, [], length, Option, Some, None, refl, sym, ap, subst, ◌∙◌, arith}
use Rattle.std.proofs.lemmas.Bool.{and_parts, and_from, ltb-true, lt-ltb, le-leb, eqb-true, eqb-false}
use Rattle.vv_fields.specs.Fields.{ReaderState, be_bytes}
use Rattle.vv_units.specs.Names.{is_name, is_key, is_note}
use Rattle.vv_units.specs.declared.volume.Offer.{Offer}
use Rattle.vv_units.specs.declared.volume.Need.{Need}
use Rattle.vv_units.specs.declared.volume.VvolType.{VvolType}
use Rattle.vv_units.specs.declared.volume.VvolType.TheVariants as vvol_type
use Rattle.vv_units.specs.declared.numbers.VolumeId.{VolumeId}
use Rattle.vv_units.specs.declared.numbers.ContainerId.{ContainerId}
use Rattle.vv_units.specs.declared.numbers.TaskId.{TaskId}
use Rattle.vv_units.specs.declared.numbers.HostId.{HostId}
use Rattle.vv_units.specs.declared.numbers.EndpointId.{EndpointId}
use Rattle.vv_units.specs.declared.numbers.Secondary.{Secondary}
use Rattle.vv_units.specs.declared.numbers.Place.{Place}
use Rattle.vv_record.specs.declared.record.ChunkRange.{ChunkRange}
use Rattle.vv_record.specs.declared.record.ChunkCopy.{ChunkCopy}
use Rattle.vv_record.specs.Reading.{Read, ◌>>=◌, done, bytes, allowed, is_within}
use Rattle.vv_record.specs.Forms.{volume, container, task, host, endpoint, secondary, place, quota, is_quota, size, type_numbered, vvol_type_field, name_bytes, other_name, key, note, optional_note, offers_have, offer, offers, needs_have, need, needs, places, range, ranges, is_other_endpoint, other_endpoint, endpoints, copy, copies}
use Rattle.vv_record.specs.Spelling.{text_spelling, type_number, note_spelling, offer_spelling, need_spelling, place_spelling, range_spelling, endpoint_spelling, copy_spelling, offers_spelling, needs_spelling, places_spelling, ranges_spelling, endpoints_spelling, copies_spelling, fits, is_size, is_host, is_volume, is_optional_note, is_offer_behind, are_offers, is_need_behind, are_needs, is_endpoint_behind, are_endpoints, is_place, are_places, is_range, are_ranges, is_copy, are_copies}
use Rattle.vv_record.proofs.Passing.{each_behind-alone, between}
use Rattle.vv_record.proofs.Stands.{Stands, Stands-then, Stands-front, IsReader, moved, bytes_again, bytes_takes, allowed_is, allowed_again}
use Rattle.vv_record.proofs.Spells.{Spells, number_spells, allowed_spells, number_within_spells, took, done_is, takes_1, again_1, wrapped_spells, paired_spells, ReadsTexts, allowed_texts, text_spells, list_spells}

-- ---- numbers with names of their own

pub volume_spells : Spells volume (λ x. be_bytes 8 x.0) is_volume
unfolding volume
volume_spells = wrapped_spells {D = VolumeId} (number_spells 8) (λ n. record { 0 = n }) (λ x. x.0) (λ x. refl) (λ n. refl)

pub container_spells : Spells container (λ x. be_bytes 8 x.0) (λ x. fits 8 x.0)
unfolding container
container_spells = wrapped_spells {D = ContainerId} (number_spells 8) (λ n. record { 0 = n }) (λ x. x.0) (λ x. refl) (λ n. refl)

pub task_spells : Spells task (λ x. be_bytes 8 x.0) (λ x. fits 8 x.0)
unfolding task
task_spells = wrapped_spells {D = TaskId} (number_spells 8) (λ n. record { 0 = n }) (λ x. x.0) (λ x. refl) (λ n. refl)

pub host_spells : Spells host (λ x. be_bytes 4 x.0) is_host
unfolding host
host_spells = wrapped_spells {D = HostId} (number_within_spells 4 1 64 (omega arith)) (λ n. record { 0 = n }) (λ x. x.0) (λ x. refl) (λ n. refl)

pub endpoint_spells : Spells endpoint endpoint_spelling (λ x. fits 2 x.0)
unfolding endpoint
endpoint_spells = wrapped_spells {D = EndpointId} (number_spells 2) (λ n. record { 0 = n }) (λ x. x.0) (λ x. refl) (λ n. refl)

pub secondary_spells : Spells secondary (λ x. be_bytes 2 x.0) (λ x. fits 2 x.0)
unfolding secondary
secondary_spells = wrapped_spells {D = Secondary} (number_spells 2) (λ n. record { 0 = n }) (λ x. x.0) (λ x. refl) (λ n. refl)

pub place_spells : Spells place place_spelling is_place
unfolding place
place_spells = wrapped_spells {D = Place} (number_spells 4) (λ n. record { 0 = n }) (λ x. x.0) (λ x. refl) (λ n. refl)

quota_fits : (x : ℕ) → is_quota x ≡ true → fits 8 x ≡ true
quota_fits x h =
    let lt = ltb-true x (2 ^ 32) h in
    lt-ltb x (256 ^ 8) (omega arith)

pub quota_spells : Spells quota (be_bytes 8) is_quota
unfolding quota
quota_spells = allowed_spells is_quota quota_fits (number_spells 8)

pub size_spells : Spells size (be_bytes 4) is_size
unfolding size
size_spells = number_within_spells 4 1 1048576 (omega arith)

-- ---- the type of a volume

numbered_again : (t : VvolType) → type_numbered (type_number t) ≡ t
numbered_again vvol_type.Config = refl
numbered_again vvol_type.Data = refl
numbered_again vvol_type.Swap = refl
numbered_again vvol_type.Memory = refl
numbered_again vvol_type.Other = refl

type_number-within : (t : VvolType) → is_within 0 4 (type_number t) ≡ true
type_number-within vvol_type.Config = refl
type_number-within vvol_type.Data = refl
type_number-within vvol_type.Swap = refl
type_number-within vvol_type.Memory = refl
type_number-within vvol_type.Other = refl

number_again : (n : ℕ) → n ≤ 4 → type_number (type_numbered n) ≡ n
number_again zero h = refl
number_again (suc zero) h = refl
number_again (suc (suc zero)) h = refl
number_again (suc (suc (suc zero))) h = refl
number_again (suc (suc (suc (suc zero)))) h = refl
number_again (suc (suc (suc (suc (suc n))))) h = absurd (omega arith)

pub vvol_type_spells : Spells vvol_type_field (λ t. be_bytes 1 (type_number t)) (λ t. true)
unfolding vvol_type_field
vvol_type_spells =
    let numbers = number_within_spells 1 0 4 (omega arith) in
    record {
      again = λ t reader behind h p. again_1 numbers type_numbered (type_number t) reader behind (type_number-within t) p ∙ ap (λ x. Read x behind) (numbered_again t);
      takes = λ t reader behind h e.
          let k = takes_1 numbers type_numbered t reader behind h e in
          let same : k.0 ≡ type_number t = sym (number_again k.0 (between 0 4 k.0 k.3).to) ∙ ap type_number k.1 in
          (subst (λ n. Stands reader (be_bytes 1 n) behind) same k.2, refl);
    }

-- ---- texts

pub key_spells : Spells key text_spelling is_key
unfolding key
key_spells = text_spells 1 32 (λ n. allowed is_key (bytes n)) is_key (omega arith) (λ text h. (and_parts _ _ h).0) (allowed_texts is_key)

note_within : (text : List ℕ) → is_note text ≡ true → is_within 0 96 (length text) ≡ true
note_within text h = and_from _ _ (le-leb 0 (length text) (omega arith)) (and_parts _ _ h).0

pub note_spells : Spells note text_spelling is_note
unfolding note
note_spells = text_spells 0 96 (λ n. allowed is_note (bytes n)) is_note (omega arith) note_within (allowed_texts is_note)

-- a name that isn't taken
abbrev pub is_other_name : (List ℕ → Bool) → List ℕ → Bool
is_other_name is_taken name = is_name name && not (is_taken name)

name_texts : (is_taken : List ℕ → Bool) → ReadsTexts (λ n. allowed (λ name. not (is_taken name)) (name_bytes n)) (is_other_name is_taken)
unfolding name_bytes
name_texts is_taken = record {
  again = λ text reader behind h p.
      let both = and_parts _ _ h in
      let inner = allowed_again is_name (bytes (length text)) text reader behind both.0 (bytes_again (length text) text reader behind refl p) in
      allowed_again (λ name. not (is_taken name)) (allowed is_name (bytes (length text))) text reader behind both.1 inner;
  takes = λ n text reader behind e.
      let a = allowed_is (λ name. not (is_taken name)) (allowed is_name (bytes n)) text reader behind e in
      let b = allowed_is is_name (bytes n) text reader behind a.0 in
      let t = bytes_takes n text reader behind b.0 in
      (t.0, t.1, and_from _ _ b.1 a.1);
}

pub other_name_spells : (is_taken : List ℕ → Bool) → Spells (other_name is_taken) text_spelling (is_other_name is_taken)
unfolding other_name
other_name_spells is_taken =
    text_spells 1 24 (λ n. allowed (λ name. not (is_taken name)) (name_bytes n)) (is_other_name is_taken) (omega arith) (λ text h. (and_parts _ _ (and_parts _ _ h).0).0) (name_texts is_taken)

-- a note behind a 1, or a 0
optional_take : (present : ℕ) (b : Bool) (value : Option (List ℕ)) (reader middle behind : ReaderState) → eqb present 1 ≡ b → is_within 0 1 present ≡ true → Stands reader (be_bytes 1 present) middle → IsReader middle
    → (cond b (note >>= λ text. done (Some text)) (done None)) middle ≡ Read value behind → Stands reader (note_spelling value) behind × (is_optional_note value ≡ true)
optional_take present true value reader middle behind e within p h read =
    let t = takes_1 note_spells Some value middle behind h read in
    let front : Stands reader (be_bytes 1 1) middle = subst (λ n. Stands reader (be_bytes 1 n) middle) (eqb-true present 1 e) p in
    subst (λ v. Stands reader (note_spelling v) behind × (is_optional_note v ≡ true)) t.1 (Stands-then front t.2, t.3)
optional_take present false value reader middle behind e within p h read =
    let d = done_is None value middle behind read in
    let other = eqb-false present 1 e in
    let zero_is : present ≡ 0 = omega (arith, (between 0 1 present within).to) in
    let front : Stands reader (be_bytes 1 0) middle = subst (λ n. Stands reader (be_bytes 1 n) middle) zero_is p in
    subst (λ v. Stands reader (note_spelling v) behind × (is_optional_note v ≡ true)) d.0 (subst (λ r. Stands reader (be_bytes 1 0) r) d.1 front, refl)

optional_again : (value : Option (List ℕ)) (reader behind : ReaderState) → is_optional_note value ≡ true → Stands reader (note_spelling value) behind → optional_note reader ≡ Read value behind
unfolding optional_note
optional_again None reader behind h p = rw ((number_within_spells 1 0 1 (omega arith)).again 0 reader behind refl p) refl
optional_again (Some text) reader behind h p =
    let q = Stands-front reader (be_bytes 1 1) (text_spelling text) behind p in
    let middle = moved (length (be_bytes 1 1)) reader in
    rw ((number_within_spells 1 0 1 (omega arith)).again 1 reader middle refl q.0, note_spells.again text middle behind h q.1) refl

pub optional_note_spells : Spells optional_note note_spelling is_optional_note
unfolding optional_note
optional_note_spells = record {
  again = optional_again;
  takes = λ value reader behind h e.
      let t = took (number_within_spells 1 0 1 (omega arith)) (λ present. cond (eqb present 1) (note >>= λ text. done (Some text)) (done None)) value reader behind h e in
      optional_take t.first (eqb t.first 1) value reader t.middle behind refl t.passes t.stands t.is_reader t.rest;
}

-- ---- lists

offer_spells : (before : List Offer) → Spells (offer before) offer_spelling (is_offer_behind before)
unfolding offer
offer_spells before =
    paired_spells {D = Offer} (other_name_spells (offers_have before)) (number_spells 8)
    (λ name value. record { name = name; value = value }) (λ x. x.name) (λ x. x.value) (λ x. refl) (λ name value. refl) (λ name value. refl)

pub offers_spells : Spells offers offers_spelling are_offers
unfolding offers
offers_spells = list_spells 1 0 16 offer offer_spelling is_offer_behind are_offers (omega arith) (λ xs. refl) offer_spells

need_spells : (before : List Need) → Spells (need before) need_spelling (is_need_behind before)
unfolding need
need_spells before =
    paired_spells {D = Need} (other_name_spells (needs_have before)) (number_spells 8)
    (λ name value. record { name = name; value = value }) (λ x. x.name) (λ x. x.value) (λ x. refl) (λ name value. refl) (λ name value. refl)

pub needs_spells : Spells needs needs_spelling are_needs
unfolding needs
needs_spells = list_spells 1 0 8 need need_spelling is_need_behind are_needs (omega arith) (λ xs. refl) need_spells

pub places_spells : Spells places places_spelling are_places
unfolding places
places_spells = list_spells 2 1 257 (λ before. place) place_spelling (λ before. is_place) are_places (omega arith) (λ xs. ap (λ rest. is_within 1 257 (length xs) && rest) (sym (each_behind-alone is_place [] xs))) (λ before. place_spells)

range_spells : Spells range range_spelling is_range
unfolding range
range_spells =
    paired_spells {D = ChunkRange} (number_spells 4) (number_within_spells 4 1 (2 ^ 32 - 1) (omega arith))
    (λ first_chunk chunks. record { first_chunk = first_chunk; chunks = chunks }) (λ x. x.first_chunk) (λ x. x.chunks) (λ x. refl) (λ a b. refl) (λ a b. refl)

pub ranges_spells : Spells ranges ranges_spelling are_ranges
unfolding ranges
ranges_spells = list_spells 1 1 64 (λ before. range) range_spelling (λ before. is_range) are_ranges (omega arith) (λ xs. ap (λ rest. is_within 1 64 (length xs) && rest) (sym (each_behind-alone is_range [] xs))) (λ before. range_spells)

other_endpoint_spells : (before : List EndpointId) → Spells (other_endpoint before) endpoint_spelling (is_endpoint_behind before)
unfolding other_endpoint
other_endpoint_spells before = record {
  again = λ x reader behind h p.
      let both = and_parts _ _ h in
      allowed_again (is_other_endpoint before) endpoint x reader behind both.0 (endpoint_spells.again x reader behind both.1 p);
  takes = λ x reader behind h e.
      let a = allowed_is (is_other_endpoint before) endpoint x reader behind e in
      let t = endpoint_spells.takes x reader behind h a.0 in
      (t.0, and_from _ _ a.1 t.1);
}

pub endpoints_spells : Spells endpoints endpoints_spelling are_endpoints
unfolding endpoints
endpoints_spells = list_spells 1 0 8 other_endpoint endpoint_spelling is_endpoint_behind are_endpoints (omega arith) (λ xs. refl) other_endpoint_spells

copy_spells : Spells copy copy_spelling is_copy
unfolding copy
copy_spells =
    paired_spells {D = ChunkCopy} (number_spells 4) place_spells
    (λ index place. record { index = index; place = place }) (λ x. x.index) (λ x. x.place) (λ x. refl) (λ a b. refl) (λ a b. refl)

pub copies_spells : Spells copies copies_spelling are_copies
unfolding copies
copies_spells = list_spells 1 0 16 (λ before. copy) copy_spelling (λ before. is_copy) are_copies (omega arith) (λ xs. ap (λ rest. is_within 0 16 (length xs) && rest) (sym (each_behind-alone is_copy [] xs))) (λ before. copy_spells)
