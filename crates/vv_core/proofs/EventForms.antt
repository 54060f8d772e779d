-- For events that take no place: one that is accepted, with the form that a call's fields have, has fields of their forms, and
-- can be spelled.
use Rattle.std.proofs.Common.{ℕ, ◌≡◌, ◌≤◌, ◌+◌, ◌-◌, ◌^◌, ◌==◌, ◌&&◌, ◌||◌, Bool, true, false, not, List, [], ◌∷◌, map, length, refl, sym, ap, ◌∙◌, arith}
use Rattle.std.specs.Prelude.{Option, Some, None, nat_le, nat_lt}
use Rattle.std.specs.List.{list_all, list_any}
use Rattle.std.specs.Str.{bytes_eq}
use Rattle.std.proofs.lemmas.Bool.{and_parts, and_from, or_parts, leb-true, le-leb, lt-ltb, ltb-false, eqb-false}
use Rattle.std.proofs.lemmas.List.{length-map}
use Rattle.vv_units.specs.Names.{is_key}
use Rattle.vv_units.specs.declared.volume.Offer.{Offer}
use Rattle.vv_units.specs.declared.volume.Need.{Need}
use Rattle.vv_units.specs.declared.numbers.EndpointId.{EndpointId}
use Rattle.vv_units.specs.declared.field.Field.TheVariants.{SizeInMb as in_size}
use Rattle.vv_flat.specs.Lists.{if_found, any_from, all_different}
use Rattle.vv_flat.specs.State.{Volume, Durable, volume_of}
use Rattle.vv_flat.specs.Chunks.{Entry, shape_of_tables, unmaps_any, is_in_ranges}
use Rattle.vv_flat.specs.Space.{is_volume_size}
use Rattle.vv_flat.specs.Refusals.{InvalidArgument, OutOfRange, Accept}
use Rattle.vv_flat.specs.Changes.{MakeVolume, GrowVolume, Unmap, judge, state_checks, changes_nothing, stamps_of, size_of}
use Rattle.vv_flat.specs.Fields.{change_has_forms, is_number, is_optional_note, texts_differ}
use Rattle.vv_flat.specs.Fields as form
use Rattle.vv_flat.specs.WellFormed.{is_well_formed}
use Rattle.vv_flat.proofs.Kept.{Kept, kept}
use Rattle.vv_flat.proofs.KeepSteps.{volume_sized}
use Rattle.vv_flat.proofs.Verdicts.{passed_state, not_refused}
use Rattle.vv_laws.proofs.WellFormed.{shape_rules}
use Rattle.vv_calls.specs.Formed as call
use Rattle.vv_record.specs.declared.record.ChunkRange.{ChunkRange}
use Rattle.vv_record.specs.declared.record.Event.{Event}
use Rattle.vv_record.specs.declared.record.Event.TheVariants as event
use Rattle.vv_record.specs.Reading.{is_within}
use Rattle.vv_record.specs.Spelling.{is_spellable_event, are_endpoints, is_range, is_size}
use Rattle.vv_record.specs.Spelling as spelling
use Rattle.vv_event.specs.Events.{change_of}
use Rattle.vv_area.specs.Spelling.{as_endpoints}
use Rattle.vv_area.proofs.Texts.{offers_fine, needs_fine, endpoints_fine}
use Rattle.vv_tables.proofs.AcceptedWrites.{something}
use Rattle.vv_core.specs.FormedChanges.{IsHostNumber, AreEndpointNumbers, IsFormedChange}
use Rattle.vv_core.specs.TypedEvents.{is_typed_offer, is_typed_need, is_typed_endpoint, is_typed}

pub record HasEventForms (e : Event) : Type 0 where
  pub forms : change_has_forms (change_of e) ≡ true
  pub spellable : is_spellable_event e ≡ true

-- ---- lists

same_texts : (texts : List (List ℕ)) → call.texts_differ texts ≡ texts_differ texts
same_texts [] = refl
same_texts (text ∷ texts) = ap (λ b. not (list_any (bytes_eq text) texts) && b) (same_texts texts)

same_numbers : (numbers : List ℕ) → call.numbers_differ numbers ≡ all_different numbers
same_numbers [] = refl
same_numbers (number ∷ numbers) = ap (λ b. not (list_any (λ n. n == number) numbers) && b) (same_numbers numbers)

offers_have : (offers : List Offer) → call.AreOffers offers → list_all is_typed_offer offers ≡ true → form.are_offers offers ≡ true
offers_have offers h typed = and_from _ _ typed (sym (same_texts (map (λ (o : Offer). o.name) offers)) ∙ h.differ)

needs_have : (needs : List Need) → call.AreNeeds needs → list_all is_typed_need needs ≡ true → form.are_needs needs ≡ true
needs_have needs h typed = and_from _ _ typed (sym (same_texts (map (λ (n : Need). n.name) needs)) ∙ h.differ)

not_none : (b : Bool) → not b ≡ true → b ≡ false
not_none true e = cc
not_none false e = refl

at_least_one : (n : ℕ) → (n == 0) ≡ false → nat_le 1 n ≡ true
at_least_one n e = let apart : n ≡ 0 → ⊥ = eqb-false n 0 e in le-leb 1 n (omega (arith, apart))

each_endpoint : (es : List EndpointId) → list_all is_typed_endpoint es ≡ true → list_any (λ n. n == 0) (map (λ (e : EndpointId). e.0) es) ≡ false
    → list_all (λ e. is_number 16 e && nat_le 1 e) (map (λ (e : EndpointId). e.0) es) ≡ true
each_endpoint [] h k = refl
each_endpoint (e ∷ es) h k =
    let typed = and_parts (is_number 16 e.0) (list_all is_typed_endpoint es) h in
    let apart = or_parts (e.0 == 0) (list_any (λ n. n == 0) (map (λ (e : EndpointId). e.0) es)) k in
    and_from _ _ (and_from _ _ typed.0 (at_least_one e.0 apart.0)) (each_endpoint es typed.1 apart.1)

endpoints_have : (es : List EndpointId) → AreEndpointNumbers (map (λ (e : EndpointId). e.0) es) → list_all is_typed_endpoint es ≡ true
    → form.are_endpoints (map (λ (e : EndpointId). e.0) es) ≡ true
endpoints_have es h typed =
    and_from _ _ (each_endpoint es typed (not_none _ h.none_is_0)) (sym (same_numbers (map (λ (e : EndpointId). e.0) es)) ∙ h.differ)

as_they_are : (es : List EndpointId) → as_endpoints (map (λ (e : EndpointId). e.0) es) ≡ es
as_they_are [] = refl
as_they_are (e ∷ es) = ap (λ (rest : List EndpointId). e ∷ rest) (as_they_are es)

host_number : (host : ℕ) → IsHostNumber host → is_within 1 64 host ≡ true
host_number host h = and_from _ _ (le-leb 1 host (h.0)) (le-leb host 64 (h.1))

-- ---- sizes

unnegated : (b : Bool) → not b ≡ false → b ≡ true
unnegated true e = refl
unnegated false e = cc

size_of_volume : (B chunks : ℕ) → is_volume_size B chunks ≡ true → is_size chunks ≡ true
size_of_volume B chunks h = (and_parts _ _ h).0

new_size : (d : Durable ℕ) (k chunks : ℕ) (vtype : _) (needs : List Need) → judge None d (MakeVolume k vtype chunks needs) ≡ Accept → is_size chunks ≡ true
unfolding state_checks
new_size d k chunks vtype needs e =
    size_of_volume d.geometry.chunk_blocks chunks
    (unnegated (is_volume_size d.geometry.chunk_blocks chunks)
    (not_refused (not (is_volume_size d.geometry.chunk_blocks chunks)) (InvalidArgument in_size) (passed_state None d (MakeVolume k vtype chunks needs) e 1)))

grown_size : (d : Durable ℕ) (n chunks : ℕ) → judge None d (GrowVolume n chunks) ≡ Accept → is_size chunks ≡ true
unfolding state_checks
grown_size d n chunks e =
    size_of_volume d.geometry.chunk_blocks chunks
    (unnegated (is_volume_size d.geometry.chunk_blocks chunks)
    ((or_parts (not (is_volume_size d.geometry.chunk_blocks chunks)) (nat_lt chunks (size_of d n))
    (not_refused (not (is_volume_size d.geometry.chunk_blocks chunks) || nat_lt chunks (size_of d n)) (InvalidArgument in_size) (passed_state None d (GrowVolume n chunks) e 1))).0))

-- ---- ranges

few_chunks : (d : Durable ℕ) → Kept d → (n : ℕ) → size_of d n ≤ 1048576
few_chunks d rules n = go (volume_of d n) refl
  where
    go : (o : Option (Volume ℕ)) → volume_of d n ≡ o → length (if_found o (λ (v : Volume ℕ). v.chunks) []) ≤ 1048576
    go None is = omega arith
    go (Some v) is =
        let size : is_volume_size d.geometry.chunk_blocks (length v.chunks) ≡ true = volume_sized d rules n v is in
        leb-true (length v.chunks) 1048576 ((and_parts _ _ ((and_parts _ _ size).0)).1)

abbrev pairs : List ChunkRange → List (ℕ × ℕ)
pairs ranges = map (λ (r : ChunkRange). (r.first_chunk, r.chunks)) ranges

each_range : (size : ℕ) → size ≤ 1048576 → (ranges : List ChunkRange) → list_any (λ (r : ℕ × ℕ). nat_lt size (r.0 + r.1)) (pairs ranges) ≡ false
    → list_all (λ (r : ℕ × ℕ). not (r.1 == 0)) (pairs ranges) ≡ true → list_all is_range ranges ≡ true
each_range size few [] inside some = refl
each_range size few (r ∷ rs) inside some =
    let within = or_parts (nat_lt size (r.first_chunk + r.chunks)) (list_any (λ (r : ℕ × ℕ). nat_lt size (r.0 + r.1)) (pairs rs)) inside in
    let filled = and_parts (not (r.chunks == 0)) (list_all (λ (r : ℕ × ℕ). not (r.1 == 0)) (pairs rs)) some in
    let ends : r.first_chunk + r.chunks ≤ size = ltb-false size (r.first_chunk + r.chunks) within.0 in
    let one : nat_le 1 r.chunks ≡ true = at_least_one r.chunks (not_none (r.chunks == 0) filled.0) in
    and_from _ _
    (and_from _ _ (lt-ltb r.first_chunk (256 ^ 4) (omega (arith, ends, few))) (and_from _ _ one (le-leb r.chunks (2 ^ 32 - 1) (omega (arith, ends, few)))))
    (each_range size few rs within.1 filled.1)

none_unmapped : (i : ℕ) (stamps : List ℕ) → any_from (λ i s. is_in_ranges [] i && not (s == 0)) i stamps ≡ false
none_unmapped i [] = refl
none_unmapped i (s ∷ stamps) = none_unmapped (i + 1) stamps

some_range : (stamps : List ℕ) (ranges : List ChunkRange) → not (unmaps_any (pairs ranges) stamps) ≡ false → nat_le 1 (length ranges) ≡ true
some_range stamps [] e = let never : unmaps_any [] stamps ≡ false = none_unmapped 0 stamps in absurd (cc)
some_range stamps (r ∷ rs) e = le-leb 1 (length (r ∷ rs)) (omega arith)

unmap_ranges : (d : Durable ℕ) → Kept d → (n : ℕ) (ranges : List ChunkRange) → judge None d (Unmap n (pairs ranges)) ≡ Accept
    → (nat_le (length (pairs ranges)) 64 && list_all (λ (r : ℕ × ℕ). not (r.1 == 0)) (pairs ranges)) ≡ true → spelling.are_ranges ranges ≡ true
unfolding state_checks changes_nothing
unmap_ranges d rules n ranges e fit =
    let both = and_parts (nat_le (length (pairs ranges)) 64) (list_all (λ (r : ℕ × ℕ). not (r.1 == 0)) (pairs ranges)) fit in
    let same : length (pairs ranges) ≡ length ranges = length-map ranges (λ (r : ChunkRange). (r.first_chunk, r.chunks)) in
    let inside : list_any (λ (r : ℕ × ℕ). nat_lt (size_of d n) (r.0 + r.1)) (pairs ranges) ≡ false =
    not_refused (list_any (λ (r : ℕ × ℕ). nat_lt (size_of d n) (r.0 + r.1)) (pairs ranges)) OutOfRange (passed_state None d (Unmap n (pairs ranges)) e 1) in
    and_from _ _ (and_from _ _ (some_range (stamps_of d n) ranges (something d (Unmap n (pairs ranges)) e)) (ap (λ k. nat_le k 64) (sym same) ∙ both.0))
    (each_range (size_of d n) (few_chunks d rules n) ranges inside both.1)

note_has : (note : Option (List ℕ)) → is_optional_note note ≡ true → spelling.is_optional_note note ≡ true
note_has None h = refl
note_has (Some note) h = h

-- ---- all together
pub event_forms : (d : Durable Entry) (e : Event) → is_well_formed d ≡ true → is_typed e ≡ true → IsFormedChange (change_of e) → judge None (shape_of_tables d) (change_of e) ≡ Accept
    → HasEventForms e
unfolding change_of change_has_forms
event_forms d (event.MakeContainer quota offers) well typed h ok =
    let few : length offers ≤ 16 = (h.1).few in
    let have : form.are_offers offers ≡ true = offers_have offers (h.1) typed in
    let small : is_number 32 quota ≡ true = lt-ltb quota (2 ^ 32) (h.0) in
    record { forms = and_from _ _ (and_from _ _ small (le-leb (length offers) 16 few)) have; spellable = and_from _ _ small (offers_fine offers few have) }
event_forms d (event.MakeVolume container vtype chunks needs) well typed h ok =
    let both = and_parts (is_number 64 container.0) (list_all is_typed_need needs) typed in
    let few : length needs ≤ 8 = h.few in
    let have : form.are_needs needs ≡ true = needs_have needs h both.1 in
    record {
      forms = and_from _ _ (le-leb (length needs) 8 few) have;
      spellable = and_from _ _ (and_from _ _ both.0 (new_size (shape_of_tables d) container.0 chunks vtype needs ok)) (needs_fine needs few have);
    }
event_forms d (event.DeleteVolume volume) well typed h ok = record { forms = refl; spellable = typed }
event_forms d (event.GrowVolume volume chunks) well typed h ok = record {
  forms = refl;
  spellable = and_from _ _ typed (grown_size (shape_of_tables d) volume.0 chunks ok);
}
event_forms d (event.SetMetadata volume key note) well typed h ok =
    let both = and_parts (is_number 64 volume.0 && is_key key) (is_optional_note note) typed in
    let named = and_parts (is_number 64 volume.0) (is_key key) both.0 in
    record { forms = and_from _ _ named.1 both.1; spellable = and_from _ _ both.0 (note_has note both.1) }
event_forms d (event.Snapshot volume) well typed h ok = record { forms = refl; spellable = typed }
event_forms d (event.FastClone volume) well typed h ok = record { forms = refl; spellable = typed }
event_forms d (event.Revert volume snapshot) well typed h ok = record { forms = refl; spellable = typed }
event_forms d (event.Write volume first blocks places) well typed h ok = absurd h
event_forms d (event.Unmap volume ranges) well typed h ok = record {
  forms = refl;
  spellable = and_from _ _ typed (unmap_ranges (shape_of_tables d) (kept (shape_of_tables d) (shape_rules d well)) volume.0 ranges ok h);
}
event_forms d (event.SetEndpoints host endpoints) well typed h ok =
    let some : is_within 1 64 host.0 ≡ true = host_number host.0 (h.0) in
    let few : length (map (λ (e : EndpointId). e.0) endpoints) ≤ 8 = (h.1).few in
    let have : form.are_endpoints (map (λ (e : EndpointId). e.0) endpoints) ≡ true = endpoints_have endpoints (h.1) typed in
    record {
      forms = and_from _ _ (and_from _ _ some (le-leb (length (map (λ (e : EndpointId). e.0) endpoints)) 8 few)) have;
      spellable = and_from _ _ some (ap are_endpoints (sym (as_they_are endpoints)) ∙ endpoints_fine (map (λ (e : EndpointId). e.0) endpoints) few have);
    }
event_forms d (event.Bind host volume) well typed h ok = record { forms = host_number host.0 h; spellable = and_from _ _ (host_number host.0 h) typed }
event_forms d (event.Unbind host endpoint secondary) well typed h ok =
    let both = and_parts (is_number 16 endpoint.0) (is_number 16 secondary.0) typed in
    let some : is_within 1 64 host.0 ≡ true = host_number host.0 h in
    record {
      forms = and_from _ _ (and_from _ _ some both.0) both.1;
      spellable = and_from _ _ (and_from _ _ some both.0) both.1;
    }
event_forms d (event.UnbindAll host) well typed h ok = record { forms = host_number host.0 h; spellable = host_number host.0 h }
event_forms d (event.StartClone volume) well typed h ok = record { forms = refl; spellable = typed }
event_forms d (event.StartCopy source base target) well typed h ok = record { forms = refl; spellable = typed }
event_forms d (event.Turn task copies) well typed h ok = absurd h
event_forms d (event.Cancel task) well typed h ok = record { forms = refl; spellable = typed }
