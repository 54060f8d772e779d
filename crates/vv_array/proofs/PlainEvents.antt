-- What events say of new chunks: those of a write, those of a turn, and that no other event has any. It serves `put_chunks`.
use Rattle.std.proofs.Common.{◌≡◌, ◌≢◌, ℕ, ◌*◌, true, false, List, [], map, length, Option, Some, Result, Ok, Err, OnOk, refl, sym, ap, ◌∙◌}
use Rattle.std.proofs.lemmas.Bool.{and_parts, eqb-true}
use Rattle.std.proofs.lemmas.List.{length-map}
use Rattle.vv_units.specs.declared.numbers.Place.{Place}
use Rattle.vv_units.specs.declared.numbers.VolumeId.{VolumeId}
use Rattle.vv_units.specs.declared.numbers.TaskId.{TaskId}
use Rattle.vv_record.specs.declared.record.ChunkCopy.{ChunkCopy}
use Rattle.vv_record.specs.declared.record.Event.{Event}
use Rattle.vv_record.specs.declared.record.Event.TheVariants.{Write, Turn}
use Rattle.vv_flat.specs.State.{Durable}
use Rattle.vv_flat.specs.Chunks.{Entry, ChunkValue, touched_indexes, filled_tables}
use Rattle.vv_flat.specs.Changes.{changed_indexes}
use Rattle.vv_flat.specs.Changes as change
use Rattle.vv_flat.specs.Flat.{new_values, has_its_bytes}
use Rattle.vv_flat.specs.Replay.{fits}
use Rattle.vv_flat.specs.Logs.{record_fits, has_turn_indexes}
use Rattle.vv_event.specs.Events.{change_of, places_of, indexes_of, log_record}
use Rattle.vv_units.specs.declared.damage.DiskFault.{DiskFault}
use Rattle.vv_image.specs.Standing.{bytes_at_place}
use Rattle.vv_array.specs.Chunks.{HasNew}
use Rattle.vv_array.proofs.MovingTurns.{fit_parts}

pub plain_places : (e : Event) → ((volume : VolumeId) (first blocks : ℕ) (places : List Place) → e ≢ Write volume first blocks places) → ((task : TaskId) (copies : List ChunkCopy) → e ≢ Turn task copies)
    → places_of e ≡ []
unfolding places_of
plain_places (Write volume first blocks places) n m = absurd (n volume first blocks places refl)
plain_places (Turn task copies) n m = absurd (m task copies refl)
plain_places _ n m = refl

pub plain_values : (e : Event) → ((volume : VolumeId) (first blocks : ℕ) (places : List Place) → e ≢ Write volume first blocks places) → ((task : TaskId) (copies : List ChunkCopy) → e ≢ Turn task copies)
    → (d : Durable ChunkValue) (bytes : List ℕ) → new_values d (change_of e) bytes ≡ []
unfolding new_values change_of
plain_values (Write volume first blocks places) n m d bytes = absurd (n volume first blocks places refl)
plain_values (Turn task copies) n m d bytes = absurd (m task copies refl)
plain_values _ n m d bytes = refl

-- the change of a record that fits does so, at the tables as they stand
pub fits_event : (d : Durable Entry) (e : Event) → record_fits d (log_record (record { first_after_open = false; event = e })) ≡ true → fits d (change_of e) (places_of e) ≡ true
unfolding record_fits
fits_event d e h = (and_parts (fits d (change_of e) (places_of e)) (has_turn_indexes d (change_of e) (indexes_of e)) h).0

pub turns_event : (d : Durable Entry) (e : Event) → record_fits d (log_record (record { first_after_open = false; event = e })) ≡ true → has_turn_indexes d (change_of e) (indexes_of e) ≡ true
unfolding record_fits
turns_event d e h = (and_parts (fits d (change_of e) (places_of e)) (has_turn_indexes d (change_of e) (indexes_of e)) h).1

-- ---- a write

pub written_fits : (d : Durable Entry) (e : Event) (volume : VolumeId) (first blocks : ℕ) (places items : List Place) → e ≡ Write volume first blocks places → items ≡ places
    → record_fits d (log_record (record { first_after_open = false; event = e })) ≡ true → fits d (change.Write volume.0 first blocks) (map (λ (p : Place). p.0) items) ≡ true
unfolding change_of places_of
written_fits d e volume first blocks places items is same fit =
    ap (λ (l : List Place). fits d (change.Write volume.0 first blocks) (map (λ (p : Place). p.0) l)) same
    ∙ ap (λ (x : Event). fits d (change_of x) (places_of x)) (sym is)
    ∙ fits_event d e fit

pub written_change : (e : Event) (volume : VolumeId) (first blocks : ℕ) (places : List Place) → e ≡ Write volume first blocks places → change_of e ≡ change.Write volume.0 first blocks
unfolding change_of
written_change e volume first blocks places is = ap change_of is

pub written_places : (e : Event) (volume : VolumeId) (first blocks : ℕ) (places items : List Place) → e ≡ Write volume first blocks places → items ≡ places → places_of e ≡ map (λ (p : Place). p.0) items
unfolding places_of
written_places e volume first blocks places items is same = ap places_of is ∙ ap (λ (l : List Place). map (λ (p : Place). p.0) l) (sym same)

pub written_bytes : (e : Event) (volume : VolumeId) (first blocks : ℕ) (places : List Place) (bytes : List ℕ) → e ≡ Write volume first blocks places → has_its_bytes (change_of e) bytes ≡ true → length bytes ≡ blocks * 512
unfolding change_of
written_bytes e volume first blocks places bytes is has = eqb-true (length bytes) (blocks * 512) (ap (λ (x : Event). has_its_bytes (change_of x) bytes) (sym is) ∙ has)

pub touched_places : (d : Durable Entry) (n first blocks : ℕ) (items : List Place) → fits d (change.Write n first blocks) (map (λ (p : Place). p.0) items) ≡ true → length items ≡ length (touched_indexes d.geometry.chunk_blocks first blocks)
unfolding changed_indexes
touched_places d n first blocks items fit = sym (length-map items (λ (p : Place). p.0)) ∙ (fit_parts d (change.Write n first blocks) (map (λ (p : Place). p.0) items) fit).count

-- ---- a turn

pub turned_fits : (d : Durable Entry) (e : Event) (task : TaskId) (copies items : List ChunkCopy) → e ≡ Turn task copies → items ≡ copies
    → record_fits d (log_record (record { first_after_open = false; event = e })) ≡ true → fits d (change.Turn task.0) (map (λ (c : ChunkCopy). c.place.0) items) ≡ true
unfolding change_of places_of
turned_fits d e task copies items is same fit =
    ap (λ (l : List ChunkCopy). fits d (change.Turn task.0) (map (λ (c : ChunkCopy). c.place.0) l)) same
    ∙ ap (λ (x : Event). fits d (change_of x) (places_of x)) (sym is)
    ∙ fits_event d e fit

pub turned_right : (d : Durable Entry) (e : Event) (task : TaskId) (copies items : List ChunkCopy) → e ≡ Turn task copies → items ≡ copies
    → record_fits d (log_record (record { first_after_open = false; event = e })) ≡ true → has_turn_indexes d (change.Turn task.0) (map (λ (c : ChunkCopy). c.index) items) ≡ true
unfolding change_of indexes_of
turned_right d e task copies items is same fit =
    ap (λ (l : List ChunkCopy). has_turn_indexes d (change.Turn task.0) (map (λ (c : ChunkCopy). c.index) l)) same
    ∙ ap (λ (x : Event). has_turn_indexes d (change_of x) (indexes_of x)) (sym is)
    ∙ turns_event d e fit

pub turned_change : (e : Event) (task : TaskId) (copies : List ChunkCopy) → e ≡ Turn task copies → change_of e ≡ change.Turn task.0
unfolding change_of
turned_change e task copies is = ap change_of is

pub turned_places : (e : Event) (task : TaskId) (copies items : List ChunkCopy) → e ≡ Turn task copies → items ≡ copies → places_of e ≡ map (λ (c : ChunkCopy). c.place.0) items
unfolding places_of
turned_places e task copies items is same = ap places_of is ∙ ap (λ (l : List ChunkCopy). map (λ (c : ChunkCopy). c.place.0) l) (sym same)

-- the bytes that are handed in with a turn don't count
turn_bytes : (x : Durable ChunkValue) (n : ℕ) (bytes : List ℕ) → new_values x (change.Turn n) [] ≡ new_values x (change.Turn n) bytes
unfolding new_values
turn_bytes x n bytes = refl

pub turned_values : {T : Type 0} (r : Result T DiskFault) (told later : Option (List ℕ)) (d : Durable Entry) (n : ℕ) (places bytes : List ℕ)
    → OnOk r ((one two : List ℕ) → told ≡ Some one → later ≡ Some two → HasNew d (change.Turn n) places (new_values (filled_tables (bytes_at_place d.geometry one) d) (change.Turn n) []) two)
    → OnOk r ((one two : List ℕ) → told ≡ Some one → later ≡ Some two → HasNew d (change.Turn n) places (new_values (filled_tables (bytes_at_place d.geometry one) d) (change.Turn n) bytes) two)
turned_values (Ok x) told later d n places bytes new = λ one two e f. new one two e f ∙ turn_bytes (filled_tables (bytes_at_place d.geometry one) d) n bytes
turned_values (Err x) told later d n places bytes new = tt
