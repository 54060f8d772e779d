-- The flat arrays for which images stand. It serves the laws of arrays.
use Rattle.std.proofs.Common.{◌≡◌, ℕ, true, false, List, map, Some, Ok, refl, sym, ap, ◌∙◌}
use Rattle.vv_units.specs.declared.geometry.Geometry.{Geometry}
use Rattle.vv_flat.specs.State.{Durable, Array, all_pieces, empty_volatile}
use Rattle.vv_flat.specs.Chunks.{Entry, ChunkValue, filled, filled_tables, placed_entries, unmapped_entry}
use Rattle.vv_flat.proofs.Filled.{geometry-apply}
use Rattle.vv_flat.specs.Changes.{Change, new_stamp}
use Rattle.vv_flat.specs.NamedPlaces.{is_named}
use Rattle.vv_flat.specs.Flat.{flat_after, new_values}
use Rattle.vv_flat.specs.Replay.{replayed}
use Rattle.vv_flat.specs.Logs.{record_fits, after_record}
use Rattle.vv_laws.proofs.OtherContents.{same_filled, record_with_content}
use Rattle.vv_record.specs.declared.record.Record.{Record}
use Rattle.vv_record.specs.Records.{record_in}
use Rattle.vv_journal.specs.Log.{Log, log_of, with_record}
use Rattle.vv_event.specs.Events.{log_record, change_of, places_of}
use Rattle.vv_image.specs.Opening.{log_tables}
use Rattle.vv_image.specs.Standing.{bytes_at_place, array_over, array_found, array_in}
use Rattle.vv_image.proofs.Slots.{opened_by_log}
use Rattle.vv_image.proofs.Records.{log_more}

pub array_of_log : (log : Log) (image : List ℕ) (tables : Durable Entry) → log_of image ≡ Some log → log_tables log ≡ Ok tables → array_in image ≡ Some (array_over image tables)
unfolding array_in
array_of_log log image tables is stands = ap (array_found image) (opened_by_log log image is ∙ stands)

pub same_arrays : (log : Log) (image other : List ℕ) (tables : Durable Entry) → log_of image ≡ Some log → log_of other ≡ Some log → log_tables log ≡ Ok tables
    → ((place : ℕ) → is_named (all_pieces tables) place ≡ true → bytes_at_place tables.geometry image place ≡ bytes_at_place tables.geometry other place)
    → array_in image ≡ array_in other
same_arrays log image other tables is also stands same =
    array_of_log log image tables is stands
    ∙ ap (λ (d : Durable ChunkValue). Some (let a : Array ChunkValue = record { durable = d; volatile = empty_volatile } in a)) (same_filled (bytes_at_place tables.geometry image) (bytes_at_place tables.geometry other) tables same)
    ∙ sym (array_of_log log other tables also stands)

-- ---- a record and its call

-- a record without the mark is applied to the tables as they stand
unmarked : (tables : Durable Entry) (r : Record) → r.first_after_open ≡ false → after_record tables (log_record r) ≡ replayed tables (change_of r.event) (places_of r.event)
unfolding after_record
unmarked tables r is = rw is refl

geometry_stays : (tables : Durable Entry) (change : Change) (places : List ℕ) → (replayed tables change places).geometry ≡ tables.geometry
unfolding replayed
geometry_stays tables change places = geometry-apply (λ (e : Entry). e.stamp) (placed_entries places (new_stamp tables change)) unmapped_entry tables change

filled_at : (g h : Geometry) (image : List ℕ) (these those : Durable Entry) → g ≡ h → these ≡ those → filled_tables (bytes_at_place g image) these ≡ filled_tables (bytes_at_place h image) those
filled_at g h image these those same_geometry same = rw (same_geometry, same) refl

pub array_of_call : (log : Log) (payload image later bytes : List ℕ) (r : Record) (tables : Durable Entry) → log_tables log ≡ Ok tables → log_of later ≡ Some (with_record log payload)
    → record_in payload ≡ Ok r → r.first_after_open ≡ false → record_fits tables (log_record r) ≡ true
    → ((place : ℕ) → is_named (all_pieces tables) place ≡ true → bytes_at_place tables.geometry later place ≡ bytes_at_place tables.geometry image place)
    → map (filled tables.geometry.chunk_blocks (bytes_at_place tables.geometry later)) (placed_entries (places_of r.event) (new_stamp tables (change_of r.event))) ≡ new_values (array_over image tables).durable (change_of r.event) bytes
    → array_in later ≡ Some (record { durable = flat_after (array_over image tables).durable (change_of r.event) bytes; volatile = empty_volatile })
array_of_call log payload image later bytes r tables stands holds spells mark fits kept new =
    let after : Durable Entry = after_record tables (log_record r) in
    let same : after ≡ replayed tables (change_of r.event) (places_of r.event) = unmarked tables r mark in
    let geometry : after.geometry ≡ tables.geometry = ap (λ (d : Durable Entry). d.geometry) same ∙ geometry_stays tables (change_of r.event) (places_of r.event) in
    let durable = filled_at after.geometry tables.geometry later after (replayed tables (change_of r.event) (places_of r.event)) geometry same
    ∙ record_with_content (bytes_at_place tables.geometry image) (bytes_at_place tables.geometry later) tables (change_of r.event) (places_of r.event) bytes kept new in
    array_of_log (with_record log payload) later after holds (log_more log payload r tables stands spells fits)
    ∙ ap (λ (d : Durable ChunkValue). Some (let a : Array ChunkValue = record { durable = d; volatile = empty_volatile } in a)) durable
