-- What a caller of the journal wants to know of each call: how the journal stands to the log afterwards, and that the
-- chunks stay. For all crates above.
use Rattle.std.proofs.Common.{◌≡◌, ℕ, ◌+◌, List, Option, None, Some, IsSomeAnd, sym, ap, ◌∙◌, arith}
use Rattle.std.proofs.lemmas.List.{length_push}
use Rattle.vv_units.specs.declared.geometry.Geometry.{Geometry}
use Rattle.vv_units.specs.declared.numbers.Place.{Place}
use Rattle.vv_disk.specs.Images.{ToldWithin}
use Rattle.vv_disk.proofs.Bytes.{bytes_behind}
use Rattle.vv_data.specs.Layout.{chunks_at, place_range, chunk_at}
use Rattle.vv_data.proofs.Places.{place_behind}
use Rattle.vv_journal.specs.Log.{Log, with_record}
use Rattle.vv_journal.specs.Calls.{JournalState, journal_of, HasChunksOf}
use Rattle.vv_journal.specs.Switches.{SwitchingState, other_half, IsSwitchFrom, switched_log}
use Rattle.vv_journal.proofs.Switched.{begun_from}

-- after a record was added
pub appended_continues : (log : Log) (payload : List ℕ) (old new : JournalState) → old ≡ journal_of log → new ≡ record old { records = old.records + 1 } → new ≡ journal_of (with_record log payload)
appended_continues log payload old new continues counted =
    counted
    ∙ ap (λ (j : JournalState). record j { records = j.records + 1 }) continues
    ∙ ap (λ (n : ℕ). record { geometry = log.geometry; half = log.half; records = n }) (sym (length_push log.records payload))

-- while a switch goes on
pub begun_switches : (log : Log) (journal : JournalState) (switching : SwitchingState) (len : ℕ) → journal ≡ journal_of log → switching ≡ record { geometry = journal.geometry; half = other_half journal.half; done = 0; len = len } → IsSwitchFrom log switching
begun_switches log journal switching len continues is = begun_from log journal switching len continues is

-- after it was ended
pub switched_continues : (log : Log) (tables : List ℕ) (switching : SwitchingState) (new : JournalState) → IsSwitchFrom log switching → new ≡ record { geometry = switching.geometry; half = switching.half; records = 0 } → new ≡ journal_of (switched_log log tables)
switched_continues log tables switching new switch is = is ∙ ap (λ (s : SwitchingState). record { geometry = s.geometry; half = s.half; records = 0 }) switch

-- a chunk is that of an image from before
pub chunk_from_before : (geometry : Geometry) (place : Place) (images : List ℕ → Type 0) (image : List ℕ) → HasChunksOf geometry images image → (earlier : List ℕ) × images earlier × (chunk_at geometry place image ≡ chunk_at geometry place earlier)
chunk_from_before geometry place images image has =
    (has.0, has.1, bytes_behind 0 (chunks_at geometry) (place_range geometry place).at (place_range geometry place).len has.0 image (omega (arith, place_behind geometry place)) has.2)

-- and what is read of it stays
pub chunk_still_told : (geometry : Geometry) (place : Place) (old : List ℕ) (told0 told1 : Option (List ℕ)) → told0 ≡ Some old → ToldWithin 0 (chunks_at geometry) told0 told1 → IsSomeAnd told1 (λ new. chunk_at geometry place new ≡ chunk_at geometry place old)
chunk_still_told geometry place old None told1 is within = absurd cc
chunk_still_told geometry place old (Some c) None is within = within
chunk_still_told geometry place old (Some c) (Some d) is within =
    let same : c ≡ old = cc in
    bytes_behind 0 (chunks_at geometry) (place_range geometry place).at (place_range geometry place).len c d (omega (arith, place_behind geometry place)) within ∙ ap (chunk_at geometry place) same
