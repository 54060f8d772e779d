-- A record more behind a log, and a log over a new area. It serves the laws of logs.
use Rattle.std.proofs.Common.{◌≡◌, ◌&&◌, ℕ, ◌+◌, true, List, [], ◌∷◌, ◌++◌, Option, None, Some, Ok, Err, refl, ap, ◌∙◌}
use Rattle.std.proofs.lemmas.Bool.{and_parts}
use Rattle.vv_flat.specs.State.{Durable}
use Rattle.vv_flat.specs.Chunks.{Entry}
use Rattle.vv_flat.specs.Form.{is_formed}
use Rattle.vv_flat.specs.Rules.{RuleFault, first_fault, meets_rules}
use Rattle.vv_flat.specs.Fields.{have_forms}
use Rattle.vv_flat.specs.WellFormed.{is_well_formed}
use Rattle.vv_flat.specs.Logs.{record_fits, after_record}
use Rattle.vv_record.specs.declared.record.Record.{Record}
use Rattle.vv_record.specs.Records.{record_in}
use Rattle.vv_area.specs.Spelling.{area_spelling}
use Rattle.vv_area.proofs.AreaLaws.{spelled_is_read}
use Rattle.vv_area.proofs.WellFormed.{has_spelling}
use Rattle.vv_journal.specs.Log.{Log, with_record}
use Rattle.vv_event.specs.Events.{log_record}
use Rattle.vv_image.specs.Opening.{Found, behind, decoded, fitted, applied, payloads, ruled, spelled, area_tables, log_tables}

-- ---- a record more

-- tables that were found
abbrev pub found : Durable Entry → Found
found tables = Ok tables

-- where something was found in the end, it was found before
pub behind_parts : (next : Durable Entry → Found) (x : Found) (t : Durable Entry) → behind next x ≡ Ok t → (before : Durable Entry) × (x ≡ Ok before) × (next before ≡ Ok t)
behind_parts next (Err fault) t e = absurd cc
behind_parts next (Ok before) t e = (before, refl, e)

pub behind_from : (next : Durable Entry → Found) (x : Found) (before t : Durable Entry) → x ≡ Ok before → next before ≡ Ok t → behind next x ≡ Ok t
behind_from next x before t is e = ap (behind next) is ∙ e

-- in whichever slot a record stands, it is applied to the same
fitted_anywhere : (slot : ℕ) (tables : Durable Entry) (r : Record) → record_fits tables (log_record r) ≡ true → fitted slot tables r ≡ Ok (after_record tables (log_record r))
fitted_anywhere slot tables r fits = rw fits refl

pub applied_anywhere : (slot : ℕ) (payload : List ℕ) (r : Record) (tables : Durable Entry) → record_in payload ≡ Ok r → record_fits tables (log_record r) ≡ true → applied slot (Some payload) tables ≡ Ok (after_record tables (log_record r))
unfolding applied
applied_anywhere slot payload r tables is fits = ap (decoded slot tables) is ∙ fitted_anywhere slot tables r fits

one_payload : (slot : ℕ) (payload : List ℕ) (tables after : Durable Entry) → applied slot (Some payload) tables ≡ Ok after → payloads slot (payload ∷ []) tables ≡ Ok after
unfolding payloads
one_payload slot payload tables after is = ap (behind (payloads (slot + 1) [])) is

pub payloads_more : (slot : ℕ) (records : List (List ℕ)) (payload : List ℕ) (tables before after : Durable Entry) → payloads slot records tables ≡ Ok before → ((at : ℕ) → applied at (Some payload) before ≡ Ok after)
    → payloads slot (records ++ payload ∷ []) tables ≡ Ok after
unfolding payloads
payloads_more slot [] payload tables before after is next =
    let same : tables ≡ before = cc in
    one_payload slot payload tables after (ap (applied slot (Some payload)) same ∙ next slot)
payloads_more slot (first ∷ records) payload tables before after is next =
    let parts = behind_parts (payloads (slot + 1) records) (applied slot (Some first) tables) before is in
    behind_from (payloads (slot + 1) (records ++ payload ∷ [])) (applied slot (Some first) tables) parts.0 after parts.1 (payloads_more (slot + 1) records payload parts.0 before after parts.2 next)

pub log_more : (log : Log) (payload : List ℕ) (r : Record) (tables : Durable Entry) → log_tables log ≡ Ok tables → record_in payload ≡ Ok r → record_fits tables (log_record r) ≡ true
    → log_tables (with_record log payload) ≡ Ok (after_record tables (log_record r))
unfolding log_tables
log_more log payload r tables is spells fits =
    let parts = behind_parts (payloads 0 log.records) (area_tables log.geometry log.half log.spelling log.area) tables is in
    behind_from (payloads 0 (log.records ++ payload ∷ [])) (area_tables log.geometry log.half log.spelling log.area) parts.0 (after_record tables (log_record r)) parts.1
    (payloads_more 0 log.records payload parts.0 tables (after_record tables (log_record r)) parts.2 (λ at. applied_anywhere at payload r tables spells fits))

-- ---- a new area

ruled_well : (tables : Durable Entry) (fault : Option RuleFault) → first_fault tables ≡ fault → meets_rules tables ≡ true → ruled tables ≡ Ok tables
ruled_well tables None is meets = rw is refl
ruled_well tables (Some fault) is meets = absurd (cc)

-- What is well-formed, taken apart.
well_parts : (tables : Durable Entry) → is_well_formed tables ≡ true → (is_formed tables ≡ true) × (meets_rules tables ≡ true) × (have_forms tables ≡ true)
unfolding is_well_formed
well_parts tables well =
    let first = and_parts (is_formed tables && meets_rules tables) (have_forms tables) well in
    let both = and_parts (is_formed tables) (meets_rules tables) first.0 in
    (both.0, both.1, first.1)

pub area_of_tables : (half : ℕ) (tables : Durable Entry) → is_well_formed tables ≡ true → area_tables tables.geometry half 2 (area_spelling 2 tables) ≡ Ok tables
unfolding area_tables
area_of_tables half tables well =
    let parts = well_parts tables well in
    ap (spelled half) (spelled_is_read 2 tables (has_spelling tables parts.0 parts.1 parts.2)) ∙ ruled_well tables (first_fault tables) refl parts.1

no_payloads : (tables : Durable Entry) → payloads 0 [] tables ≡ Ok tables
unfolding payloads
no_payloads tables = refl

-- a log over an area of well-formed tables that has no record yet
pub new_log : (log : Log) (tables : Durable Entry) → is_well_formed tables ≡ true → log.geometry ≡ tables.geometry → log.spelling ≡ 2 → log.area ≡ area_spelling 2 tables → log.records ≡ [] → log_tables log ≡ Ok tables
unfolding log_tables
new_log log tables well geometry spelling area records =
    let stands : area_tables log.geometry log.half log.spelling log.area ≡ Ok tables = rw (geometry, spelling, area) (area_of_tables log.half tables well) in
    behind_from (payloads 0 log.records) (area_tables log.geometry log.half log.spelling log.area) tables tables stands (rw records (no_payloads tables))
