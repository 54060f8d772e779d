-- An image holds a log exactly where each part of it is that of the log.
use Rattle.std.proofs.Common.{◌≡◌, ℕ, ◌+◌, ◌≤◌, true, eqb, List, length, Some, refl, ap, ◌∙◌, subst, arith}
use Rattle.std.specs.Option.{option_map}
use Rattle.std.proofs.lemmas.Bool.{and_parts, and_from, leb-true, le-leb, eqb-true, eq-eqb}
use Rattle.std.proofs.lemmas.Option.{cond_some}
use Rattle.vv_disk.specs.Images.{bytes_at}
use Rattle.vv_data.specs.Layout.{area_bytes, disk_len}
use Rattle.vv_journal.specs.Header.{Header, header_of, half_of, number_at}
use Rattle.vv_journal.specs.Half.{Area, area_of, is_area, length_field, length_in, spelling_in, tables_at, payload_at, payload_limit, records_of}
use Rattle.vv_journal.specs.Log.{Log, log_in, log_of}
use Rattle.vv_journal.proofs.Options.{guard_parts, guard_from, and_then_parts, and_then_from, map_parts, map_from}

abbrev pub header_in : Log → Header
header_in log = record { geometry = log.geometry; version = log.version }

abbrev pub area_in : Log → Area
area_in log = record { spelling = log.spelling; tables = log.area }

pub record Parts (log : Log) (image : List ℕ) : Type 0 where
  pub header : header_of image ≡ Some (header_in log)
  pub half : half_of image ≡ log.half
  pub size : length image ≡ disk_len log.geometry
  pub area : area_of (header_in log) log.half image ≡ Some (area_in log)
  pub records : records_of log.geometry log.half image ≡ Some log.records

abbrev made : Header → ℕ → Area → List (List ℕ) → Log
made header half area records = record {
  geometry = header.geometry;
  version = header.version;
  half = half;
  spelling = area.spelling;
  area = area.tables;
  records = records;
}

parts_in : (header : Header) (half : ℕ) (image : List ℕ) (log : Log) → header_of image ≡ Some header → half_of image ≡ half → log_in header half image ≡ Some log → Parts log image
parts_in header half image log h k e =
    let sized = guard_parts (eqb (length image) (disk_len header.geometry)) _ log e in
    let area = and_then_parts (λ (area : Area). option_map (made header half area) (records_of header.geometry half image)) (area_of header half image) log sized.1 in
    let records = map_parts (made header half area.0) (records_of header.geometry half image) log area.2 in
    subst (λ l. Parts l image) records.2 (record { header = h; half = k; size = eqb-true _ _ sized.0; area = area.1; records = records.1 })

pub parts_of : (log : Log) (image : List ℕ) → log_of image ≡ Some log → Parts log image
unfolding log_of
parts_of log image e =
    let header = and_then_parts (λ (header : Header). log_in header (half_of image) image) (header_of image) log e in
    parts_in header.0 (half_of image) image log header.1 refl header.2

log_at : (log : Log) (half : ℕ) (image : List ℕ) → half ≡ log.half → Parts log image → log_in (header_in log) half image ≡ Some log
log_at log half image k parts =
    ap (λ (h : ℕ). log_in (header_in log) h image) k
    ∙ guard_from (eqb (length image) (disk_len log.geometry)) _ log (eq-eqb _ _ parts.size)
    (and_then_from (λ (area : Area). option_map (made (header_in log) log.half area) (records_of log.geometry log.half image)) (area_of (header_in log) log.half image) (area_in log) log parts.area
    (map_from (made (header_in log) log.half (area_in log)) (records_of log.geometry log.half image) log.records parts.records))

pub log_from : (log : Log) (image : List ℕ) → Parts log image → log_of image ≡ Some log
unfolding log_of
log_from log image parts = and_then_from (λ (header : Header). log_in header (half_of image) image) (header_of image) (header_in log) log parts.header (log_at log (half_of image) image parts.half parts)

-- ---- the area

pub record AreaParts (header : Header) (half : ℕ) (image : List ℕ) (area : Area) : Type 0 where
  pub test : is_area header (length_field header.geometry half image) ≡ true
  pub fits : 8 + length_in (length_field header.geometry half image) ≤ area_bytes header.geometry
  pub is : record { spelling = spelling_in (length_field header.geometry half image); tables = tables_at header.geometry half (length_in (length_field header.geometry half image)) image } ≡ area

pub area_parts : (header : Header) (half : ℕ) (image : List ℕ) (area : Area) → area_of header half image ≡ Some area → AreaParts header half image area
area_parts header half image area e =
    let field = length_field header.geometry half image in
    let both = cond_some (is_area header field) (record { spelling = spelling_in field; tables = tables_at header.geometry half (length_in field) image }) area e in
    record { test = both.0; fits = leb-true _ _ (and_parts _ _ both.0).0; is = both.1 }

-- an area of the same field and bytes
pub area_from : (header : Header) (half field : ℕ) (tables image : List ℕ) → length_field header.geometry half image ≡ field → is_area header field ≡ true → tables_at header.geometry half (length_in field) image ≡ tables → area_of header half image ≡ Some (record { spelling = spelling_in field; tables = tables })
area_from header half field tables image is test bytes =
    let field_then : (f : ℕ) → f ≡ field → is_area header f ≡ true = λ f same. ap (is_area header) same ∙ test in
    guard_from (is_area header (length_field header.geometry half image)) _ _ (field_then _ is)
    (ap (λ (f : ℕ). Some (record { spelling = spelling_in f; tables = tables_at header.geometry half (length_in f) image })) is
    ∙ ap (λ (t : List ℕ). Some (record { spelling = spelling_in field; tables = t })) bytes)

-- ---- a payload

pub record PayloadParts (at : ℕ) (image payload : List ℕ) : Type 0 where
  pub fits : number_at 4 at image ≤ payload_limit
  pub zeros : number_at 4 (at + 4) image ≡ 0
  pub is : bytes_at (at + 8) (number_at 4 at image) image ≡ payload

pub payload_parts : (at : ℕ) (image payload : List ℕ) → payload_at at image ≡ Some payload → PayloadParts at image payload
payload_parts at image payload e =
    let both = cond_some _ (bytes_at (at + 8) (number_at 4 at image) image) payload e in
    let tests = and_parts _ _ both.0 in
    record { fits = leb-true _ _ tests.0; zeros = eqb-true _ _ tests.1; is = both.1 }

pub payload_from : (at n : ℕ) (image payload : List ℕ) → number_at 4 at image ≡ n → n ≤ payload_limit → number_at 4 (at + 4) image ≡ 0 → bytes_at (at + 8) n image ≡ payload → payload_at at image ≡ Some payload
payload_from at n image payload is le zeros bytes =
    guard_from _ _ payload (and_from _ _ (le-leb _ _ (omega (arith, is, le))) (eq-eqb _ _ zeros))
    (ap (λ (k : ℕ). Some (bytes_at (at + 8) k image)) is ∙ ap (λ (p : List ℕ). Some p) bytes)
