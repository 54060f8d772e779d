-- The log that an image holds: the tables of the selected half, and the records behind them. And what a well-kept
-- image is.
use Rattle.std.specs.Prelude.{◌≡◌, ℕ, ◌==◌, List, [], ◌∷◌, ◌++◌, length, Option, Some, None, option_and_then, if◌then◌else◌}
use Rattle.std.specs.Option.{option_map}
use Rattle.vv_units.specs.declared.geometry.Geometry.{Geometry}
use Rattle.vv_data.specs.Layout.{disk_len}
use Rattle.vv_journal.specs.Header.{Header, header_of, half_of}
use Rattle.vv_journal.specs.Half.{area_of, gates_of, IsShutBehind, records_of}

pub record Log : Type 0 where
  pub geometry : Geometry
  -- 1 or 2
  pub version : ℕ
  -- 0 or 1
  pub half : ℕ
  -- 1 or 2
  pub spelling : ℕ
  -- the bytes of the tables
  pub area : List ℕ
  -- the payloads, the oldest first
  pub records : List (List ℕ)

-- the log of a half under a header
abbrev pub log_in : Header → ℕ → List ℕ → Option Log
log_in header half image =
    if length image == disk_len header.geometry
    then option_and_then
    (λ area. option_map
    (λ records. record {
      geometry = header.geometry;
      version = header.version;
      half = half;
      spelling = area.spelling;
      area = area.tables;
      records = records;
    })
    (records_of header.geometry half image))
    (area_of header half image)
    else None

-- The log of an image: None where it isn't formatted, a field of the header is wrong, its length is another than the
-- header says, the area is one that can't be, or a slot before the first gate that is not open has no payload.
unfoldable pub log_of : List ℕ → Option Log
log_of image = option_and_then (λ header. log_in header (half_of image) image) (header_of image)

-- The selected half has no open gate behind its first gate that is not open. Only then does a gate that is opened add
-- one record and no more.
abbrev pub IsWellKept : Log → List ℕ → Type 0
IsWellKept log image = IsShutBehind (gates_of log.geometry log.half image)

-- the image holds this log, and is well kept
pub record Holds (log : Log) (image : List ℕ) : Type 0 where
  pub is : log_of image ≡ Some log
  pub kept : IsWellKept log image

-- the log with one record more
abbrev pub with_record : Log → List ℕ → Log
with_record log payload = record log { records = log.records ++ payload ∷ [] }

-- the log of a fresh image
abbrev pub fresh_log : Geometry → List ℕ → Log
fresh_log geometry tables = record { geometry = geometry; version = 2; half = 0; spelling = 2; area = tables; records = [] }
