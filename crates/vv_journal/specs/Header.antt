-- The header of an image: its first 4096 bytes, of which the first and the bytes 8 to 31 tell the format, and byte 512
-- tells which half is selected. All numbers are big endian.
use Rattle.std.specs.Prelude.{ℕ, ◌%◌, ◌==◌, ◌&&◌, ◌||◌, Bool, nat_le, List, length, slice_index, Option, None, if◌then◌else◌}
use Rattle.std.specs.Option.{option_map}
use Rattle.vv_units.specs.declared.geometry.Geometry.{Geometry}
use Rattle.vv_fields.specs.Fields.{be_number}
use Rattle.vv_disk.specs.Images.{bytes_at}
use Rattle.vv_data.specs.Layout.{header_bytes}
use Rattle.vv_journal.specs.Geometries.{geometry_of}

-- the number of the n bytes from a place on
abbrev pub number_at : ℕ → ℕ → List ℕ → ℕ
number_at n at image = be_number (bytes_at at n image)

-- The image is long enough for a header, and its first byte, the format's gate, is A5h.
abbrev pub is_formatted : List ℕ → Bool
is_formatted image = nat_le header_bytes (length image) && (slice_index image 0 == 0xA5)

-- the bytes `VVARRAY1` as a number
abbrev pub magic : ℕ
magic = 0x5656415252415931

-- Version 2 has every limit of the map, version 1 no more than 262,144.
abbrev pub is_version : ℕ → ℕ → Bool
is_version version map_chunks = (version == 2) || ((version == 1) && nat_le map_chunks 262144)

-- what a header tells
pub record Header : Type 0 where
  pub geometry : Geometry
  pub version : ℕ

-- The header of an image: None where the image isn't formatted, or where the magic bytes, the version or one of the
-- three sizes is wrong.
unfoldable pub header_of : List ℕ → Option Header
header_of image =
    let version = number_at 4 16 image in
    if is_formatted image && ((number_at 8 8 image == magic) && is_version version (number_at 4 28 image))
    then option_map (λ geometry. record { geometry = geometry; version = version })
    (geometry_of (number_at 4 20 image) (number_at 4 24 image) (number_at 4 28 image))
    else None

-- the half that the selector, byte 512, names: 0 where it is even, 1 where it is odd
abbrev pub half_of : List ℕ → ℕ
half_of image = slice_index image 512 % 2
