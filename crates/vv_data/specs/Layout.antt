-- The layout of an image, in bytes. It is this project's own: a header, two halves of the same size, and the chunk
-- area, in which each place of the pool has room for one chunk.
use Rattle.std.specs.Prelude.{ℕ, ◌+◌, ◌*◌, List}
use Rattle.vv_units.specs.Sizes.{block_bytes}
use Rattle.vv_units.specs.declared.geometry.Geometry.{Geometry}
use Rattle.vv_units.specs.declared.numbers.Place.{Place}
use Rattle.vv_disk.specs.Images.{bytes_at}

-- the header, with the format's gate and the selector of the half
abbrev pub header_bytes : ℕ
header_bytes = 4096

-- the tables of a half at most, with their length in front
abbrev pub area_bytes : Geometry → ℕ
area_bytes geometry = 16 * geometry.map_chunks + 1048576

-- a half: the area, 256 gates of one byte, and 256 slots of 4096 bytes
abbrev pub half_bytes : Geometry → ℕ
half_bytes geometry = area_bytes geometry + 256 + 1048576

-- where half 0 or half 1 stands
abbrev pub half_at : Geometry → ℕ → ℕ
half_at geometry half = header_bytes + half * half_bytes geometry

abbrev pub chunk_bytes : Geometry → ℕ
chunk_bytes geometry = geometry.chunk_blocks * block_bytes

-- where the chunk area stands
abbrev pub chunks_at : Geometry → ℕ
chunks_at geometry = header_bytes + 2 * half_bytes geometry

-- the length of the whole image
abbrev pub disk_len : Geometry → ℕ
disk_len geometry = chunks_at geometry + geometry.pool_chunks * chunk_bytes geometry

-- so many bytes from a place on
pub record ByteRange : Type 0 where
  pub at : ℕ
  pub len : ℕ

-- where the chunk of a place stands
abbrev pub place_range : Geometry → Place → ByteRange
place_range geometry place = record { at = chunks_at geometry + place.0 * chunk_bytes geometry; len = chunk_bytes geometry }

-- the bytes of a range
abbrev pub bytes_in : ByteRange → List ℕ → List ℕ
bytes_in range image = bytes_at range.at range.len image

-- the chunk that an image holds at a place
abbrev pub chunk_at : Geometry → Place → List ℕ → List ℕ
chunk_at geometry place image = bytes_in (place_range geometry place) image
