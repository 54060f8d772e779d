-- Where the chunks of places stand: inside the disk, behind the halves, and apart from one another. For all crates
-- above chunks.
use Rattle.std.proofs.Common.{◌≡◌, ◌≢◌, ◌⊎◌, inl, inr, ℕ, ◌+◌, ◌*◌, ◌<◌, ◌≤◌, List, Option, None, Some, IfSome, length, take, drop, ap, ◌∙◌, sym, arith}
use Rattle.std.proofs.Math.Nat.{mul-le-mul_right}
use Rattle.std.proofs.lemmas.Bool.{cases_lt}
use Rattle.std.proofs.lemmas.List.{drop-take, take-take, drop-drop}
use Rattle.vv_units.specs.declared.geometry.Geometry.{Geometry}
use Rattle.vv_units.specs.declared.numbers.Place.{Place}
use Rattle.vv_disk.specs.Images.{bytes_at, overwritten, DiffersWithin}
use Rattle.vv_disk.proofs.Bytes.{bytes_apart, bytes_before, bytes_at-overwritten}
use Rattle.vv_data.specs.Layout.{chunk_bytes, chunks_at, disk_len, place_range, chunk_at}

-- a lower place stands before a higher one
below : (size p q : ℕ) → p < q → p * size + size ≤ q * size
below size p q lt =
    let le : p + 1 ≤ q = omega arith in
    omega (arith, mul-le-mul_right size le)

-- the chunk of a place of the pool stands inside the disk
pub place_fits : (geometry : Geometry) (place : Place) → place.0 < geometry.pool_chunks → (place_range geometry place).at + (place_range geometry place).len ≤ disk_len geometry
place_fits geometry place lt = omega (arith, below (chunk_bytes geometry) place.0 geometry.pool_chunks lt)

-- and behind the halves
pub place_behind : (geometry : Geometry) (place : Place) → chunks_at geometry ≤ (place_range geometry place).at
place_behind geometry place = omega arith

-- the chunks of two places don't overlap
pub places_apart : (geometry : Geometry) (p q : Place) → p.0 ≢ q.0 → ((place_range geometry p).at + (place_range geometry p).len ≤ (place_range geometry q).at) ⊎ ((place_range geometry q).at + (place_range geometry q).len ≤ (place_range geometry p).at)
places_apart geometry p q ne = by (cases_lt p.0 q.0)
  where
    by : (p.0 < q.0) ⊎ (q.0 ≤ p.0) → ((place_range geometry p).at + (place_range geometry p).len ≤ (place_range geometry q).at) ⊎ ((place_range geometry q).at + (place_range geometry q).len ≤ (place_range geometry p).at)
    by (inl lt) = inl (omega (arith, below (chunk_bytes geometry) p.0 q.0 lt))
    by (inr le) = inr (omega (arith, below (chunk_bytes geometry) q.0 p.0 (omega (arith, ne, le))))

-- what changes within the chunk of one place leaves that of another
pub chunk_kept : (geometry : Geometry) (written other : Place) (old new : List ℕ) → other.0 ≢ written.0 → DiffersWithin (place_range geometry written).at (place_range geometry written).len old new → chunk_at geometry other new ≡ chunk_at geometry other old
chunk_kept geometry written other old new ne is =
    bytes_apart (place_range geometry written).at (place_range geometry written).len (place_range geometry other).at (place_range geometry other).len old new (places_apart geometry other written ne) is

-- and what stands before the chunk area
pub front_kept : (geometry : Geometry) (written : Place) (at n : ℕ) (old new : List ℕ) → at + n ≤ chunks_at geometry → DiffersWithin (place_range geometry written).at (place_range geometry written).len old new → bytes_at at n new ≡ bytes_at at n old
front_kept geometry written at n old new le is =
    bytes_before (place_range geometry written).at (place_range geometry written).len at n old new (omega (arith, le)) is

-- the chunk that was written stands there
pub chunk_written : (geometry : Geometry) (place : Place) (disk bytes : List ℕ) → length disk ≡ disk_len geometry → place.0 < geometry.pool_chunks → length bytes ≡ chunk_bytes geometry → chunk_at geometry place (overwritten disk (place_range geometry place).at bytes) ≡ bytes
chunk_written geometry place disk bytes size lt len =
    ap (λ (n : ℕ). bytes_at (place_range geometry place).at n (overwritten disk (place_range geometry place).at bytes)) (sym len)
    ∙ bytes_at-overwritten disk (place_range geometry place).at bytes (omega (arith, size, len, place_fits geometry place lt))

-- a part of a range is read at once
pub part_of : (from at n len : ℕ) (disk : List ℕ) → at + n ≤ len → bytes_at (from + at) n disk ≡ bytes_at at n (bytes_at from len disk)
part_of from at n len disk le =
    ap (λ (l : List ℕ). take n l) (sym (drop-drop at from disk))
    ∙ sym (drop-take at n (drop from disk))
    ∙ ap (λ (l : List ℕ). drop at l) (sym (take-take (at + n) len (drop from disk) le))
    ∙ drop-take at n (take len (drop from disk))

-- the same of a content that may be told
pub told_part : (told : Option (List ℕ)) (got : List ℕ) (start from at n len : ℕ) → start ≡ from + at → at + n ≤ len → IfSome told (λ c. got ≡ bytes_at start n c) → IfSome told (λ c. got ≡ bytes_at at n (bytes_at from len c))
told_part None got start from at n len is le gives = gives
told_part (Some c) got start from at n len is le gives = gives ∙ ap (λ (k : ℕ). bytes_at k n c) is ∙ part_of from at n len c le
