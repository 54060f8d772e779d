-- The sizes of an array, made of three numbers: blocks in a chunk, chunks of the pool, and the limit of the map. They
-- are sizes exactly where they are inside the limits of `IsGeometry`.
use Rattle.std.specs.Prelude.{◌≡◌, ℕ, ◌*◌, ◌&&◌, Bool, true, false, nat_le, Option, Some, None, refl}
use Rattle.std.proofs.lemmas.Bool.{and_parts, leb-true}
use Rattle.vv_units.specs.Sizes.{IsGeometry, is_chunk_size}
use Rattle.vv_units.specs.declared.geometry.Geometry.{Geometry}

-- whether three numbers are inside the limits
abbrev pub is_geometry : ℕ → ℕ → ℕ → Bool
is_geometry chunk_blocks pool_chunks map_chunks =
    is_chunk_size chunk_blocks
    && (nat_le 1 pool_chunks && (nat_le pool_chunks 262144 && (nat_le (pool_chunks * chunk_blocks) 8388608
    && (nat_le 64 map_chunks && nat_le map_chunks 1048576))))

-- then they are inside
pub limits_of : (b c p : ℕ) → is_geometry b c p ≡ true → IsGeometry b c p
limits_of b c p e =
    let size = and_parts _ _ e in
    let some = and_parts _ _ size.1 in
    let few = and_parts _ _ some.1 in
    let small = and_parts _ _ few.1 in
    let map = and_parts _ _ small.1 in
    record {
      chunk_size = size.0;
      some_chunks = leb-true _ _ some.0;
      few_chunks = leb-true _ _ few.0;
      small_pool = leb-true _ _ small.0;
      map_from = leb-true _ _ map.0;
      map_to = leb-true _ _ map.1;
    }

-- numbers inside the limits as sizes
abbrev pub sizes : (b c p : ℕ) → IsGeometry b c p → Geometry
sizes b c p inside = record {
  chunk_blocks = b;
  pool_chunks = c;
  map_chunks = p;
  chunk_size = inside.chunk_size;
  some_chunks = inside.some_chunks;
  few_chunks = inside.few_chunks;
  small_pool = inside.small_pool;
  map_from = inside.map_from;
  map_to = inside.map_to;
}

abbrev pub sizes_if : (b c p : ℕ) (test : Bool) → is_geometry b c p ≡ test → Option Geometry
sizes_if b c p true inside = Some (sizes b c p (limits_of b c p inside))
sizes_if b c p false outside = None

-- three numbers as sizes, if they are inside the limits
unfoldable pub geometry_of : ℕ → ℕ → ℕ → Option Geometry
geometry_of chunk_blocks pool_chunks map_chunks = sizes_if chunk_blocks pool_chunks map_chunks (is_geometry chunk_blocks pool_chunks map_chunks) refl
