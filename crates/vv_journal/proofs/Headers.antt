-- Headers: numbers inside the limits are sizes, and an image with the right fields has a header.
use Rattle.std.proofs.Common.{◌≡◌, ℕ, Bool, true, false, List, Some, refl, ap, ◌∙◌}
use Rattle.std.proofs.Props.{props}
use Rattle.std.proofs.lemmas.Bool.{and_from, le-leb, eq-eqb}
use Rattle.vv_units.specs.Sizes.{IsGeometry}
use Rattle.vv_units.specs.declared.geometry.Geometry.{Geometry}
use Rattle.vv_journal.specs.Geometries.{is_geometry, limits_of, sizes, sizes_if, geometry_of}
use Rattle.vv_journal.specs.Header.{header_of, is_formatted, is_version, magic, number_at}
use Rattle.vv_journal.proofs.Options.{guard_from, map_from}

inside : (g : Geometry) → IsGeometry g.chunk_blocks g.pool_chunks g.map_chunks
inside g = record {
  chunk_size = g.chunk_size;
  some_chunks = g.some_chunks;
  few_chunks = g.few_chunks;
  small_pool = g.small_pool;
  map_from = g.map_from;
  map_to = g.map_to;
}

-- what is inside the limits passes the test
pub is_geometry_from : (b c p : ℕ) → IsGeometry b c p → is_geometry b c p ≡ true
is_geometry_from b c p is =
    and_from _ _ is.chunk_size (and_from _ _ (le-leb _ _ is.some_chunks) (and_from _ _ (le-leb _ _ is.few_chunks) (and_from _ _ (le-leb _ _ is.small_pool)
    (and_from _ _ (le-leb _ _ is.map_from) (le-leb _ _ is.map_to)))))

one_proof : (b c p : ℕ) → IsProp (IsGeometry b c p)
one_proof b c p = hlevel props

same_sizes : (g : Geometry) (is : IsGeometry g.chunk_blocks g.pool_chunks g.map_chunks) → sizes g.chunk_blocks g.pool_chunks g.map_chunks is ≡ g
unfolding inside
same_sizes g is = ap (sizes g.chunk_blocks g.pool_chunks g.map_chunks) (one_proof g.chunk_blocks g.pool_chunks g.map_chunks is (inside g))

again_if : (g : Geometry) (test : Bool) (e : is_geometry g.chunk_blocks g.pool_chunks g.map_chunks ≡ test) → test ≡ true → sizes_if g.chunk_blocks g.pool_chunks g.map_chunks test e ≡ Some g
again_if g true e t = ap (λ (s : Geometry). Some s) (same_sizes g (limits_of g.chunk_blocks g.pool_chunks g.map_chunks e))
again_if g false e t = absurd cc

-- the three numbers of sizes give them again
pub geometry_again : (g : Geometry) → geometry_of g.chunk_blocks g.pool_chunks g.map_chunks ≡ Some g
unfolding geometry_of
geometry_again g = again_if g (is_geometry g.chunk_blocks g.pool_chunks g.map_chunks) refl (is_geometry_from _ _ _ (inside g))

pub geometry_from : (b c p : ℕ) (g : Geometry) → b ≡ g.chunk_blocks → c ≡ g.pool_chunks → p ≡ g.map_chunks → geometry_of b c p ≡ Some g
geometry_from b c p g same_b same_c same_p = rw (same_b, same_c, same_p) (geometry_again g)

-- the header of an image with these fields
pub header_from : (image : List ℕ) (g : Geometry) (version : ℕ) → is_formatted image ≡ true → number_at 8 8 image ≡ magic → number_at 4 16 image ≡ version → is_version version g.map_chunks ≡ true
    → number_at 4 20 image ≡ g.chunk_blocks → number_at 4 24 image ≡ g.pool_chunks → number_at 4 28 image ≡ g.map_chunks
    → header_of image ≡ Some (record { geometry = g; version = version })
unfolding header_of
header_from image g version formatted words is known blocks pool map =
    guard_from _ _ _ (and_from _ _ formatted (and_from _ _ (eq-eqb _ _ words) (rw (is, map) known)))
    (map_from (λ (geometry : Geometry). record { geometry = geometry; version = number_at 4 16 image }) (geometry_of (number_at 4 20 image) (number_at 4 24 image) (number_at 4 28 image)) g (geometry_from _ _ _ g blocks pool map)
    ∙ ap (λ (v : ℕ). Some (record { geometry = g; version = v })) is)
