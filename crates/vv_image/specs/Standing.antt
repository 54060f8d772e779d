-- Which flat array an image stands for: that of its tables, with the bytes that the image has at their places. Queues and
-- unit attentions are empty, since a restart forgets them.
use Rattle.std.specs.Prelude.{◌≡◌, ℕ, List, Option, Some, None, Ok, Err}
use Rattle.vv_units.specs.declared.geometry.Geometry.{Geometry}
use Rattle.vv_data.specs.Layout.{chunk_at}
use Rattle.vv_flat.specs.State.{Durable, Array, empty_volatile}
use Rattle.vv_flat.specs.Chunks.{Entry, ChunkValue, filled_tables}
use Rattle.vv_image.specs.Opening.{Found, opened}

-- the bytes that an image has at a place of the pool
abbrev pub bytes_at_place : Geometry → List ℕ → ℕ → List ℕ
bytes_at_place geometry image place = chunk_at geometry (record { 0 = place }) image

-- the flat array of tables, with the bytes of an image
abbrev pub array_over : List ℕ → Durable Entry → Array ChunkValue
array_over image tables = record {
  durable = filled_tables (bytes_at_place tables.geometry image) tables;
  volatile = empty_volatile;
}

abbrev pub array_found : List ℕ → Found → Option (Array ChunkValue)
array_found image (Err fault) = None
array_found image (Ok tables) = Some (array_over image tables)

-- the flat array for which an image stands, if it can be opened
unfoldable pub array_in : List ℕ → Option (Array ChunkValue)
unfolding opened
array_in image = array_found image (opened image)

-- an image stands for this array, and for no other
abbrev pub Stands : List ℕ → Array ChunkValue → Type 0
Stands image array = array_in image ≡ Some array
