-- The bytes of one chunk, and images in which some chunks changed: what reading and writing chunk by chunk speak of.
use Rattle.std.specs.Prelude.{ℕ, List, [], length, replicate, Option, unwrap_or, option_map}
use Rattle.vv_units.specs.declared.geometry.Geometry.{Geometry}
use Rattle.vv_units.specs.declared.numbers.Place.{Place}
use Rattle.vv_data.specs.Layout.{chunk_bytes}
use Rattle.vv_flat.specs.Lists.{if_found}
use Rattle.vv_flat.specs.State.{Volume, RunningClone, Durable, volume_of, clone_of}
use Rattle.vv_flat.specs.Chunks.{ChunkValue, Entry}
use Rattle.vv_flat.specs.Parts.{bytes_in}
use Rattle.vv_image.specs.Standing.{bytes_at_place}
use Rattle.vv_array.specs.Chunks.{DiffersAt}

-- the number of a place, if there is one
abbrev pub place_number : Option Place → Option ℕ
place_number place = option_map (λ (p : Place). p.0) place

-- the bytes of a chunk that stands at this place of a content: zeros where it has none
abbrev pub stored : Geometry → List ℕ → Option ℕ → List ℕ
stored geometry content place = unwrap_or (option_map (bytes_at_place geometry content) place) (replicate (chunk_bytes geometry) 0)

-- the bytes of the chunk at an index of a volume
abbrev pub volume_chunk : Durable ChunkValue → ℕ → ℕ → List ℕ
volume_chunk d n index = if_found (volume_of d n) (λ (v : Volume ChunkValue). bytes_in v.chunks index) []

-- .. and of the image of a running clone
abbrev pub image_chunk : Durable ChunkValue → ℕ → ℕ → List ℕ
image_chunk d n index = if_found (clone_of d n) (λ (c : RunningClone ChunkValue). bytes_in c.image index) []

-- how many chunks a volume of tables has, and the image of a running clone
abbrev pub volume_size : Durable Entry → ℕ → ℕ
volume_size d n = if_found (volume_of d n) (λ (v : Volume Entry). length v.chunks) 0

abbrev pub image_size : Durable Entry → ℕ → ℕ
image_size d n = if_found (clone_of d n) (λ (c : RunningClone Entry). length c.image) 0

-- an image from before, which may have changed at the chunks of these places
abbrev pub ChangedAt : Geometry → List ℕ → (List ℕ → Type 0) → List ℕ → Type 0
ChangedAt geometry places images image = (earlier : List ℕ) × images earlier × DiffersAt geometry places earlier image
