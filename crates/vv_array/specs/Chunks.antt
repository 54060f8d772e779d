-- New chunks on a disk: what stands at the places of a change, and what a write of chunks leaves.
use Rattle.std.specs.Prelude.{◌≡◌, ◌<◌, ◌==◌, ℕ, List, map, take, length, false, Option, Some, None, IsSomeAnd}
use Rattle.std.specs.List.{list_any}
use Rattle.vv_units.specs.declared.geometry.Geometry.{Geometry}
use Rattle.vv_data.specs.Layout.{chunks_at}
use Rattle.vv_flat.specs.State.{Durable, Array}
use Rattle.vv_flat.specs.Chunks.{Entry, ChunkValue, filled, placed_entries}
use Rattle.vv_flat.specs.Changes.{Change, new_stamp}
use Rattle.vv_flat.specs.Flat.{flat_after, new_values}
use Rattle.vv_record.specs.declared.record.Event.{Event}
use Rattle.vv_calls.specs.declared.call.Call.{Call}
use Rattle.vv_event.specs.Events.{change_of, places_of}
use Rattle.vv_image.specs.Standing.{bytes_at_place}
use Rattle.vv_core.specs.Core.{applied}

-- An image is another one but for the chunks at these places.
pub record DiffersAt (geometry : Geometry) (places : List ℕ) (old new : List ℕ) : Type 0 where
  pub size : length new ≡ length old
  pub front : take (chunks_at geometry) new ≡ take (chunks_at geometry) old
  pub others : (place : ℕ) → place < geometry.pool_chunks → list_any (λ p. p == place) places ≡ false
      → bytes_at_place geometry new place ≡ bytes_at_place geometry old place

-- .. of what is told of a content
abbrev pub ToldAt : Geometry → List ℕ → Option (List ℕ) → Option (List ℕ) → Type 0
ToldAt geometry places None new = new ≡ None
ToldAt geometry places (Some old) new = IsSomeAnd new (DiffersAt geometry places old)

-- A content has these values at the places of a change, with the stamp that its new chunks get.
abbrev pub HasNew : Durable Entry → Change → List ℕ → List ChunkValue → List ℕ → Type 0
HasNew d change places values content =
    map (filled d.geometry.chunk_blocks (bytes_at_place d.geometry content)) (placed_entries places (new_stamp d change)) ≡ values

-- .. an event's
abbrev pub HasNewOf : Array Entry → Event → Array ChunkValue → List ℕ → List ℕ → Type 0
HasNewOf a e m bytes content = HasNew a.durable (change_of e) (places_of e) (new_values m.durable (change_of e) bytes) content

-- the flat array after a call with its event, which brings these bytes, where these are the tables in memory
abbrev pub flat_applied : Array Entry → Array ChunkValue → Call → Event → List ℕ → Array ChunkValue
flat_applied a m c e bytes = record {
  durable = flat_after m.durable (change_of e) bytes;
  volatile = (applied a c e).volatile;
}
