-- Memory that was taken for changes of tables.
use Rattle.std.specs.Prelude.{ℕ, ◌≡◌, ◌/◌, ◌≤◌, not, count_by, []}
use Rattle.vv_pool.specs.FreshPlaces.{FreshPlaces}
use Rattle.vv_flat.specs.Lists.{numbers_from}
use Rattle.vv_flat.specs.Chunks.{touched_first, touched_count}
use Rattle.vv_vols.specs.Rows.{RoomView, own_in, pages_touched}
use Rattle.vv_tables.specs.Seen.{TablesView}

-- memory for changes in a range of chunks of a volume: for each page that the range touches and that isn't the volume's own
abbrev pub IsChangeRoomOf : TablesView → ℕ → ℕ → ℕ → RoomView → Type 0
IsChangeRoomOf t n first count room =
    count_by (λ k. not (own_in t.pages n k)) (numbers_from (first / 64) (pages_touched first count)) ≤ room.pages

-- memory for a write of so many blocks of a volume, from a block on: for changes of the chunks that it touches
abbrev pub IsWriteRoom : TablesView → ℕ → ℕ → ℕ → RoomView → Type 0
IsWriteRoom t n first blocks room =
    let size = t.durable.geometry.chunk_blocks in
    IsChangeRoomOf t n (touched_first size first) (touched_count size first blocks) room

-- a list without a place, with memory for one
pub record HoldsOne (list : FreshPlaces) : Type 0 where
  pub empty : list.places ≡ []
  pub memory : 1 ≤ list.capacity
