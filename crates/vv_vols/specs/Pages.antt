-- The chunks of a volume by pages.
use Rattle.std.specs.Prelude.{ℕ, ◌*◌, List, take, drop}
use Rattle.vv_flat.specs.Chunks.{Entry}
use Rattle.vv_vols.specs.Shelf.{ShelfState, chunks_in}

-- the entries of the k-th 64 chunks of a volume, or of as many as there are
abbrev pub page_in : ShelfState → ℕ → ℕ → List Entry
page_in s n k = take 64 (drop (64 * k) (chunks_in s n))
