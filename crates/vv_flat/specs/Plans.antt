-- The places that a change is planned to take: the lowest that no entry names. This is this project's own.
use Rattle.std.specs.Prelude.{ℕ, List, filter, take, length}
use Rattle.vv_flat.specs.Lists.{numbers_from}
use Rattle.vv_flat.specs.State.{Durable}
use Rattle.vv_flat.specs.Chunks.{Entry}
use Rattle.vv_flat.specs.Changes.{Change, changed_indexes}
use Rattle.vv_flat.specs.Replay.{is_fresh}

-- the places of the pool that no entry of tables names, in rising order
abbrev pub fresh_places : Durable Entry → List ℕ
fresh_places tables = filter (is_fresh tables) (numbers_from 0 tables.geometry.pool_chunks)

-- the lowest of them, one for each chunk that gets a new value
unfoldable pub planned_places : Durable Entry → Change → List ℕ
planned_places tables change =
    take (length (changed_indexes (λ (e : Entry). e.stamp) tables change)) (fresh_places tables)
