-- What a record of the journal does to tables: its change with the places of its new chunks, in rising order of their
-- indexes. It fits where a call could have given it. This is this project's own.
use Rattle.std.specs.Prelude.{ℕ, ◌==◌, ◌&&◌, Bool, true, false, List, length, None, nat_lt}
use Rattle.std.specs.List.{list_all}
use Rattle.vv_flat.specs.Lists.{all_different}
use Rattle.vv_flat.specs.State.{Durable, all_pieces}
use Rattle.vv_flat.specs.Chunks.{Entry, shape_of_tables, unmapped_entry, placed_entries}
use Rattle.vv_flat.specs.Sharing.{place_count}
use Rattle.vv_flat.specs.Refusals.{Verdict, Refuse, Nothing, Accept}
use Rattle.vv_flat.specs.Changes.{Change, judge, apply, changed_indexes, new_stamp}

abbrev pub is_accepted : Verdict → Bool
is_accepted (Refuse r) = false
is_accepted Nothing = false
is_accepted Accept = true

-- a place that a new chunk may take: one of the pool that no entry names
abbrev pub is_fresh : Durable Entry → ℕ → Bool
is_fresh tables p = nat_lt p tables.geometry.pool_chunks && (place_count (all_pieces tables) p == 0)

-- A change with these places fits tables: it is accepted, a profile counting as one that complies, and there is one
-- fresh place for each chunk that gets a new value, no place twice.
unfoldable pub fits : Durable Entry → Change → List ℕ → Bool
fits tables change places =
    is_accepted (judge None (shape_of_tables tables) change)
    && (length places == length (changed_indexes (λ (e : Entry). e.stamp) tables change))
    && all_different places && list_all (is_fresh tables) places

-- the tables after it
unfoldable pub replayed : Durable Entry → Change → List ℕ → Durable Entry
replayed tables change places =
    apply (λ (e : Entry). e.stamp) (placed_entries places (new_stamp tables change)) unmapped_entry tables change
