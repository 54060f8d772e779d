-- When the event of a record fits, in the parts in which it is told, and what a record makes of tables that are given to it.
use Rattle.std.specs.Prelude.{◌≡◌, ◌==◌, ◌&&◌, ℕ, Bool, List, length, IsTrue, IsFalse, Result, Ok, Err, ⊤}
use Rattle.std.specs.List.{list_all}
use Rattle.vv_units.specs.declared.failure.NoMemory.{NoMemory}
use Rattle.vv_flat.specs.Lists.{all_different}
use Rattle.vv_flat.specs.State.{Durable}
use Rattle.vv_flat.specs.Chunks.{Entry}
use Rattle.vv_flat.specs.Changes.{Change, changed_indexes}
use Rattle.vv_flat.specs.Replay.{is_fresh}
use Rattle.vv_flat.specs.Logs.{LogRecord, record_fits, after_record, has_turn_indexes}
use Rattle.vv_record.specs.declared.record.Event.{Event}
use Rattle.vv_event.specs.Events.{change_of, places_of, indexes_of}
use Rattle.vv_core.specs.declared.replay.Replayed.{Replayed}
use Rattle.vv_core.specs.declared.replay.Replayed.TheVariants as replayed

-- so many places, all different, each of which a new chunk may take
abbrev pub are_so_many : Durable Entry → ℕ → List ℕ → Bool
are_so_many d count places = (length places == count) && all_different places && list_all (is_fresh d) places

-- one for each chunk to which a change gives a new value
abbrev pub are_its_places : Durable Entry → Change → List ℕ → Bool
are_its_places d change places = are_so_many d (length (changed_indexes (λ (e : Entry). e.stamp) d change)) places

-- what an accepted event needs besides
unfoldable pub has_its_places : Durable Entry → Event → Bool
has_its_places d e =
    are_its_places d (change_of e) (places_of e) && has_turn_indexes d (change_of e) (indexes_of e)

-- A record was replayed: it fits, and the tables are those after it; or it doesn't fit. Where there was no memory nothing is
-- said of the tables.
abbrev pub IsReplayed : Result Replayed NoMemory → Durable Entry → Durable Entry → LogRecord → Type 0
IsReplayed (Ok replayed.Applied) old new r = IsTrue (record_fits old r) × (new ≡ after_record old r)
IsReplayed (Ok replayed.Misfit) old new r = IsFalse (record_fits old r)
IsReplayed (Err none) old new r = ⊤
