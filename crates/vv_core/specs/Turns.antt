-- The indexes of a clone's next turn, chunk by chunk of its image.
use Rattle.std.specs.Prelude.{ℕ, ◌-◌, ◌==◌, not, List, [], ◌∷◌, ◌++◌, map, take, drop, length, Option, Some, None, if◌then◌else◌}
use Rattle.vv_flat.specs.Lists.{if_found}
use Rattle.vv_flat.specs.State.{Job, Clone, Copy, Task, RunningClone, Durable, clone_of}
use Rattle.vv_flat.specs.Chunks.{Entry}
use Rattle.vv_flat.specs.Space.{is_running}
use Rattle.vv_flat.specs.Tasks.{turn_limit, turn_indexes}

-- so many that are done, where they are the chunks of a clone
abbrev pub copied_of : Job → ℕ → Option ℕ
copied_of (Clone volume) done = Some done
copied_of (Copy source base target) done = None

-- how many chunks a clone that runs has copied
abbrev pub copied_by : Task → Option ℕ
copied_by t = if is_running t then copied_of t.job t.done else None

-- the stamps of the image of a running clone
abbrev pub image_stamps : Durable Entry → ℕ → List ℕ
image_stamps d n = if_found (clone_of d n) (λ (c : RunningClone Entry). map (λ (e : Entry). e.stamp) c.image) []

-- the next allocated indexes of an image behind the first `copied`, as many as a turn copies
abbrev pub next_indexes : Durable Entry → ℕ → ℕ → List ℕ
next_indexes d n copied = turn_indexes (image_stamps d n) copied

-- an index ahead of others, if its chunk is allocated
abbrev pub with_index : ℕ → ℕ → List ℕ → List ℕ
with_index index stamp rest = if not (stamp == 0) then (index ∷ rest) else rest

-- the indexes of a turn of which some are found, and `ahead` of the rest are to be passed over
abbrev pub next_of : List ℕ → ℕ → List ℕ → List ℕ
next_of found ahead rest = found ++ take (turn_limit - length found) (drop ahead rest)
