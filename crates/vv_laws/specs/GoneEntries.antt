-- The entries of tables that a change takes away or replaces, those that it puts in, and how many places of the pool it
-- frees. This is this project's own.
use Rattle.std.specs.Prelude.{ℕ, ◌==◌, ◌&&◌, not, List, [], ◌∷◌, ◌++◌, map, length, filter, count_by, if◌then◌else◌}
use Rattle.std.specs.List.{list_any}
use Rattle.vv_flat.specs.Lists.{if_found, numbers_from}
use Rattle.vv_flat.specs.State.{Volume, Job, Clone, Copy, Task, RunningClone, Piece, RunningCopy, Durable, volume_of, task_of, clone_of, copy_of, indexed}
use Rattle.vv_flat.specs.Chunks.{Entry, placed_entries, touched_indexes, is_in_ranges}
use Rattle.vv_flat.specs.Space.{is_running}
use Rattle.vv_flat.specs.Tasks.{is_last, next_piece, turn_indexes, difference}
use Rattle.vv_flat.specs.NamedPlaces.{is_named}
use Rattle.vv_flat.specs.Changes.{Change, DeleteVolume, Snapshot, FastClone, Revert, Write, Unmap, StartClone, StartCopy, Turn, Cancel, changed_indexes, new_stamp}

-- the entries of a volume, each with its index, and of some entries those at certain indexes
abbrev pub listed : Durable Entry → ℕ → List (Piece Entry)
listed tables n = if_found (volume_of tables n) (λ (v : Volume Entry). indexed v.chunks) []

abbrev pub those_at : List ℕ → List (Piece Entry) → List (Piece Entry)
those_at indexes entries = filter (λ (p : Piece Entry). list_any (λ i. i == p.index) indexes) entries

-- A turn of a clone replaces entries of its target, and its last turn takes away the image.
abbrev pub gone_of_clone : Task → RunningClone Entry → List (Piece Entry)
gone_of_clone t c =
    let indexes = turn_indexes (map (λ (e : Entry). e.stamp) c.image) t.done in
    those_at indexes (indexed c.target) ++ (if is_last t (length indexes) then indexed c.image else [])

-- The last turn of a copy replaces entries of its target.
abbrev pub gone_of_copy : Durable Entry → Task → ℕ → RunningCopy Entry → List (Piece Entry)
gone_of_copy tables t target c =
    if is_last t (next_piece t) then those_at (map (λ (p : Piece Entry). p.index) c.pieces) (listed tables target) else []

abbrev pub gone_of_job : Durable Entry → Task → Job → List (Piece Entry)
gone_of_job tables t (Clone source) = if_found (clone_of tables t.number) (gone_of_clone t) []
gone_of_job tables t (Copy source base target) = if_found (copy_of tables t.number) (gone_of_copy tables t target) []

abbrev pub entries_gone : Durable Entry → Change → List (Piece Entry)
entries_gone tables (DeleteVolume n) = listed tables n
entries_gone tables (Revert n snapshot) = listed tables n
entries_gone tables (Write n first blocks) =
    those_at (touched_indexes tables.geometry.chunk_blocks first blocks) (listed tables n)
entries_gone tables (Unmap n ranges) =
    filter (λ (p : Piece Entry). is_in_ranges ranges p.index && not (p.chunk.stamp == 0)) (listed tables n)
entries_gone tables (Turn n) =
    if_found (task_of tables n) (λ t. if is_running t then gone_of_job tables t t.job else []) []
entries_gone tables (Cancel n) =
    if_found (clone_of tables n) (λ (c : RunningClone Entry). indexed c.image ++ indexed c.target) []
    ++ if_found (copy_of tables n) (λ (c : RunningCopy Entry). c.pieces) []
entries_gone tables _ = []

-- how many places of the pool some entry that is gone names, and none that stays
unfoldable pub freed_count : ℕ → List (Piece Entry) → List (Piece Entry) → ℕ
freed_count pool_chunks gone stay = count_by (λ p. is_named gone p && not (is_named stay p)) (numbers_from 0 pool_chunks)

-- entries, each with one of these indexes
abbrev pub numbered : List ℕ → List Entry → List (Piece Entry)
numbered [] entries = []
numbered (i ∷ is) [] = []
numbered (i ∷ is) (e ∷ es) = record { index = i; chunk = e } ∷ numbered is es

-- the new entries of a change whose chunks were put at these places
abbrev pub placed_pieces : Durable Entry → Change → List ℕ → List (Piece Entry)
placed_pieces tables change places =
    numbered (changed_indexes (λ (e : Entry). e.stamp) tables change) (placed_entries places (new_stamp tables change))

-- The entries that a change puts in, but for unmapped ones, which name no place. Entries that only move from a list to
-- another are neither put in nor gone.
abbrev pub entries_put : Durable Entry → Change → List ℕ → List (Piece Entry)
entries_put tables (Snapshot n) places = listed tables n
entries_put tables (FastClone n) places = listed tables n
entries_put tables (Revert n snapshot) places = listed tables snapshot
entries_put tables (Write n first blocks) places = placed_pieces tables (Write n first blocks) places
entries_put tables (StartClone n) places = listed tables n
entries_put tables (StartCopy source base target) places =
    if_found (volume_of tables source) (λ (v : Volume Entry). if_found (volume_of tables base)
    (λ (w : Volume Entry). difference (λ (e : Entry). e.stamp) v.chunks w.chunks) []) []
entries_put tables (Turn n) places = placed_pieces tables (Turn n) places
entries_put tables _ places = []
