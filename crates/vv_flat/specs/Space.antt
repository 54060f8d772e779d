-- Space, counted afresh from the shape of an array: what is used of the pool, what running clones will still use, the
-- entries of all lists, and what a container is charged for. The rules are this project's own.
use Rattle.std.specs.Prelude.{ℕ, ◌+◌, ◌-◌, ◌/◌, ◌%◌, ◌==◌, ◌&&◌, Bool, true, false, not, List, [], ◌∷◌, length, slice_index, sum_by, count_by, filter, Option, Some, None, option_and_then, nat_le, if◌then◌else◌}
use Rattle.std.specs.List.{list_any}
use Rattle.vv_units.specs.Sizes.{mb_blocks, volume_chunks_limit}
use Rattle.vv_units.specs.declared.volume.TaskState.{TaskState}
use Rattle.vv_units.specs.declared.volume.TaskState.TheVariants.{Running, Success, Cancelled, Interrupted}
use Rattle.vv_flat.specs.Lists.{if_found}
use Rattle.vv_flat.specs.State.{Volume, Job, Clone, Copy, Task, RunningClone, Piece, RunningCopy, Durable, volume_of, task_of, all_pieces}

-- how many chunks of a list are allocated: their stamp is not 0
abbrev pub allocated_count : List ℕ → ℕ
allocated_count stamps = count_by (λ s. not (s == 0)) stamps

-- the list without the pieces that come again: those of one index and one stamp are the same
abbrev pub distinct : List (Piece ℕ) → List (Piece ℕ)
distinct [] = []
distinct (p ∷ ps) =
    if list_any (λ (q : Piece ℕ). (p.index == q.index) && (p.chunk == q.chunk)) ps then distinct ps else (p ∷ distinct ps)

-- The chunks of the pool that are used: one for each distinct pair of index and stamp among the allocated chunks of
-- all volumes, images, targets and copies.
unfoldable pub used : Durable ℕ → ℕ
used d = length (distinct (filter (λ (p : Piece ℕ). not (p.chunk == 0)) (all_pieces d)))

abbrev pub is_running_state : TaskState → Bool
is_running_state Running = true
is_running_state Success = false
is_running_state Cancelled = false
is_running_state Interrupted = false

abbrev pub is_running : Task → Bool
is_running t = is_running_state t.state

abbrev pub is_clone : Job → Bool
is_clone (Clone volume) = true
is_clone (Copy source base target) = false

-- the chunks that running clones have still to copy
unfoldable pub reserved : Durable ℕ → ℕ
reserved d = sum_by (λ (t : Task). if is_running t && is_clone t.job then (t.total - t.done) else 0) d.tasks

-- what is left of the pool
unfoldable pub free : Durable ℕ → ℕ
unfolding used reserved
free d = d.geometry.pool_chunks - used d - reserved d

-- the entries of all lists: the chunks of volumes, images and targets, and the pieces
unfoldable pub entries : {X : Type 0} → Durable X → ℕ
entries {X} d =
    sum_by (λ (v : Volume X). length v.chunks) d.volumes
    + sum_by (λ (c : RunningClone X). length c.image + length c.target) d.clones
    + sum_by (λ (c : RunningCopy X). length c.pieces) d.copies

-- the volume that a copy is to change
abbrev pub job_target : Job → Option ℕ
job_target (Clone volume) = None
job_target (Copy source base target) = Some target

abbrev pub running_target : Task → Option ℕ
running_target t = if is_running t then job_target t.job else None

abbrev pub copy_target : {X : Type 0} → Durable X → ℕ → Option (Volume X)
copy_target d number =
    option_and_then (volume_of d) (option_and_then (λ (t : Task). job_target t.job) (task_of d number))

-- the pieces that will allocate a chunk of the target: their stamp is not 0, and the target's chunk is unmapped
abbrev pub allocating_pieces : List ℕ → List (Piece ℕ) → ℕ
allocating_pieces target pieces =
    count_by (λ (p : Piece ℕ). not (p.chunk == 0) && (slice_index target p.index == 0)) pieces

-- those of a running copy whose target is in a container
abbrev pub allocating_for : Durable ℕ → ℕ → RunningCopy ℕ → ℕ
allocating_for d k c =
    if_found (copy_target d c.number) (λ v. if v.container == k then allocating_pieces v.chunks c.pieces else 0) 0

-- What a container is charged for: the allocated chunks of its volumes, each volume by itself; those of the images
-- whose clone is in it; and the pieces that will allocate a chunk of a target in it.
unfoldable pub charge : Durable ℕ → ℕ → ℕ
charge d k =
    sum_by (λ (v : Volume ℕ). if v.container == k then allocated_count v.chunks else 0) d.volumes
    + sum_by (λ (c : RunningClone ℕ). if c.container == k then allocated_count c.image else 0) d.clones
    + sum_by (λ (c : RunningCopy ℕ). allocating_for d k c) d.copies

-- how many volumes there are, and will be when the running clones are done
abbrev pub volume_count : {X : Type 0} → Durable X → ℕ
volume_count d = length d.volumes + length d.clones

-- the metadata pairs of all volumes and running clones
abbrev pub pair_count : {X : Type 0} → Durable X → ℕ
pair_count {X} d =
    sum_by (λ (v : Volume X). length v.metadata) d.volumes
    + sum_by (λ (c : RunningClone X). length c.metadata) d.clones

abbrev pub running_count : {X : Type 0} → Durable X → ℕ
running_count d = count_by is_running d.tasks

-- a number of chunks that a volume may have: a whole number of MB, at least one, up to the limit
abbrev pub is_volume_size : ℕ → ℕ → Bool
is_volume_size chunk_blocks chunks =
    nat_le 1 chunks && nat_le chunks volume_chunks_limit && (chunks % (mb_blocks / chunk_blocks) == 0)
