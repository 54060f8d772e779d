-- What an accepted change adds to the numbers that a table of kept numbers has, and what it takes from them: the entries of
-- all lists, the chunks that running clones have reserved, the allocated chunks of each volume, and what each container is
-- charged for. This is this project's own.
use Rattle.std.specs.Prelude.{ℕ, ◌+◌, ◌-◌, ◌*◌, ◌==◌, ◌&&◌, not, List, length, slice_index, count_by, if◌then◌else◌}
use Rattle.vv_flat.specs.Lists.{if_found, indexes_from}
use Rattle.vv_flat.specs.State.{Job, Clone, Copy, Task, RunningClone, Piece, RunningCopy, Durable, task_of, clone_of, copy_of}
use Rattle.vv_flat.specs.Chunks.{touched_indexes, is_in_ranges}
use Rattle.vv_flat.specs.Space.{allocated_count, is_running, is_clone, allocating_pieces, allocating_for}
use Rattle.vv_flat.specs.Tasks.{is_last, next_piece, turn_indexes, difference}
use Rattle.vv_flat.specs.Changes.{Change, MakeVolume, DeleteVolume, GrowVolume, Snapshot, FastClone, Revert, Write, Unmap, StartClone, StartCopy, Turn, Cancel, size_of, stamps_of, allocated_of, home_of, unmapped_count, changed_indexes}

abbrev pub entries_added : Durable ℕ → Change → ℕ
entries_added d (MakeVolume k vtype chunks needs) = chunks
entries_added d (GrowVolume n chunks) = chunks - size_of d n
entries_added d (Snapshot n) = size_of d n
entries_added d (FastClone n) = size_of d n
entries_added d (Revert n snapshot) = size_of d snapshot
entries_added d (StartClone n) = 2 * size_of d n
entries_added d (StartCopy source base target) = length (difference (λ s. s) (stamps_of d source) (stamps_of d base))
entries_added d _ = 0

-- the last turn of a task ends its image, or its pieces
abbrev pub ended_entries : Durable ℕ → Task → Job → ℕ
ended_entries d t (Clone source) =
    if_found (clone_of d t.number)
    (λ (c : RunningClone ℕ). if is_last t (length (turn_indexes c.image t.done)) then length c.image else 0) 0
ended_entries d t (Copy source base target) =
    if_found (copy_of d t.number)
    (λ (c : RunningCopy ℕ). if is_last t (next_piece t) then length c.pieces else 0) 0

abbrev pub entries_taken : Durable ℕ → Change → ℕ
entries_taken d (DeleteVolume n) = size_of d n
entries_taken d (Revert n snapshot) = size_of d n
entries_taken d (Turn n) = if_found (task_of d n) (λ t. if is_running t then ended_entries d t t.job else 0) 0
entries_taken d (Cancel n) =
    if_found (clone_of d n) (λ (c : RunningClone ℕ). length c.image + length c.target) 0
    + if_found (copy_of d n) (λ (c : RunningCopy ℕ). length c.pieces) 0
entries_taken d _ = 0

-- what a task still reserves
abbrev pub still_reserved : Task → ℕ
still_reserved t = if is_running t && is_clone t.job then (t.total - t.done) else 0

abbrev pub reserved_added : Durable ℕ → Change → ℕ
reserved_added d (StartClone n) = allocated_of d n
reserved_added d _ = 0

abbrev pub reserved_taken : Durable ℕ → Change → ℕ
reserved_taken d (Turn n) = length (changed_indexes (λ s. s) d (Turn n))
reserved_taken d (Cancel n) = if_found (task_of d n) still_reserved 0
reserved_taken d _ = 0

-- how many chunks an UNMAP of these ranges unmaps
abbrev pub unmaps_count : List (ℕ × ℕ) → List ℕ → ℕ
unmaps_count ranges stamps = length (indexes_from (λ i s. is_in_ranges ranges i && not (s == 0)) 0 stamps)

-- the pieces that unmap a chunk of the target: their stamp is 0, and the target's chunk is allocated
abbrev pub unmapping_pieces : List ℕ → List (Piece ℕ) → ℕ
unmapping_pieces target pieces =
    count_by (λ (p : Piece ℕ). (p.chunk == 0) && not (slice_index target p.index == 0)) pieces

-- what counts only at the last turn of a running task
abbrev pub at_last_turn : Durable ℕ → ℕ → (Task → ℕ) → ℕ
at_last_turn d n f = if_found (task_of d n) (λ t. if is_running t && is_last t (next_piece t) then f t else 0) 0

-- The allocated chunks of one volume, number n; one that doesn't stand has none. The last turn of a clone makes its
-- volume, with all chunks that the task copied; that of a copy puts its pieces into the target.
abbrev pub allocated_by_turns : Durable ℕ → Task → Job → ℕ → ℕ
allocated_by_turns d t (Clone source) n = if n == t.number then t.total else 0
allocated_by_turns d t (Copy source base target) n =
    if n == target
    then if_found (copy_of d t.number) (λ (c : RunningCopy ℕ). allocating_pieces (stamps_of d target) c.pieces) 0
    else 0

abbrev pub unmapped_by_turns : Durable ℕ → Task → Job → ℕ → ℕ
unmapped_by_turns d t (Clone source) n = 0
unmapped_by_turns d t (Copy source base target) n =
    if n == target
    then if_found (copy_of d t.number) (λ (c : RunningCopy ℕ). unmapping_pieces (stamps_of d target) c.pieces) 0
    else 0

abbrev pub allocated_added : Durable ℕ → Change → ℕ → ℕ
allocated_added d (Snapshot v) n = if n == d.lsn + 1 then allocated_of d v else 0
allocated_added d (FastClone v) n = if n == d.lsn + 1 then allocated_of d v else 0
allocated_added d (Revert v snapshot) n = if n == v then allocated_of d snapshot else 0
allocated_added d (Write v first blocks) n =
    if n == v then unmapped_count (stamps_of d v) (touched_indexes d.geometry.chunk_blocks first blocks) else 0
allocated_added d (Turn m) n = at_last_turn d m (λ t. allocated_by_turns d t t.job n)
allocated_added d _ n = 0

abbrev pub allocated_taken : Durable ℕ → Change → ℕ → ℕ
allocated_taken d (DeleteVolume v) n = if n == v then allocated_of d v else 0
allocated_taken d (Revert v snapshot) n = if n == v then allocated_of d v else 0
allocated_taken d (Unmap v ranges) n = if n == v then unmaps_count ranges (stamps_of d v) else 0
allocated_taken d (Turn m) n = at_last_turn d m (λ t. unmapped_by_turns d t t.job n)
allocated_taken d _ n = 0

-- so many, where the volume is in container k
abbrev pub charged_at : Durable ℕ → ℕ → ℕ → ℕ → ℕ
charged_at d n k count = if home_of d n == k then count else 0

-- What container k is charged for. The last turn of a clone charges for the volume in place of the image, and that of a
-- copy for the chunks of the target in place of the pieces that were to allocate them: only what it unmaps is new.
abbrev pub uncharged_by_turns : Durable ℕ → Task → Job → ℕ → ℕ
uncharged_by_turns d t (Clone source) k = 0
uncharged_by_turns d t (Copy source base target) k =
    charged_at d target k (if_found (copy_of d t.number) (λ (c : RunningCopy ℕ). unmapping_pieces (stamps_of d target) c.pieces) 0)

abbrev pub charge_added : Durable ℕ → Change → ℕ → ℕ
charge_added d (Snapshot n) k = charged_at d n k (allocated_of d n)
charge_added d (FastClone n) k = charged_at d n k (allocated_of d n)
charge_added d (Revert n snapshot) k = charged_at d n k (allocated_of d snapshot)
charge_added d (Write n first blocks) k =
    charged_at d n k (unmapped_count (stamps_of d n) (touched_indexes d.geometry.chunk_blocks first blocks))
charge_added d (StartClone n) k = charged_at d n k (allocated_of d n)
charge_added d (StartCopy source base target) k =
    charged_at d target k
    (allocating_pieces (stamps_of d target) (difference (λ s. s) (stamps_of d source) (stamps_of d base)))
charge_added d _ k = 0

abbrev pub charge_taken : Durable ℕ → Change → ℕ → ℕ
charge_taken d (DeleteVolume n) k = charged_at d n k (allocated_of d n)
charge_taken d (Revert n snapshot) k = charged_at d n k (allocated_of d n)
charge_taken d (Unmap n ranges) k = charged_at d n k (unmaps_count ranges (stamps_of d n))
charge_taken d (Turn m) k = at_last_turn d m (λ t. uncharged_by_turns d t t.job k)
charge_taken d (Cancel m) k =
    if_found (clone_of d m) (λ (c : RunningClone ℕ). if c.container == k then allocated_count c.image else 0) 0
    + if_found (copy_of d m) (allocating_for d k) 0
charge_taken d _ k = 0
