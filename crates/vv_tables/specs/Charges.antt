-- What containers are charged for, and what running clones have still to copy, as they are counted over the parts of tables.
use Rattle.std.specs.Prelude.{ℕ, ◌+◌, ◌-◌, ◌==◌, ◌&&◌, List, map, sum_by, Option, option_and_then, if◌then◌else◌}
use Rattle.vv_flat.specs.Lists.{if_found}
use Rattle.vv_flat.specs.State.{Volume, Task}
use Rattle.vv_flat.specs.Chunks.{Entry}
use Rattle.vv_flat.specs.Space.{is_running, is_clone, job_target, allocating_pieces}
use Rattle.vv_task.specs.Table.{task_numbered}
use Rattle.vv_vols.specs.Shelf.{ShelfState, volume_in, pieces_in, allocated_of}
use Rattle.vv_tables.specs.declared.rows.CloneRow.{CloneRow}
use Rattle.vv_tables.specs.declared.rows.CopyRow.{CopyRow}
use Rattle.vv_tables.specs.Copies.{shaped_pieces}

-- for how many chunks of a volume a container is charged, and of all volumes
abbrev pub volume_charge : ℕ → Volume Entry → ℕ
volume_charge k v = if v.container == k then allocated_of v.chunks else 0

abbrev pub volumes_charge : List (Volume Entry) → ℕ → ℕ
volumes_charge volumes k = sum_by (volume_charge k) volumes

-- for a running clone: the total of its task
abbrev pub clone_charge : List Task → ℕ → CloneRow → ℕ
clone_charge tasks k row =
    if row.head.container.0 == k then if_found (task_numbered tasks row.id.0) (λ (t : Task). t.total) 0 else 0

abbrev pub clones_charge : List Task → List CloneRow → ℕ → ℕ
clones_charge tasks clones k = sum_by (clone_charge tasks k) clones

-- for a running copy: its pieces that will allocate a chunk of the target
abbrev pub target_in : List Task → ℕ → Option ℕ
target_in tasks n = option_and_then (λ (t : Task). job_target t.job) (task_numbered tasks n)

abbrev pub pieces_charge : ShelfState → ℕ → ℕ → Volume Entry → ℕ
pieces_charge s k n v =
    if v.container == k then allocating_pieces (map (λ (e : Entry). e.stamp) v.chunks) (shaped_pieces (pieces_in s n)) else 0

abbrev pub copy_charge : ShelfState → List Task → ℕ → CopyRow → ℕ
copy_charge s tasks k row =
    if_found (option_and_then (volume_in s) (target_in tasks row.id.0)) (pieces_charge s k row.pieces.number) 0

abbrev pub copies_charge : ShelfState → List Task → List CopyRow → ℕ → ℕ
copies_charge s tasks copies k = sum_by (copy_charge s tasks k) copies

-- for what a container is charged
abbrev pub charge_in : ShelfState → List Task → List CloneRow → List CopyRow → ℕ → ℕ
charge_in s tasks clones copies k =
    volumes_charge s.volumes k + clones_charge tasks clones k + copies_charge s tasks copies k

-- the chunks that running clones have still to copy
abbrev pub left_to_copy : Task → ℕ
left_to_copy t = if is_running t && is_clone t.job then (t.total - t.done) else 0

abbrev pub all_left : List Task → ℕ
all_left tasks = sum_by left_to_copy tasks
