-- Words on the turns of running tasks.
use Rattle.std.specs.Prelude.{ℕ, ◌≡◌, ◌==◌, Bool, false, List, Option, Some, None, option_and_then, if◌then◌else◌}
use Rattle.std.specs.List.{find}
use Rattle.vv_flat.specs.Lists.{if_found}
use Rattle.vv_flat.specs.Tasks.{is_last, next_piece}
use Rattle.vv_flat.specs.State.{Job, Clone, Copy, Task, Durable, task_of}
use Rattle.vv_flat.specs.Space.{is_running, running_target}
use Rattle.vv_flat.specs.Chunks.{Entry}
use Rattle.vv_units.specs.declared.numbers.VolumeId.{VolumeId}
use Rattle.vv_units.specs.declared.volume.VolumeKind.TheVariants.{FullCloneOf}
use Rattle.vv_vols.specs.Shelf.{ShelfState, pieces_in}
use Rattle.vv_vols.specs.Calls.{without_held, with_made, piece_chunks}
use Rattle.vv_vols.specs.Rows.{volume_with}
use Rattle.vv_tables.specs.declared.rows.CloneRow.{CloneRow}

-- the volume that a clone copies
abbrev pub job_source : Job → Option ℕ
job_source (Clone volume) = Some volume
job_source (Copy source base target) = None

abbrev pub running_source : Task → Option ℕ
running_source t = if is_running t then job_source t.job else None

-- a task is a running clone of a volume
abbrev pub RunsClone : Durable Entry → ℕ → ℕ → Type 0
RunsClone d n source = option_and_then running_source (task_of d n) ≡ Some source

-- a task is a running copy into a volume
abbrev pub RunsCopy : Durable Entry → ℕ → ℕ → Type 0
RunsCopy d n target = option_and_then running_target (task_of d n) ≡ Some target

-- whether the next turn of a task is its last
abbrev pub ends_next : List Task → ℕ → Bool
ends_next tasks n = if_found (find (λ (t : Task). t.number == n) tasks) (λ t. is_last t (next_piece t)) false

-- The image of a clone is gone, and its target is the list of a volume, a full clone of another one.
abbrev pub with_clone_made : ShelfState → CloneRow → VolumeId → ShelfState
with_clone_made s row source =
    let left : ShelfState = without_held s row.image.number in
    with_made (without_held left row.target.number)
    (volume_with row.id.0 (record row.head { kind = FullCloneOf source; reverted = 0 }) (piece_chunks (pieces_in left row.target.number)))
