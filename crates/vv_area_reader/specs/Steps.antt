-- The steps in which an area is read: each reads the count of a list, or one item of it, and none more than a volume
-- without its entries. A list is done when none of its items is left.
use Rattle.std.specs.Prelude.{ℕ, ◌+◌, ◌-◌, ◌==◌, List, [], ◌∷◌, ◌++◌, Option, Some, None, slice_get, if◌then◌else◌}
use Rattle.vv_record.specs.Reading.{Form, ◌>>=◌, done, number, number_within}
use Rattle.vv_flat.specs.State.{Container, Volume, Context, Binding, Task, RunningClone, Piece, RunningCopy, Durable}
use Rattle.vv_flat.specs.Space.{is_running, is_clone}
use Rattle.vv_flat.specs.Chunks.{Entry}
use Rattle.vv_area.specs.Forms.{container, entry, context, binding, task, piece}
use Rattle.vv_area_reader.specs.Heads.{volume_head, clone_head}
use Rattle.vv_area_reader.specs.Progress.{Progress, come_to}
use Rattle.vv_area_reader.specs.declared.stage.Stage.{Stage}
use Rattle.vv_area_reader.specs.declared.stage.Stage.TheVariants as stage

-- ---- the tables with one item more

abbrev pub with_container : Durable Entry → Container → Durable Entry
with_container d next = record d { containers = d.containers ++ next ∷ [] }

abbrev pub with_volume : Durable Entry → Volume Entry → Durable Entry
with_volume d next = record d { volumes = d.volumes ++ next ∷ [] }

abbrev pub with_context : Durable Entry → Context → Durable Entry
with_context d next = record d { contexts = d.contexts ++ next ∷ [] }

abbrev pub with_binding : Durable Entry → Binding → Durable Entry
with_binding d next = record d { bindings = d.bindings ++ next ∷ [] }

abbrev pub with_task : Durable Entry → Task → Durable Entry
with_task d next = record d { tasks = d.tasks ++ next ∷ [] }

abbrev pub with_clone : Durable Entry → RunningClone Entry → Durable Entry
with_clone d next = record d { clones = d.clones ++ next ∷ [] }

abbrev pub with_copy : Durable Entry → RunningCopy Entry → Durable Entry
with_copy d next = record d { copies = d.copies ++ next ∷ [] }

-- ---- the steps: `left` items of a list are left, `next` is the place of the task that comes next

-- the log number, and the count of the containers
unfoldable pub start_step : Durable Entry → Form Progress
start_step d = do
  lsn ← number 8
  count ← number_within 1 1 255
  done (come_to (record d { lsn = lsn }) (stage.Containers count))

-- the count of the volumes
unfoldable pub volume_count : Durable Entry → Form Progress
volume_count d = do
  count ← number 2
  done (come_to d (stage.Volumes count))

-- the next container
unfoldable pub next_container : ℕ → Durable Entry → Form Progress
next_container left d = do
  next ← container d.containers
  done (come_to (with_container d next) (stage.Containers (left - 1)))

-- the next container, or the count of the volumes where none is left
abbrev pub container_step : ℕ → Durable Entry → Form Progress
container_step left d = if left == 0 then volume_count d else next_container left d

-- the count of the contexts
unfoldable pub context_count : Durable Entry → Form Progress
context_count d = do
  count ← number 1
  done (come_to d (stage.Contexts count))

-- the next volume without its entries, and their count
unfoldable pub next_volume : ℕ → ℕ → Durable Entry → Form Progress
next_volume spelling left d = do
  head ← volume_head spelling d.volumes
  count ← number 4
  done (come_to d (stage.VolumeEntries head [] count (left - 1)))

-- the next volume, or the count of the contexts where none is left
abbrev pub volume_step : ℕ → ℕ → Durable Entry → Form Progress
volume_step spelling left d = if left == 0 then context_count d else next_volume spelling left d

-- the next entry of a volume; so many volumes are left behind it
unfoldable pub next_volume_entry : Volume Entry → List Entry → ℕ → ℕ → Durable Entry → Form Progress
next_volume_entry head entries left volumes d = do
  next ← entry
  done (come_to d (stage.VolumeEntries head (entries ++ next ∷ []) (left - 1) volumes))

-- the next entry of a volume, or the volume with its entries where none is left
abbrev pub volume_entry_step : Volume Entry → List Entry → ℕ → ℕ → Durable Entry → Form Progress
volume_entry_step head entries left volumes d =
    if left == 0 then done (come_to (with_volume d (record head { chunks = entries })) (stage.Volumes volumes))
    else next_volume_entry head entries left volumes d

-- the count of the bindings
unfoldable pub binding_count : Durable Entry → Form Progress
binding_count d = do
  count ← number 2
  done (come_to d (stage.Bindings count))

-- the next context
unfoldable pub next_context : ℕ → Durable Entry → Form Progress
next_context left d = do
  next ← context d.contexts
  done (come_to (with_context d next) (stage.Contexts (left - 1)))

-- the next context, or the count of the bindings where none is left
abbrev pub context_step : ℕ → Durable Entry → Form Progress
context_step left d = if left == 0 then binding_count d else next_context left d

-- the count of the tasks
unfoldable pub task_count : Durable Entry → Form Progress
task_count d = do
  count ← number 2
  done (come_to d (stage.Tasks count))

-- the next binding
unfoldable pub next_binding : ℕ → Durable Entry → Form Progress
next_binding left d = do
  next ← binding d.bindings
  done (come_to (with_binding d next) (stage.Bindings (left - 1)))

-- the next binding, or the count of the tasks where none is left
abbrev pub binding_step : ℕ → Durable Entry → Form Progress
binding_step left d = if left == 0 then task_count d else next_binding left d

-- the next task
unfoldable pub next_task : ℕ → Durable Entry → Form Progress
next_task left d = do
  next ← task d.tasks
  done (come_to (with_task d next) (stage.Tasks (left - 1)))

-- the next task; where none is left, what they hold comes next
abbrev pub task_step : ℕ → Durable Entry → Form Progress
task_step left d = if left == 0 then done (come_to d (stage.Runs 0)) else next_task left d

-- What a task holds is begun; `next` is the place behind the task.

-- a running clone without its lists of entries, and the count of its image
unfoldable pub begin_clone : ℕ → ℕ → ℕ → Durable Entry → Form Progress
begin_clone spelling own next d = do
  head ← clone_head spelling own
  count ← number 4
  done (come_to d (stage.Image head [] count next))

-- the count of the pieces of a running copy
unfoldable pub begin_copy : ℕ → ℕ → Durable Entry → Form Progress
begin_copy own next d = do
  count ← number 4
  done (come_to d (stage.Pieces (record { 0 = own }) [] count next))

-- what a task holds, if it runs
abbrev pub begin_run : ℕ → Task → ℕ → Durable Entry → Form Progress
begin_run spelling t next d =
    if is_running t
    then (if is_clone t.job then begin_clone spelling t.number next d else begin_copy t.number next d)
    else done (come_to d (stage.Runs next))

-- the task at a place, if there is one
abbrev pub run_step_at : ℕ → ℕ → Durable Entry → Option Task → Form Progress
run_step_at spelling next d (Some t) = begin_run spelling t (next + 1) d
run_step_at spelling next d None = done (come_to d (stage.Runs next))

-- what the task at a place holds, if there is one and it runs
abbrev pub run_step : ℕ → ℕ → Durable Entry → Form Progress
run_step spelling next d = run_step_at spelling next d (slice_get d.tasks next)

-- the count of the target of a running clone, which has this image
unfoldable pub target_count : RunningClone Entry → List Entry → ℕ → Durable Entry → Form Progress
target_count head image next d = do
  count ← number 4
  done (come_to d (stage.Target (record head { image = image }) [] count next))

-- the next entry of an image
unfoldable pub next_image_entry : RunningClone Entry → List Entry → ℕ → ℕ → Durable Entry → Form Progress
next_image_entry head entries left next d = do
  more ← entry
  done (come_to d (stage.Image head (entries ++ more ∷ []) (left - 1) next))

-- the next entry of an image, or the count of the target where none is left
abbrev pub image_step : RunningClone Entry → List Entry → ℕ → ℕ → Durable Entry → Form Progress
image_step head entries left next d = if left == 0 then target_count head entries next d else next_image_entry head entries left next d

-- the next entry of a target
unfoldable pub next_target_entry : RunningClone Entry → List Entry → ℕ → ℕ → Durable Entry → Form Progress
next_target_entry head entries left next d = do
  more ← entry
  done (come_to d (stage.Target head (entries ++ more ∷ []) (left - 1) next))

-- the next entry of a target, or the running clone with its target where none is left
abbrev pub target_step : RunningClone Entry → List Entry → ℕ → ℕ → Durable Entry → Form Progress
target_step head entries left next d =
    if left == 0 then done (come_to (with_clone d (record head { target = entries })) (stage.Runs next))
    else next_target_entry head entries left next d

-- the next piece of a running copy
unfoldable pub next_piece : ℕ → List (Piece Entry) → ℕ → ℕ → Durable Entry → Form Progress
next_piece own pieces left next d = do
  more ← piece
  done (come_to d (stage.Pieces (record { 0 = own }) (pieces ++ more ∷ []) (left - 1) next))

-- the next piece, or the running copy with its pieces where none is left
abbrev pub piece_step : ℕ → List (Piece Entry) → ℕ → ℕ → Durable Entry → Form Progress
piece_step own pieces left next d =
    if left == 0 then done (come_to (with_copy d (record { number = own; pieces = pieces })) (stage.Runs next))
    else next_piece own pieces left next d

-- the step that comes next
abbrev pub step_at : ℕ → Durable Entry → Stage → Form Progress
step_at spelling d stage.Start = start_step d
step_at spelling d (stage.Containers left) = container_step left d
step_at spelling d (stage.Volumes left) = volume_step spelling left d
step_at spelling d (stage.VolumeEntries head entries left volumes) = volume_entry_step head entries left volumes d
step_at spelling d (stage.Contexts left) = context_step left d
step_at spelling d (stage.Bindings left) = binding_step left d
step_at spelling d (stage.Tasks left) = task_step left d
step_at spelling d (stage.Runs next) = run_step spelling next d
step_at spelling d (stage.Image head entries left next) = image_step head entries left next d
step_at spelling d (stage.Target head entries left next) = target_step head entries left next d
step_at spelling d (stage.Pieces own pieces left next) = piece_step own.0 pieces left next d

abbrev pub step : ℕ → Progress → Form Progress
step spelling p = step_at spelling p.begun p.stage
