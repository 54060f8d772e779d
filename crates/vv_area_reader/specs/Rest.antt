-- What is still to be read of an area, section after section.
use Rattle.std.specs.Prelude.{ℕ, List, [], drop}
use Rattle.vv_record.specs.Reading.{Form, ◌>>=◌, done, number, number_within, items}
use Rattle.vv_flat.specs.State.{Volume, RunningClone, Piece, Durable}
use Rattle.vv_flat.specs.Chunks.{Entry}
use Rattle.vv_area.specs.Forms.{container, volume, entry, context, binding, task, piece, runs}
use Rattle.vv_area_reader.specs.Progress.{Progress}
use Rattle.vv_area_reader.specs.Steps.{with_volume, with_clone, with_copy}
use Rattle.vv_area_reader.specs.declared.stage.Stage.{Stage}
use Rattle.vv_area_reader.specs.declared.stage.Stage.TheVariants as stage

-- what the tasks from a place on hold
unfoldable pub runs_rest : ℕ → ℕ → Durable Entry → Form (Durable Entry)
runs_rest spelling next d = do
  held ← runs spelling (drop next d.tasks) (record { clones = d.clones; copies = d.copies })
  done (record d { clones = held.clones; copies = held.copies })

-- so many tasks, and what follows
unfoldable pub tasks_rest : ℕ → ℕ → Durable Entry → Form (Durable Entry)
tasks_rest spelling left d = do
  jobs ← items task left d.tasks
  runs_rest spelling 0 (record d { tasks = jobs })

-- the tasks, and what follows
unfoldable pub after_bindings : ℕ → Durable Entry → Form (Durable Entry)
after_bindings spelling d = do
  count ← number 2
  tasks_rest spelling count d

-- so many bindings, and what follows
unfoldable pub bindings_rest : ℕ → ℕ → Durable Entry → Form (Durable Entry)
bindings_rest spelling left d = do
  bound ← items binding left d.bindings
  after_bindings spelling (record d { bindings = bound })

-- the bindings, and what follows
unfoldable pub after_contexts : ℕ → Durable Entry → Form (Durable Entry)
after_contexts spelling d = do
  count ← number 2
  bindings_rest spelling count d

-- so many contexts, and what follows
unfoldable pub contexts_rest : ℕ → ℕ → Durable Entry → Form (Durable Entry)
contexts_rest spelling left d = do
  list ← items context left d.contexts
  after_contexts spelling (record d { contexts = list })

-- the contexts, and what follows
unfoldable pub after_volumes : ℕ → Durable Entry → Form (Durable Entry)
after_volumes spelling d = do
  count ← number 1
  contexts_rest spelling count d

-- so many volumes, and what follows
unfoldable pub volumes_rest : ℕ → ℕ → Durable Entry → Form (Durable Entry)
volumes_rest spelling left d = do
  vols ← items (volume spelling) left d.volumes
  after_volumes spelling (record d { volumes = vols })

-- so many entries of a volume, and what follows
unfoldable pub volume_entries_rest : ℕ → Volume Entry → List Entry → ℕ → ℕ → Durable Entry → Form (Durable Entry)
volume_entries_rest spelling head entries left volumes d = do
  chunks ← items (λ before. entry) left entries
  volumes_rest spelling volumes (with_volume d (record head { chunks = chunks }))

-- the volumes, and what follows
unfoldable pub after_containers : ℕ → Durable Entry → Form (Durable Entry)
after_containers spelling d = do
  count ← number 2
  volumes_rest spelling count d

-- so many containers, and what follows
unfoldable pub containers_rest : ℕ → ℕ → Durable Entry → Form (Durable Entry)
containers_rest spelling left d = do
  boxes ← items container left d.containers
  after_containers spelling (record d { containers = boxes })

-- all of it
unfoldable pub start_rest : ℕ → Durable Entry → Form (Durable Entry)
start_rest spelling d = do
  lsn ← number 8
  count ← number_within 1 1 255
  containers_rest spelling count (record d { lsn = lsn })

-- so many entries of the target of a running clone, and what follows
unfoldable pub target_rest : ℕ → RunningClone Entry → List Entry → ℕ → ℕ → Durable Entry → Form (Durable Entry)
target_rest spelling head entries left next d = do
  target ← items (λ before. entry) left entries
  runs_rest spelling next (with_clone d (record head { target = target }))

-- the target of a running clone, and what follows
unfoldable pub after_image : ℕ → RunningClone Entry → ℕ → Durable Entry → Form (Durable Entry)
after_image spelling head next d = do
  count ← number 4
  target_rest spelling head [] count next d

-- so many entries of the image of a running clone, and what follows
unfoldable pub image_rest : ℕ → RunningClone Entry → List Entry → ℕ → ℕ → Durable Entry → Form (Durable Entry)
image_rest spelling head entries left next d = do
  image ← items (λ before. entry) left entries
  after_image spelling (record head { image = image }) next d

-- so many pieces of a running copy, and what follows
unfoldable pub pieces_rest : ℕ → ℕ → List (Piece Entry) → ℕ → ℕ → Durable Entry → Form (Durable Entry)
pieces_rest spelling own pieces left next d = do
  list ← items (λ before. piece) left pieces
  runs_rest spelling next (with_copy d (record { number = own; pieces = list }))

-- what is still to be read at a stage
abbrev pub rest_at : ℕ → Durable Entry → Stage → Form (Durable Entry)
rest_at spelling d stage.Start = start_rest spelling d
rest_at spelling d (stage.Containers left) = containers_rest spelling left d
rest_at spelling d (stage.Volumes left) = volumes_rest spelling left d
rest_at spelling d (stage.VolumeEntries head entries left volumes) = volume_entries_rest spelling head entries left volumes d
rest_at spelling d (stage.Contexts left) = contexts_rest spelling left d
rest_at spelling d (stage.Bindings left) = bindings_rest spelling left d
rest_at spelling d (stage.Tasks left) = tasks_rest spelling left d
rest_at spelling d (stage.Runs next) = runs_rest spelling next d
rest_at spelling d (stage.Image head entries left next) = image_rest spelling head entries left next d
rest_at spelling d (stage.Target head entries left next) = target_rest spelling head entries left next d
rest_at spelling d (stage.Pieces own pieces left next) = pieces_rest spelling own.0 pieces left next d

abbrev pub rest_of : ℕ → Progress → Form (Durable Entry)
rest_of spelling p = rest_at spelling p.begun p.stage
