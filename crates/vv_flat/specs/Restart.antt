-- A restart empties the queues and the attentions, and keeps all else. An interruption, which older images ask for,
-- ends the running tasks and keeps all else. Both are this project's own.
use Rattle.std.specs.Prelude.{[], map, if◌then◌else◌}
use Rattle.vv_units.specs.declared.volume.TaskState.TheVariants.{Interrupted}
use Rattle.vv_flat.specs.State.{Task, Durable, Array, empty_volatile}
use Rattle.vv_flat.specs.Space.{is_running}

abbrev pub restarted : {X : Type 0} → Array X → Array X
restarted a = record a { volatile = empty_volatile }

-- a running task is interrupted, with `done` as it was
abbrev pub interrupted_task : Task → Task
interrupted_task t = if is_running t then record t { state = Interrupted } else t

-- running tasks are interrupted, and their images, targets and pieces are gone
abbrev pub interrupted_durable : {X : Type 0} → Durable X → Durable X
interrupted_durable d = record d { tasks = map interrupted_task d.tasks; clones = []; copies = [] }

abbrev pub interrupted : {X : Type 0} → Array X → Array X
interrupted a = record a { durable = interrupted_durable a.durable }
