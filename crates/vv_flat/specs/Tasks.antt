-- Tasks: full clones and difference copies, which are done turn by turn, after `cloneVirtualVolume`,
-- `copyDiffsToVirtualVolume`, `getTaskUpdate` and `cancelTask` of VASA 2.0. Records, turns and their numbers are this
-- project's own.
use Rattle.std.specs.Prelude.{ℕ, ◌+◌, ◌-◌, ◌==◌, Bool, false, not, List, [], map, take, drop, filter, length, min, replicate, nat_lt, nat_le, if◌then◌else◌}
use Rattle.std.specs.List.{list_any}
use Rattle.vv_units.specs.declared.volume.TaskState.TheVariants.{Running, Success, Cancelled}
use Rattle.vv_units.specs.declared.volume.VolumeKind.TheVariants.{FullCloneOf}
use Rattle.vv_flat.specs.Lists.{if_found, first_changed, put_before, first_removed, put_at}
use Rattle.vv_flat.specs.State.{Volume, Job, Clone, Copy, Task, RunningClone, Piece, RunningCopy, Durable, volume_of, task_of, clone_of, copy_of, indexed}
use Rattle.vv_flat.specs.Space.{is_running, running_target, allocated_count}
use Rattle.vv_flat.specs.Bits.{is_unshared, allocated_indexes}

-- the most task records, running tasks, and chunks or pieces of one turn
abbrev pub record_limit : ℕ
record_limit = 256

abbrev pub running_limit : ℕ
running_limit = 16

abbrev pub turn_limit : ℕ
turn_limit = 16

-- A volume is busy where a running copy is to change it.
abbrev pub is_busy : {X : Type 0} → Durable X → ℕ → Bool
is_busy d n = list_any (λ (t : Task). if_found (running_target t) (λ m. m == n) false) d.tasks

-- the records when one more is to come: at the limit the one with the least number that doesn't run is dropped
abbrev pub with_room : List Task → List Task
with_room tasks =
    if nat_le record_limit (length tasks) then first_removed (λ t. not (is_running t)) tasks else tasks

abbrev pub started : List Task → Task → List Task
started tasks t = put_before (λ (u : Task). nat_lt t.number u.number) t (with_room tasks)

-- the record in place of the one with its number
abbrev pub with_task : List Task → Task → List Task
with_task tasks t = first_changed (λ (u : Task). u.number == t.number) (λ _. t) tasks

-- what the next turn does: at most 16 of what is left
abbrev pub next_piece : Task → ℕ
next_piece t = min turn_limit (t.total - t.done)

-- whether so many more are all that was left
abbrev pub is_last : Task → ℕ → Bool
is_last t n = t.done + n == t.total

-- the record after so many more are done
abbrev pub advanced : Task → ℕ → Task
advanced t n = record t { done = t.done + n; state = (if is_last t n then Success else Running) }

-- The chunks that the next turn of a clone copies: the next allocated indexes of its image, at most 16, in rising
-- order. Those that are done are the first ones.
abbrev pub turn_indexes : List ℕ → ℕ → List ℕ
turn_indexes image done = take turn_limit (drop done (allocated_indexes image))

-- the volume that a clone becomes
abbrev pub cloned_volume : {X : Type 0} → RunningClone X → ℕ → List X → Volume X
cloned_volume c source chunks = record {
  number = c.number;
  container = c.container;
  vtype = c.vtype;
  kind = FullCloneOf (record { 0 = source });
  reverted = 0;
  needs = c.needs;
  metadata = c.metadata;
  chunks = chunks;
}

abbrev pub without_clone : {X : Type 0} → ℕ → List (RunningClone X) → List (RunningClone X)
without_clone {X} n clones = first_removed (λ (c : RunningClone X). c.number == n) clones

abbrev pub without_copy : {X : Type 0} → ℕ → List (RunningCopy X) → List (RunningCopy X)
without_copy {X} n copies = first_removed (λ (c : RunningCopy X). c.number == n) copies

-- A turn of a clone that runs on, with the target as the turn leaves it.
abbrev pub clone_goes_on : {X : Type 0} → Durable X → Task → ℕ → List X → Durable X
clone_goes_on {X} d t n target = record d {
  tasks = with_task d.tasks (advanced t n);
  clones = first_changed (λ (c : RunningClone X). c.number == t.number) (λ c. record c { target = target }) d.clones;
}

-- The last turn of a clone: the target becomes the list of a volume with the task's number, and image and target are
-- gone.
abbrev pub clone_ends : {X : Type 0} → Durable X → Task → ℕ → ℕ → RunningClone X → List X → Durable X
clone_ends {X} d t n source c target = record d {
  tasks = with_task d.tasks (advanced t n);
  clones = without_clone t.number d.clones;
  volumes = put_before (λ (v : Volume X). nat_lt c.number v.number) (cloned_volume c source target) d.volumes;
}

-- A turn of a clone: the values are put into the target at the turn's indexes.
abbrev pub clone_turned : {X : Type 0} → (X → ℕ) → List X → Durable X → Task → ℕ → RunningClone X → Durable X
clone_turned stamp_of values d t source c =
    let indexes = turn_indexes (map stamp_of c.image) t.done in
    if is_last t (length indexes)
    then clone_ends d t (length indexes) source c (put_at indexes values c.target)
    else clone_goes_on d t (length indexes) (put_at indexes values c.target)

-- each piece in place of the chunk at its index
abbrev pub pieces_put : {X : Type 0} → List (Piece X) → List X → List X
pieces_put {X} pieces chunks =
    put_at (map (λ (p : Piece X). p.index) pieces) (map (λ (p : Piece X). p.chunk) pieces) chunks

abbrev pub copy_goes_on : {X : Type 0} → Durable X → Task → Durable X
copy_goes_on d t = record d { tasks = with_task d.tasks (advanced t (next_piece t)) }

-- The last turn of a copy: all pieces are put into the target, and are gone.
abbrev pub copy_ends : {X : Type 0} → Durable X → Task → ℕ → RunningCopy X → Durable X
copy_ends {X} d t target c = record d {
  tasks = with_task d.tasks (advanced t (next_piece t));
  copies = without_copy t.number d.copies;
  volumes = first_changed (λ (v : Volume X). v.number == target)
      (λ v. record v { chunks = pieces_put c.pieces v.chunks }) d.volumes;
}

-- A turn of a copy.
abbrev pub copy_turned : {X : Type 0} → Durable X → Task → ℕ → RunningCopy X → Durable X
copy_turned d t target c = if is_last t (next_piece t) then copy_ends d t target c else copy_goes_on d t

abbrev pub job_turned : {X : Type 0} → (X → ℕ) → List X → Durable X → Task → Job → Durable X
job_turned stamp_of values d t (Clone source) =
    if_found (clone_of d t.number) (clone_turned stamp_of values d t source) d
job_turned stamp_of values d t (Copy source base target) =
    if_found (copy_of d t.number) (copy_turned d t target) d

-- a turn of a task: one that doesn't run stays as it is
unfoldable pub turned : {X : Type 0} → (X → ℕ) → List X → Durable X → ℕ → Durable X
turned stamp_of values d n =
    if_found (task_of d n) (λ t. if is_running t then job_turned stamp_of values d t t.job else d) d

-- the indexes whose chunks a turn of a task gives new values: none but for a clone that runs
abbrev pub job_indexes : {X : Type 0} → (X → ℕ) → Durable X → Task → Job → List ℕ
job_indexes {X} stamp_of d t (Clone source) =
    if_found (clone_of d t.number) (λ (c : RunningClone X). turn_indexes (map stamp_of c.image) t.done) []
job_indexes stamp_of d t (Copy source base target) = []

unfoldable pub turned_indexes : {X : Type 0} → (X → ℕ) → Durable X → ℕ → List ℕ
turned_indexes stamp_of d n =
    if_found (task_of d n) (λ t. if is_running t then job_indexes stamp_of d t t.job else []) []

-- the records when one is cancelled: it stays, with `done` as it was
abbrev pub task_cancelled : List Task → ℕ → List Task
task_cancelled tasks n = first_changed (λ (t : Task). t.number == n) (λ t. record t { state = Cancelled }) tasks

-- A task is cancelled, and what it holds is gone.
unfoldable pub cancelled : {X : Type 0} → Durable X → ℕ → Durable X
cancelled d n = record d {
  tasks = task_cancelled d.tasks n;
  clones = without_clone n d.clones;
  copies = without_copy n d.copies;
}

-- the image and the empty target of a clone of this volume
abbrev pub clone_of_volume : {X : Type 0} → X → ℕ → Volume X → RunningClone X
clone_of_volume unmapped number v = record {
  number = number;
  container = v.container;
  vtype = v.vtype;
  needs = v.needs;
  metadata = v.metadata;
  image = v.chunks;
  target = replicate (length v.chunks) unmapped;
}

-- its start, which makes the record of the task too
abbrev pub clone_started : {X : Type 0} → (X → ℕ) → X → Durable X → ℕ → Volume X → Durable X
clone_started {X} stamp_of unmapped d n v =
    let number = d.lsn + 1 in
    record d {
      tasks = started d.tasks (record {
        number = number;
        job = Clone n;
        state = Running;
        done = 0;
        total = allocated_count (map stamp_of v.chunks);
      });
      clones = put_before (λ (c : RunningClone X). nat_lt number c.number) (clone_of_volume unmapped number v) d.clones;
    }

-- A full clone of a volume starts.
unfoldable pub with_clone : {X : Type 0} → (X → ℕ) → X → Durable X → ℕ → Durable X
with_clone stamp_of unmapped d n = if_found (volume_of d n) (clone_started stamp_of unmapped d n) d

-- the source's chunks at the indexes where source and base differ
abbrev pub difference : {X : Type 0} → (X → ℕ) → List X → List X → List (Piece X)
difference {X} stamp_of source base =
    filter (λ (p : Piece X). is_unshared (map stamp_of base) p.index (stamp_of p.chunk))
    (indexed source)

-- the start of a copy with these pieces
abbrev pub copy_started : {X : Type 0} → Durable X → Job → List (Piece X) → Durable X
copy_started {X} d job pieces =
    let number = d.lsn + 1 in
    record d {
      tasks = started d.tasks (record {
        number = number;
        job = job;
        state = Running;
        done = 0;
        total = length pieces;
      });
      copies = put_before (λ (c : RunningCopy X). nat_lt number c.number)
          (record { number = number; pieces = pieces }) d.copies;
    }

-- A difference copy starts.
unfoldable pub with_copy : {X : Type 0} → (X → ℕ) → Durable X → ℕ → ℕ → ℕ → Durable X
with_copy stamp_of d source base target =
    if_found (volume_of d source) (λ v. if_found (volume_of d base)
    (λ w. copy_started d (Copy source base target) (difference stamp_of v.chunks w.chunks)) d) d
