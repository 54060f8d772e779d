-- The state of an array. Storage containers, virtual volumes, protocol endpoints and bindings are those of VASA 2.0
-- and of the logical unit conglomerates of SAM-5; the fields, the stamps and the tasks are this project's own.
--
-- The durable part is over any kind of chunk, X: chunk values with their bytes in the flat array, entries in the
-- tables, and the stamps alone in the shape, by which every refusal, count and bitmap is decided. A volume shares
-- nothing with any other. Each finite map is a list in rising order of its keys, so equal maps are equal lists.
use Rattle.std.specs.Prelude.{ℕ, ◌==◌, List, [], ◌∷◌, ◌++◌, map, replicate, Option}
use Rattle.std.specs.List.{find, flat_map}
use Rattle.vv_flat.specs.Lists.{mapped_from}
use Rattle.vv_units.specs.declared.geometry.Geometry.{Geometry}
use Rattle.vv_units.specs.declared.volume.VvolType.{VvolType}
use Rattle.vv_units.specs.declared.volume.VolumeKind.{VolumeKind}
use Rattle.vv_units.specs.declared.volume.TaskState.{TaskState}
use Rattle.vv_units.specs.declared.volume.Offer.{Offer}
use Rattle.vv_units.specs.declared.volume.Need.{Need}

-- A storage container: what its volumes may use in all, and the capabilities that it offers.
pub record Container : Type 0 where
  pub number : ℕ
  pub quota : ℕ
  pub offers : List Offer

-- A volume by itself. `reverted` is the log number of its last revert, or 0; a pair of its metadata is a key and a
-- note, in the order in which the keys came.
pub record Volume (X : Type 0) : Type 0 where
  pub number : ℕ
  pub container : ℕ
  pub vtype : VvolType
  pub kind : VolumeKind
  pub reverted : ℕ
  pub needs : List Need
  pub metadata : List (List ℕ × List ℕ)
  pub chunks : List X

-- The context that was set for a host: the endpoints that it may bind at.
pub record Context : Type 0 where
  pub host : ℕ
  pub endpoints : List ℕ

-- The address of a logical unit as one host sees it: a protocol endpoint, and a secondary identifier below it.
pub record Address : Type 0 where
  pub host : ℕ
  pub endpoint : ℕ
  pub secondary : ℕ

-- A volume bound at an address, as often as the count says.
pub record Binding : Type 0 where
  pub address : Address
  pub volume : ℕ
  pub count : ℕ

-- What a task does: it makes a full clone of a volume, or copies into a target what differs between source and base.
pub data Job : Type 0 where
  Clone : (volume : ℕ) → Job
  Copy : (source base target : ℕ) → Job

-- The record of a task: so many of its chunks or pieces are done.
pub record Task : Type 0 where
  pub number : ℕ
  pub job : Job
  pub state : TaskState
  pub done : ℕ
  pub total : ℕ

-- A full clone that runs: the image is its source's list as it was at the start, and the target becomes the list of
-- the new volume.
pub record RunningClone (X : Type 0) : Type 0 where
  pub number : ℕ
  pub container : ℕ
  pub vtype : VvolType
  pub needs : List Need
  pub metadata : List (List ℕ × List ℕ)
  pub image : List X
  pub target : List X

-- A chunk at its index. The pieces of a difference copy are those that it will put into its target.
pub record Piece (X : Type 0) : Type 0 where
  pub index : ℕ
  pub chunk : X

-- A difference copy that runs.
pub record RunningCopy (X : Type 0) : Type 0 where
  pub number : ℕ
  pub pieces : List (Piece X)

-- What is on disk. The log number is the count of the journaled events so far.
pub record Durable (X : Type 0) : Type 0 where
  pub geometry : Geometry
  pub lsn : ℕ
  pub containers : List Container
  pub volumes : List (Volume X)
  pub contexts : List Context
  pub bindings : List Binding
  pub tasks : List Task
  pub clones : List (RunningClone X)
  pub copies : List (RunningCopy X)

-- A SCSI command that a host has submitted and that waits to be served, with its data.
pub record QueuedCommand : Type 0 where
  pub address : Address
  pub cdb : List ℕ
  pub payload : List ℕ

-- What a restart forgets: the queue of each of the 64 hosts, that of host 1 first, and the addresses at which a
-- unit attention waits.
pub record Volatile : Type 0 where
  pub queues : List (List QueuedCommand)
  pub attentions : List Address

-- The whole array.
pub record Array (X : Type 0) : Type 0 where
  pub durable : Durable X
  pub volatile : Volatile

-- the hosts are numbered from 1 to this
abbrev pub host_limit : ℕ
host_limit = 64

-- Container 0 is there from the start: its quota can't be reached, and it offers nothing.
abbrev pub first_container : Container
first_container = record { number = 0; quota = 4294967295; offers = [] }

-- an array as it was formatted
abbrev pub empty_durable : {X : Type 0} → Geometry → Durable X
empty_durable geometry = record {
  geometry = geometry;
  lsn = 0;
  containers = first_container ∷ [];
  volumes = [];
  contexts = [];
  bindings = [];
  tasks = [];
  clones = [];
  copies = [];
}

abbrev pub empty_volatile : Volatile
empty_volatile = record { queues = replicate host_limit []; attentions = [] }

abbrev pub empty_array : {X : Type 0} → Geometry → Array X
empty_array geometry = record { durable = empty_durable geometry; volatile = empty_volatile }

-- Each chunk replaced by what f gives of it.

abbrev pub map_volume : {X Y : Type 0} → (X → Y) → Volume X → Volume Y
map_volume f v = record {
  number = v.number;
  container = v.container;
  vtype = v.vtype;
  kind = v.kind;
  reverted = v.reverted;
  needs = v.needs;
  metadata = v.metadata;
  chunks = map f v.chunks;
}

abbrev pub map_clone : {X Y : Type 0} → (X → Y) → RunningClone X → RunningClone Y
map_clone f c = record {
  number = c.number;
  container = c.container;
  vtype = c.vtype;
  needs = c.needs;
  metadata = c.metadata;
  image = map f c.image;
  target = map f c.target;
}

abbrev pub map_piece : {X Y : Type 0} → (X → Y) → Piece X → Piece Y
map_piece f p = record { index = p.index; chunk = f p.chunk }

abbrev pub map_copy : {X Y : Type 0} → (X → Y) → RunningCopy X → RunningCopy Y
map_copy f c = record { number = c.number; pieces = map (map_piece f) c.pieces }

abbrev pub map_durable : {X Y : Type 0} → (X → Y) → Durable X → Durable Y
map_durable f d = record {
  geometry = d.geometry;
  lsn = d.lsn;
  containers = d.containers;
  volumes = map (map_volume f) d.volumes;
  contexts = d.contexts;
  bindings = d.bindings;
  tasks = d.tasks;
  clones = map (map_clone f) d.clones;
  copies = map (map_copy f) d.copies;
}

-- The items of the maps.

abbrev pub container_of : {X : Type 0} → Durable X → ℕ → Option Container
container_of d n = find (λ (k : Container). k.number == n) d.containers

abbrev pub volume_of : {X : Type 0} → Durable X → ℕ → Option (Volume X)
volume_of {X} d n = find (λ (v : Volume X). v.number == n) d.volumes

abbrev pub task_of : {X : Type 0} → Durable X → ℕ → Option Task
task_of d n = find (λ (t : Task). t.number == n) d.tasks

abbrev pub clone_of : {X : Type 0} → Durable X → ℕ → Option (RunningClone X)
clone_of {X} d n = find (λ (c : RunningClone X). c.number == n) d.clones

abbrev pub copy_of : {X : Type 0} → Durable X → ℕ → Option (RunningCopy X)
copy_of {X} d n = find (λ (c : RunningCopy X). c.number == n) d.copies

-- the chunks of a list, each with its index
abbrev pub indexed : {X : Type 0} → List X → List (Piece X)
indexed chunks = mapped_from (λ i x. record { index = i; chunk = x }) 0 chunks

-- all chunks of all volumes, images, targets and copies, each with its index
abbrev pub all_pieces : {X : Type 0} → Durable X → List (Piece X)
all_pieces {X} d =
    flat_map (λ (v : Volume X). indexed v.chunks) d.volumes
    ++ flat_map (λ (c : RunningClone X). indexed c.image ++ indexed c.target) d.clones
    ++ flat_map (λ (c : RunningCopy X). c.pieces) d.copies
