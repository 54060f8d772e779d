-- How long the parts of a spelling are, without spelling them.
use Rattle.std.specs.Prelude.{ℕ, ◌+◌, ◌*◌, ◌==◌, List, length, sum_by, if◌then◌else◌}
use Rattle.vv_units.specs.declared.volume.Offer.{Offer}
use Rattle.vv_units.specs.declared.volume.Need.{Need}
use Rattle.vv_flat.specs.State.{Container, Volume, Context, Binding, Job, Clone, Copy, Task, RunningClone, RunningCopy, Durable}
use Rattle.vv_flat.specs.Chunks.{Entry}

abbrev pub offers_length : List Offer → ℕ
offers_length offers = 1 + sum_by (λ (o : Offer). 9 + length o.name) offers

abbrev pub needs_length : List Need → ℕ
needs_length needs = 1 + sum_by (λ (n : Need). 9 + length n.name) needs

abbrev pub metadata_length : List (List ℕ × List ℕ) → ℕ
metadata_length pairs = 1 + sum_by (λ (p : List ℕ × List ℕ). 2 + length p.0 + length p.1) pairs

abbrev pub entries_length : List Entry → ℕ
entries_length entries = 4 + 12 * length entries

abbrev pub container_length : Container → ℕ
container_length k = 16 + offers_length k.offers

abbrev pub reverted_length : ℕ → ℕ
reverted_length spelling = if spelling == 1 then 0 else 8

abbrev pub volume_length : ℕ → Volume Entry → ℕ
volume_length spelling v =
    26 + reverted_length spelling + needs_length v.needs + metadata_length v.metadata + entries_length v.chunks

abbrev pub context_length : Context → ℕ
context_length c = 5 + 2 * length c.endpoints

abbrev pub binding_length : ℕ
binding_length = 18

abbrev pub job_length : Job → ℕ
job_length (Clone volume) = 9
job_length (Copy source base target) = 25

abbrev pub task_length : Task → ℕ
task_length t = 17 + job_length t.job

abbrev pub clone_length : RunningClone Entry → ℕ
clone_length c =
    9 + needs_length c.needs + metadata_length c.metadata + entries_length c.image + entries_length c.target

abbrev pub copy_length : RunningCopy Entry → ℕ
copy_length c = 4 + 16 * length c.pieces

-- The lengths of the sections.

abbrev pub containers_length : List Container → ℕ
containers_length containers = 1 + sum_by container_length containers

abbrev pub volumes_length : ℕ → List (Volume Entry) → ℕ
volumes_length spelling volumes = 2 + sum_by (volume_length spelling) volumes

abbrev pub contexts_length : List Context → ℕ
contexts_length contexts = 1 + sum_by context_length contexts

abbrev pub bindings_length : List Binding → ℕ
bindings_length bindings = 2 + binding_length * length bindings

abbrev pub tasks_length : List Task → ℕ
tasks_length tasks = 2 + sum_by task_length tasks

abbrev pub runs_length : List (RunningClone Entry) → List (RunningCopy Entry) → ℕ
runs_length clones copies = sum_by clone_length clones + sum_by copy_length copies

-- the length of the whole
unfoldable pub area_length : ℕ → Durable Entry → ℕ
area_length spelling d =
    8 + containers_length d.containers + volumes_length spelling d.volumes + contexts_length d.contexts
    + bindings_length d.bindings + tasks_length d.tasks + runs_length d.clones d.copies

-- the most bytes of the tables of an array whose lists may have so many entries together
abbrev pub area_limit : ℕ → ℕ
area_limit map_chunks = 16 * map_chunks + 1048568
