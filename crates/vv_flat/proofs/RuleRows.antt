-- Rows that pin each clause of the nine rules of tables: tables that break it, with the numbers of all rules that they
-- break. And rows on records of a log over such tables. All are computed from the definitions.
use Rattle.std.specs.Prelude.{◌≡◌, ◌≤◌, ℕ, ◌*◌, ◌^◌, Bool, true, false, not, List, [], ◌∷◌, ◌++◌, map, Option, Some, None, Result, Ok, Err, refl, replicate}
use Rattle.std.proofs.Common.{lit≤}
use Rattle.vv_units.specs.declared.geometry.Geometry.{Geometry}
use Rattle.vv_units.specs.declared.volume.VvolType.TheVariants.{Data}
use Rattle.vv_units.specs.declared.volume.VolumeKind.{VolumeKind}
use Rattle.vv_units.specs.declared.volume.VolumeKind.TheVariants.{Plain, SnapshotOf, FastCloneOf}
use Rattle.vv_units.specs.declared.volume.TaskState.{TaskState}
use Rattle.vv_units.specs.declared.volume.TaskState.TheVariants.{Running, Success, Cancelled}
use Rattle.vv_flat.specs.Lists.{indexes_from}
use Rattle.vv_flat.specs.State.{Durable, Volume, Binding, Job, Clone, Copy, Task, RunningClone, RunningCopy, empty_durable, first_container}
use Rattle.vv_flat.specs.Chunks.{Entry, unmapped_entry, shape_of_tables}
use Rattle.vv_flat.specs.Space.{used, reserved, free, entries, charge}
use Rattle.vv_flat.specs.Tasks.{turned, turned_indexes}
use Rattle.vv_flat.specs.Changes.{DeleteVolume, Write, Turn, judge, effect, apply, changed_indexes}
use Rattle.vv_flat.specs.Replay.{fits, replayed}
use Rattle.vv_flat.specs.Logs.{LogRecord, Unfit, record_fits, replay_from, replay}
use Rattle.vv_flat.specs.Sharing.{shares, standings, place_count}
use Rattle.vv_flat.specs.Rules.{numbers_rule, names_rule, limits_rule, sizes_rule, space_rule, bindings_rule, clones_rule, copies_rule}

-- lists of 64 entries over a pool of 8, 4 or 3 chunks of one MB
abbrev geometry : (pool : ℕ) → 1 ≤ pool → pool ≤ 262144 → pool * 2048 ≤ 8388608 → Geometry
geometry pool some few small = record {
  chunk_blocks = 2048;
  pool_chunks = pool;
  map_chunks = 64;
  chunk_size = refl;
  some_chunks = some;
  few_chunks = few;
  small_pool = small;
  map_from = lit≤ tt;
  map_to = lit≤ tt;
}

abbrev placed : ℕ → ℕ → Entry
placed place stamp = record { place = Some place; stamp = stamp }

abbrev volume : ℕ → ℕ → VolumeKind → List Entry → Volume Entry
volume number container kind chunks = record {
  number = number;
  container = container;
  vtype = Data;
  kind = kind;
  reverted = 0;
  needs = [];
  metadata = [];
  chunks = chunks;
}

abbrev task : ℕ → Job → TaskState → ℕ → ℕ → Task
task number job state done total = record { number = number; job = job; state = state; done = done; total = total }

abbrev clone : ℕ → List Entry → List Entry → RunningClone Entry
clone container image target = record {
  number = 8;
  container = container;
  vtype = Data;
  needs = [];
  metadata = [];
  image = image;
  target = target;
}

abbrev copy : List (ℕ × Entry) → RunningCopy Entry
copy pieces = record { number = 9; pieces = map (λ (p : ℕ × Entry). record { index = p.0; chunk = p.1 }) pieces }

abbrev bound : ℕ → ℕ → ℕ → ℕ → ℕ → Binding
bound host endpoint secondary n count =
    record { address = record { host = host; endpoint = endpoint; secondary = secondary }; volume = n; count = count }

abbrev two : List Entry
two = placed 0 4 ∷ placed 1 5 ∷ []

abbrev half : List Entry
half = placed 2 8 ∷ unmapped_entry ∷ []

abbrev snapshot : Volume Entry
snapshot = volume 3 0 (SnapshotOf (record { 0 = 2 })) (placed 0 4 ∷ [])

abbrev target : Volume Entry
target = volume 6 0 Plain (unmapped_entry ∷ unmapped_entry ∷ [])

-- Volume 2 is being cloned by task 8, its snapshot is 3, and 6 is the target of the running copy 9. Volume 7 is bound for
-- host 1. Task 10 has succeeded.
sound : Durable Entry
sound = record (empty_durable (geometry 8 (lit≤ tt) (lit≤ tt) (lit≤ tt))) {
  lsn = 20;
  containers = first_container ∷ record { number = 1; quota = 2; offers = [] } ∷ [];
  volumes = volume 2 1 Plain two ∷ snapshot ∷ target ∷ volume 7 1 Plain (unmapped_entry ∷ []) ∷ [];
  contexts = record { host = 2; endpoints = 3 ∷ [] } ∷ [];
  bindings = bound 1 1 1 7 1 ∷ [];
  tasks = task 8 (Clone 2) Running 1 2 ∷ task 9 (Copy 2 7 6) Running 0 2 ∷ task 10 (Clone 2) Success 1 1 ∷ [];
  clones = clone 0 two half ∷ [];
  copies = copy ((0, placed 0 4) ∷ (1, placed 1 5) ∷ []) ∷ [];
}

-- the numbers of the rules that tables break
broken : Durable Entry → List ℕ
unfolding numbers_rule names_rule limits_rule sizes_rule space_rule used reserved entries charge shares standings bindings_rule clones_rule copies_rule
broken tables =
    let d = shape_of_tables tables in
    indexes_from (λ i holds. not holds) 1
    (numbers_rule d ∷ names_rule d ∷ limits_rule d ∷ sizes_rule d ∷ space_rule d ∷ shares tables ∷ bindings_rule d ∷ clones_rule d ∷ copies_rule d ∷ [])

none_broken : broken sound ≡ []
unfolding broken sound
none_broken = refl

-- Numbers: of volumes, of what they are made of, of reverts, of containers and tasks, of a running clone's source.
numbers : map broken
    (record sound { volumes = sound.volumes ++ volume 21 0 Plain (unmapped_entry ∷ []) ∷ [] }
    ∷ record sound { volumes = sound.volumes ++ volume 11 0 (FastCloneOf (record { 0 = 21 })) (unmapped_entry ∷ []) ∷ [] }
    ∷ record sound { volumes = sound.volumes ++ volume 11 0 (FastCloneOf (record { 0 = 0 })) (unmapped_entry ∷ []) ∷ [] }
    ∷ record sound { volumes = sound.volumes ++ record (volume 11 0 Plain (unmapped_entry ∷ [])) { reverted = 21 } ∷ [] }
    ∷ record sound { containers = sound.containers ++ record { number = 21; quota = 0; offers = [] } ∷ [] }
    ∷ record sound { tasks = sound.tasks ++ task 21 (Clone 2) Cancelled 0 0 ∷ [] }
    ∷ record sound { tasks = task 8 (Clone 0) Running 1 2 ∷ task 9 (Copy 2 7 6) Running 0 2 ∷ [] }
    ∷ record sound { containers = sound.containers ++ record { number = 7; quota = 0; offers = [] } ∷ [] }
    ∷ record sound { containers = sound.containers ++ record { number = 8; quota = 0; offers = [] } ∷ [] }
    ∷ record sound { lsn = 2 ^ 62 }
    ∷ [])
    ≡ replicate 10 (1 ∷ [])
unfolding broken sound
numbers = refl

-- a task that doesn't run may have any source
numbers_of_the_past : broken (record sound { tasks = task 8 (Clone 2) Running 1 2 ∷ task 9 (Copy 2 7 6) Running 0 2 ∷ task 10 (Clone 0) Success 1 1 ∷ [] }) ≡ []
unfolding broken sound
numbers_of_the_past = refl

-- Names: containers of volumes and clones, the volume of a snapshot, of a binding, and the target of a copy.
names : map broken
    (record sound { volumes = sound.volumes ++ volume 11 5 Plain (unmapped_entry ∷ []) ∷ [] }
    ∷ record sound { volumes = sound.volumes ++ volume 11 0 (SnapshotOf (record { 0 = 3 })) (unmapped_entry ∷ []) ∷ [] }
    ∷ record sound { clones = clone 5 two half ∷ [] }
    ∷ record sound { bindings = bound 1 1 1 12 1 ∷ [] }
    ∷ record sound { tasks = task 8 (Clone 2) Running 1 2 ∷ task 9 (Copy 2 7 12) Running 0 2 ∷ [] }
    ∷ [])
    ≡ (2 ∷ []) ∷ (2 ∷ []) ∷ (2 ∷ []) ∷ (2 ∷ []) ∷ (2 ∷ 9 ∷ []) ∷ []
unfolding broken sound
names = refl

-- a snapshot of a volume that is gone stands, and so does one whose job has ended
names_of_the_past : broken (record sound { volumes = sound.volumes ++ volume 11 0 (SnapshotOf (record { 0 = 12 })) (unmapped_entry ∷ []) ∷ [] }) ≡ []
unfolding broken sound
names_of_the_past = refl

-- Limits, from both sides.
shape_now : Durable ℕ
unfolding sound
shape_now = shape_of_tables sound

limits_of : List (Durable ℕ) → List Bool
unfolding limits_rule entries
limits_of shapes = map limits_rule shapes

abbrev bare : Volume ℕ
bare = record { number = 11; container = 0; vtype = Data; kind = Plain; reverted = 0; needs = []; metadata = []; chunks = [] }

abbrev bare_clone : RunningClone ℕ
bare_clone = record { number = 8; container = 0; vtype = Data; needs = []; metadata = []; image = []; target = [] }

abbrev is_within : List (Durable ℕ) → Type 0
is_within shapes = limits_of shapes ≡ true ∷ false ∷ []

most_volumes : is_within (map (λ n. record shape_now { volumes = replicate n bare }) (255 ∷ 256 ∷ []))
unfolding limits_of shape_now
most_volumes = refl

most_containers : is_within (map (λ n. record shape_now { containers = replicate n first_container }) (32 ∷ 33 ∷ []))
unfolding limits_of shape_now
most_containers = refl

most_bindings : is_within (map (λ n. record shape_now { bindings = replicate n (bound 1 1 1 7 1) }) (1024 ∷ 1025 ∷ []))
unfolding limits_of shape_now
most_bindings = refl

most_running : is_within (map (λ n. record shape_now { tasks = replicate n (task 8 (Clone 2) Running 0 0) }) (16 ∷ 17 ∷ []))
unfolding limits_of shape_now
most_running = refl

most_tasks : is_within (map (λ n. record shape_now { tasks = replicate n (task 8 (Clone 2) Cancelled 0 0) }) (256 ∷ 257 ∷ []))
unfolding limits_of shape_now
most_tasks = refl

most_pairs : is_within (map (λ n. record shape_now { volumes = record bare { metadata = replicate n ([], []) } ∷ replicate 67 (record bare { metadata = replicate 64 ([], []) }); clones = bare_clone ∷ [] }) (64 ∷ 65 ∷ []))
unfolding limits_of shape_now
most_pairs = refl

all_pairs : is_within (map (λ n. record shape_now { volumes = replicate 67 (record bare { metadata = replicate 64 ([], []) }); clones = record bare_clone { metadata = replicate 63 ([], []) } ∷ record bare_clone { metadata = replicate n ([], []) } ∷ [] }) (1 ∷ 2 ∷ []))
unfolding limits_of shape_now
all_pairs = refl

most_entries : is_within (map (λ n. record shape_now { volumes = record bare { chunks = replicate n 0 } ∷ [] }) (58 ∷ 59 ∷ []))
unfolding limits_of shape_now
most_entries = refl

most_offers : is_within (map (λ n. record shape_now { containers = record first_container { offers = replicate n (record { name = []; value = 0 }) } ∷ [] }) (16 ∷ 17 ∷ []))
unfolding limits_of shape_now
most_offers = refl

most_needs : is_within (map (λ n. record shape_now { volumes = record bare { needs = replicate n (record { name = []; value = 0 }) } ∷ [] }) (8 ∷ 9 ∷ []))
unfolding limits_of shape_now
most_needs = refl

most_keys : is_within (map (λ n. record shape_now { volumes = record bare { metadata = replicate n ([], []) } ∷ [] }) (64 ∷ 65 ∷ []))
unfolding limits_of shape_now
most_keys = refl

most_needs_of_clones : is_within (map (λ n. record shape_now { clones = record bare_clone { needs = replicate n (record { name = []; value = 0 }) } ∷ [] }) (8 ∷ 9 ∷ []))
unfolding limits_of shape_now
most_needs_of_clones = refl

most_keys_of_clones : is_within (map (λ n. record shape_now { clones = record bare_clone { metadata = replicate n ([], []) } ∷ [] }) (64 ∷ 65 ∷ []))
unfolding limits_of shape_now
most_keys_of_clones = refl

most_endpoints : is_within (map (λ n. record shape_now { contexts = record { host = 1; endpoints = replicate n 1 } ∷ [] }) (8 ∷ 9 ∷ []))
unfolding limits_of shape_now
most_endpoints = refl

hosts : limits_of (map (λ n. record shape_now { contexts = record { host = n; endpoints = [] } ∷ [] }) (0 ∷ 1 ∷ 64 ∷ 65 ∷ [])) ≡ false ∷ true ∷ true ∷ false ∷ []
unfolding limits_of shape_now
hosts = refl

hosts_of_bindings : limits_of (map (λ n. record shape_now { bindings = bound n 1 1 7 1 ∷ [] }) (0 ∷ 1 ∷ 64 ∷ 65 ∷ [])) ≡ false ∷ true ∷ true ∷ false ∷ []
unfolding limits_of shape_now
hosts_of_bindings = refl

most_counts : is_within (map (λ n. record shape_now { bindings = bound 1 1 1 7 n ∷ [] }) (65535 ∷ 65536 ∷ []))
unfolding limits_of shape_now
most_counts = refl

-- Sizes of volumes and images.
sizes : map broken
    (record sound { volumes = sound.volumes ++ volume 11 0 Plain [] ∷ [] }
    ∷ record sound { tasks = task 8 (Clone 2) Running 0 0 ∷ task 9 (Copy 2 7 6) Running 0 2 ∷ []; clones = clone 0 [] [] ∷ [] }
    ∷ [])
    ≡ (4 ∷ []) ∷ (4 ∷ []) ∷ []
unfolding broken sound
sizes = refl

-- The pool, and a quota.
space : map broken
    (record sound { geometry = geometry 4 (lit≤ tt) (lit≤ tt) (lit≤ tt) } ∷ record sound { geometry = geometry 3 (lit≤ tt) (lit≤ tt) (lit≤ tt) }
    ∷ record sound { containers = first_container ∷ record { number = 1; quota = 1; offers = [] } ∷ [] }
    ∷ record sound { clones = clone 1 two half ∷ [] }
    ∷ record sound { volumes = volume 2 1 Plain two ∷ snapshot ∷ record target { container = 1 } ∷ volume 7 1 Plain (unmapped_entry ∷ []) ∷ [] }
    ∷ [])
    ≡ [] ∷ (5 ∷ []) ∷ (5 ∷ []) ∷ (5 ∷ []) ∷ (5 ∷ []) ∷ []
unfolding broken sound
space = refl

-- Places: one that is missing, one too many, one past the pool, a stamp past the log, one place for two stamps, two places
-- for one stamp, and a clone's number outside its target.
places : map (λ e. broken (record sound { volumes = sound.volumes ++ volume 11 0 Plain (e ∷ []) ∷ [] }))
    (placed 0 4 ∷ placed 3 6 ∷ record { place = None; stamp = 4 } ∷ placed 3 0 ∷ placed 8 6 ∷ placed 3 21 ∷ placed 0 6 ∷ placed 3 4 ∷ placed 2 8 ∷ [])
    ≡ [] ∷ [] ∷ (6 ∷ []) ∷ (6 ∷ []) ∷ (6 ∷ []) ∷ (6 ∷ []) ∷ (6 ∷ []) ∷ (6 ∷ []) ∷ (6 ∷ []) ∷ []
unfolding broken sound
places = refl

-- Bindings: the endpoint, the secondary, the count, a second binding of the volume, and a running copy's target.
bindings : map (λ bs. broken (record sound { bindings = bs }))
    ((bound 1 2 1 7 1 ∷ []) ∷ (bound 2 1 1 7 1 ∷ []) ∷ (bound 2 3 1 7 1 ∷ []) ∷ (bound 1 1 0 7 1 ∷ []) ∷ (bound 1 1 1 7 0 ∷ [])
    ∷ (bound 1 1 1 7 1 ∷ bound 1 1 2 7 1 ∷ []) ∷ (bound 1 1 1 7 1 ∷ bound 2 3 1 7 1 ∷ []) ∷ (bound 1 1 1 6 1 ∷ []) ∷ [])
    ≡ (7 ∷ []) ∷ (7 ∷ []) ∷ [] ∷ (7 ∷ []) ∷ (7 ∷ []) ∷ (7 ∷ []) ∷ [] ∷ (7 ∷ []) ∷ []
unfolding broken sound
bindings = refl

-- Running clones: the total, the length of the target, what is copied, and its stamps.
clones : map broken
    (record sound { tasks = task 8 (Clone 2) Running 1 3 ∷ task 9 (Copy 2 7 6) Running 0 2 ∷ [] }
    ∷ record sound { clones = clone 0 two (placed 2 8 ∷ []) ∷ [] }
    ∷ record sound { tasks = task 8 (Clone 2) Running 2 2 ∷ task 9 (Copy 2 7 6) Running 0 2 ∷ [] }
    ∷ record sound { tasks = task 8 (Clone 2) Running 0 2 ∷ task 9 (Copy 2 7 6) Running 0 2 ∷ [] }
    ∷ record sound { clones = clone 0 two (placed 2 6 ∷ unmapped_entry ∷ []) ∷ [] }
    ∷ record sound { clones = clone 0 two (unmapped_entry ∷ placed 2 8 ∷ []) ∷ [] }
    ∷ record sound { tasks = task 9 (Copy 2 7 6) Running 0 2 ∷ [] }
    ∷ [])
    ≡ replicate 7 (8 ∷ [])
unfolding broken sound
clones = refl

-- Running copies: the total, the order of the pieces, those outside the target, a target that is a snapshot, and one that
-- two copies have; and tasks that have done more than all, or less when they have succeeded.
copies : map broken
    (record sound { tasks = task 8 (Clone 2) Running 1 2 ∷ task 9 (Copy 2 7 6) Running 0 3 ∷ [] }
    ∷ record sound { copies = copy ((1, placed 1 5) ∷ (0, placed 0 4) ∷ []) ∷ [] }
    ∷ record sound { copies = copy ((0, placed 0 4) ∷ (0, placed 0 4) ∷ []) ∷ [] }
    ∷ record sound { copies = copy ((0, placed 0 4) ∷ (2, placed 3 7) ∷ []) ∷ [] }
    ∷ record sound { tasks = task 8 (Clone 2) Running 1 2 ∷ task 9 (Copy 2 7 3) Running 0 1 ∷ []; copies = copy ((0, placed 0 4) ∷ []) ∷ [] }
    ∷ record sound { tasks = sound.tasks ++ task 11 (Copy 2 7 6) Running 0 0 ∷ [] }
    ∷ record sound { tasks = sound.tasks ++ task 11 (Copy 2 7 6) Cancelled 2 1 ∷ [] }
    ∷ record sound { tasks = sound.tasks ++ task 11 (Copy 2 7 6) Success 0 1 ∷ [] }
    ∷ record sound { tasks = task 8 (Clone 2) Running 1 2 ∷ [] }
    ∷ [])
    ≡ replicate 9 (9 ∷ [])
unfolding broken sound
copies = refl

-- Records over these tables. Task 8 copies the chunk at index 1 next, and its turn says so.
turn_of_8 : List ℕ → List ℕ → LogRecord
turn_of_8 indexes places = record { marked = false; change = Turn 8; indexes = indexes; places = places }

fitting : List LogRecord → List Bool
unfolding record_fits fits judge used reserved free entries charge changed_indexes turned_indexes place_count sound
fitting records = map (record_fits sound) records

turns : fitting (turn_of_8 (1 ∷ []) (3 ∷ []) ∷ turn_of_8 (0 ∷ []) (3 ∷ []) ∷ turn_of_8 [] (3 ∷ []) ∷ turn_of_8 (1 ∷ []) [] ∷ turn_of_8 (1 ∷ []) (2 ∷ []) ∷ turn_of_8 (1 ∷ []) (8 ∷ []) ∷ [])
    ≡ true ∷ false ∷ false ∷ false ∷ false ∷ false ∷ []
unfolding fitting turn_of_8
turns = refl

-- A copy's turn copies nothing, and a record of another kind says no indexes that count.
other_turns : fitting (record { marked = false; change = Turn 9; indexes = []; places = [] } ∷ record { marked = false; change = Turn 9; indexes = 0 ∷ []; places = [] }
    ∷ record { marked = false; change = DeleteVolume 2; indexes = 5 ∷ []; places = [] } ∷ [])
    ≡ true ∷ false ∷ true ∷ []
unfolding fitting
other_turns = refl

-- A marked record interrupts the tasks first: then there is no turn to do, and the target may be written.
marked_records : fitting (record { marked = true; change = Turn 8; indexes = 1 ∷ []; places = 3 ∷ [] } ∷ record { marked = true; change = Write 6 0 1; indexes = []; places = 2 ∷ [] }
    ∷ record { marked = false; change = Write 6 0 1; indexes = []; places = 3 ∷ [] } ∷ [])
    ≡ false ∷ true ∷ false ∷ []
unfolding fitting
marked_records = refl

fault : {X : Type 0} → Result X Unfit → Option Unfit
fault (Ok x) = None
fault (Err f) = Some f

fault_of : List LogRecord → Option Unfit
unfolding replay_from fits judge used reserved free entries charge changed_indexes turned_indexes place_count replayed apply effect turned sound fault
fault_of records = fault (replay sound records)

-- The first record that doesn't fit is told with its number in the log and the log number that it would have.
one_fault : fault_of (record { marked = false; change = DeleteVolume 2; indexes = []; places = [] } ∷ turn_of_8 (1 ∷ []) (3 ∷ []) ∷ turn_of_8 (1 ∷ []) (4 ∷ []) ∷ turn_of_8 [] [] ∷ [])
    ≡ Some (record { at = 2; lsn = 23 })
unfolding fault_of turn_of_8
one_fault = refl

no_fault : fault_of (record { marked = false; change = DeleteVolume 2; indexes = []; places = [] } ∷ turn_of_8 (1 ∷ []) (3 ∷ []) ∷ [])
    ≡ None
unfolding fault_of turn_of_8
no_fault = refl
