-- Rows that pin the order of refusals and their borders, kind by kind: in each shape two checks that stand beside each
-- other both fail, and the first of them is answered. All are computed from the definitions.
use Rattle.std.specs.Prelude.{◌≡◌, ℕ, ◌-◌, ◌^◌, List, [], ◌∷◌, ◌++◌, map, Option, Some, None, refl, replicate}
use Rattle.std.proofs.Common.{lit≤}
use Rattle.vv_units.specs.declared.geometry.Geometry.{Geometry}
use Rattle.vv_units.specs.declared.volume.VvolType.TheVariants.{Data}
use Rattle.vv_units.specs.declared.volume.VolumeKind.{VolumeKind}
use Rattle.vv_units.specs.declared.volume.VolumeKind.TheVariants.{Plain, SnapshotOf}
use Rattle.vv_units.specs.declared.volume.TaskState.TheVariants.{Running, Success}
use Rattle.vv_units.specs.declared.volume.Why.TheVariants.{Unknown}
use Rattle.vv_units.specs.declared.field.Field.TheVariants.{Container as in_container, Vvol as in_vvol, SizeInMb as in_size, Snapshot as in_snapshot, Source as in_source, Base as in_base, Target as in_target, Task as in_task, Endpoints as in_endpoints, Host as in_host, Secondary as in_secondary, Binding as in_binding, Count as in_count, Key as in_key, Pairs}
use Rattle.vv_flat.specs.State.{Durable, Volume, Binding, Clone, Copy, empty_durable, first_container}
use Rattle.vv_flat.specs.Space.{used, reserved, free, entries, charge}
use Rattle.vv_flat.specs.Profiles.{Misfit}
use Rattle.vv_flat.specs.Tasks.{turn_indexes}
use Rattle.vv_flat.specs.Refusals.{Verdict, Refuse, Nothing, Accept, NotFound, InvalidArgument, IncompatibleVolume, OutOfRange, WriteProtected, Exhausted, ResourceInUse, NotCancellable, NoEndpoint, TooMany, OverQuota, PoolFull, MapFull, InvalidProfile}
use Rattle.vv_flat.specs.Changes.{Change, MakeContainer, MakeVolume, DeleteVolume, GrowVolume, SetMetadata, Snapshot, FastClone, Revert, Write, Unmap, SetEndpoints, Bind, Unbind, UnbindAll, StartClone, StartCopy, Turn, Cancel, judge}

-- A pool of 3 chunks of one MB, all of them used, and lists of 64 entries.
small : Geometry
small = record {
  chunk_blocks = 2048;
  pool_chunks = 3;
  map_chunks = 64;
  chunk_size = refl;
  some_chunks = lit≤ tt;
  few_chunks = lit≤ tt;
  small_pool = lit≤ tt;
  map_from = lit≤ tt;
  map_to = lit≤ tt;
}

abbrev volume : ℕ → ℕ → VolumeKind → List ℕ → Volume ℕ
volume number container kind stamps = record {
  number = number;
  container = container;
  vtype = Data;
  kind = kind;
  reverted = 0;
  needs = [];
  metadata = [];
  chunks = stamps;
}

abbrev bound : ℕ → ℕ → ℕ → Binding
bound secondary n count = record { address = record { host = 1; endpoint = 1; secondary = secondary }; volume = n; count = count }

-- Volume 2 is in a container whose quota it fills, 3 is its snapshot, 4 is the target of the running copy 9, 5 is bound
-- for host 1 as often as it may be, and 6 is the snapshot of 5. Host 2 has no endpoint, and host 3 has two.
ground : Durable ℕ
unfolding small
ground = record (empty_durable small) {
  lsn = 20;
  containers = first_container ∷ record { number = 1; quota = 2; offers = [] } ∷ [];
  volumes = volume 2 1 Plain (5 ∷ 6 ∷ 0 ∷ []) ∷ volume 3 0 (SnapshotOf (record { 0 = 2 })) (5 ∷ [])
      ∷ volume 4 0 Plain (0 ∷ 0 ∷ []) ∷ volume 5 0 Plain (7 ∷ 0 ∷ 0 ∷ [])
      ∷ volume 6 0 (SnapshotOf (record { 0 = 5 })) (7 ∷ 0 ∷ 0 ∷ []) ∷ [];
  contexts = record { host = 2; endpoints = [] } ∷ record { host = 3; endpoints = 1 ∷ 2 ∷ [] } ∷ [];
  bindings = bound 1 5 65535 ∷ [];
  tasks = record { number = 9; job = Copy 2 5 4; state = Running; done = 0; total = 1 }
      ∷ record { number = 10; job = Clone 2; state = Success; done = 1; total = 1 } ∷ [];
  copies = record { number = 9; pieces = record { index = 0; chunk = 5 } ∷ [] } ∷ [];
}

-- the same at the last log number
ended : Durable ℕ
unfolding ground
ended = record ground { lsn = 2 ^ 62 - 1 }

-- with 256 volumes, with 4352 pairs of metadata, with a full list of entries, and with 16 running tasks
crowded : Durable ℕ
unfolding ground
crowded = record ground { volumes = ground.volumes ++ replicate 251 (volume 7 0 Plain []) }

keyed : ℕ → Durable ℕ
unfolding ground
keyed pairs = record ground {
  volumes = record (volume 2 1 Plain (5 ∷ 6 ∷ 0 ∷ [])) { metadata = replicate pairs (7 ∷ [], []) } ∷ ground.volumes;
}

spread : Durable ℕ
unfolding ground
spread = record ground { volumes = ground.volumes ++ volume 7 0 Plain (replicate 60 0) ∷ [] }

hurried : Durable ℕ
unfolding ground
hurried = record ground {
  tasks = ground.tasks ++ replicate 15 (record { number = 11; job = Copy 2 5 8; state = Running; done = 0; total = 1 });
}

-- where a running copy is to change a snapshot too
disturbed : Durable ℕ
unfolding ground
disturbed = record ground { tasks = record { number = 8; job = Copy 2 5 3; state = Running; done = 0; total = 1 } ∷ ground.tasks }

answers : Durable ℕ → List Change → List Verdict
unfolding judge used reserved free entries charge
answers d changes = map (λ c. judge None d c) changes

containers : answers ended (MakeContainer 1 [] ∷ []) ≡ Refuse Exhausted ∷ []
unfolding answers ended
containers = refl

full_of_containers : answers (record ended { containers = replicate 32 first_container }) (MakeContainer 1 [] ∷ []) ≡ Refuse Exhausted ∷ []
unfolding answers ended
full_of_containers = refl

-- the name, then the size, then the last number, then the limit of volumes, then the profile, then the map
volumes : answers ended (MakeVolume 7 Data 0 [] ∷ MakeVolume 0 Data 0 [] ∷ MakeVolume 0 Data 1 [] ∷ [])
    ≡ Refuse (NotFound in_container) ∷ Refuse (InvalidArgument in_size) ∷ Refuse Exhausted ∷ []
unfolding answers ended
volumes = refl

crowded_volumes : answers (record crowded { lsn = 2 ^ 62 - 1 }) (MakeVolume 0 Data 1 [] ∷ Snapshot 2 ∷ FastClone 2 ∷ StartClone 2 ∷ [])
    ≡ Refuse Exhausted ∷ Refuse Exhausted ∷ Refuse Exhausted ∷ Refuse Exhausted ∷ []
unfolding answers crowded
crowded_volumes = refl

misfit : Option Misfit
misfit = Some (record { at = 3; why = Unknown })

profiles : map (λ d. judge misfit d (MakeVolume 0 Data 60 [])) (crowded ∷ ground ∷ [])
    ≡ Refuse (TooMany in_vvol 256) ∷ Refuse (InvalidProfile 3 Unknown) ∷ []
unfolding answers judge entries misfit crowded ground
profiles = refl

without_profiles : answers ground (MakeVolume 0 Data 60 [] ∷ MakeVolume 0 Data 51 [] ∷ MakeVolume 0 Data 52 [] ∷ [])
    ≡ Refuse (MapFull 13 60 64) ∷ Accept ∷ Refuse (MapFull 13 52 64) ∷ []
unfolding answers ground
without_profiles = refl

deletes : answers ended (DeleteVolume 99 ∷ DeleteVolume 5 ∷ DeleteVolume 4 ∷ DeleteVolume 2 ∷ [])
    ≡ Refuse (NotFound in_vvol) ∷ Refuse (ResourceInUse in_vvol) ∷ Refuse (ResourceInUse in_vvol) ∷ Refuse Exhausted ∷ []
unfolding answers ended
deletes = refl

-- the size, then the snapshot, then the copy that runs, then nothing, then the last number, then the map
growths : answers (record disturbed { lsn = 2 ^ 62 - 1 }) (GrowVolume 99 0 ∷ GrowVolume 3 0 ∷ GrowVolume 3 2 ∷ GrowVolume 4 2 ∷ GrowVolume 2 3 ∷ GrowVolume 2 100 ∷ [])
    ≡ Refuse (NotFound in_vvol) ∷ Refuse (InvalidArgument in_size) ∷ Refuse (IncompatibleVolume in_vvol) ∷ Refuse (ResourceInUse in_vvol)
    ∷ Nothing ∷ Refuse Exhausted ∷ []
unfolding answers disturbed
growths = refl

grown : answers ground (GrowVolume 2 54 ∷ GrowVolume 2 55 ∷ GrowVolume 2 2 ∷ []) ≡ Accept ∷ Refuse (MapFull 13 52 64) ∷ Refuse (InvalidArgument in_size) ∷ []
unfolding answers ground
grown = refl

-- the keys of the volume, then all pairs; an old key needs no room
notes : answers (record (keyed 64) { lsn = 2 ^ 62 - 1 }) (SetMetadata 99 (8 ∷ []) None ∷ SetMetadata 2 (8 ∷ []) None ∷ SetMetadata 2 (8 ∷ []) (Some []) ∷ [])
    ≡ Refuse (NotFound in_vvol) ∷ Nothing ∷ Refuse Exhausted ∷ []
unfolding answers keyed
notes = refl

full_notes : map (λ pairs. judge None (keyed pairs) (SetMetadata 2 (8 ∷ []) (Some []))) (63 ∷ 64 ∷ 4352 ∷ [])
    ≡ Accept ∷ Refuse (TooMany in_key 64) ∷ Refuse (TooMany in_key 64) ∷ []
unfolding judge keyed
full_notes = refl

old_notes : answers (keyed 4352) (SetMetadata 2 (7 ∷ []) (Some []) ∷ SetMetadata 2 (7 ∷ []) (Some (1 ∷ [])) ∷ SetMetadata 3 (7 ∷ []) (Some []) ∷ [])
    ≡ Nothing ∷ Accept ∷ Refuse (TooMany Pairs 4352) ∷ []
unfolding answers keyed
old_notes = refl

one_pair_left : answers (keyed 4351) (SetMetadata 3 (7 ∷ []) (Some []) ∷ []) ≡ Accept ∷ []
unfolding answers keyed
one_pair_left = refl

-- the snapshot, then the last number, then the limit of volumes, then the pairs, then the quota, then the map
snapshots : answers ended (Snapshot 99 ∷ Snapshot 3 ∷ FastClone 99 ∷ FastClone 3 ∷ [])
    ≡ Refuse (NotFound in_vvol) ∷ Refuse (IncompatibleVolume in_vvol) ∷ Refuse (NotFound in_vvol) ∷ Refuse Exhausted ∷ []
unfolding answers ended
snapshots = refl

copies_of_volumes : map (λ d. judge None d (Snapshot 2)) (record crowded { volumes = (keyed 4352).volumes ++ crowded.volumes } ∷ keyed 4352 ∷ spread ∷ [])
    ≡ Refuse (TooMany in_vvol 256) ∷ Refuse (TooMany Pairs 4352) ∷ Refuse (OverQuota 2 2 2) ∷ []
unfolding judge entries charge crowded keyed spread ground
copies_of_volumes = refl

fast_clones : map (λ d. judge None d (FastClone 2)) (record crowded { volumes = (keyed 4352).volumes ++ crowded.volumes } ∷ keyed 4352 ∷ spread ∷ [])
    ≡ Refuse (TooMany in_vvol 256) ∷ Refuse (TooMany Pairs 4352) ∷ Refuse (OverQuota 2 2 2) ∷ []
unfolding judge entries charge crowded keyed spread ground
fast_clones = refl

map_is_last : answers spread (Snapshot 5 ∷ FastClone 5 ∷ []) ≡ Refuse (MapFull 73 3 64) ∷ Refuse (MapFull 73 3 64) ∷ []
unfolding answers spread
map_is_last = refl

reverts : answers ended (Revert 99 98 ∷ Revert 5 98 ∷ Revert 5 3 ∷ Revert 5 6 ∷ Revert 2 3 ∷ [])
    ≡ Refuse (NotFound in_vvol) ∷ Refuse (NotFound in_snapshot) ∷ Refuse (IncompatibleVolume in_snapshot) ∷ Refuse (ResourceInUse in_vvol)
    ∷ Refuse Exhausted ∷ []
unfolding answers ended
reverts = refl

-- the range, then the snapshot, then the copy that runs, then nothing, then the last number, then the quota, then the pool
writes : answers (record disturbed { lsn = 2 ^ 62 - 1 }) (Write 99 0 0 ∷ Write 3 2048 0 ∷ Write 3 2047 2 ∷ Write 3 2047 1 ∷ Write 4 0 0 ∷ Write 2 0 0 ∷ Write 2 4096 1 ∷ [])
    ≡ Refuse (NotFound in_vvol) ∷ Refuse OutOfRange ∷ Refuse OutOfRange ∷ Refuse WriteProtected ∷ Refuse (ResourceInUse in_vvol) ∷ Nothing
    ∷ Refuse Exhausted ∷ []
unfolding answers disturbed
writes = refl

full_writes : answers ground (Write 2 4096 1 ∷ Write 2 0 1 ∷ Write 5 0 1 ∷ []) ≡ Refuse (OverQuota 2 1 2) ∷ Refuse (PoolFull 0 1) ∷ Refuse (PoolFull 0 1) ∷ []
unfolding answers ground
full_writes = refl

unmaps : answers (record disturbed { lsn = 2 ^ 62 - 1 }) (Unmap 99 [] ∷ Unmap 3 ((0, 2) ∷ []) ∷ Unmap 3 ((0, 1) ∷ []) ∷ Unmap 4 ((0, 1) ∷ []) ∷ Unmap 5 ((1, 2) ∷ []) ∷ Unmap 5 ((0, 1) ∷ []) ∷ [])
    ≡ Refuse (NotFound in_vvol) ∷ Refuse OutOfRange ∷ Refuse WriteProtected ∷ Refuse (ResourceInUse in_vvol) ∷ Nothing ∷ Refuse Exhausted ∷ []
unfolding answers disturbed
unmaps = refl

-- the same endpoints change nothing, and in another order they do
endpoints : answers ground (SetEndpoints 3 (1 ∷ 2 ∷ []) ∷ SetEndpoints 3 (2 ∷ 1 ∷ []) ∷ SetEndpoints 1 (2 ∷ []) ∷ SetEndpoints 1 (2 ∷ 1 ∷ []) ∷ SetEndpoints 4 (1 ∷ []) ∷ [])
    ≡ Nothing ∷ Accept ∷ Refuse (ResourceInUse in_endpoints) ∷ Accept ∷ Accept ∷ []
unfolding answers ground
endpoints = refl

ended_endpoints : answers ended (SetEndpoints 3 (1 ∷ 2 ∷ []) ∷ SetEndpoints 1 [] ∷ SetEndpoints 3 (2 ∷ 1 ∷ []) ∷ [])
    ≡ Nothing ∷ Refuse (ResourceInUse in_endpoints) ∷ Refuse Exhausted ∷ []
unfolding answers ended
ended_endpoints = refl

-- the name, then the endpoint, then the copy that runs, then the last number, then the count
binds : answers ended (Bind 2 99 ∷ Bind 2 4 ∷ Bind 1 4 ∷ Bind 1 5 ∷ [])
    ≡ Refuse (NotFound in_vvol) ∷ Refuse (NoEndpoint in_host) ∷ Refuse (ResourceInUse in_vvol) ∷ Refuse Exhausted ∷ []
unfolding answers ended
binds = refl

counted_binds : map (λ count. judge None (record ground { bindings = bound 1 5 count ∷ [] }) (Bind 1 5)) (65534 ∷ 65535 ∷ []) ≡ Accept ∷ Refuse (TooMany in_count 65535) ∷ []
unfolding judge ground
counted_binds = refl

full_binds : answers (record ground { bindings = bound 1 5 1 ∷ replicate 1023 (bound 2 6 1) }) (Bind 1 2 ∷ Bind 1 5 ∷ []) ≡ Refuse (TooMany in_binding 1024) ∷ Accept ∷ []
unfolding answers ground
full_binds = refl

one_binding_left : answers (record ground { bindings = replicate 1023 (bound 2 6 1) }) (Bind 1 2 ∷ []) ≡ Accept ∷ []
unfolding answers ground
one_binding_left = refl

unbinds : answers ended (Unbind 1 0 1 ∷ Unbind 1 1 2 ∷ Unbind 1 1 1 ∷ UnbindAll 2 ∷ UnbindAll 1 ∷ [])
    ≡ Refuse (NotFound in_secondary) ∷ Refuse (NotFound in_secondary) ∷ Refuse Exhausted ∷ Nothing ∷ Refuse Exhausted ∷ []
unfolding answers ended
unbinds = refl

-- a clone: the limit of volumes, then the pairs, then the running tasks, then the quota, then the pool, then the map
clones : map (λ d. judge None d (StartClone 2)) (record crowded { volumes = (keyed 4352).volumes ++ crowded.volumes } ∷ record (keyed 4352) { tasks = hurried.tasks } ∷ hurried ∷ spread ∷ [])
    ≡ Refuse (TooMany in_vvol 256) ∷ Refuse (TooMany Pairs 4352) ∷ Refuse (TooMany in_task 16) ∷ Refuse (OverQuota 2 2 2) ∷ []
unfolding judge used reserved free entries charge crowded keyed hurried spread ground
clones = refl

clones_of_few : answers spread (StartClone 99 ∷ StartClone 5 ∷ StartClone 4 ∷ [])
    ≡ Refuse (NotFound in_vvol) ∷ Refuse (PoolFull 0 1) ∷ Refuse (MapFull 73 4 64) ∷ []
unfolding answers spread
clones_of_few = refl

one_task_left : answers (record hurried { tasks = replicate 15 (record { number = 11; job = Copy 2 5 8; state = Running; done = 0; total = 1 }) }) (StartClone 4 ∷ [])
    ≡ Accept ∷ []
unfolding answers hurried ground
one_task_left = refl

-- a copy: the three names, then the target's size, then the snapshot, then its use, then the last number
difference_copies : answers ended (StartCopy 97 98 99 ∷ StartCopy 2 98 99 ∷ StartCopy 2 5 99 ∷ StartCopy 2 5 3 ∷ StartCopy 5 2 5 ∷ StartCopy 3 2 6 ∷ StartCopy 3 2 5 ∷ StartCopy 3 5 4 ∷ StartCopy 5 3 2 ∷ [])
    ≡ Refuse (NotFound in_source) ∷ Refuse (NotFound in_base) ∷ Refuse (NotFound in_target) ∷ Refuse (InvalidArgument in_target)
    ∷ Refuse (InvalidArgument in_target) ∷ Refuse (IncompatibleVolume in_target) ∷ Refuse (ResourceInUse in_target) ∷ Refuse (ResourceInUse in_target)
    ∷ Refuse Exhausted ∷ []
unfolding answers ended
difference_copies = refl

-- then the running tasks, then the quota, then the map
full_copies : map (λ d. judge None d (StartCopy 3 5 2)) (record hurried { volumes = volume 2 1 Plain (0 ∷ 5 ∷ 6 ∷ []) ∷ hurried.volumes }
    ∷ record spread { volumes = volume 2 1 Plain (0 ∷ 5 ∷ 6 ∷ []) ∷ spread.volumes } ∷ spread ∷ ground ∷ [])
    ≡ Refuse (TooMany in_task 16) ∷ Refuse (OverQuota 4 1 2) ∷ Refuse (MapFull 73 1 64) ∷ Accept ∷ []
unfolding judge entries charge hurried spread ground
full_copies = refl

turns : answers ended (Turn 99 ∷ Turn 10 ∷ Turn 9 ∷ Cancel 99 ∷ Cancel 10 ∷ Cancel 9 ∷ [])
    ≡ Refuse (NotFound in_task) ∷ Nothing ∷ Refuse Exhausted ∷ Refuse (NotFound in_task) ∷ Refuse (NotCancellable in_task) ∷ Refuse Exhausted ∷ []
unfolding answers ended
turns = refl

-- A turn copies 16 chunks at most, and no more than are left.
turn_of_16 : map (λ n. turn_indexes (replicate n 1) 1) (1 ∷ 3 ∷ []) ≡ [] ∷ (1 ∷ 2 ∷ []) ∷ []
turn_of_16 = refl

long_turn : turn_indexes (0 ∷ replicate 17 1) 0 ≡ 1 ∷ 2 ∷ 3 ∷ 4 ∷ 5 ∷ 6 ∷ 7 ∷ 8 ∷ 9 ∷ 10 ∷ 11 ∷ 12 ∷ 13 ∷ 14 ∷ 15 ∷ 16 ∷ []
long_turn = refl

-- The number before the last one is given still.
last_number : map (λ lsn. judge None (record ground { lsn = lsn }) (MakeContainer 1 [])) ((2 ^ 62 - 2) ∷ (2 ^ 62 - 1) ∷ []) ≡ Accept ∷ Refuse Exhausted ∷ []
unfolding judge ground
last_number = refl
