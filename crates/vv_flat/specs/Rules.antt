-- The nine rules that tables keep, and by which the tables of an image are taken or refused. They are this project's
-- own. All but the sixth are decided by the shape.
use Rattle.std.specs.Prelude.{ℕ, ◌+◌, ◌==◌, ◌&&◌, ◌||◌, Bool, true, false, not, List, [], ◌∷◌, ◌++◌, map, length, take, Option, Some, None, is_some, is_none, nat_le, nat_lt, if◌then◌else◌}
use Rattle.std.specs.List.{list_all, list_any}
use Rattle.vv_units.specs.declared.volume.TaskState.{TaskState}
use Rattle.vv_units.specs.declared.volume.TaskState.TheVariants.{Running, Success, Cancelled, Interrupted}
use Rattle.vv_units.specs.declared.volume.VolumeKind.{VolumeKind}
use Rattle.vv_units.specs.declared.volume.VolumeKind.TheVariants.{Plain, SnapshotOf, FastCloneOf, FullCloneOf}
use Rattle.vv_flat.specs.Lists.{if_found, numbers_eq, all_different, all_rising}
use Rattle.vv_flat.specs.State.{Container, Volume, Context, Binding, Job, Clone, Copy, Task, RunningClone, Piece, RunningCopy, Durable, host_limit, container_of, volume_of, task_of}
use Rattle.vv_flat.specs.Space.{used, reserved, entries, charge, allocated_count, is_running, job_target, running_target, volume_count, pair_count, running_count, is_volume_size}
use Rattle.vv_flat.specs.Bits.{allocated_indexes}
use Rattle.vv_flat.specs.Bindings.{endpoints_of, is_bound, is_binding_of}
use Rattle.vv_flat.specs.Tasks.{record_limit, running_limit}
use Rattle.vv_flat.specs.Refusals.{last_lsn, pairs_limit}
use Rattle.vv_flat.specs.Changes.{Change, MakeContainer, MakeVolume, SetEndpoints, Bind, volume_limit, container_limit, binding_limit, bind_count_limit, key_limit, is_snapshot}
use Rattle.vv_flat.specs.Chunks.{Entry, shape_of_tables}
use Rattle.vv_flat.specs.Form.{is_formed}
use Rattle.vv_flat.specs.Sharing.{shares, least_broken}

-- The limits that no refusal names, since the forms of lines and of images keep them.
abbrev pub endpoint_limit : ℕ
endpoint_limit = 8

abbrev pub offer_limit : ℕ
offer_limit = 16

abbrev pub need_limit : ℕ
need_limit = 8

-- a number that the log has given
abbrev pub is_logged : ℕ → ℕ → Bool
is_logged lsn n = nat_le 1 n && nat_le n lsn

-- what a volume was made of has such a number
abbrev pub is_kind_logged : ℕ → VolumeKind → Bool
is_kind_logged lsn Plain = true
is_kind_logged lsn (SnapshotOf v) = is_logged lsn v.0
is_kind_logged lsn (FastCloneOf v) = is_logged lsn v.0
is_kind_logged lsn (FullCloneOf v) = is_logged lsn v.0

abbrev pub is_source_logged : ℕ → Job → Bool
is_source_logged lsn (Clone volume) = is_logged lsn volume
is_source_logged lsn (Copy source base target) = true

-- Rule 1: numbers were given by the log, each to one thing, and the log has not ended.
unfoldable pub numbers_rule : Durable ℕ → Bool
numbers_rule d =
    list_all (λ (v : Volume ℕ). is_logged d.lsn v.number && is_kind_logged d.lsn v.kind && nat_le v.reverted d.lsn) d.volumes
    && list_all (λ (k : Container). (k.number == 0) || is_logged d.lsn k.number) d.containers
    && list_all (λ (t : Task). is_logged d.lsn t.number
    && (not (is_running t) || is_source_logged d.lsn t.job)) d.tasks
    && all_different (map (λ (v : Volume ℕ). v.number) d.volumes ++ map (λ (k : Container). k.number) d.containers
    ++ map (λ (c : RunningClone ℕ). c.number) d.clones)
    && nat_le d.lsn last_lsn

-- a snapshot is of no snapshot that stands
abbrev pub is_of_no_snapshot : Durable ℕ → VolumeKind → Bool
is_of_no_snapshot d Plain = true
is_of_no_snapshot d (SnapshotOf v) = not (is_snapshot d v.0)
is_of_no_snapshot d (FastCloneOf v) = true
is_of_no_snapshot d (FullCloneOf v) = true

-- Rule 2: what is named stands.
unfoldable pub names_rule : Durable ℕ → Bool
names_rule d =
    list_all (λ (v : Volume ℕ). is_some (container_of d v.container) && is_of_no_snapshot d v.kind) d.volumes
    && list_all (λ (c : RunningClone ℕ). is_some (container_of d c.container)) d.clones
    && list_all (λ (b : Binding). is_some (volume_of d b.volume)) d.bindings
    && list_all (λ t. if_found (running_target t) (λ n. is_some (volume_of d n)) true) d.tasks

abbrev pub is_host : ℕ → Bool
is_host host = nat_le 1 host && nat_le host host_limit

-- Rule 3: no limit is passed.
unfoldable pub limits_rule : Durable ℕ → Bool
limits_rule d =
    nat_le (volume_count d) volume_limit && nat_le (length d.containers) container_limit
    && nat_le (length d.bindings) binding_limit && nat_le (running_count d) running_limit
    && nat_le (length d.tasks) record_limit && nat_le (pair_count d) pairs_limit
    && nat_le (entries d) d.geometry.map_chunks
    && list_all (λ (k : Container). nat_le (length k.offers) offer_limit) d.containers
    && list_all (λ (v : Volume ℕ). nat_le (length v.needs) need_limit && nat_le (length v.metadata) key_limit) d.volumes
    && list_all (λ (c : RunningClone ℕ). nat_le (length c.needs) need_limit && nat_le (length c.metadata) key_limit) d.clones
    && list_all (λ (c : Context). is_host c.host && nat_le (length c.endpoints) endpoint_limit) d.contexts
    && list_all (λ (b : Binding). is_host b.address.host && nat_le b.count bind_count_limit) d.bindings

-- Rule 4: volumes and images are of whole MB.
unfoldable pub sizes_rule : Durable ℕ → Bool
sizes_rule d =
    list_all (λ (v : Volume ℕ). is_volume_size d.geometry.chunk_blocks (length v.chunks)) d.volumes
    && list_all (λ (c : RunningClone ℕ). is_volume_size d.geometry.chunk_blocks (length c.image)) d.clones

-- what each container is charged for is within its quota
abbrev pub charges_fit : Durable ℕ → Bool
charges_fit d = list_all (λ (k : Container). nat_le (charge d k.number) k.quota) d.containers

-- Rule 5: the pool and each quota hold what they must.
unfoldable pub space_rule : Durable ℕ → Bool
space_rule d = nat_le (used d + reserved d) d.geometry.pool_chunks && charges_fit d

-- a host has no other binding of the volume
abbrev pub is_single : List Binding → Bool
is_single [] = true
is_single (b ∷ bs) = not (list_any (is_binding_of b.address.host b.volume) bs) && is_single bs

-- Rule 7: bindings are where they may be, and none is of a volume that a running copy is to change.
unfoldable pub bindings_rule : Durable ℕ → Bool
bindings_rule d =
    list_all (λ (b : Binding). list_any (λ e. e == b.address.endpoint) (endpoints_of d.contexts b.address.host)
    && nat_le 1 b.address.secondary && nat_le 1 b.count) d.bindings
    && is_single d.bindings
    && list_all (λ t. if_found (running_target t) (λ n. not (is_bound d.bindings n)) true) d.tasks

-- Rule 8: a running clone has copied the first `done` allocated chunks of its image, and nothing else.
abbrev pub is_clone_kept : RunningClone ℕ → Task → Bool
is_clone_kept c t =
    (t.total == allocated_count c.image) && (length c.target == length c.image)
    && numbers_eq (allocated_indexes c.target) (take t.done (allocated_indexes c.image))
    && list_all (λ s. (s == 0) || (s == c.number)) c.target

unfoldable pub clones_rule : Durable ℕ → Bool
clones_rule d = list_all (λ (c : RunningClone ℕ). if_found (task_of d c.number) (is_clone_kept c) false) d.clones

-- Rule 9: the pieces of a running copy are in order inside its target, which is no snapshot and is no other running
-- copy's target; and no task has done more than all, nor has less than all when it has succeeded.
abbrev pub is_copy_kept : Durable ℕ → RunningCopy ℕ → Task → Bool
is_copy_kept d c t =
    let indexes = map (λ (p : Piece ℕ). p.index) c.pieces in
    (t.total == length c.pieces) && all_rising indexes
    && if_found (job_target t.job)
    (λ n. not (is_snapshot d n)
    && if_found (volume_of d n) (λ v. list_all (λ i. nat_lt i (length v.chunks)) indexes) false) false

abbrev pub is_success : TaskState → Bool
is_success Running = false
is_success Success = true
is_success Cancelled = false
is_success Interrupted = false

abbrev pub running_targets : List Task → List ℕ
running_targets [] = []
running_targets (t ∷ ts) = if_found (running_target t) (λ n. n ∷ running_targets ts) (running_targets ts)

unfoldable pub copies_rule : Durable ℕ → Bool
copies_rule d =
    list_all (λ (c : RunningCopy ℕ). if_found (task_of d c.number) (is_copy_kept d c) false) d.copies
    && all_different (running_targets d.tasks)
    && list_all (λ (t : Task). nat_le t.done t.total && (not (is_success t.state) || (t.done == t.total))) d.tasks

-- What the shape decides of all that: the form, and all rules but the sixth.
unfoldable pub keeps_shape_rules : Durable ℕ → Bool
keeps_shape_rules d =
    is_formed d && numbers_rule d && names_rule d && limits_rule d && sizes_rule d && space_rule d && bindings_rule d
    && clones_rule d && copies_rule d

-- The fields of a change are inside the limits that no refusal names.
abbrev pub has_its_fields : Change → Bool
has_its_fields (MakeContainer quota offers) = nat_le (length offers) offer_limit
has_its_fields (MakeVolume k vtype chunks needs) = nat_le (length needs) need_limit
has_its_fields (SetEndpoints host endpoints) = is_host host && nat_le (length endpoints) endpoint_limit
has_its_fields (Bind host volume) = is_host host
has_its_fields _ = true

-- the first rule that fails, with the number that was found: 0, or for the sixth the least place that breaks it
pub record RuleFault : Type 0 where
  pub rule : ℕ
  pub found : ℕ

-- the first of the rules from this number on that fails, each with what was found
abbrev pub first_fault_from : ℕ → List (Bool × ℕ) → Option RuleFault
first_fault_from rule [] = None
first_fault_from rule (r ∷ rest) =
    if r.0 then first_fault_from (rule + 1) rest else Some (record { rule = rule; found = r.1 })

-- The rules by which tables are taken or refused. Rule 6 is the one on sharing.
unfoldable pub first_fault : Durable Entry → Option RuleFault
first_fault tables =
    let d = shape_of_tables tables in
    first_fault_from 1
    ((numbers_rule d, 0) ∷ (names_rule d, 0) ∷ (limits_rule d, 0) ∷ (sizes_rule d, 0) ∷ (space_rule d, 0)
    ∷ (shares tables, least_broken tables) ∷ (bindings_rule d, 0) ∷ (clones_rule d, 0) ∷ (copies_rule d, 0) ∷ [])

abbrev pub meets_rules : Durable Entry → Bool
meets_rules tables = is_none (first_fault tables)
