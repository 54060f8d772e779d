-- What changes an array durably. A change is one event of the journal without the places that its new chunks take:
-- `judge` says how it is answered, and `apply` what the array is after it. Both are decided by the shape, and no byte
-- of a chunk is looked at. The kinds are those of VASA 2.0's operations, of the writes and UNMAP of SBC and of this
-- project's own calls; the order of refusals and all limits are this project's own.
use Rattle.std.specs.Prelude.{ℕ, ◌+◌, ◌-◌, ◌*◌, ◌==◌, ◌||◌, Bool, true, false, not, List, [], ◌∷◌, ◌++◌, map, length, replicate, slice_index, filter, count_by, Option, Some, None, is_none, nat_le, nat_lt, if◌then◌else◌}
use Rattle.std.specs.List.{list_any}
use Rattle.std.specs.Str.{bytes_eq}
use Rattle.vv_units.specs.Pairs.{note_of, after_set}
use Rattle.vv_units.specs.declared.volume.VvolType.{VvolType}
use Rattle.vv_units.specs.declared.volume.VolumeKind.{VolumeKind}
use Rattle.vv_units.specs.declared.volume.VolumeKind.TheVariants.{Plain, SnapshotOf, FastCloneOf, FullCloneOf}
use Rattle.vv_units.specs.declared.volume.Offer.{Offer}
use Rattle.vv_units.specs.declared.volume.Need.{Need}
use Rattle.vv_units.specs.declared.field.Field.{Field}
use Rattle.vv_units.specs.declared.field.Field.TheVariants.{Container as in_container, Vvol as in_vvol, SizeInMb as in_size, Snapshot as in_snapshot, Source as in_source, Base as in_base, Target as in_target, Task as in_task, Endpoints as in_endpoints, Host as in_host, Secondary as in_secondary, Binding as in_binding, Count as in_count, Key as in_key}
use Rattle.vv_flat.specs.Lists.{if_found, first_changed, put_before, first_removed, put_at}
use Rattle.vv_flat.specs.State.{Container, Volume, Address, Binding, Durable, container_of, volume_of, task_of}
use Rattle.vv_flat.specs.Chunks.{volume_blocks, touched_indexes, unmapped_in, unmaps_any}
use Rattle.vv_flat.specs.Space.{allocated_count, is_running, allocating_pieces, volume_count, running_count, is_volume_size}
use Rattle.vv_flat.specs.Bindings.{endpoints_of, is_set_to, with_context, keeps_bindings, binding_at, binding_of, is_bound, with_binding, count_left, without_binding, is_of_host, without_host}
use Rattle.vv_flat.specs.Volatile.{with_attentions, without_attention, without_attentions_of}
use Rattle.vv_flat.specs.Tasks.{running_limit, is_busy, turned, turned_indexes, cancelled, with_clone, with_copy, difference}
use Rattle.vv_flat.specs.Profiles.{Capability, Misfit, first_misfit}
use Rattle.vv_flat.specs.Refusals.{Refusal, NotFound, InvalidArgument, IncompatibleVolume, NoEndpoint, ResourceInUse, NotCancellable, OutOfRange, WriteProtected, Verdict, verdict, refuse_if, missing_volume, exhausted, too_many, too_many_pairs, misfits, over_quota, pool_full, map_full}

pub data Change : Type 0 where
  MakeContainer : (quota : ℕ) (offers : List Offer) → Change
  MakeVolume : (container : ℕ) (vtype : VvolType) (chunks : ℕ) (needs : List Need) → Change
  DeleteVolume : (volume : ℕ) → Change
  GrowVolume : (volume chunks : ℕ) → Change
  SetMetadata : (volume : ℕ) (key : List ℕ) (note : Option (List ℕ)) → Change
  Snapshot : (volume : ℕ) → Change
  FastClone : (volume : ℕ) → Change
  Revert : (volume snapshot : ℕ) → Change
  Write : (volume first_block blocks : ℕ) → Change
  Unmap : (volume : ℕ) (ranges : List (ℕ × ℕ)) → Change
  SetEndpoints : (host : ℕ) (endpoints : List ℕ) → Change
  Bind : (host volume : ℕ) → Change
  Unbind : (host endpoint secondary : ℕ) → Change
  UnbindAll : (host : ℕ) → Change
  StartClone : (volume : ℕ) → Change
  StartCopy : (source base target : ℕ) → Change
  Turn : (task : ℕ) → Change
  Cancel : (task : ℕ) → Change

-- The limits of counts that no other file names.

-- the most volumes, running clones counted with them
abbrev pub volume_limit : ℕ
volume_limit = 256

-- the most containers, container 0 counted with them
abbrev pub container_limit : ℕ
container_limit = 32

abbrev pub binding_limit : ℕ
binding_limit = 1024

-- how often one volume may be bound at one address
abbrev pub bind_count_limit : ℕ
bind_count_limit = 65535

-- the most metadata pairs of one volume
abbrev pub key_limit : ℕ
key_limit = 64

-- What the judge looks at in a volume. Where there is no such volume it is answered NotFound, and nothing else counts.

-- its stamps, the number of its chunks and of those that are allocated, its metadata, and its container
abbrev pub stamps_of : Durable ℕ → ℕ → List ℕ
stamps_of d n = if_found (volume_of d n) (λ v. v.chunks) []

abbrev pub size_of : Durable ℕ → ℕ → ℕ
size_of d n = length (stamps_of d n)

abbrev pub allocated_of : Durable ℕ → ℕ → ℕ
allocated_of d n = allocated_count (stamps_of d n)

abbrev pub metadata_of : Durable ℕ → ℕ → List (List ℕ × List ℕ)
metadata_of d n = if_found (volume_of d n) (λ v. v.metadata) []

abbrev pub home_of : Durable ℕ → ℕ → ℕ
home_of d n = if_found (volume_of d n) (λ v. v.container) 0

-- A snapshot, of any volume or of a certain one.
abbrev pub is_snapshot_kind : VolumeKind → Bool
is_snapshot_kind Plain = false
is_snapshot_kind (SnapshotOf v) = true
is_snapshot_kind (FastCloneOf v) = false
is_snapshot_kind (FullCloneOf v) = false

abbrev pub is_snapshot_of_kind : ℕ → VolumeKind → Bool
is_snapshot_of_kind n Plain = false
is_snapshot_of_kind n (SnapshotOf v) = v.0 == n
is_snapshot_of_kind n (FastCloneOf v) = false
is_snapshot_of_kind n (FullCloneOf v) = false

abbrev pub is_snapshot : Durable ℕ → ℕ → Bool
is_snapshot d n = if_found (volume_of d n) (λ v. is_snapshot_kind v.kind) false

-- whether one volume is a snapshot of another
abbrev pub is_snapshot_of : Durable ℕ → ℕ → ℕ → Bool
is_snapshot_of d snapshot n = if_found (volume_of d snapshot) (λ v. is_snapshot_of_kind n v.kind) false

abbrev pub is_task_running : Durable ℕ → ℕ → Bool
is_task_running d n = if_found (task_of d n) is_running false

-- how many of the chunks at these indexes are unmapped
abbrev pub unmapped_count : List ℕ → List ℕ → ℕ
unmapped_count stamps indexes = count_by (λ i. slice_index stamps i == 0) indexes

-- Metadata are pairs of a key and a note, as `note_of` and `after_set` say: an old key keeps its place, a new one goes
-- last, and with no note the key is gone.

-- whether setting a note changes nothing: the note stands already, or the key is missing already
abbrev pub has_note : List (List ℕ × List ℕ) → List ℕ → Option (List ℕ) → Bool
has_note pairs key None = is_none (note_of pairs key)
has_note pairs key (Some note) = if_found (note_of pairs key) (λ old. bytes_eq old note) false

-- how many pairs it adds
abbrev pub added_pairs : List (List ℕ × List ℕ) → List ℕ → Option (List ℕ) → ℕ
added_pairs pairs key None = 0
added_pairs pairs key (Some note) = if is_none (note_of pairs key) then 1 else 0

-- A check that counts only where there is something to ask for.
abbrev pub where_positive : ℕ → Option Refusal → Option Refusal
where_positive asked check = if asked == 0 then None else check

-- The count of a binding, or the number of bindings, is at its limit.
abbrev pub too_many_bindings : Durable ℕ → ℕ → ℕ → Option Refusal
too_many_bindings d host volume =
    if_found (binding_of d.bindings host volume) (λ (b : Binding). too_many b.count bind_count_limit in_count)
    (too_many (length d.bindings) binding_limit in_binding)

-- The checks that several kinds share.

abbrev pub missing_container : Durable ℕ → ℕ → Option Refusal
missing_container d k = refuse_if (is_none (container_of d k)) (NotFound in_container)

abbrev pub missing_task : Durable ℕ → ℕ → Option Refusal
missing_task d n = refuse_if (is_none (task_of d n)) (NotFound in_task)

abbrev pub busy : Durable ℕ → ℕ → Option Refusal
busy d n = refuse_if (is_busy d n) (ResourceInUse in_vvol)

abbrev pub bound_or_busy : Durable ℕ → ℕ → Field → Option Refusal
bound_or_busy d n name = refuse_if (is_bound d.bindings n || is_busy d n) (ResourceInUse name)

abbrev pub too_many_volumes : Durable ℕ → Option Refusal
too_many_volumes d = too_many (volume_count d) volume_limit in_vvol

-- What the profile of a new volume lacks, by the capabilities that the array knows and those of the container.
unfoldable pub misfit_in : {X : Type 0} → List Capability → Durable X → Change → Option Misfit
misfit_in capabilities d (MakeVolume k vtype chunks needs) =
    if_found (container_of d k) (λ c. first_misfit capabilities c.offers needs) None
misfit_in capabilities d _ = None

-- The checks of names and of state, in their order.
unfoldable pub state_checks : Durable ℕ → Change → List (Option Refusal)
state_checks d (MakeContainer quota offers) = []
state_checks d (MakeVolume k vtype chunks needs) =
    missing_container d k
    ∷ refuse_if (not (is_volume_size d.geometry.chunk_blocks chunks)) (InvalidArgument in_size)
    ∷ []
state_checks d (DeleteVolume n) = missing_volume d n in_vvol ∷ bound_or_busy d n in_vvol ∷ []
state_checks d (GrowVolume n chunks) =
    missing_volume d n in_vvol
    ∷ refuse_if (not (is_volume_size d.geometry.chunk_blocks chunks) || nat_lt chunks (size_of d n)) (InvalidArgument in_size)
    ∷ refuse_if (is_snapshot d n) (IncompatibleVolume in_vvol)
    ∷ busy d n
    ∷ []
state_checks d (SetMetadata n key text) = missing_volume d n in_vvol ∷ []
state_checks d (Snapshot n) =
    missing_volume d n in_vvol ∷ refuse_if (is_snapshot d n) (IncompatibleVolume in_vvol) ∷ []
state_checks d (FastClone n) = missing_volume d n in_vvol ∷ []
state_checks d (Revert n snapshot) =
    missing_volume d n in_vvol
    ∷ missing_volume d snapshot in_snapshot
    ∷ refuse_if (not (is_snapshot_of d snapshot n)) (IncompatibleVolume in_snapshot)
    ∷ bound_or_busy d n in_vvol
    ∷ []
state_checks d (Write n first blocks) =
    let size = volume_blocks d.geometry.chunk_blocks (stamps_of d n) in
    missing_volume d n in_vvol
    ∷ refuse_if (nat_le size first || nat_lt size (first + blocks)) OutOfRange
    ∷ refuse_if (is_snapshot d n) WriteProtected
    ∷ busy d n
    ∷ []
state_checks d (Unmap n ranges) =
    missing_volume d n in_vvol
    ∷ refuse_if (list_any (λ (r : ℕ × ℕ). nat_lt (size_of d n) (r.0 + r.1)) ranges) OutOfRange
    ∷ refuse_if (is_snapshot d n) WriteProtected
    ∷ busy d n
    ∷ []
state_checks d (SetEndpoints host endpoints) =
    refuse_if (not (keeps_bindings d.bindings host endpoints)) (ResourceInUse in_endpoints) ∷ []
state_checks d (Bind host n) =
    missing_volume d n in_vvol
    ∷ refuse_if (length (endpoints_of d.contexts host) == 0) (NoEndpoint in_host)
    ∷ busy d n
    ∷ []
state_checks d (Unbind host endpoint secondary) =
    let address : Address = record { host = host; endpoint = endpoint; secondary = secondary } in
    refuse_if (is_none (binding_at d.bindings address)) (NotFound in_secondary) ∷ []
state_checks d (UnbindAll host) = []
state_checks d (StartClone n) = missing_volume d n in_vvol ∷ []
state_checks d (StartCopy source base target) =
    missing_volume d source in_source
    ∷ missing_volume d base in_base
    ∷ missing_volume d target in_target
    ∷ refuse_if ((target == source) || nat_lt (size_of d target) (size_of d source)) (InvalidArgument in_target)
    ∷ refuse_if (is_snapshot d target) (IncompatibleVolume in_target)
    ∷ bound_or_busy d target in_target
    ∷ []
state_checks d (Turn n) = missing_task d n ∷ []
state_checks d (Cancel n) =
    missing_task d n ∷ refuse_if (not (is_task_running d n)) (NotCancellable in_task) ∷ []

-- What would change nothing durable.
unfoldable pub changes_nothing : Durable ℕ → Change → Bool
changes_nothing d (GrowVolume n chunks) = chunks == size_of d n
changes_nothing d (SetMetadata n key text) = has_note (metadata_of d n) key text
changes_nothing d (Write n first blocks) = blocks == 0
changes_nothing d (Unmap n ranges) = not (unmaps_any ranges (stamps_of d n))
changes_nothing d (SetEndpoints host endpoints) = is_set_to d.contexts host endpoints
changes_nothing d (UnbindAll host) = not (list_any (is_of_host host) d.bindings)
changes_nothing d (Turn n) = not (is_task_running d n)
changes_nothing d _ = false

-- The checks of limits, profile, quota, pool and map, in their order. `misfit` is what the profile of a new volume
-- lacks; a replay hands in none.
unfoldable pub room_checks : Option Misfit → Durable ℕ → Change → List (Option Refusal)
room_checks misfit d (MakeContainer quota offers) =
    exhausted d ∷ too_many (length d.containers) container_limit in_container ∷ []
room_checks misfit d (MakeVolume k vtype chunks needs) =
    exhausted d ∷ too_many_volumes d ∷ misfits misfit ∷ map_full d chunks ∷ []
room_checks misfit d (DeleteVolume n) = exhausted d ∷ []
room_checks misfit d (GrowVolume n chunks) = exhausted d ∷ map_full d (chunks - size_of d n) ∷ []
room_checks misfit d (SetMetadata n key text) =
    let added = added_pairs (metadata_of d n) key text in
    exhausted d
    ∷ where_positive added (too_many (length (metadata_of d n)) key_limit in_key)
    ∷ where_positive added (too_many_pairs d added)
    ∷ []
room_checks misfit d (Snapshot n) =
    exhausted d
    ∷ too_many_volumes d
    ∷ too_many_pairs d (length (metadata_of d n))
    ∷ over_quota d (home_of d n) (allocated_of d n)
    ∷ map_full d (size_of d n)
    ∷ []
room_checks misfit d (FastClone n) =
    exhausted d
    ∷ too_many_volumes d
    ∷ too_many_pairs d (length (metadata_of d n))
    ∷ over_quota d (home_of d n) (allocated_of d n)
    ∷ map_full d (size_of d n)
    ∷ []
room_checks misfit d (Revert n snapshot) =
    let more_allocated = allocated_of d snapshot - allocated_of d n in
    let more_chunks = size_of d snapshot - size_of d n in
    exhausted d
    ∷ where_positive more_allocated (over_quota d (home_of d n) more_allocated)
    ∷ where_positive more_chunks (map_full d more_chunks)
    ∷ []
room_checks misfit d (Write n first blocks) =
    let indexes = touched_indexes d.geometry.chunk_blocks first blocks in
    exhausted d
    ∷ over_quota d (home_of d n) (unmapped_count (stamps_of d n) indexes)
    ∷ pool_full d (length indexes)
    ∷ []
room_checks misfit d (Unmap n ranges) = exhausted d ∷ []
room_checks misfit d (SetEndpoints host endpoints) = exhausted d ∷ []
room_checks misfit d (Bind host n) = exhausted d ∷ too_many_bindings d host n ∷ []
room_checks misfit d (Unbind host endpoint secondary) = exhausted d ∷ []
room_checks misfit d (UnbindAll host) = exhausted d ∷ []
room_checks misfit d (StartClone n) =
    exhausted d
    ∷ too_many_volumes d
    ∷ too_many_pairs d (length (metadata_of d n))
    ∷ too_many (running_count d) running_limit in_task
    ∷ over_quota d (home_of d n) (allocated_of d n)
    ∷ pool_full d (allocated_of d n)
    ∷ map_full d (2 * size_of d n)
    ∷ []
room_checks misfit d (StartCopy source base target) =
    let differing = difference (λ s. s) (stamps_of d source) (stamps_of d base) in
    exhausted d
    ∷ too_many (running_count d) running_limit in_task
    ∷ over_quota d (home_of d target) (allocating_pieces (stamps_of d target) differing)
    ∷ map_full d (length differing)
    ∷ []
room_checks misfit d (Turn n) = exhausted d ∷ []
room_checks misfit d (Cancel n) = exhausted d ∷ []

-- How a change is answered over a shape.
unfoldable pub judge : Option Misfit → Durable ℕ → Change → Verdict
unfolding state_checks changes_nothing room_checks
judge misfit d change = verdict (state_checks d change) (changes_nothing d change) (room_checks misfit d change)

-- f of the volume with this number
abbrev pub with_volume : {X : Type 0} → Durable X → ℕ → (Volume X → Volume X) → Durable X
with_volume {X} d n f = record d { volumes = first_changed (λ (v : Volume X). v.number == n) f d.volumes }

-- one more volume
abbrev pub and_volume : {X : Type 0} → Durable X → Volume X → Durable X
and_volume {X} d v = record d { volumes = put_before (λ (w : Volume X). nat_lt v.number w.number) v d.volumes }

-- The indexes of the chunks to which a change gives new values, in rising order: those that a write touches, and
-- those that a clone's turn copies.
unfoldable pub changed_indexes : {X : Type 0} → (X → ℕ) → Durable X → Change → List ℕ
changed_indexes stamp_of d (Write n first blocks) = touched_indexes d.geometry.chunk_blocks first blocks
changed_indexes stamp_of d (Turn n) = turned_indexes stamp_of d n
changed_indexes stamp_of d _ = []

-- and the stamp that they get: the change's log number, or the task's
abbrev pub new_stamp : {X : Type 0} → Durable X → Change → ℕ
new_stamp d (Turn n) = n
new_stamp d _ = d.lsn + 1

-- What a change does but for the log number. `values` are the new values of those chunks, in the same order, and
-- `unmapped` is an unmapped chunk. A volume, a container and a task get the change's log number as their own.
unfoldable pub effect : {X : Type 0} → (X → ℕ) → List X → X → Durable X → Change → Durable X
effect stamp_of values unmapped d (MakeContainer quota offers) = record d {
  containers = put_before (λ (k : Container). nat_lt (d.lsn + 1) k.number)
      (record { number = d.lsn + 1; quota = quota; offers = offers }) d.containers;
}
effect stamp_of values unmapped d (MakeVolume k vtype chunks needs) = and_volume d (record {
  number = d.lsn + 1;
  container = k;
  vtype = vtype;
  kind = Plain;
  reverted = 0;
  needs = needs;
  metadata = [];
  chunks = replicate chunks unmapped;
})
effect {X} stamp_of values unmapped d (DeleteVolume n) =
    record d { volumes = first_removed (λ (v : Volume X). v.number == n) d.volumes }
effect stamp_of values unmapped d (GrowVolume n chunks) =
    with_volume d n (λ v. record v { chunks = v.chunks ++ replicate (chunks - length v.chunks) unmapped })
effect stamp_of values unmapped d (SetMetadata n key text) =
    with_volume d n (λ v. record v { metadata = after_set v.metadata key text })
effect stamp_of values unmapped d (Snapshot n) =
    if_found (volume_of d n)
    (λ v. and_volume d (record v { number = d.lsn + 1; kind = SnapshotOf (record { 0 = n }) })) d
effect stamp_of values unmapped d (FastClone n) =
    if_found (volume_of d n)
    (λ v. and_volume d (record v { number = d.lsn + 1; kind = FastCloneOf (record { 0 = n }) })) d
effect stamp_of values unmapped d (Revert n snapshot) =
    if_found (volume_of d snapshot)
    (λ s. with_volume d n (λ v. record v { chunks = s.chunks; reverted = d.lsn + 1 })) d
effect stamp_of values unmapped d (Write n first blocks) =
    with_volume d n (λ v. record v {
      chunks = put_at (touched_indexes d.geometry.chunk_blocks first blocks) values v.chunks;
    })
effect stamp_of values unmapped d (Unmap n ranges) =
    with_volume d n (λ v. record v { chunks = unmapped_in stamp_of unmapped ranges v.chunks })
effect stamp_of values unmapped d (SetEndpoints host endpoints) =
    record d { contexts = with_context d.contexts host endpoints }
effect stamp_of values unmapped d (Bind host n) =
    record d { bindings = with_binding d.contexts d.bindings host n }
effect stamp_of values unmapped d (Unbind host endpoint secondary) = record d {
  bindings = without_binding d.bindings (record { host = host; endpoint = endpoint; secondary = secondary });
}
effect stamp_of values unmapped d (UnbindAll host) = record d { bindings = without_host d.bindings host }
effect stamp_of values unmapped d (StartClone n) = with_clone stamp_of unmapped d n
effect stamp_of values unmapped d (StartCopy source base target) = with_copy stamp_of d source base target
effect stamp_of values unmapped d (Turn n) = turned stamp_of values d n
effect stamp_of values unmapped d (Cancel n) = cancelled d n

-- the array after a change, whose log number is the next one
unfoldable pub apply : {X : Type 0} → (X → ℕ) → List X → X → Durable X → Change → Durable X
unfolding effect
apply stamp_of values unmapped d change = record (effect stamp_of values unmapped d change) { lsn = d.lsn + 1 }

-- the shape after a change: the new chunks have the change's stamp, and nothing else is known of them
unfoldable pub apply_shape : Durable ℕ → Change → Durable ℕ
unfolding apply changed_indexes
apply_shape d change =
    apply (λ s. s) (map (λ _. new_stamp d change) (changed_indexes (λ s. s) d change)) 0 d change

-- The attentions after an accepted change, over the durable part before it. Growing sets one at each binding of the
-- volume, as SBC asks where a capacity has changed; a binding that is removed takes its attention with it.
unfoldable pub attentions_after : {X : Type 0} → Durable X → Change → List Address → List Address
attentions_after d (GrowVolume n chunks) attentions =
    with_attentions attentions
    (map (λ (b : Binding). b.address) (filter (λ (b : Binding). b.volume == n) d.bindings))
attentions_after d (Unbind host endpoint secondary) attentions =
    let address : Address = record { host = host; endpoint = endpoint; secondary = secondary } in
    if count_left d.bindings address == 0 then without_attention attentions address else attentions
attentions_after d (UnbindAll host) attentions = without_attentions_of attentions host
attentions_after d _ attentions = attentions
