-- What a call that looks for the rules answers, and words on tables for the parts of rules.
use Rattle.std.specs.Prelude.{◌≡◌, ℕ, ◌≤◌, ◌==◌, ◌++◌, Bool, true, not, List, map, filter, Option, Some, None, Result, Ok, Err, ⊤, count_by, nat_le, nat_lt, slice_get, take, length, false, if◌then◌else◌, ◌&&◌, ◌||◌, ◌-◌}
use Rattle.std.specs.List.{list_any, list_all}
use Rattle.vv_units.specs.declared.volume.VolumeKind.{VolumeKind}
use Rattle.vv_units.specs.declared.volume.VolumeKind.TheVariants.{Plain, SnapshotOf, FastCloneOf, FullCloneOf}
use Rattle.vv_flat.specs.Changes.{is_snapshot_kind}
use Rattle.vv_flat.specs.Lists.{if_found, indexes_from, numbers_eq, all_rising}
use Rattle.vv_flat.specs.State.{Container, Volume, Context, Binding, Task, RunningClone, Piece, RunningCopy, Durable, volume_of}
use Rattle.vv_flat.specs.Space.{is_running, is_clone, job_target, copy_target}
use Rattle.vv_flat.specs.Chunks.{Entry}
use Rattle.vv_flat.specs.Bindings.{endpoints_of}
use Rattle.vv_flat.specs.Rules.{RuleFault}
use Rattle.vv_flat.specs.Sharing.{Standing, standings, is_placed, is_own_stamp, is_shared_rightly, no_place}
use Rattle.vv_rules.specs.declared.pairs.Pair.{Pair}
use Rattle.vv_rules.specs.Least.{least_failing, place_of}
use Rattle.vv_area.specs.declared.fault.AreaFault.{AreaFault}
use Rattle.vv_area.specs.declared.fault.AreaFault.TheVariants as fault

-- A call answered the first rule that fails, with what was found, unless there was no memory. A place is never told.

abbrev pub IsRuleOf : AreaFault → Option RuleFault → Type 0
IsRuleOf (fault.Bad at) first = ⊥
IsRuleOf (fault.Rule rule found) first = first ≡ Some (record { rule = rule; found = found })
IsRuleOf fault.NoMemory first = ⊤

abbrev pub Judges : Result (Unit {0}) AreaFault → Option RuleFault → Type 0
Judges (Ok nothing) first = first ≡ None
Judges (Err e) first = IsRuleOf e first

-- A rule was expected to hold, and the fault tells that it doesn't.
abbrev pub Expects : ℕ → Bool → Result (Unit {0}) AreaFault → Type 0
Expects rule holds (Ok nothing) = holds ≡ true
Expects rule holds (Err e) = (holds ≡ false) × (e ≡ fault.Rule rule 0)

-- No place was expected, and the fault tells the one that was found.
abbrev pub ExpectsNone : Option ℕ → Result (Unit {0}) AreaFault → Type 0
ExpectsNone found (Ok nothing) = found ≡ None
ExpectsNone found (Err e) = (m : ℕ) × (found ≡ Some m) × (e ≡ fault.Rule 6 m) × (m ≤ no_place)

-- the numbers of volumes, containers and running clones
abbrev pub all_numbers : Durable Entry → List ℕ
all_numbers d =
    map (λ (v : Volume Entry). v.number) d.volumes ++ map (λ (k : Container). k.number) d.containers
    ++ map (λ (c : RunningClone Entry). c.number) d.clones

-- how many entries are allocated: their stamp is not 0
abbrev pub allocated_entries : List Entry → ℕ
allocated_entries entries = count_by (λ (e : Entry). not (e.stamp == 0)) entries

-- the numbers of the volumes that are snapshots
abbrev pub snapshot_numbers : List (Volume Entry) → List ℕ
snapshot_numbers volumes =
    map (λ (v : Volume Entry). v.number) (filter (λ (v : Volume Entry). is_snapshot_kind v.kind) volumes)

-- a volume is no snapshot of one of these
abbrev pub is_of_none : List ℕ → VolumeKind → Bool
is_of_none numbers Plain = true
is_of_none numbers (SnapshotOf v) = not (list_any (λ n. n == v.0) numbers)
is_of_none numbers (FastCloneOf v) = true
is_of_none numbers (FullCloneOf v) = true

-- an entry that breaks nothing of the sharing by itself
abbrev pub is_right_alone : Durable Entry → Standing → Bool
is_right_alone d a =
    is_placed d.geometry.pool_chunks a.piece.chunk && nat_le a.piece.chunk.stamp d.lsn && is_own_stamp d.clones a

-- the place of one that does
abbrev pub broken_place : Durable Entry → Standing → Option ℕ
broken_place d a = if is_right_alone d a then None else Some (place_of a)

-- the least place of the entries that break the sharing, if one does
abbrev pub least_fault : Durable Entry → Option ℕ
least_fault d = least_failing (is_shared_rightly d) place_of (standings d)

-- what a running clone has still to copy
abbrev pub reserved_of : Task → ℕ
reserved_of t = if is_running t && is_clone t.job then (t.total - t.done) else 0

-- the stamp at an index, or 0 past the end
abbrev pub stamp_at : List Entry → ℕ → ℕ
stamp_at entries i = if_found (slice_get entries i) (λ (e : Entry). e.stamp) 0

-- a piece that will allocate a chunk of the target
abbrev pub allocates : List Entry → Piece Entry → Bool
allocates target p = not (p.chunk.stamp == 0) && (stamp_at target p.index == 0)

abbrev pub allocating_entries : List Entry → List (Piece Entry) → ℕ
allocating_entries target pieces = count_by (allocates target) pieces

-- how many pieces of a copy will, if its target is in the container
abbrev pub allocating_for_container : Durable Entry → ℕ → RunningCopy Entry → ℕ
allocating_for_container d k c =
    if_found (copy_target d c.number) (λ v. if v.container == k then allocating_entries v.chunks c.pieces else 0) 0

-- the host and the volume of a binding
abbrev pub binding_pair : Binding → Pair
binding_pair b = record { first = b.address.host; second = b.volume }

-- the indexes of the entries that are allocated
abbrev pub allocated_places : List Entry → List ℕ
allocated_places entries = indexes_from (λ i (e : Entry). not (e.stamp == 0)) 0 entries

-- a running clone has copied the first `done` allocated chunks of its image, and nothing else
abbrev pub is_clone_done : RunningClone Entry → Task → Bool
is_clone_done c t =
    (t.total == allocated_entries c.image) && (length c.target == length c.image)
    && numbers_eq (allocated_places c.target) (take t.done (allocated_places c.image))
    && list_all (λ (e : Entry). (e.stamp == 0) || (e.stamp == c.number)) c.target

-- a volume stands, is no snapshot and has chunks at these indexes
abbrev pub is_target_for : Durable Entry → List ℕ → ℕ → Bool
is_target_for d indexes n =
    if_found (volume_of d n)
    (λ (v : Volume Entry). not (is_snapshot_kind v.kind) && list_all (λ i. nat_lt i (length v.chunks)) indexes) false

-- the pieces of a running copy are in order inside such a volume
abbrev pub is_copy_done : Durable Entry → RunningCopy Entry → Task → Bool
is_copy_done d c t =
    let indexes = map (λ (p : Piece Entry). p.index) c.pieces in
    (t.total == length c.pieces) && all_rising indexes && if_found (job_target t.job) (is_target_for d indexes) false

-- a binding is at an endpoint of its host, and secondary identifier and count are at least 1
unfoldable pub is_binding_placed : List Context → Binding → Bool
is_binding_placed contexts b =
    list_any (λ e. e == b.address.endpoint) (endpoints_of contexts b.address.host) && nat_le 1 b.address.secondary && nat_le 1 b.count
