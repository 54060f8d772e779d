-- Days of small arrays, computed from the definitions.
use Rattle.std.specs.Prelude.{◌≡◌, ◌≤◌, ℕ, ◌-◌, ◌*◌, ◌^◌, ◌==◌, Bool, true, false, List, [], ◌∷◌, ◌++◌, map, Option, Some, None, option_map, refl, codes, replicate, zero, suc, if◌then◌else◌, length}
use Rattle.std.proofs.Common.{lit≤}
use Rattle.vv_units.specs.declared.geometry.Geometry.{Geometry}
use Rattle.vv_units.specs.declared.volume.VvolType.TheVariants.{Config, Data, Swap}
use Rattle.vv_units.specs.declared.volume.VolumeKind.TheVariants.{Plain}
use Rattle.vv_units.specs.declared.volume.TaskState.{TaskState}
use Rattle.vv_units.specs.declared.volume.TaskState.TheVariants.{Running, Success, Cancelled, Interrupted}
use Rattle.vv_units.specs.declared.field.Field.TheVariants.{Container as in_container, Vvol, SizeInMb, Snapshot as in_snapshot, Base, Target, Task as in_task, Key, Pairs, Endpoints, Host}
use Rattle.vv_flat.specs.Lists.{if_found, put_at, numbers_from}
use Rattle.vv_flat.specs.State.{Durable, Volume, Task, Address, Binding, empty_durable, volume_of, task_of, Clone}
use Rattle.vv_flat.specs.Chunks.{ChunkValue, Entry, shape_of_tables, unmapped_value, blocks_read, touched_indexes, written_values, written, same_values, compares, unmap_ranges}
use Rattle.vv_flat.specs.Space.{used, reserved, free, entries, charge}
use Rattle.vv_flat.specs.Bits.{allocated_bits, unshared_bits}
use Rattle.vv_flat.specs.Bindings.{bound_address, with_binding, without_binding}
use Rattle.vv_flat.specs.Refusals.{Refuse, Nothing, Accept, NotFound, InvalidArgument, IncompatibleVolume, OutOfRange, WriteProtected, Exhausted, ResourceInUse, NotCancellable, NoEndpoint, TooMany, OverQuota, PoolFull, MapFull}
use Rattle.vv_flat.specs.Tasks.{with_room, turned, turned_indexes, cancelled, with_clone, with_copy}
use Rattle.vv_flat.specs.Restart.{interrupted_durable}
use Rattle.vv_flat.specs.Form.{is_formed}
use Rattle.vv_flat.specs.Sharing.{shares, least_broken, standings, place_count}
use Rattle.vv_flat.specs.Rules.{RuleFault, first_fault, numbers_rule, names_rule, limits_rule, sizes_rule, space_rule, bindings_rule, clones_rule, copies_rule}
use Rattle.vv_flat.specs.Replay.{fits, is_accepted, replayed}
use Rattle.vv_flat.specs.Profiles.{Capability, AtLeast, AtMost, Equal, OneOf, Misfit, first_misfit}
use Rattle.vv_units.specs.declared.volume.Offer.{Offer}
use Rattle.vv_units.specs.declared.volume.Need.{Need}
use Rattle.vv_units.specs.declared.volume.Why.TheVariants.{Unknown, NotOffered, TooLittle}
use Rattle.vv_flat.specs.Changes.{Change, MakeContainer, MakeVolume, DeleteVolume, GrowVolume, SetMetadata, Snapshot, FastClone, Revert, Write, Unmap, SetEndpoints, Bind, Unbind, UnbindAll, StartClone, StartCopy, Turn, Cancel, stamps_of, judge, effect, apply, apply_shape, changed_indexes, attentions_after}

-- An array of 16 chunks of one MB whose lists may have 256 entries, and others of its kind.
wide : (pool entries : ℕ) → 1 ≤ pool → pool ≤ 262144 → pool * 2048 ≤ 8388608 → 64 ≤ entries → entries ≤ 1048576 → Geometry
wide pool entries some few small from to = record {
  chunk_blocks = 2048;
  pool_chunks = pool;
  map_chunks = entries;
  chunk_size = refl;
  some_chunks = some;
  few_chunks = few;
  small_pool = small;
  map_from = from;
  map_to = to;
}

wide_16 : Geometry
unfolding wide
wide_16 = wide 16 256 (lit≤ tt) (lit≤ tt) (lit≤ tt) (lit≤ tt) (lit≤ tt)

-- 64 chunks of 4096 bytes, of which a volume of one MB has 256
fine_64 : Geometry
fine_64 = record {
  chunk_blocks = 8;
  pool_chunks = 64;
  map_chunks = 1024;
  chunk_size = refl;
  some_chunks = lit≤ tt;
  few_chunks = lit≤ tt;
  small_pool = lit≤ tt;
  map_from = lit≤ tt;
  map_to = lit≤ tt;
}

-- the shape after some changes, of which those that are not accepted do nothing
after : Durable ℕ → List Change → Durable ℕ
unfolding judge apply_shape apply effect changed_indexes used reserved free entries charge with_binding without_binding turned turned_indexes cancelled with_clone with_copy
after d [] = d
after d (c ∷ cs) = after (if is_accepted (judge None d c) then apply_shape d c else d) cs

day : Geometry → List Change → Durable ℕ
unfolding after wide_16 fine_64
day geometry changes = after (empty_durable geometry) changes

-- the entries, and of the pool what is free, reserved and used
pool_of : Durable ℕ → List ℕ
unfolding used reserved free entries
pool_of d = entries d ∷ free d ∷ reserved d ∷ used d ∷ []

unshared : Durable ℕ → ℕ → ℕ → List Bool
unshared d v w = unshared_bits (stamps_of d v) (stamps_of d w)

-- the state of a task, and what it has done
task_now : Durable ℕ → ℕ → List ℕ × TaskState
task_now d n = if_found (task_of d n) (λ t. (t.done ∷ t.total ∷ [], t.state)) ([], Interrupted)

secondary_of : Durable ℕ → ℕ → ℕ → ℕ
secondary_of d host n = (bound_address d.contexts d.bindings host n).secondary

-- A volume of 4 MB, bound for host 1.
setup : List Change
setup = MakeVolume 0 Data 4 [] ∷ Bind 1 1 ∷ []

-- A write of no block takes no log number.
unwritten : judge None (day wide_16 setup) (Write 1 0 0) ≡ Nothing
unfolding day setup
unwritten = refl

unwritten_pool : pool_of (day wide_16 setup) ≡ 4 ∷ 16 ∷ 0 ∷ 0 ∷ []
unfolding day setup pool_of
unwritten_pool = refl

-- A rewrite of the same bytes sets the bit.
rewritten : List Change
unfolding setup
rewritten = setup ++ Write 1 2048 1 ∷ Write 1 4096 1 ∷ Snapshot 1 ∷ Write 1 2048 1 ∷ []

rewritten_once : unshared (day wide_16 rewritten) 1 5 ≡ false ∷ true ∷ false ∷ false ∷ []
unfolding day rewritten unshared
rewritten_once = refl

rewritten_again : unshared (day wide_16 (rewritten ++ Write 1 4096 1 ∷ [])) 1 5 ≡ false ∷ true ∷ true ∷ false ∷ []
unfolding day rewritten unshared
rewritten_again = refl

rewritten_pool : pool_of (day wide_16 (rewritten ++ Write 1 4096 1 ∷ [])) ≡ 8 ∷ 12 ∷ 0 ∷ 4 ∷ []
unfolding day rewritten pool_of
rewritten_pool = refl

-- A bound volume isn't reverted; one that is reverted is as its snapshot, and has the revert's log number.
revert_in_use : judge None (day wide_16 (rewritten ++ Write 1 4096 1 ∷ [])) (Revert 1 5) ≡ Refuse (ResourceInUse Vvol)
unfolding day rewritten
revert_in_use = refl

reverted_day : List Change
unfolding rewritten
reverted_day = rewritten ++ Write 1 4096 1 ∷ Unbind 1 1 1 ∷ Revert 1 5 ∷ []

reverted_bits : unshared (day wide_16 reverted_day) 1 5 ≡ false ∷ false ∷ false ∷ false ∷ []
unfolding day reverted_day unshared
reverted_bits = refl

reverted_pool : pool_of (day wide_16 reverted_day) ≡ 8 ∷ 14 ∷ 0 ∷ 2 ∷ []
unfolding day reverted_day pool_of
reverted_pool = refl

reverted_number : option_map (λ (v : Volume ℕ). v.reverted) (volume_of (day wide_16 reverted_day) 1) ≡ Some 9
unfolding day reverted_day
reverted_number = refl

bound_again : secondary_of (day wide_16 reverted_day) 1 1 ≡ 1
unfolding day reverted_day secondary_of
bound_again = refl

-- Ten snapshots of a volume that fills the pool use no more of it.
wide_8 : Geometry
unfolding wide
wide_8 = wide 8 256 (lit≤ tt) (lit≤ tt) (lit≤ tt) (lit≤ tt) (lit≤ tt)

filled_day : List Change
filled_day =
    MakeVolume 0 Data 8 [] ∷ Bind 1 1 ∷ Write 1 0 1 ∷ Write 1 2048 1 ∷ Write 1 4096 1 ∷ Write 1 6144 1 ∷ Write 1 8192 1
    ∷ Write 1 10240 1 ∷ Write 1 12288 1 ∷ Write 1 14336 1 ∷ []

filled_pool : pool_of (day wide_8 filled_day) ≡ 8 ∷ 0 ∷ 0 ∷ 8 ∷ []
unfolding day wide_8 filled_day pool_of
filled_pool = refl

ten_snapshots : List Change
ten_snapshots =
    Snapshot 1 ∷ Snapshot 1 ∷ Snapshot 1 ∷ Snapshot 1 ∷ Snapshot 1 ∷ Snapshot 1 ∷ Snapshot 1 ∷ Snapshot 1 ∷ Snapshot 1
    ∷ Snapshot 1 ∷ []

snapshots_pool : pool_of (day wide_8 (filled_day ++ ten_snapshots)) ≡ 88 ∷ 0 ∷ 0 ∷ 8 ∷ []
unfolding day wide_8 filled_day ten_snapshots pool_of
snapshots_pool = refl

-- A write takes its fresh chunk before the old one comes back.
wide_2 : Geometry
unfolding wide
wide_2 = wide 2 256 (lit≤ tt) (lit≤ tt) (lit≤ tt) (lit≤ tt) (lit≤ tt)

full_pool : judge None (day wide_2 (MakeVolume 0 Data 2 [] ∷ Bind 1 1 ∷ Write 1 0 1 ∷ Write 1 2048 1 ∷ [])) (Write 1 0 1)
    ≡ Refuse (PoolFull 0 1)
unfolding day wide_2
full_pool = refl

-- Two unmapped chunks are alike, and a descriptor that covers no whole chunk unmaps none.
unmapped_day : List Change
unmapped_day =
    MakeVolume 0 Data 2 [] ∷ Bind 1 1 ∷ Write 1 0 1 ∷ Write 1 2048 1 ∷ FastClone 1 ∷ FastClone 1 ∷ Bind 1 5 ∷ Bind 1 6
    ∷ Unmap 5 (unmap_ranges 2048 ((0, 2048) ∷ [])) ∷ Unmap 6 (unmap_ranges 2048 ((0, 2048) ∷ [])) ∷ []

unmapped_alike : unshared (day wide_16 unmapped_day) 5 6 ≡ false ∷ false ∷ []
unfolding day unmapped_day unshared
unmapped_alike = refl

unmapped_apart : unshared (day wide_16 unmapped_day) 5 1 ≡ true ∷ false ∷ []
unfolding day unmapped_day unshared
unmapped_apart = refl

unmapped_pool : pool_of (day wide_16 unmapped_day) ≡ 6 ∷ 14 ∷ 0 ∷ 2 ∷ []
unfolding day unmapped_day pool_of
unmapped_pool = refl

unmapped_secondaries : ◌≡◌ {A = List ℕ} (secondary_of (day wide_16 unmapped_day) 1 5 ∷ secondary_of (day wide_16 unmapped_day) 1 6 ∷ []) (2 ∷ 3 ∷ [])
unfolding day unmapped_day secondary_of
unmapped_secondaries = refl

half_a_chunk : judge None (day wide_16 unmapped_day) (Unmap 5 (unmap_ranges 2048 ((2048, 1024) ∷ []))) ≡ Nothing
unfolding day unmapped_day
half_a_chunk = refl

-- A base reads as unmapped past its end; a volume never shrinks, and growing to its own size changes nothing.
grown_day : List Change
unfolding setup
grown_day = setup ++ Snapshot 1 ∷ GrowVolume 1 5 ∷ Write 1 8192 1 ∷ []

grown_bits : unshared (day wide_16 grown_day) 1 3 ≡ false ∷ false ∷ false ∷ false ∷ true ∷ []
unfolding day grown_day unshared
grown_bits = refl

grown_bits_back : unshared (day wide_16 grown_day) 3 1 ≡ false ∷ false ∷ false ∷ false ∷ []
unfolding day grown_day unshared
grown_bits_back = refl

shrunk : judge None (day wide_16 grown_day) (GrowVolume 1 4) ≡ Refuse (InvalidArgument SizeInMb)
unfolding day grown_day
shrunk = refl

grown_to_itself : judge None (day wide_16 grown_day) (GrowVolume 1 5) ≡ Nothing
unfolding day grown_day
grown_to_itself = refl

-- A full clone copies 16 chunks a turn, and has its source as it was at the start, although that is written and deleted.
begun_clone : List Change
begun_clone = MakeVolume 0 Data 256 [] ∷ Bind 1 1 ∷ Write 1 0 160 ∷ StartClone 1 ∷ Turn 4 ∷ []

begun_task : task_now (day fine_64 begun_clone) 4 ≡ (16 ∷ 20 ∷ [], Running)
unfolding day begun_clone task_now
begun_task = refl

begun_pool : pool_of (day fine_64 begun_clone) ≡ 768 ∷ 24 ∷ 4 ∷ 36 ∷ []
unfolding day begun_clone pool_of
begun_pool = refl

begun_target : judge None (day fine_64 begun_clone) (DeleteVolume 4) ≡ Refuse (NotFound Vvol)
unfolding day begun_clone
begun_target = refl

source_deleted : List Change
unfolding begun_clone
source_deleted = begun_clone ++ Write 1 0 8 ∷ Unbind 1 1 1 ∷ DeleteVolume 1 ∷ Turn 4 ∷ []

cloned_task : task_now (day fine_64 source_deleted) 4 ≡ (20 ∷ 20 ∷ [], Success)
unfolding day source_deleted task_now
cloned_task = refl

cloned_pool : pool_of (day fine_64 source_deleted) ≡ 256 ∷ 44 ∷ 0 ∷ 20 ∷ []
unfolding day source_deleted pool_of
cloned_pool = refl

turned_again : judge None (day fine_64 (source_deleted ++ Bind 1 4 ∷ [])) (Turn 4) ≡ Nothing
unfolding day source_deleted
turned_again = refl

-- The same with the source kept.
source_kept : List Change
unfolding begun_clone
source_kept = begun_clone ++ Write 1 0 8 ∷ []

kept_pool : pool_of (day fine_64 source_kept) ≡ 768 ∷ 23 ∷ 4 ∷ 37 ∷ []
unfolding day source_kept pool_of
kept_pool = refl

both_pool : pool_of (day fine_64 (source_kept ++ Turn 4 ∷ [])) ≡ 512 ∷ 24 ∷ 0 ∷ 40 ∷ []
unfolding day source_kept pool_of
both_pool = refl

both_bound : secondary_of (day fine_64 (source_kept ++ Turn 4 ∷ [])) 1 4 ≡ 2
unfolding day source_kept secondary_of
both_bound = refl

-- The target of a copy is busy until the copy is done or cancelled.
copied_day : List Change
unfolding setup
copied_day = setup ++ Write 1 2048 1 ∷ Snapshot 1 ∷ Write 1 2048 1 ∷ Snapshot 1 ∷ MakeVolume 0 Data 4 [] ∷ StartCopy 6 4 7 ∷ []

copied_task : task_now (day wide_16 copied_day) 8 ≡ (0 ∷ 1 ∷ [], Running)
unfolding day copied_day task_now
copied_task = refl

target_busy : judge None (day wide_16 copied_day) (Bind 1 7) ≡ Refuse (ResourceInUse Vvol)
unfolding day copied_day
target_busy = refl

cancelled_task : task_now (day wide_16 (copied_day ++ Cancel 8 ∷ [])) 8 ≡ (0 ∷ 1 ∷ [], Cancelled)
unfolding day copied_day task_now
cancelled_task = refl

cancelled_twice : judge None (day wide_16 (copied_day ++ Cancel 8 ∷ Bind 1 7 ∷ [])) (Cancel 8) ≡ Refuse (NotCancellable in_task)
unfolding day copied_day
cancelled_twice = refl

cancelled_bound : secondary_of (day wide_16 (copied_day ++ Cancel 8 ∷ [])) 1 7 ≡ 2
unfolding day copied_day secondary_of
cancelled_bound = refl

cancelled_bits : allocated_bits (stamps_of (day wide_16 (copied_day ++ Cancel 8 ∷ [])) 7) ≡ false ∷ false ∷ false ∷ false ∷ []
unfolding day copied_day
cancelled_bits = refl

-- A quota counts each volume by itself, and a rewrite of an allocated chunk asks for nothing more.
quota_day : List Change
quota_day = MakeContainer 2 [] ∷ MakeVolume 1 Data 4 [] ∷ Bind 1 2 ∷ Write 2 0 1 ∷ Write 2 2048 1 ∷ []

over_by_one : judge None (day wide_16 quota_day) (Write 2 4096 1) ≡ Refuse (OverQuota 2 1 2)
unfolding day quota_day
over_by_one = refl

rewrite_within : judge None (day wide_16 quota_day) (Write 2 0 1) ≡ Accept
unfolding day quota_day
rewrite_within = refl

over_by_snapshot : judge None (day wide_16 (quota_day ++ Write 2 0 1 ∷ [])) (Snapshot 2) ≡ Refuse (OverQuota 2 2 2)
unfolding day quota_day
over_by_snapshot = refl

-- The lists of all volumes together have no more entries than the geometry says.
map_is_full : judge None (day wide_16 (MakeVolume 0 Data 256 [] ∷ [])) (MakeVolume 0 Data 1 []) ≡ Refuse (MapFull 256 1 256)
unfolding day
map_is_full = refl

-- A bind of a volume that is bound already raises its count, and a host without endpoints binds nothing.
bound_day : List Change
unfolding setup
bound_day = setup ++ Bind 1 1 ∷ Unbind 1 1 1 ∷ []

bound_count : map (λ (b : Binding). b.count) (day wide_16 bound_day).bindings ≡ 1 ∷ []
unfolding day bound_day
bound_count = refl

endpoints_in_use : judge None (day wide_16 bound_day) (SetEndpoints 1 []) ≡ Refuse (ResourceInUse Endpoints)
unfolding day bound_day
endpoints_in_use = refl

no_endpoint : judge None (day wide_16 (bound_day ++ SetEndpoints 2 [] ∷ [])) (Bind 2 1) ≡ Refuse (NoEndpoint Host)
unfolding day bound_day
no_endpoint = refl

all_unbound : map (λ (b : Binding). b.count) (day wide_16 (bound_day ++ SetEndpoints 2 [] ∷ UnbindAll 1 ∷ [])).bindings ≡ []
unfolding day bound_day
all_unbound = refl

-- A capability of each kind, as the program has them, and a container that offers two of them.
capabilities : List Capability
capabilities =
    record { name = codes "min-iops"; kind = AtLeast } ∷ record { name = codes "max-latency-us"; kind = AtMost }
    ∷ record { name = codes "raid-level"; kind = Equal } ∷ record { name = codes "features"; kind = OneOf } ∷ []

offers : List Offer
offers =
    record { name = codes "min-iops"; value = 1000 } ∷ record { name = codes "features"; value = 9223372036854775808 } ∷ []

misfit_of : List Need → Option Misfit
unfolding first_misfit capabilities offers
misfit_of needs = first_misfit capabilities offers needs

unknown_need : misfit_of (record { name = codes "min-iops"; value = 500 } ∷ record { name = codes "colour"; value = 1 } ∷ [])
    ≡ Some (record { at = 1; why = Unknown })
unfolding misfit_of
unknown_need = refl

met_need : misfit_of (record { name = codes "features"; value = 63 } ∷ []) ≡ None
unfolding misfit_of
met_need = refl

too_little : misfit_of (record { name = codes "features"; value = 62 } ∷ []) ≡ Some (record { at = 0; why = TooLittle })
unfolding misfit_of
too_little = refl

not_offered : misfit_of (record { name = codes "max-latency-us"; value = 5 } ∷ []) ≡ Some (record { at = 0; why = NotOffered })
unfolding misfit_of
not_offered = refl

-- A volume has at most 64 keys, and all volumes together have at most 4352.
keys_set : ℕ → List Change
keys_set zero = []
keys_set (suc n) = SetMetadata 1 (n ∷ []) (Some []) ∷ keys_set n

snapshots : ℕ → List Change
snapshots zero = []
snapshots (suc n) = Snapshot 1 ∷ snapshots n

keyed_day : List Change
unfolding keys_set
keyed_day = MakeVolume 0 Data 1 [] ∷ keys_set 64

too_many_keys : judge None (day wide_16 keyed_day) (SetMetadata 1 (64 ∷ []) (Some [])) ≡ Refuse (TooMany Key 64)
unfolding day keyed_day
too_many_keys = refl

old_key : judge None (day wide_16 keyed_day) (SetMetadata 1 (63 ∷ []) (Some (1 ∷ []))) ≡ Accept
unfolding day keyed_day
old_key = refl

last_pairs : judge None (day wide_16 (keyed_day ++ snapshots 66)) (Snapshot 1) ≡ Accept
unfolding day keyed_day snapshots
last_pairs = refl

too_many_pairs : judge None (day wide_16 (keyed_day ++ snapshots 67)) (Snapshot 1) ≡ Refuse (TooMany Pairs 4352)
unfolding day keyed_day snapshots
too_many_pairs = refl

-- A whole day of one user: containers, contexts of three hosts, writes, snapshots and difference copies.
day_64 : Geometry
unfolding wide
day_64 = wide 64 512 (lit≤ tt) (lit≤ tt) (lit≤ tt) (lit≤ tt) (lit≤ tt)

users_day : List Change
users_day =
    MakeContainer 48 (record { name = codes "min-iops"; value = 1000 } ∷ []) ∷ MakeVolume 1 Config 4 [] ∷ MakeVolume 1 Swap 4 []
    ∷ MakeVolume 1 Data 40 (record { name = codes "min-iops"; value = 500 } ∷ [])
    ∷ SetEndpoints 1 (1 ∷ []) ∷ SetEndpoints 2 (1 ∷ 2 ∷ []) ∷ SetEndpoints 3 (2 ∷ [])
    ∷ Bind 1 2 ∷ Bind 1 4 ∷ Bind 2 3 ∷ Bind 3 4
    ∷ Write 2 0 1 ∷ Write 4 0 2048 ∷ Write 4 4096 1
    ∷ SetMetadata 4 (codes "VMW_VVolName") (Some (codes "vm1.vmdk")) ∷ Snapshot 4 ∷ Write 4 4096 1
    ∷ MakeVolume 1 Data 40 [] ∷ StartCopy 16 18 18 ∷ Turn 19 ∷ Snapshot 4 ∷ StartCopy 21 16 18 ∷ Turn 22
    ∷ UnbindAll 1 ∷ UnbindAll 3 ∷ Revert 4 16 ∷ DeleteVolume 21 ∷ []

users_log : (day day_64 users_day).lsn ≡ 27
unfolding day day_64 users_day
users_log = refl

users_first_copy : task_now (day day_64 users_day) 19 ≡ (2 ∷ 2 ∷ [], Success)
unfolding day day_64 users_day task_now
users_first_copy = refl

users_second_copy : task_now (day day_64 users_day) 22 ≡ (1 ∷ 1 ∷ [], Success)
unfolding day day_64 users_day task_now
users_second_copy = refl

users_pool : pool_of (day day_64 users_day) ≡ 128 ∷ 60 ∷ 0 ∷ 4 ∷ []
unfolding day day_64 users_day pool_of
users_pool = refl

users_charge : charge (day day_64 users_day) 1 ≡ 7
unfolding day day_64 users_day charge
users_charge = refl

-- Tables go the same way with places: the lowest ones that are fresh.
placed : Durable Entry → List (Change × List ℕ) → Durable Entry
unfolding replayed apply effect changed_indexes with_binding without_binding turned turned_indexes cancelled with_clone with_copy
placed tables [] = tables
placed tables ((change, places) ∷ rest) = placed (replayed tables change places) rest

-- the numbers from one up to another
up_to : ℕ → ℕ → List ℕ
up_to first next = numbers_from first (next - first)

placed_clone : List (Change × List ℕ)
unfolding up_to
placed_clone =
    (MakeVolume 0 Data 256 [], []) ∷ (Bind 1 1, []) ∷ (Write 1 0 160, up_to 0 20) ∷ (StartClone 1, [])
    ∷ (Turn 4, up_to 20 36) ∷ []

tables_of : List (Change × List ℕ) → Durable Entry
unfolding placed fine_64
tables_of changes = placed (empty_durable fine_64) changes

-- the rules in the middle of a clone, and after it
rules_of : Durable Entry → Option RuleFault
unfolding first_fault numbers_rule names_rule limits_rule sizes_rule space_rule used reserved entries charge shares least_broken standings bindings_rule clones_rule copies_rule
rules_of tables = first_fault tables

empty_keeps_rules : rules_of (tables_of []) ≡ None
unfolding rules_of tables_of
empty_keeps_rules = refl

placed_keeps_rules : rules_of (tables_of placed_clone) ≡ None
unfolding rules_of tables_of placed_clone
placed_keeps_rules = refl

placed_shape : shape_of_tables (tables_of placed_clone) ≡ day fine_64 begun_clone
unfolding tables_of placed_clone day begun_clone
placed_shape = refl

placed_form : is_formed (tables_of placed_clone) ≡ true
unfolding tables_of placed_clone is_formed
placed_form = refl

interrupted_pool : pool_of (interrupted_durable (day fine_64 begun_clone)) ≡ 256 ∷ 44 ∷ 0 ∷ 20 ∷ []
unfolding day begun_clone pool_of
interrupted_pool = refl

-- A record fits with one fresh place for each new chunk.
fits_in : Durable Entry → Change → List ℕ → Bool
unfolding fits judge used reserved free entries charge changed_indexes turned_indexes place_count
fits_in tables change places = fits tables change places

made_and_bound : List (Change × List ℕ)
made_and_bound = (MakeVolume 0 Data 256 [], []) ∷ (Bind 1 1, []) ∷ []

first_places_fit : fits_in (tables_of made_and_bound) (Write 1 0 160) (up_to 0 20) ≡ true
unfolding fits_in tables_of made_and_bound up_to
first_places_fit = refl

one_too_few : fits_in (tables_of made_and_bound) (Write 1 0 160) (up_to 0 19) ≡ false
unfolding fits_in tables_of made_and_bound up_to
one_too_few = refl

past_the_pool : fits_in (tables_of made_and_bound) (Write 1 0 8) (64 ∷ []) ≡ false
unfolding fits_in tables_of made_and_bound
past_the_pool = refl

one_twice : fits_in (tables_of made_and_bound) (Write 1 0 16) (7 ∷ 7 ∷ []) ≡ false
unfolding fits_in tables_of made_and_bound
one_twice = refl

counted_place : fits_in (tables_of placed_clone) (Write 1 0 8) (20 ∷ []) ≡ false
unfolding fits_in tables_of placed_clone
counted_place = refl

fresh_place : fits_in (tables_of placed_clone) (Write 1 0 8) (36 ∷ []) ≡ true
unfolding fits_in tables_of placed_clone
fresh_place = refl

place_of_the_interrupted : fits_in (interrupted_durable (tables_of placed_clone)) (Write 1 0 8) (20 ∷ []) ≡ true
unfolding fits_in tables_of placed_clone
place_of_the_interrupted = refl

-- Tables that break one rule each: a volume of two chunks, in an array whose log stands at 5.
one_volume : Volume Entry
one_volume = record {
  number = 1;
  container = 0;
  vtype = Data;
  kind = Plain;
  reverted = 0;
  needs = [];
  metadata = [];
  chunks = record { place = Some 3; stamp = 4 } ∷ record { place = Some 2; stamp = 5 } ∷ [];
}

one_tables : Durable Entry
unfolding wide_16 one_volume
one_tables = record (empty_durable wide_16) { lsn = 5; volumes = one_volume ∷ [] }

kept : rules_of one_tables ≡ None
unfolding rules_of one_tables
kept = refl

rule_1 : rules_of (record one_tables { volumes = record one_volume { reverted = 6 } ∷ [] }) ≡ Some (record { rule = 1; found = 0 })
unfolding rules_of one_tables
rule_1 = refl

rule_2 : rules_of (record one_tables { volumes = record one_volume { container = 7 } ∷ [] }) ≡ Some (record { rule = 2; found = 0 })
unfolding rules_of one_tables
rule_2 = refl

rule_3 : rules_of (record one_tables { contexts = record { host = 65; endpoints = [] } ∷ [] }) ≡ Some (record { rule = 3; found = 0 })
unfolding rules_of one_tables
rule_3 = refl

rule_4 : rules_of (record one_tables { volumes = record one_volume { chunks = [] } ∷ [] }) ≡ Some (record { rule = 4; found = 0 })
unfolding rules_of one_tables
rule_4 = refl

rule_5 : rules_of (record one_tables { containers = record { number = 0; quota = 1; offers = [] } ∷ [] }) ≡ Some (record { rule = 5; found = 0 })
unfolding rules_of one_tables
rule_5 = refl

two_at_one_place : rules_of (record one_tables {
  volumes = record one_volume {
    chunks = record { place = Some 3; stamp = 4 } ∷ record { place = Some 3; stamp = 5 } ∷ [];
  } ∷ [];
})
    ≡ Some (record { rule = 6; found = 3 })
unfolding rules_of one_tables
two_at_one_place = refl

one_without_place : rules_of (record one_tables {
  volumes = record one_volume {
    chunks = record { place = None; stamp = 4 } ∷ record { place = Some 2; stamp = 5 } ∷ [];
  } ∷ [];
})
    ≡ Some (record { rule = 6; found = 4294967295 })
unfolding rules_of one_tables
one_without_place = refl

rule_7 : rules_of (record one_tables {
  bindings =
      record { address = record { host = 1; endpoint = 1; secondary = 0 }; volume = 1; count = 1 } ∷ [];
})
    ≡ Some (record { rule = 7; found = 0 })
unfolding rules_of one_tables
rule_7 = refl

rule_8 : rules_of (record one_tables {
  tasks = record { number = 2; job = Clone 1; state = Running; done = 0; total = 0 } ∷ [];
  clones = record {
    number = 2;
    container = 0;
    vtype = Data;
    needs = [];
    metadata = [];
    image = record { place = Some 3; stamp = 4 } ∷ [];
    target = record { place = None; stamp = 0 } ∷ [];
  } ∷ [];
})
    ≡ Some (record { rule = 8; found = 0 })
unfolding rules_of one_tables
rule_8 = refl

rule_9 : rules_of (record one_tables { tasks = record { number = 2; job = Clone 1; state = Cancelled; done = 2; total = 1 } ∷ [] })
    ≡ Some (record { rule = 9; found = 0 })
unfolding rules_of one_tables
rule_9 = refl

-- Bytes: a write of two blocks over the border of two chunks of eight blocks, and what is read of them and beside them.
zeros : ChunkValue
zeros = unmapped_value 8

two_chunks : List ChunkValue
unfolding zeros written_values
two_chunks = written 8 (zeros ∷ zeros ∷ []) 7 (replicate 512 17 ++ replicate 512 34) 3

two_stamps : map (λ (x : ChunkValue). x.stamp) two_chunks ≡ 3 ∷ 3 ∷ []
unfolding two_chunks
two_stamps = refl

two_lengths : map (λ (x : ChunkValue). length x.bytes) two_chunks ≡ 4096 ∷ 4096 ∷ []
unfolding two_chunks
two_lengths = refl

two_read : blocks_read two_chunks 6 4 ≡ replicate 512 0 ++ replicate 512 17 ++ replicate 512 34 ++ replicate 512 0
unfolding two_chunks
two_read = refl

one_stamp : map (λ (x : ChunkValue). x.stamp) (written 8 (zeros ∷ zeros ∷ []) 8 (replicate 512 17) 3) ≡ 0 ∷ 3 ∷ []
unfolding zeros written_values
one_stamp = refl

same_thrice : blocks_read (put_at (touched_indexes 8 0 3) (same_values 8 (zeros ∷ zeros ∷ []) 0 3 (replicate 512 9) 4) (zeros ∷ zeros ∷ [])) 2 2
    ≡ replicate 512 9 ++ replicate 512 0
unfolding zeros written_values
same_thrice = refl

compared : compares two_chunks 7 1 (replicate 512 17 ++ replicate 512 119) ≡ true
unfolding two_chunks compares
compared = refl

miscompared : compares two_chunks 8 1 (replicate 512 17 ++ replicate 512 119) ≡ false
unfolding two_chunks compares
miscompared = refl

-- The last log number is given to no change, but what changes nothing is answered still.
at_the_end : List Change → Durable ℕ
unfolding day
at_the_end changes = record (day wide_16 changes) { lsn = 2 ^ 62 - 1 }

no_more : judge None (at_the_end []) (MakeVolume 0 Data 4 []) ≡ Refuse Exhausted
unfolding at_the_end
no_more = refl

names_come_first : judge None (at_the_end []) (MakeVolume 1 Data 4 []) ≡ Refuse (NotFound in_container)
unfolding at_the_end
names_come_first = refl

nothing_comes_first : judge None (at_the_end setup) (GrowVolume 1 4) ≡ Nothing
unfolding at_the_end setup
nothing_comes_first = refl

-- The limits of counts, each at its number.
repeated : ℕ → Change → List Change
repeated zero change = []
repeated (suc n) change = change ∷ repeated n change

containers_full : judge None (day wide_16 (repeated 31 (MakeContainer 1 []))) (MakeContainer 1 []) ≡ Refuse (TooMany in_container 32)
unfolding day repeated
containers_full = refl

one_container_more : judge None (day wide_16 (repeated 30 (MakeContainer 1 []))) (MakeContainer 1 []) ≡ Accept
unfolding day repeated
one_container_more = refl

-- The limit on volumes counts running clones, and comes before the limit on entries.
volumes_full : judge None (day wide_16 (repeated 254 (MakeVolume 0 Data 1 []) ++ StartClone 1 ∷ [])) (MakeVolume 0 Data 1 [])
    ≡ Refuse (MapFull 256 1 256)
unfolding day repeated
volumes_full = refl

wide_512 : Geometry
unfolding wide
wide_512 = wide 16 512 (lit≤ tt) (lit≤ tt) (lit≤ tt) (lit≤ tt) (lit≤ tt)

clones_count_as_volumes : judge None (day wide_512 (repeated 255 (MakeVolume 0 Data 1 []) ++ StartClone 1 ∷ [])) (Snapshot 1)
    ≡ Refuse (TooMany Vvol 256)
unfolding day wide_512 repeated
clones_count_as_volumes = refl

tasks_full : judge None (day wide_16 (MakeVolume 0 Data 1 [] ∷ repeated 16 (StartClone 1))) (StartClone 1) ≡ Refuse (TooMany in_task 16)
unfolding day repeated
tasks_full = refl

-- A start at 256 records drops the finished one with the least number.
records_dropped : map (λ (t : Task). t.number) (with_room (map (λ n. record { number = n; job = Clone 1; state = (if n == 1 then Running else Cancelled); done = 0; total = 1 }) (numbers_from 1 256)))
    ≡ 1 ∷ numbers_from 3 254
records_dropped = refl

-- What a difference copy asks of its target.
copy_ground : List Change
copy_ground = MakeVolume 0 Data 2 [] ∷ MakeVolume 0 Data 3 [] ∷ MakeVolume 0 Data 2 [] ∷ Snapshot 1 ∷ MakeVolume 0 Data 2 [] ∷ Bind 1 5 ∷ Write 2 0 1 ∷ []

onto_itself : judge None (day wide_16 copy_ground) (StartCopy 1 2 1) ≡ Refuse (InvalidArgument Target)
unfolding day copy_ground
onto_itself = refl

onto_less : judge None (day wide_16 copy_ground) (StartCopy 2 1 3) ≡ Refuse (InvalidArgument Target)
unfolding day copy_ground
onto_less = refl

onto_a_snapshot : judge None (day wide_16 copy_ground) (StartCopy 1 2 4) ≡ Refuse (IncompatibleVolume Target)
unfolding day copy_ground
onto_a_snapshot = refl

onto_a_bound_one : judge None (day wide_16 copy_ground) (StartCopy 1 2 5) ≡ Refuse (ResourceInUse Target)
unfolding day copy_ground
onto_a_bound_one = refl

of_no_base : judge None (day wide_16 copy_ground) (StartCopy 1 9 1) ≡ Refuse (NotFound Base)
unfolding day copy_ground
of_no_base = refl

onto_its_base : judge None (day wide_16 copy_ground) (StartCopy 1 2 2) ≡ Accept
unfolding day copy_ground
onto_its_base = refl

-- A snapshot is not written, also by no block, and no write passes the end.
to_a_snapshot : judge None (day wide_16 copy_ground) (Write 4 0 0) ≡ Refuse WriteProtected
unfolding day copy_ground
to_a_snapshot = refl

past_the_end : judge None (day wide_16 copy_ground) (Write 1 4095 2) ≡ Refuse OutOfRange
unfolding day copy_ground
past_the_end = refl

at_the_last_block : judge None (day wide_16 copy_ground) (Write 1 4095 1) ≡ Accept
unfolding day copy_ground
at_the_last_block = refl

-- Quotas of clones, copies and reverts.
quota_of_three : List Change
quota_of_three =
    MakeContainer 3 [] ∷ MakeVolume 1 Data 2 [] ∷ MakeVolume 1 Data 2 [] ∷ Write 2 0 4096 ∷ []

clone_over_quota : judge None (day wide_16 quota_of_three) (StartClone 2) ≡ Refuse (OverQuota 2 2 3)
unfolding day quota_of_three
clone_over_quota = refl

copy_over_quota : judge None (day wide_16 quota_of_three) (StartCopy 2 3 3) ≡ Refuse (OverQuota 2 2 3)
unfolding day quota_of_three
copy_over_quota = refl

copy_of_one_more : judge None (day wide_16 (quota_of_three ++ Write 3 0 1 ∷ [])) (StartCopy 2 3 3) ≡ Refuse (OverQuota 3 1 3)
unfolding day quota_of_three
copy_of_one_more = refl

-- A revert to a snapshot that is larger and has more allocated asks for the difference.
revert_ground : List Change
revert_ground =
    MakeContainer 4 [] ∷ MakeVolume 1 Data 2 [] ∷ Write 2 0 4096 ∷ Snapshot 2 ∷ Unmap 2 ((0, 2) ∷ []) ∷ MakeVolume 1 Data 2 []
    ∷ Write 6 0 1 ∷ Write 6 2048 1 ∷ []

revert_over_quota : judge None (day wide_16 revert_ground) (Revert 2 4) ≡ Refuse (OverQuota 4 2 4)
unfolding day revert_ground
revert_over_quota = refl

revert_of_no_snapshot : judge None (day wide_16 revert_ground) (Revert 6 4) ≡ Refuse (IncompatibleVolume in_snapshot)
unfolding day revert_ground
revert_of_no_snapshot = refl

-- A revert that needs no more is accepted whatever the quota is.
no_growth : judge None (record (day wide_16 (MakeContainer 4 [] ∷ MakeVolume 1 Data 2 [] ∷ Write 2 0 4096 ∷ Snapshot 2 ∷ [])) {
  containers = record { number = 1; quota = 0; offers = [] } ∷ [];
}) (Revert 2 4) ≡ Accept
unfolding day
no_growth = refl

-- Growing a volume sets an attention at each of its bindings, and removing a binding takes it away.
grown_attentions : ◌≡◌ {A = List Address} (attentions_after (day wide_16 setup) (GrowVolume 1 5) []) (record { host = 1; endpoint = 1; secondary = 1 } ∷ [])
unfolding day setup attentions_after
grown_attentions = refl

counted_binding : ◌≡◌ {A = List Address} (attentions_after (day wide_16 (setup ++ Bind 1 1 ∷ [])) (Unbind 1 1 1) (record { host = 1; endpoint = 1; secondary = 1 } ∷ []))
    (record { host = 1; endpoint = 1; secondary = 1 } ∷ [])
unfolding day setup attentions_after
counted_binding = refl

removed_binding : ◌≡◌ {A = List Address} (attentions_after (day wide_16 setup) (Unbind 1 1 1) (record { host = 1; endpoint = 1; secondary = 1 } ∷ [])) []
unfolding day setup attentions_after
removed_binding = refl
