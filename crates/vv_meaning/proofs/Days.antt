-- Days of small arrays, call by call: the replies, computed from the definitions.
use Rattle.std.specs.Prelude.{◌≡◌, ◌≤◌, ℕ, ◌*◌, Bool, true, false, List, [], ◌∷◌, ◌++◌, Some, None, refl, replicate}
use Rattle.std.proofs.Common.{lit≤}
use Rattle.byteorder.specs.Endian.{big_bytes}
use Rattle.vv_units.specs.declared.geometry.Geometry.{Geometry}
use Rattle.vv_units.specs.declared.field.Field.TheVariants as field
use Rattle.vv_units.specs.declared.volume.VvolType.TheVariants.{Data}
use Rattle.vv_units.specs.declared.volume.VolumeKind.TheVariants.{Plain}
use Rattle.vv_flat.specs.State.{Array, empty_array}
use Rattle.vv_flat.specs.Space.{used, reserved, free, entries, charge}
use Rattle.vv_flat.specs.Bindings.{with_binding, without_binding}
use Rattle.vv_flat.specs.Tasks.{turned, turned_indexes, cancelled, with_clone, with_copy}
use Rattle.vv_flat.specs.Profiles.{Capability, first_misfit}
use Rattle.vv_flat.specs.Changes.{judge, misfit_in, apply_shape, apply, effect, changed_indexes, attentions_after}
use Rattle.vv_calls.specs.declared.call.Call.{Call}
use Rattle.vv_calls.specs.declared.call.Call.TheVariants as call
use Rattle.vv_cdb.specs.Cdbs.{decoded}
use Rattle.vv_cdb.specs.UnmapLists.{ranges_in}
use Rattle.vv_lun.specs.Decided.{decided}
use Rattle.vv_lun.specs.Answers.{standard_data, digits}
use Rattle.vv_reply.specs.declared.reply.Answer.TheVariants as answer
use Rattle.vv_reply.specs.declared.reply.Reply.{Reply}
use Rattle.vv_reply.specs.declared.reply.Reply.TheVariants.{Done, Refused}
use Rattle.vv_reply.specs.declared.reply.Refusal.TheVariants as fault
use Rattle.vv_meaning.specs.Told.{good, done, check_condition}
use Rattle.vv_meaning.specs.Commands.{unit_at}
use Rattle.vv_meaning.specs.Meaning.{BlocksAt, reply_over, next_shape}

-- Chunks of one MB, of which the pool has so many, and lists of 256 entries.
wide : (pool : ℕ) → 1 ≤ pool → pool ≤ 262144 → pool * 2048 ≤ 8388608 → Geometry
wide pool some few small = record {
  chunk_blocks = 2048;
  pool_chunks = pool;
  map_chunks = 256;
  chunk_size = refl;
  some_chunks = some;
  few_chunks = few;
  small_pool = small;
  map_from = lit≤ tt;
  map_to = lit≤ tt;
}

unfoldable pub wide_16 : Geometry
unfolding wide
wide_16 = wide 16 (lit≤ tt) (lit≤ tt) (lit≤ tt)

unfoldable pub wide_2 : Geometry
unfolding wide
wide_2 = wide 2 (lit≤ tt) (lit≤ tt) (lit≤ tt)

-- 64 chunks of 4096 bytes, of which a volume of one MB has 256
unfoldable pub fine_64 : Geometry
fine_64 = record {
  chunk_blocks = 8;
  pool_chunks = 64;
  map_chunks = 1024;
  chunk_size = refl;
  some_chunks = lit≤ tt;
  few_chunks = lit≤ tt;
  small_pool = lit≤ tt;
  map_from = lit≤ tt;
  map_to = lit≤ tt;
}

-- The replies to some calls, and the array after them, where the blocks that are looked at have these bytes.
unfoldable pub replies : BlocksAt → List Capability → Array ℕ → List Call → List Reply
unfolding reply_over next_shape judge misfit_in first_misfit apply_shape apply effect changed_indexes attentions_after used reserved free entries charge with_binding without_binding turned turned_indexes cancelled with_clone with_copy decoded ranges_in decided standard_data digits unit_at
replies blocks capabilities a [] = []
replies blocks capabilities a (c ∷ cs) =
    reply_over blocks capabilities a c ∷ replies blocks capabilities (next_shape blocks capabilities a c) cs

unfoldable pub after : BlocksAt → List Capability → Array ℕ → List Call → Array ℕ
unfolding next_shape judge misfit_in first_misfit apply_shape apply effect changed_indexes attentions_after used reserved free entries charge with_binding without_binding turned turned_indexes cancelled with_clone with_copy decoded ranges_in decided standard_data digits unit_at
after blocks capabilities a [] = a
after blocks capabilities a (c ∷ cs) = after blocks capabilities (next_shape blocks capabilities a c) cs

-- blocks that nothing was written to
unfoldable pub blank : BlocksAt
blank volume first blocks = replicate (512 * blocks) 0

-- the replies after some calls of a fresh array that knows no capability
unfoldable pub day : Geometry → List Call → List Call → List Reply
unfolding replies after blank wide_16 wide_2 fine_64
day geometry before calls = replies blank [] (after blank [] (empty_array geometry) before) calls

-- Calls of host 1 at endpoint 1.

abbrev pub create : ℕ → Call
create mb = call.CreateVirtualVolume None Data mb None

abbrev pub bind : ℕ → Call
bind n = call.BindVirtualVolume (record { 0 = 1 }) (record { 0 = n })

abbrev pub unbind : ℕ → Call
unbind secondary = call.UnbindVirtualVolume (record { 0 = 1 }) (record { 0 = 1 }) (record { 0 = secondary })

abbrev pub command : ℕ → ℕ → List ℕ → List ℕ → Call
command host secondary cdb payload =
    call.Scsi (record { host = record { 0 = host }; endpoint = record { 0 = 1 }; secondary = record { 0 = secondary }; cdb = cdb; payload = payload })

abbrev pub submit : List ℕ → List ℕ → Call
submit cdb payload =
    call.Submit (record { host = record { 0 = 1 }; endpoint = record { 0 = 1 }; secondary = record { 0 = 1 }; cdb = cdb; payload = payload })

abbrev pub serve : Call
serve = call.Serve (record { 0 = 1 })

abbrev pub transfer : ℕ → ℕ → ℕ → List ℕ
transfer code lba blocks = (code ∷ 0 ∷ big_bytes 4 lba) ++ (0 ∷ big_bytes 2 blocks) ++ 0 ∷ []

-- WRITE(10) and READ(10) at secondary identifier 1, and WRITE SAME(16)
abbrev pub write : ℕ → ℕ → Call
write lba blocks = command 1 1 (transfer 0x2a lba blocks) (replicate (512 * blocks) 0x11)

abbrev pub read : ℕ → ℕ → Call
read lba blocks = command 1 1 (transfer 0x28 lba blocks) []

abbrev pub write_same : ℕ → ℕ → Call
write_same lba blocks = command 1 1 ((0x93 ∷ 0 ∷ big_bytes 8 lba) ++ big_bytes 4 blocks ++ 0 ∷ 0 ∷ []) (replicate 512 0x11)

abbrev pub snapshot : ℕ → Call
snapshot n = call.SnapshotVirtualVolume (record { 0 = n })

abbrev pub fast_clone : ℕ → Call
fast_clone n = call.FastCloneVirtualVolume (record { 0 = n })

abbrev pub resize : ℕ → ℕ → Call
resize n mb = call.ResizeVirtualVolume (record { 0 = n }) mb

abbrev pub revert : ℕ → ℕ → Call
revert n m = call.RevertVirtualVolume (record { 0 = n }) (record { 0 = m })

abbrev pub unshared : ℕ → ℕ → Call
unshared n m = call.UnsharedBitmapVirtualVolume (record { 0 = n }) (record { 0 = m }) None None

abbrev pub turn : ℕ → Call
turn n = call.Turn (record { 0 = n })

-- Replies.

abbrev pub vvol : ℕ → Reply
vvol n = Done (answer.Vvol (record { 0 = n }))

abbrev pub bound : ℕ → Reply
bound secondary = Done (answer.Bound (record { 0 = 1 }) (record { 0 = secondary }))

abbrev pub bits : List Bool → Reply
bits flags = Done (answer.Bits flags)

abbrev pub ended_by : ℕ → ℕ → ℕ → Reply
ended_by key asc ascq = check_condition (record { key = key; asc = asc; ascq = ascq }) None

-- A volume of 4 MB, bound for host 1.
unfoldable pub setup : List Call
setup = create 4 ∷ bind 1 ∷ []

-- A write of no block takes no log number.
a_write_of_nothing : day wide_16 setup (write 0 0 ∷ call.QueryPool ∷ create 1 ∷ [])
    ≡ good [] ∷ Done (answer.Pool 16 4 16 0 0) ∷ vvol 3 ∷ []
unfolding day setup
a_write_of_nothing = refl

-- Reads and writes at the end of a volume and past it.
the_end_of_a_volume : day wide_16 setup (read 8191 1 ∷ read 8191 2 ∷ read 8192 0 ∷ write 8192 0 ∷ [])
    ≡ good (replicate 512 0) ∷ ended_by 5 0x21 0 ∷ ended_by 5 0x21 0 ∷ ended_by 5 0x21 0 ∷ []
unfolding day setup
the_end_of_a_volume = refl

-- A rewrite of the same bytes sets the bit, and a revert asks that nothing is bound.
a_snapshot_and_a_revert : day wide_16 setup
    (write 2048 1 ∷ write 4096 1 ∷ snapshot 1 ∷ write 2048 1 ∷ unshared 1 5 ∷ write 4096 1 ∷ unshared 1 5
    ∷ call.UnsharedChunksVirtualVolume (record { 0 = 1 }) (record { 0 = 5 }) ∷ call.QueryPool ∷ revert 1 5 ∷ unbind 1
    ∷ revert 1 5 ∷ unshared 1 5 ∷ call.QueryPool ∷ bind 1 ∷ call.QueryVirtualVolume (record { 0 = 1 }) ∷ [])
    ≡ good [] ∷ good [] ∷ vvol 5 ∷ good [] ∷ bits (false ∷ true ∷ false ∷ false ∷ []) ∷ good []
    ∷ bits (false ∷ true ∷ true ∷ false ∷ []) ∷ Done (answer.Count 2) ∷ Done (answer.Pool 16 8 12 0 4)
    ∷ Refused (fault.ResourceInUse field.Vvol) ∷ Done (answer.Left 0) ∷ done
    ∷ bits (false ∷ false ∷ false ∷ false ∷ []) ∷ Done (answer.Pool 16 8 14 0 2) ∷ bound 1
    ∷ Done (answer.Volume 2 4 (record { 0 = 0 }) Plain [] [] 9 Data) ∷ []
unfolding day setup
a_snapshot_and_a_revert = refl

-- A full pool.
a_full_pool : day wide_2 [] (create 2 ∷ bind 1 ∷ write 0 1 ∷ write 2048 1 ∷ write 0 1 ∷ [])
    ≡ vvol 1 ∷ bound 1 ∷ good [] ∷ good []
    ∷ check_condition (record { key = 7; asc = 0x27; ascq = 7 }) (Some (fault.PoolFull 0 1)) ∷ []
unfolding day
a_full_pool = refl

-- UNMAP of the first chunk of 2048 blocks, and of the first half of the second
abbrev pub unmap : ℕ → ℕ → ℕ → Call
unmap secondary lba blocks =
    command 1 secondary (0x42 ∷ 0 ∷ 0 ∷ 0 ∷ 0 ∷ 0 ∷ 0 ∷ 0 ∷ 24 ∷ 0 ∷ [])
    ((0 ∷ 22 ∷ 0 ∷ 16 ∷ 0 ∷ 0 ∷ 0 ∷ 0 ∷ big_bytes 8 lba) ++ big_bytes 4 blocks ++ 0 ∷ 0 ∷ 0 ∷ 0 ∷ [])

unmapped_clones : day wide_16 []
    (create 2 ∷ bind 1 ∷ write 0 1 ∷ write 2048 1 ∷ fast_clone 1 ∷ fast_clone 1 ∷ bind 5 ∷ bind 6 ∷ unmap 2 0 2048
    ∷ unmap 3 0 2048 ∷ unshared 5 6 ∷ unshared 5 1 ∷ unmap 2 2048 1024 ∷ call.QueryPool ∷ create 1 ∷ [])
    ≡ vvol 1 ∷ bound 1 ∷ good [] ∷ good [] ∷ vvol 5 ∷ vvol 6 ∷ bound 2 ∷ bound 3 ∷ good [] ∷ good []
    ∷ bits (false ∷ false ∷ []) ∷ bits (true ∷ false ∷ []) ∷ good [] ∷ Done (answer.Pool 16 6 14 0 2) ∷ vvol 11 ∷ []
unfolding day
unmapped_clones = refl

-- A volume that has grown says so once.
a_grown_volume : day wide_16 setup
    (snapshot 1 ∷ resize 1 5 ∷ read 0 1 ∷ read 0 1 ∷ write 8192 1 ∷ unshared 1 3 ∷ unshared 3 1 ∷ resize 1 4 ∷ resize 1 5
    ∷ read 0 1 ∷ create 1 ∷ [])
    ≡ vvol 3 ∷ done ∷ ended_by 6 0x2a 9 ∷ good (replicate 512 0) ∷ good []
    ∷ bits (false ∷ false ∷ false ∷ false ∷ true ∷ []) ∷ bits (false ∷ false ∷ false ∷ false ∷ [])
    ∷ Refused (fault.InvalidArgument field.SizeInMb) ∷ done ∷ good (replicate 512 0) ∷ vvol 6 ∷ []
unfolding day setup
a_grown_volume = refl
