-- Further days of small arrays: tasks, quotas, profiles, queues, bindings and commands.
use Rattle.std.specs.Prelude.{◌≡◌, ℕ, ◌*◌, true, false, List, [], ◌∷◌, ◌++◌, Some, None, refl, codes, replicate}
use Rattle.vv_units.specs.declared.field.Field.TheVariants as field
use Rattle.vv_units.specs.declared.volume.Need.{Need}
use Rattle.vv_units.specs.declared.volume.Offer.{Offer}
use Rattle.vv_units.specs.declared.volume.VvolType.TheVariants.{Data}
use Rattle.vv_units.specs.declared.volume.TaskState.{TaskState}
use Rattle.vv_units.specs.declared.volume.TaskState.TheVariants.{Running, Success, Cancelled}
use Rattle.vv_units.specs.declared.volume.Why.TheVariants.{Unknown, NotOffered, TooLittle}
use Rattle.vv_flat.specs.State.{Array, empty_array}
use Rattle.vv_flat.specs.Profiles.{Capability, AtLeast, AtMost, Equal, OneOf}
use Rattle.vv_flat.specs.Restart.{restarted}
use Rattle.vv_calls.specs.declared.call.Call.{Call}
use Rattle.vv_calls.specs.declared.call.Call.TheVariants as call
use Rattle.vv_cdb.specs.Senses.{sense_data}
use Rattle.vv_reply.specs.declared.reply.Answer.TheVariants as answer
use Rattle.vv_reply.specs.declared.reply.Reply.{Reply}
use Rattle.vv_reply.specs.declared.reply.Reply.TheVariants.{Done, Refused, Line}
use Rattle.vv_calls.specs.declared.call.LineFault.TheVariants as line
use Rattle.vv_reply.specs.declared.reply.Refusal.TheVariants as fault
use Rattle.vv_reply.specs.Replies.{text_of}
use Rattle.vv_meaning.specs.Told.{good, done, check_condition, task_set_full}
use Rattle.vv_meaning.specs.Meaning.{BlocksAt}
use Rattle.vv_meaning.specs.Steps.{no_memory}
use Rattle.vv_meaning.proofs.Days.{wide_16, fine_64, replies, after, blank, day, setup, create, bind, unbind, command, submit, serve, transfer, write, read, write_same, snapshot, turn, vvol, bound, bits, ended_by}

abbrev task : ℕ → ℕ → ℕ → TaskState → Reply
task n finished total state = Done (answer.TaskNow finished state (record { 0 = n }) total)

abbrev pool : ℕ → ℕ → ℕ → ℕ → Reply
pool entries free reserved used = Done (answer.Pool 64 entries free reserved used)

abbrev clone_started : ℕ → ℕ → Reply
clone_started n total = Done (answer.CloneStart (record { 0 = n }) (record { 0 = n }) total)

-- A volume of one MB with 20 allocated chunks, and a clone of it that has copied 16 of them.
cloning : List Call
cloning = create 1 ∷ bind 1 ∷ write_same 0 160 ∷ call.CloneVirtualVolume (record { 0 = 1 }) ∷ []

-- A clone outlives its source, and a turn of one that is done changes nothing.
a_clone : day fine_64 []
    (cloning ++ (turn 4 ∷ write 0 8 ∷ unbind 1 ∷ call.DeleteVirtualVolume (record { 0 = 1 }) ∷ turn 4 ∷ call.QueryPool ∷ bind 4
    ∷ turn 4 ∷ create 1 ∷ []))
    ≡ vvol 1 ∷ bound 1 ∷ good [] ∷ clone_started 4 20 ∷ task 4 16 20 Running ∷ good [] ∷ Done (answer.Left 0) ∷ done
    ∷ task 4 20 20 Success ∷ pool 256 44 0 20 ∷ bound 1 ∷ task 4 20 20 Success ∷ vvol 11 ∷ []
unfolding day cloning
a_clone = refl

-- the array after a restart
restarted_after : List Call → Array ℕ
unfolding after blank fine_64
restarted_after calls = restarted (after blank [] (empty_array fine_64) calls)

-- A clone goes on after a restart, and its target isn't there before its last turn.
a_clone_through_a_restart : replies blank [] (restarted_after (cloning ++ turn 4 ∷ []))
    (call.GetTaskUpdate (record { 0 = 4 }) ∷ call.QueryVirtualVolume (record { 0 = 4 }) ∷ call.QueryPool ∷ write 0 8
    ∷ call.QueryPool ∷ turn 4 ∷ call.QueryPool ∷ bind 4 ∷ [])
    ≡ task 4 16 20 Running ∷ Refused (fault.NotFound field.Vvol) ∷ pool 768 24 4 36 ∷ good [] ∷ pool 768 23 4 37
    ∷ task 4 20 20 Success ∷ pool 512 24 0 40 ∷ bound 2 ∷ []
unfolding replies blank restarted_after cloning
a_clone_through_a_restart = refl

-- The target of a copy is busy until its last turn, or until the copy is cancelled.
a_cancelled_copy : day wide_16 setup
    (write 2048 1 ∷ snapshot 1 ∷ write 2048 1 ∷ snapshot 1 ∷ create 4
    ∷ call.CopyDiffsToVirtualVolume (record { 0 = 6 }) (record { 0 = 4 }) (record { 0 = 7 }) ∷ bind 7
    ∷ call.CancelTask (record { 0 = 8 }) ∷ bind 7 ∷ call.CancelTask (record { 0 = 8 })
    ∷ call.AllocatedBitmapVirtualVolume (record { 0 = 7 }) None None
    ∷ call.AllocatedBitmapVirtualVolume (record { 0 = 1 }) (Some 1) (Some 2)
    ∷ call.AllocatedBitmapVirtualVolume (record { 0 = 1 }) (Some 4) None
    ∷ call.AllocatedBitmapVirtualVolume (record { 0 = 1 }) (Some 5) None
    ∷ call.AllocatedBitmapVirtualVolume (record { 0 = 1 }) (Some 1) (Some 4) ∷ [])
    ≡ good [] ∷ vvol 4 ∷ good [] ∷ vvol 6 ∷ vvol 7 ∷ Done (answer.CopyStart (record { 0 = 8 }) 1)
    ∷ Refused (fault.ResourceInUse field.Vvol) ∷ task 8 0 1 Cancelled ∷ bound 2 ∷ Refused (fault.NotCancellable field.Task)
    ∷ bits (false ∷ false ∷ false ∷ false ∷ []) ∷ bits (true ∷ false ∷ []) ∷ bits []
    ∷ Refused (fault.InvalidArgument field.First) ∷ Refused (fault.InvalidArgument field.Count) ∷ []
unfolding day setup
a_cancelled_copy = refl

abbrev container : ℕ → List Offer → Call
container quota offers = call.CreateStorageContainer quota offers

-- A quota counts the chunks that a write allocates, and a rewrite allocates none.
a_quota : day wide_16 []
    (container 2 [] ∷ call.CreateVirtualVolume (Some (record { 0 = 1 })) Data 4 None ∷ bind 2 ∷ write 0 1 ∷ write 2048 1
    ∷ write 4096 1 ∷ write 0 1 ∷ snapshot 2 ∷ call.QueryStorageContainer (record { 0 = 1 })
    ∷ call.QueryStorageContainer (record { 0 = 2 }) ∷ [])
    ≡ Done (answer.Container (record { 0 = 1 })) ∷ vvol 2 ∷ bound 1 ∷ good [] ∷ good []
    ∷ check_condition (record { key = 7; asc = 0x27; ascq = 7 }) (Some (fault.OverQuota 2 1 2)) ∷ good []
    ∷ Refused (fault.OverQuota 2 2 2) ∷ Done (answer.Charge 2 2) ∷ Refused (fault.NotFound field.Container) ∷ []
unfolding day
a_quota = refl

known : List Capability
known = record { name = codes "min-iops"; kind = AtLeast } ∷ record { name = codes "max-latency-us"; kind = AtMost }
    ∷ record { name = codes "raid-level"; kind = Equal } ∷ record { name = codes "features"; kind = OneOf } ∷ []

abbrev offered : List Offer
offered = record { name = codes "min-iops"; value = 1000 } ∷ record { name = codes "features"; value = 9223372036854775808 } ∷ []

-- a volume of one MB in container 1 with a profile
abbrev profiled : List Need → Call
profiled needs = call.CreateVirtualVolume (Some (record { 0 = 1 })) Data 1 (Some needs)

-- A profile complies, or tells the first need that isn't met.
a_profile : replies blank known (empty_array wide_16)
    (container 9 offered
    ∷ profiled (record { name = codes "min-iops"; value = 500 } ∷ record { name = codes "colour"; value = 1 } ∷ [])
    ∷ profiled (record { name = codes "features"; value = 63 } ∷ []) ∷ profiled (record { name = codes "features"; value = 62 } ∷ [])
    ∷ profiled (record { name = codes "max-latency-us"; value = 5 } ∷ []) ∷ [])
    ≡ Done (answer.Container (record { 0 = 1 })) ∷ Refused (fault.InvalidProfile 1 Unknown) ∷ vvol 2
    ∷ Refused (fault.InvalidProfile 0 TooLittle) ∷ Refused (fault.InvalidProfile 0 NotOffered) ∷ []
unfolding replies blank known wide_16
a_profile = refl

abbrev written : Call
written = submit (transfer 0x2a 7 1) (replicate 512 0x5a)

-- A queued command is decided by what is bound when it is served.
a_queue : day wide_16 setup (written ∷ unbind 1 ∷ serve ∷ serve ∷ create 1 ∷ [])
    ≡ Done (answer.Queued 1) ∷ Done (answer.Left 0) ∷ ended_by 5 0x25 0 ∷ Done answer.NothingServed ∷ vvol 4 ∷ []
unfolding day setup
a_queue = refl

a_queue_ahead_of_a_binding : day wide_16 (create 4 ∷ []) (written ∷ bind 1 ∷ serve ∷ create 1 ∷ [])
    ≡ Done (answer.Queued 1) ∷ bound 1 ∷ good [] ∷ vvol 4 ∷ []
unfolding day
a_queue_ahead_of_a_binding = refl

-- It is done at its turn, and taken off.
a_served_write : day wide_16 setup (written ∷ serve ∷ serve ∷ create 1 ∷ [])
    ≡ Done (answer.Queued 1) ∷ good [] ∷ Done answer.NothingServed ∷ vvol 4 ∷ []
unfolding day setup
a_served_write = refl

-- At most 32 wait for a host. Whether the number of bytes fits is looked at before that.
abbrev tests : ℕ → List Call
tests n = replicate n (submit (replicate 6 0) [])

a_full_queue : day wide_16 (tests 32)
    (submit (replicate 6 0) [] ∷ submit (replicate 6 0) (1 ∷ []) ∷ submit (0xff ∷ []) (1 ∷ [])
    ∷ command 1 1 (replicate 6 0) (1 ∷ []) ∷ command 1 1 (0xff ∷ []) (1 ∷ []) ∷ serve ∷ submit (0xff ∷ []) (1 ∷ []) ∷ [])
    ≡ task_set_full ∷ Refused (fault.InvalidArgument field.Data) ∷ task_set_full ∷ Refused (fault.InvalidArgument field.Data)
    ∷ ended_by 5 0x25 0 ∷ ended_by 5 0x25 0 ∷ Done (answer.Queued 32) ∷ []
unfolding day
a_full_queue = refl

abbrev context : ℕ → Call
context host = call.SetPEContext (record { 0 = host }) []

-- A bind that stands is counted; an unbind tells the count that is left, and an unbind of all the number of bindings.
some_bindings : day wide_16 setup
    (bind 1 ∷ unbind 1 ∷ context 1 ∷ context 2 ∷ call.BindVirtualVolume (record { 0 = 2 }) (record { 0 = 1 }) ∷ bind 1
    ∷ call.UnbindAllVirtualVolumesFromHost (record { 0 = 1 }) ∷ call.UnbindAllVirtualVolumesFromHost (record { 0 = 1 })
    ∷ unbind 1 ∷ create 1 ∷ [])
    ≡ bound 1 ∷ Done (answer.Left 1) ∷ Refused (fault.ResourceInUse field.Endpoints) ∷ done
    ∷ Refused (fault.NoEndpoint field.Host) ∷ bound 1 ∷ Done (answer.Removed 1) ∷ Done (answer.Removed 0)
    ∷ Refused (fault.NotFound field.Secondary) ∷ vvol 8 ∷ []
unfolding day setup
some_bindings = refl

-- A binding that is removed takes its attention with it.
a_removed_binding : day wide_16 setup
    (call.ResizeVirtualVolume (record { 0 = 1 }) 5 ∷ unbind 1 ∷ bind 1 ∷ read 0 1 ∷ [])
    ≡ done ∷ Done (answer.Left 0) ∷ bound 1 ∷ good (replicate 512 0) ∷ []
unfolding day setup
a_removed_binding = refl

-- A full map.
a_full_map : day wide_16 [] (create 256 ∷ create 1 ∷ []) ≡ vvol 1 ∷ Refused (fault.MapFull 256 1 256) ∷ []
unfolding day
a_full_map = refl

-- COMPARE AND WRITE of the first block, which is to be zeros and becomes 77h
abbrev compare_and_write : Call
compare_and_write =
    command 1 1 (0x89 ∷ replicate 12 0 ++ 1 ∷ 0 ∷ 0 ∷ []) (replicate 512 0 ++ replicate 512 0x77)

-- Commands, and the senses of those that are refused.
some_commands : day wide_16 setup
    (command 1 1 (0x25 ∷ replicate 9 0) [] ∷ compare_and_write ∷ command 1 1 (0xff ∷ []) []
    ∷ command 2 1 (0x03 ∷ 0 ∷ 0 ∷ 0 ∷ 18 ∷ 0 ∷ []) [] ∷ command 1 0 (replicate 6 0) [] ∷ command 1 0 (0x25 ∷ replicate 9 0) []
    ∷ snapshot 1 ∷ bind 4 ∷ command 1 2 (transfer 0x2a 0 1) (replicate 512 1) ∷ [])
    ≡ good (0 ∷ 0 ∷ 0x1f ∷ 0xff ∷ 0 ∷ 0 ∷ 2 ∷ 0 ∷ []) ∷ good [] ∷ ended_by 5 0x20 0
    ∷ good (sense_data (record { key = 5; asc = 0x25; ascq = 0 })) ∷ good [] ∷ ended_by 5 0x20 0
    ∷ vvol 4 ∷ bound 2 ∷ ended_by 7 0x27 0 ∷ []
unfolding day setup
some_commands = refl

-- blocks of the byte 77h
sevens : BlocksAt
sevens volume first blocks = replicate (512 * blocks) 0x77

-- A miscompare writes nothing and takes no log number.
a_miscompare : replies sevens [] (after blank [] (empty_array wide_16) setup) (compare_and_write ∷ create 1 ∷ [])
    ≡ ended_by 14 0x1d 0 ∷ vvol 3 ∷ []
unfolding replies after blank sevens wide_16 setup
a_miscompare = refl

-- It is found after a quota that is full.
a_quota_before_a_miscompare : replies sevens [] (empty_array wide_16)
    (container 0 [] ∷ call.CreateVirtualVolume (Some (record { 0 = 1 })) Data 1 None ∷ bind 2 ∷ compare_and_write ∷ [])
    ≡ Done (answer.Container (record { 0 = 1 })) ∷ vvol 2 ∷ bound 1
    ∷ check_condition (record { key = 7; asc = 0x27; ascq = 7 }) (Some (fault.OverQuota 0 1 0)) ∷ []
unfolding replies sevens wide_16
a_quota_before_a_miscompare = refl

-- Want of memory has one text, whether it was found at the line or behind it.
one_text : text_of no_memory ≡ text_of (Line line.NoMemory)
one_text = refl
