-- How a call of an array that is up ends, what the array stands for then, and what a crash while it is served may leave.
use Rattle.std.specs.Prelude.{◌≡◌, ℕ, List, Option, Some, IsTrue, ⊤, ◌⊎◌}
use Rattle.vv_units.specs.Causes.{Rose}
use Rattle.vv_flat.specs.State.{Array}
use Rattle.vv_flat.specs.Chunks.{Entry, ChunkValue}
use Rattle.vv_flat.specs.Profiles.{Capability}
use Rattle.vv_journal.specs.Calls.{JournalState}
use Rattle.vv_calls.specs.declared.call.Call.{Call}
use Rattle.vv_reply.specs.declared.reply.Reply.{Reply}
use Rattle.vv_meaning.specs.Told.{read_failed_as, write_failed_as}
use Rattle.vv_meaning.specs.Meaning.{reply, next}
use Rattle.vv_meaning.specs.Steps.{is_journaled, moves_blocks, form_for, no_memory}
use Rattle.vv_core.specs.Core.{CoreState, passed}
use Rattle.vv_core.specs.Plans.{settled}
use Rattle.vv_array.specs.Standing.{StandsKept, UpOn, DownOn}
use Rattle.vv_array.specs.Moments.{LeftBy}
use Rattle.vv_array.specs.declared.ended.Ended.{Ended}
use Rattle.vv_array.specs.declared.ended.Ended.TheVariants as ended

-- what the call is answered
abbrev pub answer_of : Ended → Reply
answer_of (ended.Replied answer) = answer
answer_of (ended.ReadFailed answer) = answer
answer_of (ended.WriteFailed answer) = answer
answer_of ended.NoMemory = no_memory

-- A call of an array that stood for m is answered with its reply, and the array is up as the one after it; or a read failed
-- where it moves blocks, or there was no memory, and the array is up as it was; or a write failed where it is journaled, and
-- then every image stands for the array before the call or for the one after it.
abbrev pub IsServed : List Capability → Array ChunkValue → Call → JournalState → Array Entry → Option (List ℕ) → (List ℕ → Type 0) → Ended → Type 0
IsServed capabilities m c journal a told images (ended.Replied answer) =
    (answer ≡ reply capabilities m c) × UpOn journal a told images (next capabilities m c)
IsServed capabilities m c journal a told images (ended.ReadFailed answer) =
    IsTrue (moves_blocks capabilities m c) × (answer ≡ read_failed_as (form_for m c)) × UpOn journal a told images m
IsServed capabilities m c journal a told images (ended.WriteFailed answer) =
    IsTrue (is_journaled capabilities m c) × (answer ≡ write_failed_as (form_for m c)) × DownOn images m (next capabilities m c)
IsServed capabilities m c journal a told images ended.NoMemory = UpOn journal a told images m

-- What a crash during the call may leave: the array before it, or the one after it where the call is journaled. Where a read
-- failed or there was no memory it is the one before.
abbrev pub LeftIn : List Capability → Array ChunkValue → Call → Ended → List ℕ → Type 0
LeftIn capabilities m c (ended.Replied answer) image = LeftBy capabilities m c image
LeftIn capabilities m c (ended.ReadFailed answer) image = StandsKept m image
LeftIn capabilities m c (ended.WriteFailed answer) image = LeftBy capabilities m c image
LeftIn capabilities m c ended.NoMemory image = StandsKept m image

-- A fault of the disk is told only where its count rose in the call.
abbrev pub IsCaused : ℕ → ℕ → ℕ → ℕ → Ended → Type 0
IsCaused reads_before reads_now writes_before writes_now (ended.Replied answer) = ⊤
IsCaused reads_before reads_now writes_before writes_now (ended.ReadFailed answer) = Rose reads_before reads_now
IsCaused reads_before reads_now writes_before writes_now (ended.WriteFailed answer) = Rose writes_before writes_now
IsCaused reads_before reads_now writes_before writes_now ended.NoMemory = ⊤

-- A call that needs no disk is answered with its settled reply, and what waits goes on; or there was no memory, and all stays.
abbrev pub IsSettled : List Capability → Array Entry → Array Entry → Call → Ended → Type 0
IsSettled capabilities old new c (ended.Replied answer) = (settled capabilities old c ≡ Some answer) × (new ≡ passed old c)
IsSettled capabilities old new c (ended.ReadFailed answer) = ⊥
IsSettled capabilities old new c (ended.WriteFailed answer) = ⊥
IsSettled capabilities old new c ended.NoMemory = new ≡ old

-- Where there was no memory, all of the array and what is read of the disk are as they were.
abbrev pub HasStayed : Ended → JournalState → JournalState → CoreState → CoreState → Option (List ℕ) → Option (List ℕ) → Type 0
HasStayed (ended.Replied answer) j j' core core' told told' = ⊤
HasStayed (ended.ReadFailed answer) j j' core core' told told' = ⊤
HasStayed (ended.WriteFailed answer) j j' core core' told told' = ⊤
HasStayed ended.NoMemory j j' core core' told told' = (j' ≡ j) × ((core' ≡ core) × (told' ≡ told))

-- there was no memory
abbrev pub IsWithoutMemory : Ended → Type 0
IsWithoutMemory (ended.Replied answer) = ⊥
IsWithoutMemory (ended.ReadFailed answer) = ⊥
IsWithoutMemory (ended.WriteFailed answer) = ⊥
IsWithoutMemory ended.NoMemory = ⊤
