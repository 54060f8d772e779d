-- A disk in memory: what it was made with, what was done to it since, which of its calls fail, and what a crash
-- makes of it.
use Rattle.std.specs.Prelude.{◌≡◌, ℕ, ◌+◌, ◌-◌, ◌^◌, ◌≤◌, ◌==◌, ◌||◌, ◌&&◌, not, nat_le, nat_lt, min, Bool, false, if◌then◌else◌, List, [], ◌∷◌, ◌++◌, length, take, fold, sum_by, replicate, All, Option, None, Some}
use Rattle.std.specs.List.{list_any}
use Rattle.vv_disk.specs.declared.span.Span.{Span}
use Rattle.vv_disk.specs.declared.mem_disk.Keep.{Keep}
use Rattle.vv_disk.specs.declared.mem_disk.Keep.TheVariants.{Old, New, Torn}
use Rattle.vv_disk.specs.Images.{overwritten, DiffersWithin}

-- a write of these bytes at a place, or a sync, that succeeded
pub data Done : Type 0 where
  Wrote : ℕ → List ℕ → Done
  Synced : Done

-- what a disk in memory is seen as
pub record MemState : Type 0 where
  -- the bytes that it was made with
  pub first : List ℕ
  -- what was done since, in order
  pub done : List Done
  -- the room of its record, of which each write and sync takes 64 and a write also one for each byte
  pub room : ℕ
  -- the numbers of the calls that fail, and the first of those that fail from there on
  pub fail : List ℕ
  pub fuse : Option ℕ
  -- how many calls there were, and how many of the reads and of the others failed
  pub calls : ℕ
  pub read_faults : ℕ
  pub write_faults : ℕ

-- the bytes as the last sync left them, what a read gives, and the ranges written since that sync, in order
pub record DiskState : Type 0 where
  pub synced : List ℕ
  pub content : List ℕ
  pub pending : List Span

abbrev pub step : DiskState → Done → DiskState
step state (Wrote at bytes) = record {
  synced = state.synced;
  content = overwritten state.content at bytes;
  pending = state.pending ++ record { at = at; len = length bytes } ∷ [];
}
step state Synced = record { synced = state.content; content = state.content; pending = [] }

-- a disk of these bytes, all of them on the disk for sure, after what was done to it
abbrev pub after : List ℕ → List Done → DiskState
after first done = fold step (record { synced = first; content = first; pending = [] }) done

-- any bytes in each of these ranges, and the rest as it was
abbrev pub IsTorn : List ℕ → List Span → List ℕ → Type 0
IsTorn old [] image = image ≡ old
IsTorn old (span ∷ spans) image = (torn : List ℕ) × DiffersWithin span.at span.len old torn × IsTorn torn spans image

-- what a crash may leave: the bytes of the last sync, but any bytes in the ranges written since
abbrev pub IsLeft : DiskState → List ℕ → Type 0
IsLeft state image = IsTorn state.synced state.pending image

-- what a crash at a moment from t on might have left, where each write and sync is a moment
abbrev pub LeftSince : List ℕ → List Done → ℕ → List ℕ → Type 0
LeftSince first done t image = (k : ℕ) × (t ≤ k) × (k ≤ length done) × IsLeft (after first (take k done)) image

-- these ranges with one byte all over them
abbrev pub filled : ℕ → List ℕ → List Span → List ℕ
filled byte old spans = fold (λ disk span. overwritten disk span.at (replicate span.len byte)) old spans

-- what a crash leaves: the ranges that are pending as before, as written, or all of one byte
abbrev pub kept : Keep → DiskState → List ℕ
kept Old state = state.synced
kept New state = state.content
kept (Torn byte) state = filled byte state.synced state.pending

-- the state of a disk now
abbrev pub state_now : MemState → DiskState
state_now disk = after disk.first disk.done

-- a disk of these bytes to which nothing was done yet
abbrev pub made : List ℕ → List ℕ → Option ℕ → ℕ → MemState
made first fail fuse room = record {
  first = first;
  done = [];
  room = room;
  fail = fail;
  fuse = fuse;
  calls = 0;
  read_faults = 0;
  write_faults = 0;
}

-- one more, to the end of 64 bits
abbrev pub raised : ℕ → ℕ
raised count = min (count + 1) (2 ^ 64 - 1)

abbrev pub is_past : Option ℕ → ℕ → Bool
is_past None call = false
is_past (Some fuse) call = nat_le fuse call

-- the call of this number is listed, or at or past the fuse
abbrev pub is_planned : List ℕ → Option ℕ → ℕ → Bool
is_planned fail fuse call = list_any (λ k. k == call) fail || is_past fuse call

-- what a write or a sync takes of the record's room
abbrev pub cost_of : Done → ℕ
cost_of (Wrote at bytes) = 64 + length bytes
cost_of Synced = 64

-- the record has room for one more
abbrev pub has_room : List Done → ℕ → Done → Bool
has_room done room next = nat_le (sum_by cost_of done + cost_of next) room

-- the next call fails, whichever it is
abbrev pub fails_now : MemState → Bool
fails_now disk = is_planned disk.fail disk.fuse disk.calls

-- the next call fails, if it is this write or sync
abbrev pub fails_at : MemState → Done → Bool
fails_at disk next = fails_now disk || not (has_room disk.done disk.room next)

-- the disk after a read
abbrev pub after_read : MemState → MemState
after_read disk =
    if fails_now disk
    then record disk { calls = raised disk.calls; read_faults = raised disk.read_faults }
    else record disk { calls = raised disk.calls }

-- the disk after a write or a sync
abbrev pub after_call : MemState → Done → MemState
after_call disk next =
    if fails_at disk next
    then record disk { calls = raised disk.calls; write_faults = raised disk.write_faults }
    else record disk { calls = raised disk.calls; done = disk.done ++ next ∷ [] }

-- a write that stays inside a disk of this size
abbrev pub Fits : ℕ → Done → Type 0
Fits size (Wrote at bytes) = at + length bytes ≤ size
Fits size Synced = Unit {0}

-- a range that stays inside a disk of this size
abbrev pub FitsSpan : ℕ → Span → Type 0
FitsSpan size span = span.at + span.len ≤ size

-- How what a disk in memory keeps hangs together: the bytes that it had at first, its content, the ranges that are
-- pending, how much was done up to the last sync, and all that was done.
pub record IsKept (first content : List ℕ) (pending : List Span) (synced : ℕ) (done : List Done) : Type 0 where
  pub size : length content ≡ length first
  pub now : content ≡ (after first done).content
  pub ranges : pending ≡ (after first done).pending
  pub base : (after first (take synced done)).content ≡ (after first done).synced
  pub within : synced ≤ length done
  pub fits : All (Fits (length first)) done
  pub fits_ranges : All (FitsSpan (length first)) pending
  pub few : length pending ≤ length done

-- the range of a disk that a byte stands in is pending
abbrev pub is_within : ℕ → Span → Bool
is_within k span = nat_le span.at k && nat_lt k (span.at + span.len)

abbrev pub is_pending : DiskState → ℕ → Bool
is_pending state k = list_any (is_within k) state.pending
