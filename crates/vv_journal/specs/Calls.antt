-- What the calls of the journal speak of: how a journal is seen, and what a crash during a call may leave.
use Rattle.std.specs.Prelude.{◌≡◌, ◌≢◌, ◌⊎◌, ℕ, ◌+◌, ◌≤◌, List, length, slice_index, Option, Some}
use Rattle.vv_units.specs.declared.geometry.Geometry.{Geometry}
use Rattle.vv_disk.specs.Images.{DiffersWithin}
use Rattle.vv_data.specs.Layout.{chunks_at, half_at}
use Rattle.vv_journal.specs.Log.{Log, Holds, with_record, fresh_log}

-- A journal: the sizes of its image, the half that it writes to, and how many records stand there as far as it knows.
pub record JournalState : Type 0 where
  pub geometry : Geometry
  pub half : ℕ
  pub records : ℕ

-- the journal that continues a log
abbrev pub journal_of : Log → JournalState
journal_of log = record { geometry = log.geometry; half = log.half; records = length log.records }

-- an image from before, which may have changed in the n bytes from a place on
abbrev pub ChangedWithin : ℕ → ℕ → (List ℕ → Type 0) → List ℕ → Type 0
ChangedWithin at n images image = (earlier : List ℕ) × images earlier × DiffersWithin at n earlier image

-- n bytes from a place on lie inside m bytes from another one on
pub record LiesIn (at n low m : ℕ) : Type 0 where
  pub from : low ≤ at
  pub to : at + n ≤ low + m

-- an image from before, but for what stands in front of the chunk area
abbrev pub HasChunksOf : Geometry → (List ℕ → Type 0) → List ℕ → Type 0
HasChunksOf geometry images image = ChangedWithin 0 (chunks_at geometry) images image

-- the image holds this log over chunks from before
abbrev pub HoldsOver : Log → (List ℕ → Type 0) → List ℕ → Type 0
HoldsOver log images image = Holds log image × HasChunksOf log.geometry images image

-- What a crash during an append may leave: the log from before it over chunks from before, or the log with the record
-- over the very chunks that were read then. So what was written to chunks before the call is on the disk with the record.
abbrev pub HoldsAppended : Log → List ℕ → Option (List ℕ) → (List ℕ → Type 0) → List ℕ → Type 0
HoldsAppended log payload told images image =
    HoldsOver log images image ⊎ HoldsOver (with_record log payload) (λ content. told ≡ Some content) image

-- the image holds the one log or the other, over chunks from before
abbrev pub HoldsEither : Log → Log → (List ℕ → Type 0) → List ℕ → Type 0
HoldsEither before after images image = (Holds before image ⊎ Holds after image) × HasChunksOf before.geometry images image

-- What a crash while an image is formatted may leave: an image from before but for the format's byte, or one that isn't
-- formatted, or one that holds the fresh log. The second half and the chunks are from before.
abbrev pub IsBeingMade : Geometry → List ℕ → (List ℕ → Type 0) → List ℕ → Type 0
IsBeingMade geometry tables images image =
    (ChangedWithin 0 1 images image ⊎ ((slice_index image 0 ≢ 0xA5) ⊎ Holds (fresh_log geometry tables) image))
    × ChangedWithin 0 (half_at geometry 1) images image
