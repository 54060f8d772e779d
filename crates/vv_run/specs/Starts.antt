-- Where the serving of a script begins: the state from which its lines are answered, and what is written ahead of them.
use Rattle.std.specs.Prelude.{◌≡◌, ◌≤◌, ℕ, List, [], Option, Some, None}
use Rattle.vv_data.specs.Layout.{disk_len}
use Rattle.vv_flat.specs.State.{Array, empty_array}
use Rattle.vv_flat.specs.Chunks.{ChunkValue}
use Rattle.vv_disk.specs.Images.{EachImage, LeavesOnly}
use Rattle.vv_journal.specs.Log.{Log, Holds}
use Rattle.vv_image.specs.Standing.{Stands}
use Rattle.vv_reply.specs.Replies.{recovered_text}
use Rattle.vv_meaning.specs.Steps.{State, Up, least_number}
use Rattle.vv_array.specs.Moments.{StandsForOne}
use Rattle.vv_run.specs.declared.words.Command.{Command}
use Rattle.vv_run.specs.declared.words.Command.TheVariants.{New, Run}

-- The content of a disk is the one image that a crash would leave, is well kept, and stands for the array of this state. The
-- program leaves such a disk, once nothing is pending on it.
pub record IsKept (told : Option (List ℕ)) (images : List ℕ → Type 0) (start : State) : Type 0 where
  pub content : List ℕ
  pub told_is : told ≡ Some content
  pub only : EachImage (λ image. image ≡ content) images
  pub log : Log
  pub holds : Holds log content
  pub array : Array ChunkValue
  pub stands : Stands content array
  pub start_is : start ≡ Up array

-- The state from which the lines are answered, where a command finds a disk so: the empty array, on a disk of the length that
-- it needs, or the array for which the image stands.
abbrev pub IsStart : Option Command → ℕ → Option (List ℕ) → (List ℕ → Type 0) → State → Type 0
IsStart None size told images start = ⊥
IsStart (Some (New geometry)) size told images start = (size ≡ disk_len geometry) × (start ≡ Up (empty_array geometry))
IsStart (Some Run) size told images start = IsKept told images start

-- what is written ahead of the lines: the log number that was recovered, where an image was opened
abbrev pub head_of : Option Command → State → List ℕ
head_of None start = []
head_of (Some (New geometry)) start = []
head_of (Some Run) start = recovered_text (least_number start)

-- A crash since the serving began leaves images of a kind alone. It began on a disk of which each image stood for the start:
-- on the one that was there at first, where an image was opened.
pub record LeavesSince {D : Type 0} (moment : D → ℕ) (left_since : D → ℕ → List ℕ → Type 0) (is_image : D → List ℕ → Type 0)
    (command : Option Command) (start : State) (old new : D) (P : List ℕ → Type 0) : Type 0 where
  pub begun : D
  pub not_before : moment old ≤ moment begun
  pub stood : EachImage (StandsForOne start) (is_image begun)
  pub leaves : LeavesOnly moment left_since begun new P
  pub from_entry : command ≡ Some Run → begun ≡ old
