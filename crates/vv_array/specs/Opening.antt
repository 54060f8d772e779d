-- What opening an array says of the image that is read.
use Rattle.std.specs.Prelude.{◌≡◌, ℕ, List, Option, Some, Ok, Err, ⊤}
use Rattle.vv_units.specs.Causes.{Rose}
use Rattle.vv_units.specs.declared.damage.DiskFault.TheVariants.{Read, Write}
use Rattle.vv_flat.specs.State.{empty_volatile}
use Rattle.vv_journal.specs.Log.{Log, log_of}
use Rattle.vv_journal.specs.declared.opening.OpenFault.TheVariants as journal
use Rattle.vv_journal.specs.Calls.{JournalState, journal_of}
use Rattle.vv_image.specs.Opening.{opened}
use Rattle.vv_core.specs.Core.{CoreState}
use Rattle.vv_array.specs.Seen.{ArrayView, IsUp, IsDown}
use Rattle.vv_array.specs.Standing.{UpOn, flat_over}
use Rattle.vv_array.specs.declared.fault.ArrayFault.{ArrayFault}
use Rattle.vv_array.specs.declared.fault.ArrayFault.TheVariants.{NotFormatted, Damaged, Disk, NoMemory}

-- The array that was opened has the tables of the image; its journal continues the log that the image holds.
pub record IsOpened (journal : JournalState) (core : CoreState) (image : List ℕ) : Type 0 where
  pub tables : opened image ≡ Ok core.array.durable
  pub waiting : core.array.volatile ≡ empty_volatile
  pub sizes : journal.geometry ≡ core.array.durable.geometry
  pub continues : (log : Log) → log_of image ≡ Some log → journal ≡ journal_of log

-- The fault is the first thing that is wrong with the image, unless the disk failed or there was no memory.
abbrev pub IsFoundFault : ArrayFault → List ℕ → Type 0
IsFoundFault (NotFormatted found) image = opened image ≡ Err (journal.NotFormatted found)
IsFoundFault (Damaged damage) image = opened image ≡ Err (journal.Damaged damage)
IsFoundFault (Disk fault) image = ⊤
IsFoundFault NoMemory image = ⊤

-- The array that was opened is up, with the tables of the image, and the number that is told with it is its log number.
abbrev pub OpensAs : ArrayView → ℕ → List ℕ → Type 0
OpensAs (IsUp journal core) n image = IsOpened journal core image × (n ≡ core.array.durable.lsn)
OpensAs (IsDown geometry) n image = ⊥

-- An array that was opened over a content stands for the flat array of its tables with the bytes of that content.
abbrev pub StandsOpened : ArrayView → List ℕ → Option (List ℕ) → (List ℕ → Type 0) → Type 0
StandsOpened (IsUp journal core) c told images = UpOn journal core.array told images (flat_over c core.array)
StandsOpened (IsDown geometry) c told images = ⊥

-- A fault of the disk shows in its count of reads that failed, or of writes and syncs.
abbrev pub HasArrayCause : ℕ → ℕ → ℕ → ℕ → ArrayFault → Type 0
HasArrayCause reads_before reads_now writes_before writes_now (NotFormatted found) = ⊤
HasArrayCause reads_before reads_now writes_before writes_now (Damaged damage) = ⊤
HasArrayCause reads_before reads_now writes_before writes_now (Disk Read) = Rose reads_before reads_now
HasArrayCause reads_before reads_now writes_before writes_now (Disk Write) = Rose writes_before writes_now
HasArrayCause reads_before reads_now writes_before writes_now NoMemory = ⊤
