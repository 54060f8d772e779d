-- When a durable array stands on a disk for a state: what its memory, the bytes that are read, and each image that a crash
-- may leave have to do with the flat arrays of the state.
use Rattle.std.specs.Prelude.{◌≡◌, ℕ, List, Option, Some, Ok, IsTrue, ◌⊎◌}
use Rattle.vv_units.specs.declared.geometry.Geometry.{Geometry}
use Rattle.vv_flat.specs.State.{Durable, Array, all_pieces}
use Rattle.vv_flat.specs.Chunks.{Entry, ChunkValue, filled_tables}
use Rattle.vv_flat.specs.NamedPlaces.{is_named}
use Rattle.vv_flat.specs.Restart.{restarted}
use Rattle.vv_disk.specs.Images.{EachImage}
use Rattle.vv_journal.specs.Log.{Log, Holds}
use Rattle.vv_journal.specs.Calls.{JournalState, journal_of}
use Rattle.vv_image.specs.Opening.{log_tables}
use Rattle.vv_image.specs.Standing.{bytes_at_place, Stands}
use Rattle.vv_meaning.specs.Steps.{State, Up, Down}
use Rattle.vv_core.specs.Core.{CoreState}
use Rattle.vv_array.specs.Seen.{ArrayView, IsUp, IsDown}

-- the flat array of tables in memory, with the bytes of an image
abbrev pub flat_over : List ℕ → Array Entry → Array ChunkValue
flat_over image a = record {
  durable = filled_tables (bytes_at_place a.durable.geometry image) a.durable;
  volatile = a.volatile;
}

-- an image has at each place that tables name the bytes of this content
abbrev pub HasNamed : Durable Entry → List ℕ → List ℕ → Type 0
HasNamed d content image =
    (place : ℕ) → IsTrue (is_named (all_pieces d) place) → bytes_at_place d.geometry image place ≡ bytes_at_place d.geometry content place

-- An image is well kept, and stands for this array after a restart.
pub record StandsKept (m : Array ChunkValue) (image : List ℕ) : Type 0 where
  pub log : Log
  pub holds : Holds log image
  pub stands : Stands image (restarted m)

-- An array that is up, with this journal and these tables in memory, stands for a flat array: every image holds the log that
-- the journal continues; the log's tables are those in memory; the flat array is that of the tables with the bytes that are
-- read, and every image has these bytes at each place that the tables name.
pub record UpOn (journal : JournalState) (a : Array Entry) (told : Option (List ℕ)) (images : List ℕ → Type 0) (m : Array ChunkValue) : Type 0 where
  pub log : Log
  pub continues : journal ≡ journal_of log
  pub holds : EachImage (Holds log) images
  pub tables : log_tables log ≡ Ok a.durable
  pub content : List ℕ
  pub told_is : told ≡ Some content
  pub named : EachImage (HasNamed a.durable content) images
  pub array_is : flat_over content a ≡ m

-- One that is down stands for two: every image is well kept and stands for one of them.
abbrev pub DownOn : (List ℕ → Type 0) → Array ChunkValue → Array ChunkValue → Type 0
DownOn images before after = EachImage (λ image. StandsKept before image ⊎ StandsKept after image) images

abbrev pub StandsFor : ArrayView → Option (List ℕ) → (List ℕ → Type 0) → State → Type 0
StandsFor (IsUp journal core) told images (Up m) = UpOn journal core.array told images m
StandsFor (IsDown geometry) told images (Down before after) = DownOn images before after
StandsFor (IsUp journal core) told images (Down before after) = ⊥
StandsFor (IsDown geometry) told images (Up m) = ⊥
