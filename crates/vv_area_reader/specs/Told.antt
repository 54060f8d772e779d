-- What a reader of an area tells in the end, by what it has read and what still comes.
use Rattle.std.specs.Prelude.{◌≡◌, ℕ, ◌+◌, List, [], ◌++◌, Result, Ok, Err}
use Rattle.vv_units.specs.declared.geometry.Geometry.{Geometry}
use Rattle.vv_record.specs.Records.{ended}
use Rattle.vv_flat.specs.State.{Durable}
use Rattle.vv_flat.specs.Chunks.{Entry}
use Rattle.vv_area.specs.Area.{IsFaultOf}
use Rattle.vv_area.specs.declared.fault.AreaFault.{AreaFault}
use Rattle.vv_area_reader.specs.Progress.{Progress, come_to}
use Rattle.vv_area_reader.specs.Rest.{rest_of}
use Rattle.vv_area_reader.specs.declared.stage.Stage.TheVariants as stage

-- A reader of an area: the spelling, how far the reading has come, how many bytes were read, and those that were fed
-- and not yet read.
pub record AreaReading : Type 0 where
  pub spelling : ℕ
  pub progress : Progress
  pub passed : ℕ
  pub waiting : List ℕ

-- the place of a fault in all the bytes, for its place behind so many of them
abbrev pub moved_by : {A : Type 0} → ℕ → Result A ℕ → Result A ℕ
moved_by n (Ok value) = Ok value
moved_by n (Err at) = Err (n + at)

-- the tables that the reader tells in the end, or the place of the fault, if these are the bytes that still come
unfoldable pub told : AreaReading → List ℕ → Result (Durable Entry) ℕ
told r coming = moved_by r.passed (ended (rest_of r.spelling r.progress (record { bytes = r.waiting ++ coming; at = 0 })))

-- tables of which nothing was read
abbrev pub no_tables : Geometry → Durable Entry
no_tables geometry = record {
  geometry = geometry;
  lsn = 0;
  containers = [];
  volumes = [];
  contexts = [];
  bindings = [];
  tasks = [];
  clones = [];
  copies = [];
}

-- a reader to which nothing was fed
abbrev pub new_reading : Geometry → ℕ → AreaReading
new_reading geometry spelling = record {
  spelling = spelling;
  progress = come_to (no_tables geometry) stage.Start;
  passed = 0;
  waiting = [];
}

-- A call told the fault that comes in the end, or leaves what is told in the end.
abbrev pub GoesOn : {T : Type 0} → Result T AreaFault → Result (Durable Entry) ℕ → Result (Durable Entry) ℕ → Type 0
GoesOn (Ok value) before after = before ≡ after
GoesOn (Err fault) before after = IsFaultOf fault before
