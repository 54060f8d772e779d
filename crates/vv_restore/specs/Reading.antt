-- How far an area that comes in pieces was read, and what is told of it in the end.
use Rattle.std.specs.Prelude.{ℕ, ◌≡◌, List, ◌++◌, Result, Ok, Err}
use Rattle.vv_units.specs.declared.geometry.Geometry.{Geometry}
use Rattle.vv_fields.specs.Fields.{AreBytes}
use Rattle.vv_flat.specs.State.{Durable}
use Rattle.vv_flat.specs.Chunks.{Entry}
use Rattle.vv_area.specs.Area.{tables_in, IsFaultOf}
use Rattle.vv_area.specs.declared.fault.AreaFault.{AreaFault}
use Rattle.vv_area_reader.specs.Told.{AreaReading, told}
use Rattle.vv_tables.specs.Seen.{TablesView}
use Rattle.vv_restore.specs.Restoring.{TellsTables}

-- A reader to which these bytes of an area were fed: whatever still comes, it tells what the whole area spells.
pub record IsReading (reader : AreaReading) (geometry : Geometry) (spelling : ℕ) (area : List ℕ) : Type 0 where
  pub are_bytes : AreBytes area
  pub tells : (coming : List ℕ) → told reader coming ≡ tables_in geometry spelling (area ++ coming)

-- A call returned the tables in memory that an area stands for, or the first rule that its tables break, or the place at
-- which it spells none, unless there was no memory.
abbrev pub TellsArea : Result TablesView AreaFault → Result (Durable Entry) ℕ → Type 0
TellsArea result (Ok d) = TellsTables result d
TellsArea (Ok tables) (Err at) = ⊥
TellsArea (Err fault) (Err at) = IsFaultOf fault (Err at)
