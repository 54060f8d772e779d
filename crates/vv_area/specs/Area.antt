-- What raw tables stand for, and which tables bytes are read as.
use Rattle.std.specs.Prelude.{◌≡◌, ℕ, List, Result, Ok, Err, ⊤}
use Rattle.vv_units.specs.declared.geometry.Geometry.{Geometry}
use Rattle.vv_flat.specs.State.{Durable}
use Rattle.vv_flat.specs.Chunks.{Entry}
use Rattle.vv_record.specs.Records.{ended}
use Rattle.vv_area.specs.Forms.{tables}
use Rattle.vv_area.specs.declared.tables.RawTables.{RawTables}
use Rattle.vv_area.specs.declared.fault.AreaFault.{AreaFault}
use Rattle.vv_area.specs.declared.fault.AreaFault.TheVariants as fault

-- the durable part whose tables they are, table by table
abbrev pub tables_of : RawTables → Durable Entry
tables_of raw = record {
  geometry = raw.geometry;
  lsn = raw.lsn;
  containers = raw.containers;
  volumes = raw.volumes;
  contexts = raw.contexts;
  bindings = raw.bindings;
  tasks = raw.tasks;
  clones = raw.clones;
  copies = raw.copies;
}

-- the tables that bytes spell, with nothing after them, or the place of the fault
unfoldable pub tables_in : Geometry → ℕ → List ℕ → Result (Durable Entry) ℕ
tables_in geometry spelling area = ended (tables geometry spelling (record { bytes = area; at = 0 }))

-- A call returned the tables that the bytes spell, or the place of their fault, unless there was no memory. A rule is
-- never told.

abbrev pub IsFaultOf : AreaFault → Result (Durable Entry) ℕ → Type 0
IsFaultOf (fault.Bad at) spelled = spelled ≡ Err at
IsFaultOf (fault.Rule rule found) spelled = ⊥
IsFaultOf fault.NoMemory spelled = ⊤

abbrev pub Tells : Result RawTables AreaFault → Result (Durable Entry) ℕ → Type 0
Tells (Ok raw) spelled = spelled ≡ Ok (tables_of raw)
Tells (Err e) spelled = IsFaultOf e spelled
