-- A core as the area of an image, and a core that an area tells.
use Rattle.std.specs.Prelude.{◌≡◌, ℕ, List, Some, None, Result, Ok, Err, ⊤}
use Rattle.vv_units.specs.declared.geometry.Geometry.{Geometry}
use Rattle.vv_flat.specs.State.{Durable, empty_volatile}
use Rattle.vv_flat.specs.Chunks.{Entry}
use Rattle.vv_flat.specs.Rules.{first_fault}
use Rattle.vv_area.specs.declared.fault.AreaFault.{AreaFault}
use Rattle.vv_area.specs.declared.fault.AreaFault.TheVariants as fault
use Rattle.vv_area_reader.specs.Told.{AreaReading}
use Rattle.vv_restore.specs.Reading as restore
use Rattle.vv_core.specs.Core.{CoreState}

-- This area was fed to a reader so far.
abbrev pub IsReading : AreaReading → Geometry → ℕ → List ℕ → Type 0
IsReading reader geometry spelling area = restore.IsReading reader geometry spelling area

-- A core was made of tables that keep all rules, or the first rule that fails was told, or there was no memory.
abbrev pub TellsTables : Result CoreState AreaFault → Durable Entry → Type 0
TellsTables (Ok core) d = (first_fault d ≡ None) × (core.array ≡ record { durable = d; volatile = empty_volatile })
TellsTables (Err (fault.Bad at)) d = ⊥
TellsTables (Err (fault.Rule rule found)) d = first_fault d ≡ Some (record { rule = rule; found = found })
TellsTables (Err fault.NoMemory) d = ⊤

-- .. of the tables that an area spells, or the place of its fault was told
abbrev pub TellsCore : Result CoreState AreaFault → Result (Durable Entry) ℕ → Type 0
TellsCore result (Ok d) = TellsTables result d
TellsCore (Ok core) (Err at) = ⊥
TellsCore (Err (fault.Bad found)) (Err at) = found ≡ at
TellsCore (Err (fault.Rule rule found)) (Err at) = ⊥
TellsCore (Err fault.NoMemory) (Err at) = ⊤
