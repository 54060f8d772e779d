-- How the durable array is seen: up, with its journal and its core, or down, with the sizes of its image.
use Rattle.std.specs.Prelude.{◌≡◌, ⊤}
use Rattle.vv_units.specs.declared.geometry.Geometry.{Geometry}
use Rattle.vv_journal.specs.Calls.{JournalState}
use Rattle.vv_core.specs.Core.{CoreState}

pub data ArrayView : Type 0 where
  IsUp : (journal : JournalState) (core : CoreState) → ArrayView
  IsDown : (geometry : Geometry) → ArrayView

-- the sizes of its image
abbrev pub geometry_of : ArrayView → Geometry
geometry_of (IsUp journal core) = journal.geometry
geometry_of (IsDown geometry) = geometry

-- The journal and the tables of an array that is up are of one size.
abbrev pub HasOneSize : ArrayView → Type 0
HasOneSize (IsUp journal core) = journal.geometry ≡ core.array.durable.geometry
HasOneSize (IsDown geometry) = ⊤
