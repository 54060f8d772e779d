-- A switch: new tables are written to the half that isn't selected, and then that half is selected.
use Rattle.std.specs.Prelude.{◌≡◌, ℕ, ◌+◌, ◌-◌, List, [], length}
use Rattle.vv_units.specs.declared.geometry.Geometry.{Geometry}
use Rattle.vv_journal.specs.Half.{second_spelling, length_field, tables_at}
use Rattle.vv_journal.specs.Log.{Log}

-- A switch that was begun: the sizes of the image, the half that will be selected, how many bytes of its tables were
-- written, and how many there will be.
pub record SwitchingState : Type 0 where
  pub geometry : Geometry
  pub half : ℕ
  pub done : ℕ
  pub len : ℕ

-- the other half
abbrev pub other_half : ℕ → ℕ
other_half half = 1 - half

-- It is a switch from the half of this log to the other one.
abbrev pub IsSwitchFrom : Log → SwitchingState → Type 0
IsSwitchFrom log switching = switching ≡ record { geometry = log.geometry; half = other_half log.half; done = switching.done; len = switching.len }

-- the half to be selected has its length field, and these bytes of its tables
pub record HasTables (switching : SwitchingState) (tables : List ℕ) (image : List ℕ) : Type 0 where
  pub count : length tables ≡ switching.done
  pub field : length_field switching.geometry switching.half image ≡ second_spelling + switching.len
  pub bytes : tables_at switching.geometry switching.half switching.done image ≡ tables

-- the log after a switch to these tables
abbrev pub switched_log : Log → List ℕ → Log
switched_log log tables = record {
  geometry = log.geometry;
  version = log.version;
  half = other_half log.half;
  spelling = 2;
  area = tables;
  records = [];
}
