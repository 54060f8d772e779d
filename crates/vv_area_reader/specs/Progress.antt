-- How far the reading of an area has come: the tables as far as they were read, and what comes next.
use Rattle.vv_flat.specs.State.{Durable}
use Rattle.vv_flat.specs.Chunks.{Entry}
use Rattle.vv_area_reader.specs.declared.stage.Stage.{Stage}

pub record Progress : Type 0 where
  pub begun : Durable Entry
  pub stage : Stage

-- so far, and this comes next
abbrev pub come_to : Durable Entry → Stage → Progress
come_to begun stage = record { begun = begun; stage = stage }
