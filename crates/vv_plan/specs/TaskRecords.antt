-- The record of a task after its next turn: one that doesn't run stays as it is.
use Rattle.std.specs.Prelude.{if◌then◌else◌}
use Rattle.vv_flat.specs.State.{Task}
use Rattle.vv_flat.specs.Space.{is_running}
use Rattle.vv_flat.specs.Tasks.{next_piece, advanced}

abbrev pub record_turned : Task → Task
record_turned t = if is_running t then advanced t (next_piece t) else t
