use Rattle.std.proofs.Common.{◌≡◌, drop}
use Rattle.vv_area.specs.Forms.{runs, no_runs}
use Rattle.vv_area.specs.Runs.{runs_of}
use Rattle.vv_area.proofs.runs.runs.Given as goal

abbrev pub invariant-loop-task : goal.invariant-loop-task
invariant-loop-task l = runs l.spelling (drop l.task-index l.tasks) (runs_of l.runs) l.fields ≡ runs l.spelling l.fn.tasks no_runs l.fn.fields
