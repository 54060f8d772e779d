use Rattle.std.proofs.lemmas.Result.{err_from_is_err_and}
use Rattle.vv_area.specs.Forms.{runs, no_runs}
use Rattle.vv_area.specs.Runs.{runs_of}
use Rattle.vv_area.proofs.RunSteps.{goes_on, fails, is_done}
use Rattle.vv_area.proofs.runs.runs.Goals as goal

pub returns-in_err-runs : goal.returns-in_err-runs
returns-in_err-runs c =
    let p = err_from_is_err_and c.from_residual.result c.from_residual.ensures.1 in
    rw (p.1, p.2) (fails c.args.spelling c.args.tasks.now c.loop-task.task-index c.task-item.result (runs_of c.loop-task.runs) c.loop-task.fields c.in_err-runs.field-0.0 (runs c.args.spelling c.args.tasks.now no_runs c.args.fields.now) c.loop-task-test.true c.task-item.is c.in_err-runs.ensures c.loop-task.invariant)

pub loop-task-preserved : goal.loop-task-preserved
loop-task-preserved c =
    goes_on c.args.spelling c.args.tasks.now c.loop-task.task-index c.task-item.result (runs_of c.loop-task.runs) (runs_of c.in_ok-runs.runs) c.loop-task.fields c.with_run.new.fields (runs c.args.spelling c.args.tasks.now no_runs c.args.fields.now) c.loop-task-test.true c.task-item.is c.in_ok-runs.ensures c.loop-task.invariant

pub returns : goal.returns
returns c = is_done c.args.spelling c.args.tasks.now c.loop-task.task-index (runs_of c.loop-task.runs) c.loop-task.fields (runs c.args.spelling c.args.tasks.now no_runs c.args.fields.now) c.loop-task-test.false c.loop-task.invariant
