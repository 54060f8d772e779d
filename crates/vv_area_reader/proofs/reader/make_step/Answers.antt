use Rattle.std.proofs.lemmas.Result.{err_from_is_err_and}
use Rattle.vv_area_reader.specs.Progress.{come_to}
use Rattle.vv_area_reader.proofs.Going.{step_passes, made_fails}
use Rattle.vv_area_reader.proofs.reader.make_step.Goals as goal

pub returns-in_err-stage : goal.returns-in_err-stage
returns-in_err-stage c = λ passed.
    let p = err_from_is_err_and c.from_residual.result c.from_residual.ensures.1 in
    rw (p.1, p.2) (made_fails (record { spelling = c.args.spelling; progress = come_to c.args.begun.now c.args.stage; passed = passed; waiting = c.args.waiting.now }) c.in_err-stage.field-0.0 (rw c.new-fields.ensures at c.in_err-stage.ensures))

pub returns : goal.returns
returns c = λ passed.
    let step = step_passes (record { spelling = c.args.spelling; progress = come_to c.args.begun.now c.args.stage; passed = passed; waiting = c.args.waiting.now }) (come_to c.step.new.begun c.in_ok-stage.stage) c.step.new.fields (rw c.new-fields.ensures at c.in_ok-stage.ensures) in
    rw c.at.ensures (step.inside, step.tells)
