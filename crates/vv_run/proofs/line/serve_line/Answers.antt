use Rattle.vv_profile.specs.Known.{all_known}
use Rattle.vv_run.proofs.LineLemmas.{fault_step, fault_told}
use Rattle.vv_run.proofs.line.serve_line.Goals as goal

pub returns-in-Ok-clause-step : goal.returns-in-Ok-clause-step
returns-in-Ok-clause-step g c = λ honest before stands.
    let step = c.execute.ensures.step honest before stands in
    (step.0, step.1, step.2 c.args.line.now c.in-Ok.ensures.reading, step.3)

pub returns-in-Err-clause-step : goal.returns-in-Err-clause-step
returns-in-Err-clause-step g c = λ honest before stands.
    let disk = g.D.Disk in
    fault_step disk.moment disk.left_since disk.is_image (λ d image left. g.met.D.Disk.only_now d image left) (all_known c.args.capabilities.now) c.args.array.now (disk.content c.args.disk.now)
    c.args.disk.now before c.args.line.now c.in-Err.fault c.reply_to_fault.result c.in-Err.ensures.reading c.reply_to_fault.ensures.reply stands

pub returns-in-Err-clause-no_call : goal.returns-in-Err-clause-no_call
returns-in-Err-clause-no_call g c = λ cause is.
    fault_told c.args.line.now cause c.in-Err.fault c.reply_to_fault.result c.in-Err.ensures.reading is c.reply_to_fault.ensures.reply
