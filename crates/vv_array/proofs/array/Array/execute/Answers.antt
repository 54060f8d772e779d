use Rattle.std.proofs.Common.{sym, ◌∙◌}
use Rattle.vv_profile.specs.Known.{all_known}
use Rattle.vv_array.proofs.Reopenings.{called_step}
use Rattle.vv_array.proofs.array.Array.execute.Goals as goal

pub returns-else-opens_first-clause-step : goal.returns-else-opens_first-clause-step
returns-else-opens_first-clause-step g c = λ honest before stands.
    let old = c.args.disk.now in
    let new = c.serve_up.new.disk in
    called_step g.D.Disk.moment g.D.Disk.left_since old new (all_known c.args.capabilities.now) c.args.call.now c.serve_up.result c.serve_up.new.self
    (g.D.Disk.content old) (g.D.Disk.content new) (g.D.Disk.is_image old) (g.D.Disk.is_image new)
    c.args.self.now before (sym c.opens_first.ensures.reopening ∙ c.if-opens_first.false) stands (c.serve_up.ensures.step honest)
