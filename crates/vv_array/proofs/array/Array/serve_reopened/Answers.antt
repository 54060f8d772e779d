use Rattle.std.proofs.Common.{refl, sym, ◌∙◌}
use Rattle.vv_meaning.specs.Steps.{Up, Restarted, Called}
use Rattle.vv_array.proofs.StateImages.{left_alone}
use Rattle.vv_array.proofs.array.Array.serve_reopened.Goals as goal

pub returns-then-asks_restart-clause-step : goal.returns-then-asks_restart-clause-step
returns-then-asks_restart-clause-step g c = λ honest m stands. (
  Up m,
  stands,
  Restarted (sym c.asks_restart.ensures ∙ c.if-asks_restart.true) refl refl,
  left_alone g.D.Disk.moment g.D.Disk.left_since g.D.Disk.is_image (λ disk image left. g.met.D.Disk.only_now disk image left) c.args.disk.now c.args.self.now
      (g.D.Disk.content c.args.disk.now) (Up m) (Up m) stands,
)

pub returns-else-asks_restart-clause-step : goal.returns-else-asks_restart-clause-step
returns-else-asks_restart-clause-step g c = λ honest m stands.
    let s = c.serve_up.ensures.step honest m stands in
    (s.0, s.1, Called (sym c.asks_restart.ensures ∙ c.if-asks_restart.false) s.2, s.3)
