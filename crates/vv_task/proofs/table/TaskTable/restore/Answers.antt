use Rattle.std.proofs.Common.{◌≡◌, ◌<◌, List, length, true, sym, subst}
use Rattle.std.specs.Prelude.{count_by}
use Rattle.vv_units.specs.declared.volume.TaskState.TheVariants.{Running}
use Rattle.vv_flat.specs.State.{Task}
use Rattle.vv_flat.specs.Space.{is_running}
use Rattle.vv_task.specs.Table.{is_above_all}
use Rattle.vv_task.proofs.RowLemmas.{kept-restored}
use Rattle.vv_task.proofs.table.TaskTable.restore.Goals as goal

pub invariant_of-self : goal.invariant_of-self
invariant_of-self c =
    let rows = c.self.inside.rows.items in
    let few = subst (λ (xs : List Task). length xs < 256) (sym c.self.view_is) c.requires.room in
    let above = subst (λ (xs : List Task). is_above_all c.args.task.id.0 xs ≡ true) (sym c.self.view_is) c.requires.above in
    let may = subst (λ (xs : List Task). c.args.task.state ≡ Running → count_by is_running xs < 16) (sym c.self.view_is) c.requires.may_run in
    kept-restored _ _ _ _ c.of.result c.self.invariant few
    (subst (λ (t : Task). is_above_all t.number rows ≡ true) (sym c.of.ensures) above)
    (subst (λ (t : Task). t.state ≡ Running → count_by is_running rows < 16) (sym c.of.ensures) may)
    c.push.ensures.items c.push.ensures.capacity
