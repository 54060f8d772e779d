use Rattle.std.proofs.Common.{◌≡◌, ◌<◌, List, length, true, sym, subst}
use Rattle.vv_container.specs.Table.{ChargedContainer, is_above_all}
use Rattle.vv_container.proofs.RowLemmas.{kept-push}
use Rattle.vv_container.proofs.table.ContainerTable.add.Goals as goal

pub invariant_of-self : goal.invariant_of-self
invariant_of-self c =
    let room = subst (λ (rows : List ChargedContainer). length rows < 32) (sym c.self.view_is) c.requires.room in
    let above = subst (λ (rows : List ChargedContainer). is_above_all c.args.id.0 rows ≡ true) (sym c.self.view_is) c.requires.above in
    kept-push _ _ _ _ c.of.result c.self.invariant room
    (subst (λ (r : ChargedContainer). is_above_all r.container.number c.self.inside.rows.items ≡ true) (sym c.of.ensures.row) above) c.of.ensures.forms
    c.push.ensures.items c.push.ensures.capacity
