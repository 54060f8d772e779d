use Rattle.std.proofs.Common.{◌≡◌, ◌∙◌, sym, ap, Some, List}
use Rattle.vv_container.specs.Table.{ChargedContainer, row_of}
use Rattle.vv_container.proofs.RowLemmas.{container_is}
use Rattle.vv_container.proofs.table.ContainerTable.get.Goals as goal

pub returns-in-Some : goal.returns-in-Some
returns-in-Some c =
    let found : row_of c.args.self.now c.args.id.0 ≡ Some c.in-Some.row.now =
    ap (λ (rows : List ChargedContainer). row_of rows c.args.id.0) (sym (c.deref.ensures.value ∙ c.self.view_is)) ∙ sym c.in-Some.ensures in
    container_is c.args.self.now c.args.id.0 c.in-Some.row.now c.container.result.now found c.container.ensures
