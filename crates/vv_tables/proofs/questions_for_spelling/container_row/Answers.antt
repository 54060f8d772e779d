use Rattle.std.proofs.Common.{◌≡◌, ◌∙◌, Some, slice_get}
use Rattle.vv_container.specs.Table.{numbers}
use Rattle.vv_tables.proofs.RowPlaces.{container_placed}
use Rattle.vv_tables.proofs.questions_for_spelling.container_row.Goals as goal

pub returns : goal.returns
returns c =
    let at : Some c.in_ok-id.id.0 ≡ slice_get (numbers c.args.containers.now) c.args.i = c.in_ok-id.ensures.item in
    c.container_numbered.ensures ∙ container_placed c.args.containers.now c.args.i c.in_ok-id.id.0 c.in_ok-id.ensures.rising at
