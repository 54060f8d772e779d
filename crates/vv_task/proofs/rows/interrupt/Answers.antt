use Rattle.std.proofs.Common.{◌∙◌, sym, ap, set}
use Rattle.vv_flat.specs.Restart.{interrupted_task}
use Rattle.std.proofs.lemmas.List.Edits.{map_over_more}
use Rattle.vv_task.proofs.rows.interrupt.Goals as goal

pub loop-row-preserved : goal.loop-row-preserved
loop-row-preserved c =
    ap (λ t. set c.loop-row.row-items c.loop-row.row-index t) (c.interrupt.ensures ∙ ap interrupted_task (sym c.row-item.is))
    ∙ map_over_more interrupted_task c.deref_mut-row-items.result.now c.loop-row.row-items c.loop-row.row-index c.row-item.result
    c.loop-row-test.true c.loop-row.invariant c.row-item.is
