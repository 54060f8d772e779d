use Rattle.std.proofs.Common.{◌∙◌, None, Some, not}
use Rattle.vv_flat.specs.State.{Task}
use Rattle.vv_flat.specs.Space.{is_running}
use Rattle.vv_flat.proofs.Positions.{not_found, removed_step}
use Rattle.vv_flat.proofs.RisingRows.{removed-none}
use Rattle.vv_task.proofs.RowLemmas.{place_in}
use Rattle.vv_task.proofs.rows.drop_ended.Goals as goal

pub returns-in-Some-clause-items : goal.returns-in-Some-clause-items
returns-in-Some-clause-items c =
    let test = λ (t : Task). not (is_running t) in
    let rows = c.args.rows.now.items in
    c.remove.ensures.items
    ∙ removed_step test rows c.in-Some.at (place_in test rows c.deref.result.now (Some c.in-Some.at) c.deref.ensures.value c.in-Some.ensures)

pub returns-in-None-clause-items : goal.returns-in-None-clause-items
returns-in-None-clause-items c =
    let test = λ (t : Task). not (is_running t) in
    let rows = c.args.rows.now.items in
    removed-none test rows (not_found test rows (place_in test rows c.deref.result.now None c.deref.ensures.value c.in-None.ensures))
