use Rattle.std.proofs.Common.{None, Some}
use Rattle.vv_units.specs.declared.volume.TaskState.TheVariants.{Cancelled}
use Rattle.vv_flat.specs.State.{Task}
use Rattle.vv_flat.proofs.Positions.{not_found, changed_step}
use Rattle.vv_task.specs.Table.{is_numbered}
use Rattle.vv_flat.proofs.RisingRows.{changed-none}
use Rattle.vv_task.proofs.RowLemmas.{place_in}
use Rattle.vv_task.proofs.rows.cancel.Goals as goal

pub returns-in-Some-clause-items : goal.returns-in-Some-clause-items
returns-in-Some-clause-items c =
    let test = is_numbered c.args.id.0 in
    let rows = c.args.rows.now.items in
    changed_step test (λ (t : Task). record t { state = Cancelled }) rows c.in-Some.at c.index_mut.result.now c.cancel.new.self
    (place_in test rows c.deref.result.now (Some c.in-Some.at) c.deref.ensures.value c.in-Some.ensures) c.index_mut.ensures.value c.cancel.ensures

pub returns-in-None-clause-items : goal.returns-in-None-clause-items
returns-in-None-clause-items c =
    let test = is_numbered c.args.id.0 in
    let rows = c.args.rows.now.items in
    changed-none test (λ (t : Task). record t { state = Cancelled }) rows
    (not_found test rows (place_in test rows c.deref.result.now None c.deref.ensures.value c.in-None.ensures))
