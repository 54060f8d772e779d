use Rattle.std.proofs.Common.{◌∙◌, ◌∷◌, [], ap, length, length-append, arith}
use Rattle.vv_task.specs.declared.task.Task.{Task}
use Rattle.vv_task.specs.Table.{record_of}
use Rattle.vv_task.proofs.RowLemmas.{next_restored}
use Rattle.vv_task.proofs.tests.a_full_table_drops_the_oldest_that_has_ended.Goals as goal

pub loop-number-preserved : goal.loop-number-preserved
loop-number-preserved g c =
    let t = record_of c.clone_task-in-loop-number.result in
    let size = ap length c.restore-in-loop-number.ensures ∙ length-append c.loop-number.table (t ∷ []) in
    let before = c.loop-number.invariant.count in
    record {
      above = next_restored c.loop-number.table c.restore-in-loop-number.new.self t c.loop-number.number
          (ap (λ (x : Task). x.id.0) c.clone_task-in-loop-number.ensures) c.loop-number.invariant.above c.restore-in-loop-number.ensures;
      count = omega arith;
    }
