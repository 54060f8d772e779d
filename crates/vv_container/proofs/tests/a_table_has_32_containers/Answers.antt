use Rattle.vv_container.specs.Table.{numbered}
use Rattle.vv_container.proofs.RowLemmas.{above-push}
use Rattle.vv_container.proofs.tests.a_table_has_32_containers.Goals as goal

pub loop-number-preserved : goal.loop-number-preserved
loop-number-preserved g c =
    rw c.add.ensures
    (above-push c.loop-number.table (record { container = numbered c.loop-number.number c.with_quota.result; charged = 0 }) c.loop-number.invariant)
