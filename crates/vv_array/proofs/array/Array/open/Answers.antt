use Rattle.std.proofs.Common.{◌≡◌, IfSome, ◌∙◌}
use Rattle.vv_array.specs.Opening.{IsFoundFault}
use Rattle.vv_array.specs.OpeningSteps.{fault_of_open}
use Rattle.vv_array.proofs.OnlyReading.{err_then, only_still}
use Rattle.vv_array.proofs.OpenedImages.{head_fails, opens_as, stands_as}
use Rattle.vv_array.proofs.array.Array.open.Goals as goal

pub returns-in_err-journal-clause-fault : goal.returns-in_err-journal-clause-fault
returns-in_err-journal-clause-fault g c =
    let told = g.D.Disk.content c.args.disk.now in
    err_then c.from_residual.result (λ e. e ≡ fault_of_open c.in_err-journal.field-0.0) (λ e. IfSome told (IsFoundFault e))
    (λ e is. head_fails told (g.D.Disk.content c.open_log.new.disk) c.in_err-journal.field-0.0 e c.open_log.ensures.content is c.in_err-journal.ensures.fault) c.from_residual.ensures.1

pub returns-clause-stands : goal.returns-clause-stands
returns-clause-stands g c = λ honest.
    let disk = g.D.Disk in
    let told = disk.content c.args.disk.now in
    let now = disk.content c.load.new.disk in
    stands_as told now c.load.new.journal c.in_ok-core.core c.lsn-recovered.result c.up.result (disk.is_image c.load.new.disk) c.up.ensures (c.load.ensures.disk.told ∙ c.open_log.ensures.content)
    (only_still disk.size disk.content disk.is_image disk.is_honest disk.moment disk.left_since disk.read_faults disk.write_faults c.open_log.new.disk c.load.new.disk (c.in_ok-journal.ensures.only honest) c.load.ensures.disk)
    (opens_as told (disk.content c.open_log.new.disk) c.in_ok-journal.head c.load.new.journal c.in_ok-core.core c.lsn-recovered.result c.up.result c.open_log.ensures.content c.up.ensures c.lsn-recovered.ensures.number c.in_ok-journal.ensures.head c.in_ok-core.ensures.opened)
