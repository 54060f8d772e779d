use Rattle.std.proofs.Common.{◌≡◌, ℕ, List, IfSome}
use Rattle.vv_journal.specs.Openings.{HasHead}
use Rattle.vv_array.specs.Opening.{IsFoundFault}
use Rattle.vv_array.specs.OpeningSteps.{area_found}
use Rattle.vv_array.proofs.OpenedArea.{fault_told_as}
use Rattle.vv_array.proofs.OnlyReading.{err_then}
use Rattle.vv_array.proofs.OpenedImages.{area_fails, slots_fail, image_opened}
use Rattle.vv_array.proofs.opening.load.Goals as goal

pub returns-in_err-core-clause-fault : goal.returns-in_err-core-clause-fault
returns-in_err-core-clause-fault g c =
    let told = g.D.Disk.content c.args.disk.now in
    err_then c.from_residual.result (λ e. e ≡ c.in_err-core.field-0.0) (λ e. IfSome told (λ (d : List ℕ). HasHead c.args.head.now d → IsFoundFault e d))
    (λ e is. area_fails told c.args.head.now e (fault_told_as told (area_found c.args.head.now) c.in_err-core.field-0.0 e is c.in_err-core.ensures.fault)) c.from_residual.ensures.1

pub returns-in-Ok-clause-opened : goal.returns-in-Ok-clause-opened
returns-in-Ok-clause-opened g c =
    let replayed = c.in-Ok.ensures in
    image_opened (g.D.Disk.content c.args.disk.now) (g.D.Disk.content c.read_tables.new.disk) c.args.head.now c.args.journal.now c.replay_records.new.journal c.in_ok-core.core.array.durable c.replay_records.new.core
    c.read_tables.ensures.disk.told c.requires.journal replayed.place.0 replayed.place.1 replayed.few c.in_ok-core.ensures.tables replayed.replayed replayed.waiting replayed.sizes c.in_ok-core.ensures.sizes

pub returns-in-Err-clause-fault : goal.returns-in-Err-clause-fault
returns-in-Err-clause-fault g c =
    slots_fail (g.D.Disk.content c.args.disk.now) (g.D.Disk.content c.read_tables.new.disk) c.args.head.now c.args.journal.now c.in_ok-core.core.array.durable c.in-Err.fault
    c.read_tables.ensures.disk.told c.requires.journal c.in_ok-core.ensures.tables c.in-Err.ensures.fault
