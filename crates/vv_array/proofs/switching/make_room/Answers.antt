use Rattle.vv_array.proofs.KeptUp.{keeps_still}
use Rattle.vv_array.proofs.switching.make_room.Goals as goal

pub returns-then-room-clause-left : goal.returns-then-room-clause-left
returns-then-room-clause-left g c = λ honest m up.
    let disk = g.D.Disk in
    let still = keeps_still disk.content disk.is_image disk.moment disk.left_since c.args.disk.now c.args.journal.now c.args.core.now.array m (λ image left. g.met.D.Disk.only_now c.args.disk.now image left) up in
    still.left
