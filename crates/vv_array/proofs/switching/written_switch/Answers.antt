use Rattle.vv_array.proofs.KeptUp.{keeps_joined, switch_of}
use Rattle.vv_array.proofs.switching.written_switch.Goals as goal

pub returns-in-Ok-clause-keeps : goal.returns-in-Ok-clause-keeps
returns-in-Ok-clause-keeps g c = λ honest m up.
    let disk = g.D.Disk in
    let one = c.begun_switch.ensures.keeps honest m up in
    let switch = switch_of c.args.journal.now c.in_ok-switching.switching _ _ c.in_ok-switching.ensures.is in
    keeps_joined disk.content disk.is_image disk.moment disk.left_since c.args.disk.now c.begun_switch.new.disk c.put_tables.new.disk c.args.journal.now c.args.journal.now c.args.core.now.array m one
    (c.put_tables.ensures.keeps (c.begun_switch.ensures.honesty.1 honest) c.args.journal.now m switch one.up)

pub returns-in-Err-clause-keeps : goal.returns-in-Err-clause-keeps
returns-in-Err-clause-keeps g c = λ honest m up.
    let disk = g.D.Disk in
    let one = c.begun_switch.ensures.keeps honest m up in
    let switch = switch_of c.args.journal.now c.in_ok-switching.switching _ _ c.in_ok-switching.ensures.is in
    keeps_joined disk.content disk.is_image disk.moment disk.left_since c.args.disk.now c.begun_switch.new.disk c.put_tables.new.disk c.args.journal.now c.args.journal.now c.args.core.now.array m one
    (c.put_tables.ensures.keeps (c.begun_switch.ensures.honesty.1 honest) c.args.journal.now m switch one.up)
