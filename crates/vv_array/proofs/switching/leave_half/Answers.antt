use Rattle.vv_array.proofs.KeptUp.{switch_of, end_leaves, end_stands}
use Rattle.vv_array.proofs.switching.leave_half.Goals as goal

pub returns-in_err-switching-clause-left : goal.returns-in_err-switching-clause-left
returns-in_err-switching-clause-left g c = λ honest m up. (c.written_switch.ensures.keeps honest m up).left

pub returns-in_err-end_switch-clause-left : goal.returns-in_err-end_switch-clause-left
returns-in_err-end_switch-clause-left g c = λ honest m up.
    let disk = g.D.Disk in
    end_leaves disk.content disk.is_image disk.moment disk.left_since c.args.disk.now c.written_switch.new.disk c.end_switch.new.disk c.args.journal.now c.in_ok-switching.switching c.args.core.now.array m
    c.requires.sizes c.lsn-well_formed.ensures.well (switch_of c.args.journal.now c.in_ok-switching.switching _ _ c.in_ok-switching.ensures.is) (c.written_switch.ensures.keeps honest m up)
    (λ log from holds. c.end_switch.ensures.any_moment (c.written_switch.ensures.honesty.1 honest) log _ from holds c.in_ok-switching.ensures.tables)

pub returns-clause-left : goal.returns-clause-left
returns-clause-left g c = λ honest m up.
    let disk = g.D.Disk in
    end_leaves disk.content disk.is_image disk.moment disk.left_since c.args.disk.now c.written_switch.new.disk c.end_switch.new.disk c.args.journal.now c.in_ok-switching.switching c.args.core.now.array m
    c.requires.sizes c.lsn-well_formed.ensures.well (switch_of c.args.journal.now c.in_ok-switching.switching _ _ c.in_ok-switching.ensures.is) (c.written_switch.ensures.keeps honest m up)
    (λ log from holds. c.end_switch.ensures.any_moment (c.written_switch.ensures.honesty.1 honest) log _ from holds c.in_ok-switching.ensures.tables)

pub returns-clause-stands : goal.returns-clause-stands
returns-clause-stands g c = λ honest m up.
    let disk = g.D.Disk in
    end_stands disk.content disk.is_image disk.moment disk.left_since c.written_switch.new.disk c.end_switch.new.disk c.args.journal.now c.end_switch.new.self c.in_ok-switching.switching c.args.core.now.array m
    c.requires.sizes c.lsn-well_formed.ensures.well (switch_of c.args.journal.now c.in_ok-switching.switching _ _ c.in_ok-switching.ensures.is) (c.written_switch.ensures.keeps honest m up).up
    c.in_ok-end_switch.ensures.journal
    (λ log from holds. c.in_ok-end_switch.ensures.ok (c.written_switch.ensures.honesty.1 honest) log _ from holds c.in_ok-switching.ensures.tables)
    c.end_switch.ensures.told
