-- The calls of an array that is up, by what was planned.
use Rattle.vv_disk.proofs.Moments.{started}
use Rattle.vv_profile.specs.Known.{all_known}
use Rattle.vv_array.proofs.ServedCalls.{settled_served, settled_tables, settled_tells, still_left}
use Rattle.vv_array.proofs.serving.serve.Goals as goal

pub returns-in-Ok-Answer-clause-served : goal.returns-in-Ok-Answer-clause-served
returns-in-Ok-Answer-clause-served g c = λ honest m up.
    let right = rw c.in-Ok-Answer.field-0-is at c.in-Ok-Answer.ensures.planned in
    let plan = right.settles in
    settled_served (all_known c.args.capabilities.now) c.args.journal.now c.args.core.now.array c.answered.new.core.array (g.D.Disk.content c.args.disk.now) (g.D.Disk.is_image c.args.disk.now) m c.args.call.now c.answered.result up (c.answered.ensures.settled (all_known c.args.capabilities.now) plan)

pub returns-in-Ok-Answer-clause-left : goal.returns-in-Ok-Answer-clause-left
returns-in-Ok-Answer-clause-left g c = λ honest m up.
    still_left g.D.Disk.moment g.D.Disk.left_since c.args.disk.now c.args.disk.now (all_known c.args.capabilities.now) c.args.journal.now c.args.core.now.array (g.D.Disk.content c.args.disk.now) (g.D.Disk.is_image c.args.disk.now) m c.args.call.now c.answered.result up
    (started g.D.Disk.moment g.D.Disk.left_since c.args.disk.now (g.D.Disk.is_image c.args.disk.now) (λ image left. g.met.D.Disk.only_now c.args.disk.now image left))

pub returns-in-Ok-Answer-clause-tables : goal.returns-in-Ok-Answer-clause-tables
returns-in-Ok-Answer-clause-tables g c =
    let right = rw c.in-Ok-Answer.field-0-is at c.in-Ok-Answer.ensures.planned in
    let plan = right.settles in
    settled_tables (all_known c.args.capabilities.now) c.args.core.now.array c.answered.new.core.array c.args.call.now c.answered.result (c.answered.ensures.settled (all_known c.args.capabilities.now) plan)

pub returns-in-Err-clause-served : goal.returns-in-Err-clause-served
returns-in-Err-clause-served g c = λ honest m up.
    let plan = c.in-Err.ensures.refused in
    settled_served (all_known c.args.capabilities.now) c.args.journal.now c.args.core.now.array c.refused.new.core.array (g.D.Disk.content c.args.disk.now) (g.D.Disk.is_image c.args.disk.now) m c.args.call.now c.refused.result up (c.refused.ensures.settled (all_known c.args.capabilities.now) plan)

pub returns-in-Err-clause-left : goal.returns-in-Err-clause-left
returns-in-Err-clause-left g c = λ honest m up.
    still_left g.D.Disk.moment g.D.Disk.left_since c.args.disk.now c.args.disk.now (all_known c.args.capabilities.now) c.args.journal.now c.args.core.now.array (g.D.Disk.content c.args.disk.now) (g.D.Disk.is_image c.args.disk.now) m c.args.call.now c.refused.result up
    (started g.D.Disk.moment g.D.Disk.left_since c.args.disk.now (g.D.Disk.is_image c.args.disk.now) (λ image left. g.met.D.Disk.only_now c.args.disk.now image left))

pub returns-in-Err-clause-tables : goal.returns-in-Err-clause-tables
returns-in-Err-clause-tables g c =
    let plan = c.in-Err.ensures.refused in
    settled_tables (all_known c.args.capabilities.now) c.args.core.now.array c.refused.new.core.array c.args.call.now c.refused.result (c.refused.ensures.settled (all_known c.args.capabilities.now) plan)

pub returns-in-Ok-Read-clause-served : goal.returns-in-Ok-Read-clause-served
returns-in-Ok-Read-clause-served g c = λ honest m up. c.read.ensures.served (all_known c.args.capabilities.now) c.args.journal.now honest m up

pub returns-in-Ok-Read-clause-left : goal.returns-in-Ok-Read-clause-left
returns-in-Ok-Read-clause-left g c = λ honest m up.
    still_left g.D.Disk.moment g.D.Disk.left_since c.args.disk.now c.read.new.disk (all_known c.args.capabilities.now) c.args.journal.now c.args.core.now.array (g.D.Disk.content c.args.disk.now) (g.D.Disk.is_image c.args.disk.now) m c.args.call.now c.read.result up c.read.ensures.any_moment

pub returns-in-Ok-Journal-clause-left : goal.returns-in-Ok-Journal-clause-left
returns-in-Ok-Journal-clause-left g c = λ honest m up.
    let plan = rw c.in-Ok-Journal.field-0-is at c.in-Ok-Journal.ensures.planned in
    c.journaled.ensures.left (all_known c.args.capabilities.now) plan honest m up

pub returns-in-Ok-Answer-clause-told : goal.returns-in-Ok-Answer-clause-told
returns-in-Ok-Answer-clause-told g c =
    let right = rw c.in-Ok-Answer.field-0-is at c.in-Ok-Answer.ensures.planned in
    let plan = right.settles in
    settled_tells (all_known c.args.capabilities.now) c.args.core.now.array c.answered.new.core.array c.args.call.now c.answered.result (c.answered.ensures.settled (all_known c.args.capabilities.now) plan)

pub returns-in-Err-clause-told : goal.returns-in-Err-clause-told
returns-in-Err-clause-told g c = c.refused.ensures.told (all_known c.args.capabilities.now) c.in-Err.ensures.refused
