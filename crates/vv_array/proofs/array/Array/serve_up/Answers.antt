use Rattle.vv_profile.specs.Known.{all_known}
use Rattle.vv_array.specs.Seen.{geometry_of}
use Rattle.vv_array.proofs.ServedSteps.{replied_step, read_failed_step, write_failed_step, memory_step}
use Rattle.vv_array.proofs.array.Array.serve_up.Goals as goal

pub returns-in-Replied-clause-step : goal.returns-in-Replied-clause-step
returns-in-Replied-clause-step g c = λ honest m stands.
    let disk = c.serve_standing.new.disk in
    replied_step g.D.Disk.moment g.D.Disk.left_since c.args.disk.now disk (all_known c.args.capabilities.now) m c.args.call.now (g.D.Disk.content disk) (g.D.Disk.is_image disk)
    c.serve_standing.new.self c.in-Replied.reply (c.in-Replied.ensures.served honest m stands) (c.in-Replied.ensures.left honest m stands)

pub returns-in-ReadFailed-clause-step : goal.returns-in-ReadFailed-clause-step
returns-in-ReadFailed-clause-step g c = λ honest m stands.
    let disk = c.serve_standing.new.disk in
    read_failed_step g.D.Disk.moment g.D.Disk.left_since c.args.disk.now disk (all_known c.args.capabilities.now) m c.args.call.now (g.D.Disk.content disk) (g.D.Disk.is_image disk)
    c.serve_standing.new.self c.in-ReadFailed.reply (c.in-ReadFailed.ensures.served honest m stands) (c.in-ReadFailed.ensures.left honest m stands)

pub returns-in-WriteFailed-clause-step : goal.returns-in-WriteFailed-clause-step
returns-in-WriteFailed-clause-step g c = λ honest m stands.
    let disk = c.serve_standing.new.disk in
    rw c.go_down.ensures
    (write_failed_step g.D.Disk.moment g.D.Disk.left_since c.args.disk.now disk (all_known c.args.capabilities.now) m c.args.call.now (g.D.Disk.content disk) (g.D.Disk.is_image disk)
    c.serve_standing.new.self c.in-WriteFailed.reply (geometry_of c.serve_standing.new.self) (c.in-WriteFailed.ensures.served honest m stands) (c.in-WriteFailed.ensures.left honest m stands))

pub returns-in-NoMemory-clause-step : goal.returns-in-NoMemory-clause-step
returns-in-NoMemory-clause-step g c = λ honest m stands.
    let disk = c.serve_standing.new.disk in
    memory_step g.D.Disk.moment g.D.Disk.left_since c.args.disk.now disk (all_known c.args.capabilities.now) m c.args.call.now (g.D.Disk.content disk) (g.D.Disk.is_image disk)
    c.serve_standing.new.self (c.in-NoMemory.ensures.served honest m stands) (c.in-NoMemory.ensures.left honest m stands)
