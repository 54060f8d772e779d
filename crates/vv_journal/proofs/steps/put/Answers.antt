use Rattle.std.proofs.Common.{length}
use Rattle.vv_disk.proofs.Moments.{goes_on}
use Rattle.vv_journal.specs.Calls.{ChangedWithin}
use Rattle.vv_journal.proofs.Crash.{begun, told_written}
use Rattle.vv_journal.proofs.steps.put.Goals as goal

pub returns-in-Ok-clause-any_moment : goal.returns-in-Ok-clause-any_moment
returns-in-Ok-clause-any_moment g c =
    let P = ChangedWithin c.args.at (length c.args.bytes.now) (g.D.Disk.is_image c.args.disk.now) in
    λ honest.
    let at_start = begun g.D.Disk.moment g.D.Disk.left_since c.args.disk.now c.args.at (length c.args.bytes.now) (g.D.Disk.is_image c.args.disk.now) (λ image left. g.met.D.Disk.only_now c.args.disk.now image left) in
    goes_on g.D.Disk.moment g.D.Disk.left_since c.args.disk.now c.args.disk.now c.write.new.self P _ at_start c.write.ensures.time (c.write.ensures.images honest)

pub returns-in-Err-clause-any_moment : goal.returns-in-Err-clause-any_moment
returns-in-Err-clause-any_moment g c =
    let P = ChangedWithin c.args.at (length c.args.bytes.now) (g.D.Disk.is_image c.args.disk.now) in
    λ honest.
    let at_start = begun g.D.Disk.moment g.D.Disk.left_since c.args.disk.now c.args.at (length c.args.bytes.now) (g.D.Disk.is_image c.args.disk.now) (λ image left. g.met.D.Disk.only_now c.args.disk.now image left) in
    goes_on g.D.Disk.moment g.D.Disk.left_since c.args.disk.now c.args.disk.now c.write.new.self P _ at_start c.write.ensures.time (c.write.ensures.images honest)

pub returns-in-Ok-clause-told : goal.returns-in-Ok-clause-told
returns-in-Ok-clause-told g c =
    told_written (g.D.Disk.content c.args.disk.now) (g.D.Disk.content c.write.new.self) c.args.at c.args.bytes.now c.in-Ok.ensures.ok
