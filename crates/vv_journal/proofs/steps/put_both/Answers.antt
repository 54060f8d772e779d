use Rattle.std.proofs.Common.{length}
use Rattle.vv_disk.specs.Images.{EachImage}
use Rattle.vv_journal.specs.Calls.{ChangedWithin}
use Rattle.vv_journal.proofs.Crash.{changed_wider, told_wider, told_twice, leaves_within, then_within}
use Rattle.vv_journal.proofs.steps.put_both.Goals as goal

pub returns-in_err-put-clause-told : goal.returns-in_err-put-clause-told
returns-in_err-put-clause-told g c = λ at n first second.
    told_wider c.args.first_at (length c.args.first.now) at n (g.D.Disk.content c.args.disk.now) (g.D.Disk.content c.put.new.disk) first.from first.to c.put.ensures.told

pub returns-in_err-put-clause-any_moment : goal.returns-in_err-put-clause-any_moment
returns-in_err-put-clause-any_moment g c = λ honest at n first second.
    leaves_within g.D.Disk.moment g.D.Disk.left_since c.args.disk.now c.put.new.disk c.args.first_at (length c.args.first.now) at n (g.D.Disk.is_image c.args.disk.now) first (c.put.ensures.any_moment honest)

pub returns-in_err-put-2-clause-told : goal.returns-in_err-put-2-clause-told
returns-in_err-put-2-clause-told g c = λ at n first second.
    let one = told_wider c.args.first_at (length c.args.first.now) at n (g.D.Disk.content c.args.disk.now) (g.D.Disk.content c.put.new.disk) first.from first.to c.put.ensures.told in
    let two = told_wider c.args.second_at (length c.args.second.now) at n (g.D.Disk.content c.put.new.disk) (g.D.Disk.content c.put-2.new.disk) second.from second.to c.put-2.ensures.told in
    told_twice at n (g.D.Disk.content c.args.disk.now) (g.D.Disk.content c.put.new.disk) (g.D.Disk.content c.put-2.new.disk) one two

pub returns-in_err-put-2-clause-any_moment : goal.returns-in_err-put-2-clause-any_moment
returns-in_err-put-2-clause-any_moment g c = λ honest at n first second.
    let images = g.D.Disk.is_image c.args.disk.now in
    let one = leaves_within g.D.Disk.moment g.D.Disk.left_since c.args.disk.now c.put.new.disk c.args.first_at (length c.args.first.now) at n images first (c.put.ensures.any_moment honest) in
    let each : EachImage (ChangedWithin at n images) (g.D.Disk.is_image c.put.new.disk) = λ image left. changed_wider c.args.first_at (length c.args.first.now) at n images first.from first.to image (c.put.ensures.each honest image left) in
    then_within g.D.Disk.moment g.D.Disk.left_since c.args.disk.now c.put.new.disk c.put-2.new.disk c.args.second_at (length c.args.second.now) at n images (g.D.Disk.is_image c.put.new.disk) second one each (c.put-2.ensures.any_moment (c.put.ensures.honesty.1 honest))

pub returns-clause-told : goal.returns-clause-told
returns-clause-told g c = λ at n first second.
    let one = told_wider c.args.first_at (length c.args.first.now) at n (g.D.Disk.content c.args.disk.now) (g.D.Disk.content c.put.new.disk) first.from first.to c.put.ensures.told in
    let two = told_wider c.args.second_at (length c.args.second.now) at n (g.D.Disk.content c.put.new.disk) (g.D.Disk.content c.put-2.new.disk) second.from second.to c.put-2.ensures.told in
    told_twice at n (g.D.Disk.content c.args.disk.now) (g.D.Disk.content c.put.new.disk) (g.D.Disk.content c.put-2.new.disk) one two

pub returns-clause-any_moment : goal.returns-clause-any_moment
returns-clause-any_moment g c = λ honest at n first second.
    let images = g.D.Disk.is_image c.args.disk.now in
    let one = leaves_within g.D.Disk.moment g.D.Disk.left_since c.args.disk.now c.put.new.disk c.args.first_at (length c.args.first.now) at n images first (c.put.ensures.any_moment honest) in
    let each : EachImage (ChangedWithin at n images) (g.D.Disk.is_image c.put.new.disk) = λ image left. changed_wider c.args.first_at (length c.args.first.now) at n images first.from first.to image (c.put.ensures.each honest image left) in
    then_within g.D.Disk.moment g.D.Disk.left_since c.args.disk.now c.put.new.disk c.put-2.new.disk c.args.second_at (length c.args.second.now) at n images (g.D.Disk.is_image c.put.new.disk) second one each (c.put-2.ensures.any_moment (c.put.ensures.honesty.1 honest))
