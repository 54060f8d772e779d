use Rattle.vv_disk.specs.Images.{ToldWithin}
use Rattle.std.proofs.Common.{length, subst, sym}
use Rattle.vv_disk.proofs.Moments.{goes_on}
use Rattle.vv_journal.specs.Calls.{ChangedWithin}
use Rattle.vv_journal.proofs.Crash.{begun}
use Rattle.vv_journal.proofs.steps.put_settled.Goals as goal

pub returns-in_err-put-clause-any_moment : goal.returns-in_err-put-clause-any_moment
returns-in_err-put-clause-any_moment g c =
    let P = ChangedWithin c.args.at (length c.args.bytes.now) (g.D.Disk.is_image c.args.disk.now) in
    λ honest.
    let at_start = begun g.D.Disk.moment g.D.Disk.left_since c.args.disk.now c.args.at (length c.args.bytes.now) (g.D.Disk.is_image c.args.disk.now) (λ image left. g.met.D.Disk.only_now c.args.disk.now image left) in
    goes_on g.D.Disk.moment g.D.Disk.left_since c.args.disk.now c.args.disk.now c.put.new.disk P _ at_start c.put.ensures.time (c.put.ensures.each honest)

pub returns-in_err-settle-clause-any_moment : goal.returns-in_err-settle-clause-any_moment
returns-in_err-settle-clause-any_moment g c =
    let P = ChangedWithin c.args.at (length c.args.bytes.now) (g.D.Disk.is_image c.args.disk.now) in
    λ honest.
    let at_start = begun g.D.Disk.moment g.D.Disk.left_since c.args.disk.now c.args.at (length c.args.bytes.now) (g.D.Disk.is_image c.args.disk.now) (λ image left. g.met.D.Disk.only_now c.args.disk.now image left) in
    let written = goes_on g.D.Disk.moment g.D.Disk.left_since c.args.disk.now c.args.disk.now c.put.new.disk P _ at_start c.put.ensures.time (c.put.ensures.each honest) in
    goes_on g.D.Disk.moment g.D.Disk.left_since c.args.disk.now c.put.new.disk c.settle.new.disk P _ written c.settle.ensures.time (λ image left. c.put.ensures.each honest image (c.settle.ensures.each (c.put.ensures.honesty.1 honest) image left))

pub returns-clause-any_moment : goal.returns-clause-any_moment
returns-clause-any_moment g c =
    let P = ChangedWithin c.args.at (length c.args.bytes.now) (g.D.Disk.is_image c.args.disk.now) in
    λ honest.
    let at_start = begun g.D.Disk.moment g.D.Disk.left_since c.args.disk.now c.args.at (length c.args.bytes.now) (g.D.Disk.is_image c.args.disk.now) (λ image left. g.met.D.Disk.only_now c.args.disk.now image left) in
    let written = goes_on g.D.Disk.moment g.D.Disk.left_since c.args.disk.now c.args.disk.now c.put.new.disk P _ at_start c.put.ensures.time (c.put.ensures.each honest) in
    goes_on g.D.Disk.moment g.D.Disk.left_since c.args.disk.now c.put.new.disk c.settle.new.disk P _ written c.settle.ensures.time (λ image left. c.put.ensures.each honest image (c.settle.ensures.each (c.put.ensures.honesty.1 honest) image left))

pub returns-in_err-settle-clause-told : goal.returns-in_err-settle-clause-told
returns-in_err-settle-clause-told g c =
    subst (λ t. ToldWithin c.args.at (length c.args.bytes.now) (g.D.Disk.content c.args.disk.now) t) (sym c.settle.ensures.content) c.put.ensures.told

pub returns-clause-told : goal.returns-clause-told
returns-clause-told g c =
    subst (λ t. ToldWithin c.args.at (length c.args.bytes.now) (g.D.Disk.content c.args.disk.now) t) (sym c.settle.ensures.content) c.put.ensures.told
