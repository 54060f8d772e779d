use Rattle.std.proofs.Common.{◌≡◌, ◌⊎◌, ℕ, ◌+◌, List, Some, sym, subst}
use Rattle.vv_disk.proofs.Moments.{leaves_weaker}
use Rattle.vv_flat.specs.State.{Array}
use Rattle.vv_flat.specs.Chunks.{Entry}
use Rattle.vv_journal.specs.Log.{with_record}
use Rattle.vv_journal.specs.Calls.{HoldsOver, HoldsAppended}
use Rattle.vv_core.specs.Core.{applied}
use Rattle.vv_array.specs.Standing.{UpOn, StandsKept}
use Rattle.vv_array.specs.Chunks.{flat_applied}
use Rattle.vv_array.proofs.Stands.{up_fewer, up_recorded, up_appended, unmarked_fits}
use Rattle.vv_array.proofs.recording.record_event.Goals as goal

pub returns-in-Ok-clause-stands : goal.returns-in-Ok-clause-stands
returns-in-Ok-clause-stands g c = λ honest m bytes up has.
    let told = g.D.Disk.content c.args.disk.now in
    let images = g.D.Disk.is_image c.args.disk.now in
    let a = c.args.core.now.array in
    let r = c.args.record.now in
    let after = flat_applied a m c.args.call.now r.event bytes in
    let fit = unmarked_fits a.durable r c.requires.unmarked c.requires.room.fits c.requires.room.indexes in
    let next = up_recorded c.args.journal.now c.append.new.self a told (g.D.Disk.content c.append.new.disk) images m c.args.call.now r c.args.payload.now bytes up c.requires.sizes c.in-Ok.ensures.counted c.requires.spelled c.requires.unmarked fit c.append.ensures.told has in
    subst (λ (x : Array Entry). UpOn c.append.new.self x (g.D.Disk.content c.append.new.disk) (g.D.Disk.is_image c.append.new.disk) after) (sym c.apply_uncounted.ensures)
    (up_fewer c.append.new.self (applied a c.args.call.now r.event) (g.D.Disk.content c.append.new.disk) (HoldsOver (with_record up.log c.args.payload.now) (λ content. told ≡ Some content)) (g.D.Disk.is_image c.append.new.disk) after
    (c.in-Ok.ensures.ok honest up.log up.continues up.holds) next)

pub returns-in-Ok-clause-left : goal.returns-in-Ok-clause-left
returns-in-Ok-clause-left g c = λ honest m bytes up has.
    let told = g.D.Disk.content c.args.disk.now in
    let images = g.D.Disk.is_image c.args.disk.now in
    let a = c.args.core.now.array in
    let r = c.args.record.now in
    let fit = unmarked_fits a.durable r c.requires.unmarked c.requires.room.fits c.requires.room.indexes in
    leaves_weaker g.D.Disk.moment g.D.Disk.left_since c.args.disk.now c.append.new.disk (HoldsAppended up.log c.args.payload.now told images)
    (λ image. StandsKept m image ⊎ StandsKept (flat_applied a m c.args.call.now r.event bytes) image)
    (up_appended c.args.journal.now a told images m c.args.call.now r c.args.payload.now bytes up c.requires.sizes c.requires.spelled c.requires.unmarked fit has)
    (c.append.ensures.any_moment honest up.log up.continues up.holds)

pub returns-in-Err-clause-left : goal.returns-in-Err-clause-left
returns-in-Err-clause-left g c = λ honest m bytes up has.
    let told = g.D.Disk.content c.args.disk.now in
    let images = g.D.Disk.is_image c.args.disk.now in
    let a = c.args.core.now.array in
    let r = c.args.record.now in
    let fit = unmarked_fits a.durable r c.requires.unmarked c.requires.room.fits c.requires.room.indexes in
    leaves_weaker g.D.Disk.moment g.D.Disk.left_since c.args.disk.now c.append.new.disk (HoldsAppended up.log c.args.payload.now told images)
    (λ image. StandsKept m image ⊎ StandsKept (flat_applied a m c.args.call.now r.event bytes) image)
    (up_appended c.args.journal.now a told images m c.args.call.now r c.args.payload.now bytes up c.requires.sizes c.requires.spelled c.requires.unmarked fit has)
    (c.append.ensures.any_moment honest up.log up.continues up.holds)
