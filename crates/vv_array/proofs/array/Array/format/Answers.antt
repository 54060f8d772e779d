use Rattle.vv_array.proofs.FreshUp.{up_fresh}
use Rattle.vv_array.proofs.array.Array.format.Goals as goal

pub returns-in-Ok-made_journal-clause-stands : goal.returns-in-Ok-made_journal-clause-stands
returns-in-Ok-made_journal-clause-stands g c = λ honest.
    let disk = g.D.Disk in
    let told = g.met.D.Disk.content_is_image c.made_journal.new.disk (c.made_journal.ensures.honesty.1 honest) in
    up_fresh c.args.geometry c.in-Ok-made_journal.journal c.in-Ok.core.array (disk.content c.made_journal.new.disk) (disk.is_image c.made_journal.new.disk) told.0
    c.in-Ok.ensures c.in-Ok-made_journal.ensures.journal (c.in-Ok-made_journal.ensures.ok honest) told.1
