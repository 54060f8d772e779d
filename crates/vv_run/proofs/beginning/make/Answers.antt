use Rattle.std.proofs.Common.{sym, subst}
use Rattle.vv_run.specs.declared.words.Command.TheVariants.{New}
use Rattle.vv_run.specs.Status.{Stopped}
use Rattle.vv_run.proofs.BeginningLemmas.{made_stands, stopped_making}
use Rattle.vv_run.proofs.beginning.make.Goals as goal

pub returns-in-Ok-clause-stands : goal.returns-in-Ok-clause-stands
returns-in-Ok-clause-stands g c = λ honest start at_start.
    let disk = g.D.Disk in
    made_stands c.in-Ok.array c.args.geometry (disk.size c.args.disk.now) (disk.content c.args.disk.now) (disk.content c.format.new.disk) (disk.is_image c.args.disk.now) (disk.is_image c.format.new.disk) start
    (c.in-Ok.ensures.stands honest) at_start

pub returns-in-Ok-clause-later : goal.returns-in-Ok-clause-later
returns-in-Ok-clause-later g c = λ honest. let made = c.format.ensures.made honest in made.later

pub returns-in-Err-clause-stopped : goal.returns-in-Err-clause-stopped
returns-in-Err-clause-stopped g c =
    let disk = g.D.Disk in
    subst (Stopped (New c.args.geometry) (disk.size c.args.disk.now) (disk.content c.args.disk.now) (disk.read_faults c.args.disk.now) (disk.read_faults c.format.new.disk)
    (disk.write_faults c.args.disk.now) (disk.write_faults c.format.new.disk)) (sym c.status_of.ensures)
    (stopped_making c.in-Err.fault c.args.geometry (disk.size c.args.disk.now) (disk.content c.args.disk.now) (disk.read_faults c.args.disk.now) (disk.read_faults c.format.new.disk)
    (disk.write_faults c.args.disk.now) (disk.write_faults c.format.new.disk) c.in-Err.ensures.fault)
