use Rattle.std.proofs.Common.{sym, subst}
use Rattle.std.specs.Prelude.{IfSome}
use Rattle.vv_run.specs.declared.words.Command.TheVariants.{Run}
use Rattle.vv_run.specs.declared.status.Status.{Status}
use Rattle.vv_run.specs.Status.{EndsAsFound, Stopped}
use Rattle.vv_run.proofs.BeginningLemmas.{opened_stands, is_openable, stopped_opening, ends_as_found}
use Rattle.vv_run.proofs.beginning.open.Goals as goal

pub returns-in-Ok-clause-stands : goal.returns-in-Ok-clause-stands
returns-in-Ok-clause-stands g c = λ honest start at_start.
    let disk = g.D.Disk in
    opened_stands c.in-Ok.array c.in-Ok.recovered (disk.content c.args.disk.now) (disk.content c.open.new.disk) (disk.is_image c.args.disk.now) (disk.is_image c.open.new.disk) start
    c.in-Ok.ensures.opened (c.in-Ok.ensures.stands honest) at_start

pub returns-in-Ok-clause-fit : goal.returns-in-Ok-clause-fit
returns-in-Ok-clause-fit g c =
    let disk = g.D.Disk in
    is_openable c.in-Ok.array c.in-Ok.recovered (disk.content c.args.disk.now) c.in-Ok.ensures.opened

pub returns-in-Err-clause-stopped : goal.returns-in-Err-clause-stopped
returns-in-Err-clause-stopped g c =
    let disk = g.D.Disk in
    subst (Stopped Run (disk.size c.args.disk.now) (disk.content c.args.disk.now) (disk.read_faults c.args.disk.now) (disk.read_faults c.open.new.disk)
    (disk.write_faults c.args.disk.now) (disk.write_faults c.open.new.disk)) (sym c.status_of.ensures)
    (stopped_opening c.in-Err.fault (disk.size c.args.disk.now) (disk.content c.args.disk.now) (disk.read_faults c.args.disk.now) (disk.read_faults c.open.new.disk)
    (disk.write_faults c.args.disk.now) (disk.write_faults c.open.new.disk) c.in-Err.ensures.fault c.in-Err.ensures.cause)

pub returns-in-Err-clause-unfit : goal.returns-in-Err-clause-unfit
returns-in-Err-clause-unfit g c =
    let disk = g.D.Disk in
    subst (λ (s : Status). IfSome (disk.content c.args.disk.now) (EndsAsFound s)) (sym c.status_of.ensures)
    (ends_as_found c.in-Err.fault (disk.content c.args.disk.now) c.in-Err.ensures.fault)
