use Rattle.std.proofs.Common.{◌≡◌, Some, sym, subst}
use Rattle.std.specs.Prelude.{IfOk}
use Rattle.vv_meaning.specs.Steps.{State}
use Rattle.vv_array.specs.Standing.{StandsFor}
use Rattle.vv_run.specs.declared.words.Command.{Command}
use Rattle.vv_run.specs.Replies.{recovered_line}
use Rattle.vv_run.specs.Starts.{IsStart, head_of}
use Rattle.vv_run.proofs.beginning.begin.Goals as goal

pub returns-in-New-clause-stands : goal.returns-in-New-clause-stands
returns-in-New-clause-stands g c =
    let disk = g.D.Disk in
    subst (λ (k : Command). IfOk c.make.result (λ begun. disk.is_honest c.args.disk.now → (start : State)
    → IsStart (Some k) (disk.size c.args.disk.now) (disk.content c.args.disk.now) (disk.is_image c.args.disk.now) start
    → StandsFor begun.array (disk.content c.make.new.disk) (disk.is_image c.make.new.disk) start × (recovered_line begun.recovered ≡ head_of (Some k) start)))
    (sym c.in-New.is) c.make.ensures.stands
