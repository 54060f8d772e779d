use Rattle.std.proofs.Common.{get_or, sym, subst, ap, ◌∙◌}
use Rattle.vv_disk.specs.MemDisk.{IsLeft, MemState, state_now, kept}
use Rattle.vv_disk.proofs.Calls.{kept_left}
use Rattle.vv_disk.proofs.Pending.{kept_others, kept_torn}
use Rattle.vv_disk.proofs.mem_disk.MemDisk.after_crash.Goals as goal

pub returns-clause-image : goal.returns-clause-image
returns-clause-image c =
    subst (λ (d : MemState). IsLeft (state_now c.args.self) d.first) (sym c.left.ensures) (kept_left c.args.keep c.args.self)

pub returns-clause-others : goal.returns-clause-others
returns-clause-others c k none =
    ap (λ (d : MemState). get_or d.first k 0) c.left.ensures ∙ kept_others c.args.keep c.args.self.first c.args.self.done k none

pub returns-clause-torn : goal.returns-clause-torn
returns-clause-torn c byte k is lt some =
    ap (λ (d : MemState). get_or d.first k 0) c.left.ensures
    ∙ ap (λ keep. get_or (kept keep (state_now c.args.self)) k 0) is
    ∙ kept_torn byte c.args.self.first c.args.self.done k lt some
