use Rattle.std.proofs.Common.{sym, subst}
use Rattle.vv_profile.specs.Known.{all_known}
use Rattle.vv_reply.specs.declared.reply.Reply.TheVariants.{Refused}
use Rattle.vv_reply.specs.declared.reply.Refusal.{Refusal}
use Rattle.vv_array.specs.Seen.{geometry_of}
use Rattle.vv_array.specs.Executing.{IsUndamaged}
use Rattle.vv_array.proofs.Reopenings.{reopened_step, failed_step, fault_undamaged}
use Rattle.vv_array.proofs.array.Array.reopen_and_serve.Goals as goal

pub returns-in-Ok-clause-step : goal.returns-in-Ok-clause-step
returns-in-Ok-clause-step g c = λ honest before stands.
    let old = c.args.disk.now in
    let mid = c.reopen.new.disk in
    let new = c.serve_reopened.new.disk in
    reopened_step g.D.Disk.moment g.D.Disk.left_since old mid new (all_known c.args.capabilities.now) c.args.call.now c.serve_reopened.result c.in-Ok.recovered
    c.reopen.new.self c.serve_reopened.new.self (g.D.Disk.content old) (g.D.Disk.content mid) (g.D.Disk.content new) (g.D.Disk.is_image old) (g.D.Disk.is_image mid) (g.D.Disk.is_image new)
    c.args.self.now before c.requires.reopening stands (g.met.D.Disk.content_is_image old honest) c.in-Ok.ensures.opened (c.in-Ok.ensures.stands honest)
    (c.reopen.ensures.any_moment honest) (c.serve_reopened.ensures.step (c.reopen.ensures.honesty.1 honest))

pub returns-in-Err-clause-step : goal.returns-in-Err-clause-step
returns-in-Err-clause-step g c = λ honest before stands.
    let old = c.args.disk.now in
    let new = c.reopen.new.disk in
    rw (c.in-Err.ensures.down, c.refusal_of.ensures)
    (failed_step g.D.Disk.moment g.D.Disk.left_since old new (all_known c.args.capabilities.now) c.args.call.now (g.D.Disk.content old) (g.D.Disk.content new) (g.D.Disk.is_image old) (g.D.Disk.is_image new)
    (geometry_of c.args.self.now) c.in-Err.fault c.args.self.now before c.requires.reopening stands (c.reopen.ensures.each honest) (c.reopen.ensures.any_moment honest))

pub returns-in-Err-clause-undamaged : goal.returns-in-Err-clause-undamaged
returns-in-Err-clause-undamaged g c = λ honest before stands.
    subst (λ (r : Refusal). IsUndamaged (Refused r)) (sym c.refusal_of.ensures)
    (fault_undamaged c.in-Err.fault c.args.self.now (g.D.Disk.content c.args.disk.now) (g.D.Disk.is_image c.args.disk.now) before stands
    (g.met.D.Disk.content_is_image c.args.disk.now honest) c.in-Err.ensures.fault)
