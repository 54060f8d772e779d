use Rattle.std.proofs.Common.{◌≡◌, ◌⊎◌, inl, inr, ⊎_elim, Bool, true, List, ℕ, refl, sym, ap, ◌∙◌, subst}
use Rattle.vv_disk.proofs.Moments.{leaves_weaker}
use Rattle.vv_flat.specs.State.{Array}
use Rattle.vv_flat.specs.Chunks.{Entry, ChunkValue}
use Rattle.vv_meaning.specs.Asks.{Form}
use Rattle.vv_meaning.specs.Told.{read_failed_as, write_failed_as}
use Rattle.vv_array.specs.Standing.{UpOn, StandsKept}
use Rattle.vv_array.specs.Chunks.{flat_applied}
use Rattle.vv_array.specs.Moments.{LeftBy}
use Rattle.vv_array.specs.Payloads.{planned_bytes}
use Rattle.vv_array.specs.Telling.{form_when}
use Rattle.vv_array.proofs.Stands.{recorded_sizes}
use Rattle.vv_array.specs.Faults.{cause_of}
use Rattle.vv_array.proofs.ServedCalls.{plan_tells, read_told, write_told}
use Rattle.vv_array.proofs.PlannedEvents.{plan_form, plan_moves, plan_reply, plan_next, plan_journaled, plan_left}
use Rattle.vv_array.proofs.journaling.put_or_tell.Goals as goal

pub returns-in-Ok-clause-served : goal.returns-in-Ok-clause-served
returns-in-Ok-clause-served g c = λ capabilities plan honest m up same.
    let p = c.args.planned.now in
    let a = c.args.core.now.array in (
      plan_reply capabilities a up.content m c.args.call.now up.array_is p.record.event p.fill p.compare c.args.reply plan same,
      subst (λ (x : Array ChunkValue). UpOn c.put_event.new.journal c.put_event.new.core.array (g.D.Disk.content c.put_event.new.disk) (g.D.Disk.is_image c.put_event.new.disk) x)
          (sym (plan_next capabilities a up.content m c.args.call.now up.array_is p.record.event p.fill p.compare c.args.reply plan same))
          (c.in-Ok.ensures.stands honest m up),
    )

pub returns-in-Ok-clause-left : goal.returns-in-Ok-clause-left
returns-in-Ok-clause-left g c = λ capabilities plan honest m up same.
    let p = c.args.planned.now in
    let a = c.args.core.now.array in
    let after = flat_applied a m c.args.call.now p.record.event (planned_bytes a.volatile c.args.call.now p.record.event p.fill p.compare) in
    leaves_weaker g.D.Disk.moment g.D.Disk.left_since c.args.disk.now c.put_event.new.disk (λ image. StandsKept m image ⊎ StandsKept after image) (LeftBy capabilities m c.args.call.now)
    (plan_left capabilities a up.content m c.args.call.now up.array_is p.record.event p.fill p.compare c.args.reply plan same)
    (c.in-Ok.ensures.left honest m up)

pub returns-in-Ok-clause-tables : goal.returns-in-Ok-clause-tables
returns-in-Ok-clause-tables g c =
    ap (λ (x : Array Entry). x.durable.geometry) c.in-Ok.ensures.core ∙ recorded_sizes c.args.core.now.array c.args.call.now c.args.planned.now.record

pub returns-in-Err-Read-clause-served : goal.returns-in-Err-Read-clause-served
returns-in-Err-Read-clause-served g c = λ capabilities plan honest m up same.
    let p = c.args.planned.now in
    let a = c.args.core.now.array in
    let unread = rw c.in-Err-Read.field-0-is at c.in-Err-Read.ensures.unread in
    let moves = rw c.in-Err-Read.field-0-is at c.in-Err-Read.ensures.moves in (
      plan_moves capabilities a up.content m c.args.call.now up.array_is p.record.event p.fill p.compare c.args.reply plan moves,
      c.read_failed.ensures
          ∙ ap (λ (b : Bool). read_failed_as (form_when b)) c.ends_command.ensures
          ∙ ap (λ (f : Form). read_failed_as f) (sym (plan_form capabilities a up.content m c.args.call.now up.array_is p.record.event p.fill p.compare c.args.reply plan)),
      unread honest m up,
    )

pub returns-in-Err-Read-clause-left : goal.returns-in-Err-Read-clause-left
returns-in-Err-Read-clause-left g c = λ capabilities plan honest m up same.
    let left = c.in-Err-Read.ensures.left honest m up in
    rw c.in-Err-Read.field-0-is at left

pub returns-clause-served : goal.returns-clause-served
returns-clause-served g c = λ capabilities plan honest m up same.
    let p = c.args.planned.now in
    let a = c.args.core.now.array in
    let after = flat_applied a m c.args.call.now p.record.event (planned_bytes a.volatile c.args.call.now p.record.event p.fill p.compare) in
    let next_is = plan_next capabilities a up.content m c.args.call.now up.array_is p.record.event p.fill p.compare c.args.reply plan same in
    let left0 = c.in-Err-Write.ensures.left honest m up in
    let left = rw c.in-Err-Write.field-0-is at left0 in (
      plan_journaled capabilities a up.content m c.args.call.now up.array_is p.record.event p.fill p.compare c.args.reply plan same,
      c.write_failed.ensures
          ∙ ap (λ (b : Bool). write_failed_as (form_when b)) c.ends_command-in-Err-Write.ensures
          ∙ ap (λ (f : Form). write_failed_as f) (sym (plan_form capabilities a up.content m c.args.call.now up.array_is p.record.event p.fill p.compare c.args.reply plan)),
      λ image is. ⊎_elim (λ stands. inl stands) (λ stands. inr (subst (λ (x : Array ChunkValue). StandsKept x image) (sym next_is) stands))
          (left.each image (g.met.D.Disk.counts_now c.put_event.new.disk (g.D.Disk.moment c.args.disk.now) image left.later is)),
    )

pub returns-clause-left : goal.returns-clause-left
returns-clause-left g c = λ capabilities plan honest m up same.
    let p = c.args.planned.now in
    let a = c.args.core.now.array in
    let after = flat_applied a m c.args.call.now p.record.event (planned_bytes a.volatile c.args.call.now p.record.event p.fill p.compare) in
    let left = c.in-Err-Write.ensures.left honest m up in
    leaves_weaker g.D.Disk.moment g.D.Disk.left_since c.args.disk.now c.put_event.new.disk (λ image. StandsKept m image ⊎ StandsKept after image) (LeftBy capabilities m c.args.call.now)
    (plan_left capabilities a up.content m c.args.call.now up.array_is p.record.event p.fill p.compare c.args.reply plan same)
    (rw c.in-Err-Write.field-0-is at left)

pub returns-in-Ok-clause-told : goal.returns-in-Ok-clause-told
returns-in-Ok-clause-told g c =
    let p = c.args.planned.now in
    plan_tells c.requires.plan.0 c.args.core.now.array c.args.call.now p.record.event p.fill p.compare c.args.reply c.requires.plan.1

pub returns-in-Err-Read-clause-told : goal.returns-in-Err-Read-clause-told
returns-in-Err-Read-clause-told g c = ap cause_of c.read_failed.ensures ∙ read_told (form_when c.ends_command.result)

pub returns-clause-told : goal.returns-clause-told
returns-clause-told g c = ap cause_of c.write_failed.ensures ∙ write_told (form_when c.ends_command-in-Err-Write.result)
