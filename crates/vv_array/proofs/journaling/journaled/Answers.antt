use Rattle.std.proofs.Common.{◌≡◌, inl, ℕ, List, Option, Bool, true, refl, sym, ap, ◌∙◌, subst}
use Rattle.vv_disk.proofs.Moments.{started, leaves_weaker, leaves_joined}
use Rattle.vv_flat.specs.State.{Array}
use Rattle.vv_flat.specs.Chunks.{Entry}
use Rattle.vv_event.specs.Events.{change_of}
use Rattle.vv_meaning.specs.Asks.{Form}
use Rattle.vv_meaning.specs.Told.{read_failed_as}
use Rattle.vv_meaning.specs.Meaning.{next, blocks_at, differs}
use Rattle.vv_reply.specs.declared.reply.Reply.{Reply}
use Rattle.vv_reply.specs.Replies.{FitsReply}
use Rattle.vv_core.specs.Core.{passed}
use Rattle.vv_core.specs.Plans.{IsJournalPlan, blocks_compared, blocks_written, payload_of}
use Rattle.vv_array.specs.Standing.{UpOn, StandsKept}
use Rattle.vv_array.specs.Moments.{LeftBy}
use Rattle.vv_array.specs.Served.{LeftIn}
use Rattle.vv_array.specs.Faults.{cause_of}
use Rattle.vv_array.specs.Telling.{form_when}
use Rattle.vv_array.proofs.Stands.{up_stands}
use Rattle.vv_array.proofs.ServedCalls.{left_before, read_told, read_fits}
use Rattle.vv_array.proofs.ComparedCalls.{passed_sizes, differs_prepared, up_read, differing_reply, differing_up, write_chunks}
use Rattle.vv_array.proofs.PlannedEvents.{plan_moves, plan_form}
use Rattle.vv_array.proofs.journaling.journaled.Goals as goal

pub returns-in_default-clause-left : goal.returns-in_default-clause-left
returns-in_default-clause-left g c = λ capabilities plan honest m up.
    let disk = c.args.disk.now in
    started g.D.Disk.moment g.D.Disk.left_since disk (StandsKept m)
    (λ image left. up_stands c.args.journal.now c.args.core.now.array (g.D.Disk.content disk) (g.D.Disk.is_image disk) m up image (g.met.D.Disk.only_now disk image left))

pub returns-in_default-block_buffer-clause-left : goal.returns-in_default-block_buffer-clause-left
returns-in_default-block_buffer-clause-left g c = λ capabilities plan honest m up.
    let disk = c.args.disk.now in
    started g.D.Disk.moment g.D.Disk.left_since disk (StandsKept m)
    (λ image left. up_stands c.args.journal.now c.args.core.now.array (g.D.Disk.content disk) (g.D.Disk.is_image disk) m up image (g.met.D.Disk.only_now disk image left))

pub returns-in_default-prepare_event-clause-left : goal.returns-in_default-prepare_event-clause-left
returns-in_default-prepare_event-clause-left g c = λ capabilities plan honest m up.
    let disk = c.args.disk.now in
    started g.D.Disk.moment g.D.Disk.left_since disk (StandsKept m)
    (λ image left. up_stands c.args.journal.now c.args.core.now.array (g.D.Disk.content disk) (g.D.Disk.is_image disk) m up image (g.met.D.Disk.only_now disk image left))

pub returns-in-Ok-true-clause-left : goal.returns-in-Ok-true-clause-left
returns-in-Ok-true-clause-left g c = λ capabilities plan honest m up.
    let disk = c.args.disk.now in
    leaves_weaker g.D.Disk.moment g.D.Disk.left_since disk c.is_miscompare.new.disk (g.D.Disk.is_image disk) (LeftBy capabilities m c.args.call.now)
    (λ image is. inl (up_stands c.args.journal.now c.args.core.now.array (g.D.Disk.content disk) (g.D.Disk.is_image disk) m up image is))
    c.is_miscompare.ensures.any_moment

pub returns-in-Ok-true-clause-tables : goal.returns-in-Ok-true-clause-tables
returns-in-Ok-true-clause-tables g c =
    ap (λ (x : Array Entry). x.durable.geometry) (c.pass.ensures.array ∙ ap (λ (x : Array Entry). passed x c.args.call.now) c.in-Ok-prepare_event.ensures.same)
    ∙ passed_sizes c.args.core.now.array c.args.call.now

pub returns-in-Ok-true-clause-served : goal.returns-in-Ok-true-clause-served
returns-in-Ok-true-clause-served g c = λ capabilities plan honest m up.
    let p = c.args.planned in
    let a = c.args.core.now.array in
    let call = c.args.call.now in
    let disk = c.args.disk.now in
    let later = c.is_miscompare.new.disk in
    let same = c.in-Ok-prepare_event.ensures.same in
    let other = differs_prepared (g.D.Disk.content disk) c.prepare_event.new.self.array a up.content m call p.record.event p.compare c.in-Ok-true.field-0 same up.told_is up.array_is c.in-Ok-true.ensures.told ∙ c.in-Ok-true.field-0-test in
    let kept = up_read c.args.journal.now a (g.D.Disk.content disk) (g.D.Disk.content later) (g.D.Disk.is_image disk) (g.D.Disk.is_image later) m c.is_miscompare.ensures.content c.is_miscompare.ensures.images up in (
      c.miscompared.ensures ∙ sym (differing_reply capabilities a up.content m call up.array_is p.record.event p.fill p.compare c.args.reply plan other),
      subst (λ (x : Array Entry). UpOn c.args.journal.now x (g.D.Disk.content later) (g.D.Disk.is_image later) (next capabilities m call))
          (sym (c.pass.ensures.array ∙ ap (λ (x : Array Entry). passed x call) same))
          (differing_up capabilities a up.content m call up.array_is p.record.event p.fill p.compare c.args.reply plan other c.args.journal.now (g.D.Disk.content later) (g.D.Disk.is_image later) kept),
    )

pub returns-in-Ok-false-clause-served : goal.returns-in-Ok-false-clause-served
returns-in-Ok-false-clause-served g c = λ capabilities plan honest m up.
    let p = c.args.planned in
    let a = c.args.core.now.array in
    let a1 = c.prepare_event.new.self.array in
    let call = c.args.call.now in
    let disk = c.args.disk.now in
    let later = c.is_miscompare.new.disk in
    let same = c.in-Ok-prepare_event.ensures.same in
    let equal = differs_prepared (g.D.Disk.content disk) a1 a up.content m call p.record.event p.compare c.in-Ok-false.field-0 same up.told_is up.array_is c.in-Ok-false.ensures.told ∙ c.in-Ok-false.field-0-test in
    let kept = up_read c.args.journal.now a (g.D.Disk.content disk) (g.D.Disk.content later) (g.D.Disk.is_image disk) (g.D.Disk.is_image later) m c.is_miscompare.ensures.content c.is_miscompare.ensures.images up in
    c.put_or_tell.ensures.served capabilities
    (subst (λ (x : Array Entry). IsJournalPlan capabilities x call p.record.event p.fill p.compare c.args.reply) (sym same) plan)
    (c.is_miscompare.ensures.honesty.1 honest) m
    (subst (λ (x : Array Entry). UpOn c.args.journal.now x (g.D.Disk.content later) (g.D.Disk.is_image later) m) (sym same) kept)
    (ap (λ (x : Array Entry). differs (blocks_at m.durable) (change_of p.record.event) (blocks_compared p.compare (blocks_written p.record.event) (payload_of x.volatile call))) same ∙ equal)

pub returns-in-Ok-false-clause-left : goal.returns-in-Ok-false-clause-left
returns-in-Ok-false-clause-left g c = λ capabilities plan honest m up.
    let p = c.args.planned in
    let a = c.args.core.now.array in
    let a1 = c.prepare_event.new.self.array in
    let call = c.args.call.now in
    let disk = c.args.disk.now in
    let later = c.is_miscompare.new.disk in
    let same = c.in-Ok-prepare_event.ensures.same in
    let equal = differs_prepared (g.D.Disk.content disk) a1 a up.content m call p.record.event p.compare c.in-Ok-false.field-0 same up.told_is up.array_is c.in-Ok-false.ensures.told ∙ c.in-Ok-false.field-0-test in
    let kept = up_read c.args.journal.now a (g.D.Disk.content disk) (g.D.Disk.content later) (g.D.Disk.is_image disk) (g.D.Disk.is_image later) m c.is_miscompare.ensures.content c.is_miscompare.ensures.images up in
    leaves_joined g.D.Disk.moment g.D.Disk.left_since disk later c.put_or_tell.new.disk (LeftIn capabilities m call c.put_or_tell.result)
    (leaves_weaker g.D.Disk.moment g.D.Disk.left_since disk later (g.D.Disk.is_image disk) (LeftIn capabilities m call c.put_or_tell.result)
    (λ image is. left_before capabilities m call c.put_or_tell.result image (up_stands c.args.journal.now a (g.D.Disk.content disk) (g.D.Disk.is_image disk) m up image is))
    c.is_miscompare.ensures.any_moment)
    (c.put_or_tell.ensures.left capabilities
    (subst (λ (x : Array Entry). IsJournalPlan capabilities x call p.record.event p.fill p.compare c.args.reply) (sym same) plan)
    (c.is_miscompare.ensures.honesty.1 honest) m
    (subst (λ (x : Array Entry). UpOn c.args.journal.now x (g.D.Disk.content later) (g.D.Disk.is_image later) m) (sym same) kept)
    (ap (λ (x : Array Entry). differs (blocks_at m.durable) (change_of p.record.event) (blocks_compared p.compare (blocks_written p.record.event) (payload_of x.volatile call))) same ∙ equal))

pub returns-clause-served : goal.returns-clause-served
returns-clause-served g c = λ capabilities plan honest m up.
    let p = c.args.planned in
    let a = c.args.core.now.array in
    let call = c.args.call.now in
    let disk = c.args.disk.now in
    let later = c.is_miscompare.new.disk in
    let same = c.in-Ok-prepare_event.ensures.same in
    let kept = up_read c.args.journal.now a (g.D.Disk.content disk) (g.D.Disk.content later) (g.D.Disk.is_image disk) (g.D.Disk.is_image later) m c.is_miscompare.ensures.content c.is_miscompare.ensures.images up in (
      plan_moves capabilities a up.content m call up.array_is p.record.event p.fill p.compare c.args.reply plan (write_chunks a.durable (change_of p.record.event) c.in-Err.ensures.moves),
      c.read_failed.ensures
          ∙ ap (λ (b : Bool). read_failed_as (form_when b)) c.ends_command.ensures
          ∙ ap (λ (f : Form). read_failed_as f) (sym (plan_form capabilities a up.content m call up.array_is p.record.event p.fill p.compare c.args.reply plan)),
      subst (λ (x : Array Entry). UpOn c.args.journal.now x (g.D.Disk.content later) (g.D.Disk.is_image later) m) (sym (c.give_up.ensures.array ∙ same)) kept,
    )

pub returns-clause-left : goal.returns-clause-left
returns-clause-left g c = λ capabilities plan honest m up.
    let disk = c.args.disk.now in
    leaves_weaker g.D.Disk.moment g.D.Disk.left_since disk c.is_miscompare.new.disk (g.D.Disk.is_image disk) (StandsKept m)
    (λ image is. up_stands c.args.journal.now c.args.core.now.array (g.D.Disk.content disk) (g.D.Disk.is_image disk) m up image is)
    c.is_miscompare.ensures.any_moment

pub returns-clause-fits : goal.returns-clause-fits
returns-clause-fits g c = subst (λ (r : Reply). FitsReply r) (sym c.read_failed.ensures) (read_fits (form_when c.ends_command.result))

pub returns-clause-told : goal.returns-clause-told
returns-clause-told g c = ap cause_of c.read_failed.ensures ∙ read_told (form_when c.ends_command.result)
