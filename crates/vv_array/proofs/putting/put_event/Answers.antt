use Rattle.std.proofs.Common.{◌≡◌, ◌⊎◌, ℕ, List, IfSome, sym, subst}
use Rattle.vv_disk.proofs.Moments.{leaves_weaker, leaves_joined}
use Rattle.vv_flat.specs.State.{Array}
use Rattle.vv_flat.specs.Chunks.{Entry, ChunkValue}
use Rattle.vv_array.specs.Standing.{UpOn, StandsKept}
use Rattle.vv_array.specs.Chunks.{HasNewOf, flat_applied}
use Rattle.vv_array.specs.Payloads.{planned_bytes}
use Rattle.vv_array.specs.Puts.{LeftWhen}
use Rattle.vv_array.proofs.PutParts.{ok_then, read_of, left_first, left_either, left_fault}
use Rattle.vv_array.proofs.putting.put_event.Goals as goal

pub returns-in-Ok-clause-stands : goal.returns-in-Ok-clause-stands
returns-in-Ok-clause-stands g c =
    let a = c.args.core.now.array in
    let e = c.args.planned.now.record.event in
    let bytes = planned_bytes a.volatile c.args.call.now e c.args.planned.now.fill c.args.planned.now.compare in
    let told1 = g.D.Disk.content c.put_planned.new.disk in
    let images1 = g.D.Disk.is_image c.put_planned.new.disk in
    let Stands : Type 0 = g.D.Disk.is_honest c.put_planned.new.disk → (m : Array ChunkValue) → (new : List ℕ)
    → UpOn c.put_planned.new.journal a told1 images1 m → IfSome told1 (HasNewOf a e m new)
    → UpOn c.record_event.new.journal c.record_event.new.core.array (g.D.Disk.content c.record_event.new.disk) (g.D.Disk.is_image c.record_event.new.disk) (flat_applied a m c.args.call.now e new) in
    ok_then c.record_event.result Stands _ c.record_event.ensures.stands
    (λ stands honest m up. stands (c.put_planned.ensures.honesty.1 honest) m bytes (c.in-Ok.ensures.stands honest m up) (c.in-Ok.ensures.new honest m up))

pub returns-in-Ok-clause-left : goal.returns-in-Ok-clause-left
returns-in-Ok-clause-left g c = λ honest m up.
    let a = c.args.core.now.array in
    let e = c.args.planned.now.record.event in
    let bytes = planned_bytes a.volatile c.args.call.now e c.args.planned.now.fill c.args.planned.now.compare in
    let after = flat_applied a m c.args.call.now e bytes in
    let r = c.record_event.result in
    leaves_joined g.D.Disk.moment g.D.Disk.left_since c.args.disk.now c.put_planned.new.disk c.record_event.new.disk (LeftWhen r m after)
    (leaves_weaker g.D.Disk.moment g.D.Disk.left_since c.args.disk.now c.put_planned.new.disk (StandsKept m) (LeftWhen r m after) (left_first r m after) (c.put_planned.ensures.left honest m up))
    (leaves_weaker g.D.Disk.moment g.D.Disk.left_since c.put_planned.new.disk c.record_event.new.disk (λ image. StandsKept m image ⊎ StandsKept after image) (LeftWhen r m after)
    (left_either r m after c.record_event.ensures.fault)
    (c.record_event.ensures.left (c.put_planned.ensures.honesty.1 honest) m bytes (c.in-Ok.ensures.stands honest m up) (c.in-Ok.ensures.new honest m up)))

pub returns-in-Err-clause-unread : goal.returns-in-Err-clause-unread
returns-in-Err-clause-unread g c =
    let a = c.args.core.now.array in
    let told1 = g.D.Disk.content c.put_planned.new.disk in
    let images1 = g.D.Disk.is_image c.put_planned.new.disk in
    let Stands : Type 0 = g.D.Disk.is_honest c.args.disk.now → (m : Array ChunkValue)
    → UpOn c.args.journal.now a (g.D.Disk.content c.args.disk.now) (g.D.Disk.is_image c.args.disk.now) m
    → UpOn c.put_planned.new.journal a told1 images1 m in
    read_of Unit Unit c.in-Err.fault Stands _
    (λ stands honest m up. subst (λ (x : Array Entry). UpOn c.put_planned.new.journal x told1 images1 m) (sym c.give_up.ensures.array) (stands honest m up))
    c.in-Err.ensures.stands

pub returns-in-Err-clause-left : goal.returns-in-Err-clause-left
returns-in-Err-clause-left g c = λ honest m up.
    let a = c.args.core.now.array in
    let e = c.args.planned.now.record.event in
    let after = flat_applied a m c.args.call.now e (planned_bytes a.volatile c.args.call.now e c.args.planned.now.fill c.args.planned.now.compare) in
    leaves_weaker g.D.Disk.moment g.D.Disk.left_since c.args.disk.now c.put_planned.new.disk (StandsKept m) _ (left_fault Unit c.in-Err.fault m after) (c.put_planned.ensures.left honest m up)
