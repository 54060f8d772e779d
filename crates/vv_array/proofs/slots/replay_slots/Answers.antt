use Rattle.std.proofs.Common.{◌+◌, ℕ, refl, ap, ◌∙◌, arith}
use Rattle.vv_array.proofs.OnlyReading.{not_read, reads_joined}
use Rattle.vv_array.proofs.OpenedSlots.{come_first, come_more, come_through, past_geometry, past_half, past_count}
use Rattle.vv_array.proofs.slots.replay_slots.Goals as goal

pub loop-slot-init : goal.loop-slot-init
loop-slot-init g c =
    let disk = g.D.Disk in
    record {
      geometry = refl;
      half = refl;
      records = c.requires.first;
      waiting = c.requires.waiting;
      sizes = refl;
      come = come_first c.args.journal.now c.args.core.now.array.durable (disk.content c.args.disk.now) c.requires.first;
      reads = not_read disk.size disk.content disk.is_image disk.is_honest disk.moment disk.left_since disk.read_faults disk.write_faults c.args.disk.now (λ image left. g.met.D.Disk.only_now c.args.disk.now image left);
    }

pub loop-slot-preserved : goal.loop-slot-preserved
loop-slot-preserved g c =
    let disk = g.D.Disk in
    let before = c.loop-slot.invariant in
    let counted = c.in_ok-more.ensures.counted in
    record {
      geometry = past_geometry _ c.loop-slot.journal c.replay_next.new.journal counted ∙ before.geometry;
      half = past_half _ c.loop-slot.journal c.replay_next.new.journal counted ∙ before.half;
      records = past_count _ c.loop-slot.journal c.replay_next.new.journal c.if-not-more.false counted ∙ ap (λ (n : ℕ). n + 1) before.records;
      waiting = c.in_ok-more.ensures.waiting;
      sizes = c.in_ok-more.ensures.sizes ∙ before.sizes;
      come = come_more c.args.journal.now c.loop-slot.journal c.replay_next.new.journal c.args.core.now.array.durable c.loop-slot.core.array.durable c.replay_next.new.core.array.durable (disk.content c.args.disk.now) (disk.content c.loop-slot.disk) c.in_ok-more.more c.if-not-more.false
          before.reads.told counted before.come c.in_ok-more.ensures.passed;
      reads = reads_joined disk.size disk.content disk.is_image disk.is_honest disk.moment disk.left_since disk.read_faults disk.write_faults c.args.disk.now c.loop-slot.disk c.replay_next.new.disk before.reads c.replay_next.ensures.disk;
    }

pub returns-clause-replayed : goal.returns-clause-replayed
returns-clause-replayed g c =
    come_through c.args.journal.now c.loop-slot.journal c.args.core.now.array.durable c.loop-slot.core.array.durable (g.D.Disk.content c.args.disk.now)
    (omega (arith, c.loop-slot.invariant.records, c.loop-slot-test.false, c.loop-slot.auto.slot-end)) c.loop-slot.invariant.come
