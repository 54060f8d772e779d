use Rattle.std.proofs.Common.{◌≡◌, ◌+◌, ◌≤◌, length, vec_len, ap, ◌∙◌, sym, arith}
use Rattle.std.specs.List.{sum_by}
use Rattle.std.proofs.lemmas.Bool.{leb-true}
use Rattle.std.proofs.lemmas.List.{with_items_is}
use Rattle.vv_disk.specs.Images.{overwritten}
use Rattle.vv_disk.specs.ImageLaws.{length-overwritten}
use Rattle.vv_disk.specs.MemDisk.{cost_of}
use Rattle.vv_disk.proofs.Keeping.{cost_floor, kept_write}
use Rattle.vv_disk.proofs.mem_disk.MemDisk.write_bytes.Goals as goal

pub push_span-requires : goal.push_span-requires
push_span-requires c =
    let room : sum_by cost_of c.self.inside.past.0 + (64 + length c.args.bytes.now) ≤ c.self.inside.past.1 = leb-true _ _ (sym c.has_room-has_room.ensures ∙ c.if-not-has_room.false) in
    omega (arith, room, cost_floor c.self.inside.past.0, c.self.invariant.kept.few, c.self.invariant.room)

pub invariant_of-self-2 : goal.invariant_of-self-2
invariant_of-self-2 c =
    let bytes : c.put.new.disk ≡ overwritten c.self.inside.content.items c.args.at c.args.bytes.now =
    c.put.ensures ∙ ap (λ l. overwritten l c.args.at c.args.bytes.now) c.deref_mut.ensures.value in
    let size : length c.put.new.disk ≡ vec_len c.self.inside.content =
    ap length bytes ∙ length-overwritten c.self.inside.content.items c.args.at c.args.bytes.now ∙ sym c.self.inside.content.ok.0 in
    let items = with_items_is c.self.inside.content c.put.new.disk size ∙ bytes in
    let fits : c.args.at + length c.args.bytes.now ≤ length c.self.inside.first.items = rw (← c.self.view_is) at c.requires in
    record {
      kept = rw (items, c.push_span.ensures.items, c.note_write.ensures) (kept_write _ _ _ _ _ c.args.at c.args.bytes.now fits c.self.invariant.kept);
      room = rw c.note_write.ensures (omega (arith, c.self.invariant.room, c.push_span.ensures.capacity));
    }
