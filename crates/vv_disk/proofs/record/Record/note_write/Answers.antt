use Rattle.std.proofs.Common.{◌≡◌, ◌≤◌, ◌+◌, length, refl, ap, ◌∙◌, arith, length-append}
use Rattle.std.proofs.lemmas.Bool.{leb-true}
use Rattle.std.proofs.lemmas.List.{length_push}
use Rattle.std.proofs.lemmas.List.Sums.{sum_by_push}
use Rattle.std.specs.List.{sum_by}
use Rattle.vv_disk.specs.MemDisk.{Wrote, cost_of}
use Rattle.vv_disk.specs.Record.{done_of}
use Rattle.vv_disk.proofs.Records.{done_push, among_push}
use Rattle.vv_disk.proofs.record.Record.note_write.Goals as goal

pub invariant_of-self : goal.invariant_of-self
invariant_of-self c =
    let from : c.len.result ≡ length c.self.inside.bytes.items = omega arith in
    let bytes : length c.append.new.all.items ≡ length c.self.inside.bytes.items + length c.args.bytes.now =
    ap length c.append.ensures.items ∙ length-append c.self.inside.bytes.items c.args.bytes.now in
    let entries : length c.push_entry.new.entries.items ≡ length c.self.inside.entries.items + 1 =
    ap length c.push_entry.ensures.items ∙ length_push c.self.inside.entries.items _ in
    let more = done_push c.self.inside.entries.items c.self.inside.bytes.items c.args.bytes.now c.args.at c.len.result (length c.args.bytes.now) from (omega arith) c.self.invariant.among in
    let room : sum_by cost_of (done_of c.self.inside.entries.items c.self.inside.bytes.items) + (64 + length c.args.bytes.now) ≤ c.self.inside.room =
    leb-true _ _ (rw (← c.self.view_is) at c.requires) in
    record {
      among = rw (bytes, c.push_entry.ensures.items) (among_push c.self.inside.entries.items (length c.self.inside.bytes.items) (length c.args.bytes.now) c.args.at c.len.result (length c.args.bytes.now) from (omega arith) c.self.invariant.among);
      used = rw (bytes, entries, c.push_entry.ensures.items, c.append.ensures.items, more) (omega (arith, sum_by_push cost_of (done_of c.self.inside.entries.items c.self.inside.bytes.items) (Wrote c.args.at c.args.bytes.now), c.self.invariant.used));
      within = omega (arith, room, bytes, entries, c.self.invariant.used);
      entries_room = omega (arith, c.self.invariant.entries_room, c.push_entry.ensures.capacity);
      bytes_room = omega (arith, c.self.invariant.bytes_room, c.append.ensures.capacity);
    }

pub returns : goal.returns
returns c =
    let from : c.len.result ≡ length c.self.inside.bytes.items = omega arith in
    let more = done_push c.self.inside.entries.items c.self.inside.bytes.items c.args.bytes.now c.args.at c.len.result (length c.args.bytes.now) from (omega arith) c.self.invariant.among in
    rw (c.push_entry.ensures.items, c.append.ensures.items, more, ← c.self.view_is) refl
