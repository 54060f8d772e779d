use Rattle.std.proofs.Common.{◌≡◌, ◌≤◌, ◌+◌, ◌*◌, ◌++◌, length, take}
use Rattle.std.specs.List.{flat_map}
use Rattle.vv_fields.specs.Fields.{be_bytes}
use Rattle.vv_record.specs.Spelling.{need_spelling}
use Rattle.vv_record.proofs.writing.put_needs.Given as goal

abbrev pub invariant-loop-need : goal.invariant-loop-need
invariant-loop-need l = record {
  bytes : l.out.bytes ≡ l.fn.out.bytes ++ (be_bytes 1 (length l.items) ++ flat_map need_spelling (take l.need-index l.items));
  left : l.fn.out.left ≤ l.out.left + (1 + 33 * l.need-index);
}
