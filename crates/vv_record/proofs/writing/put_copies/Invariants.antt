use Rattle.std.proofs.Common.{◌≡◌, ◌≤◌, ◌+◌, ◌*◌, ◌++◌, length, take}
use Rattle.std.specs.List.{flat_map}
use Rattle.vv_fields.specs.Fields.{be_bytes}
use Rattle.vv_record.specs.Spelling.{copy_spelling}
use Rattle.vv_record.proofs.writing.put_copies.Given as goal

abbrev pub invariant-loop-copy : goal.invariant-loop-copy
invariant-loop-copy l = record {
  bytes : l.out.bytes ≡ l.fn.out.bytes ++ (be_bytes 1 (length l.items) ++ flat_map copy_spelling (take l.copy-index l.items));
  left : l.fn.out.left ≤ l.out.left + (1 + 8 * l.copy-index);
}
