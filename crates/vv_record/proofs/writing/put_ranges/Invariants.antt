use Rattle.std.proofs.Common.{◌≡◌, ◌≤◌, ◌+◌, ◌*◌, ◌++◌, length, take}
use Rattle.std.specs.List.{flat_map}
use Rattle.vv_fields.specs.Fields.{be_bytes}
use Rattle.vv_record.specs.Spelling.{range_spelling}
use Rattle.vv_record.proofs.writing.put_ranges.Given as goal

abbrev pub invariant-loop-range : goal.invariant-loop-range
invariant-loop-range l = record {
  bytes : l.out.bytes ≡ l.fn.out.bytes ++ (be_bytes 1 (length l.items) ++ flat_map range_spelling (take l.range-index l.items));
  left : l.fn.out.left ≤ l.out.left + (1 + 8 * l.range-index);
}
