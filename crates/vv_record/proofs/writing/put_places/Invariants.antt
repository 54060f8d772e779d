use Rattle.std.proofs.Common.{◌≡◌, ◌≤◌, ◌+◌, ◌*◌, ◌++◌, length, take}
use Rattle.std.specs.List.{flat_map}
use Rattle.vv_fields.specs.Fields.{be_bytes}
use Rattle.vv_record.specs.Spelling.{place_spelling}
use Rattle.vv_record.proofs.writing.put_places.Given as goal

abbrev pub invariant-loop-place : goal.invariant-loop-place
invariant-loop-place l = record {
  bytes : l.out.bytes ≡ l.fn.out.bytes ++ (be_bytes 2 (length l.items) ++ flat_map place_spelling (take l.place-index l.items));
  left : l.fn.out.left ≤ l.out.left + (2 + 4 * l.place-index);
}
