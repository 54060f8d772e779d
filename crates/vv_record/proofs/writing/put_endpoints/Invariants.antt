use Rattle.std.proofs.Common.{◌≡◌, ◌≤◌, ◌+◌, ◌*◌, ◌++◌, length, take}
use Rattle.std.specs.List.{flat_map}
use Rattle.vv_fields.specs.Fields.{be_bytes}
use Rattle.vv_record.specs.Spelling.{endpoint_spelling}
use Rattle.vv_record.proofs.writing.put_endpoints.Given as goal

abbrev pub invariant-loop-endpoint : goal.invariant-loop-endpoint
invariant-loop-endpoint l = record {
  bytes : l.out.bytes ≡ l.fn.out.bytes ++ (be_bytes 1 (length l.items) ++ flat_map endpoint_spelling (take l.endpoint-index l.items));
  left : l.fn.out.left ≤ l.out.left + (1 + 2 * l.endpoint-index);
}
