use Rattle.std.proofs.Common.{◌≡◌, ◌≤◌, ◌+◌, ◌*◌, ◌++◌, length, take}
use Rattle.std.specs.List.{flat_map}
use Rattle.vv_fields.specs.Fields.{be_bytes}
use Rattle.vv_record.specs.Spelling.{offer_spelling}
use Rattle.vv_record.proofs.writing.put_offers.Given as goal

abbrev pub invariant-loop-offer : goal.invariant-loop-offer
invariant-loop-offer l = record {
  bytes : l.out.bytes ≡ l.fn.out.bytes ++ (be_bytes 1 (length l.items) ++ flat_map offer_spelling (take l.offer-index l.items));
  left : l.fn.out.left ≤ l.out.left + (1 + 33 * l.offer-index);
}
