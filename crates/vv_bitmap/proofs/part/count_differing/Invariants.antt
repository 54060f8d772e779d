use Rattle.std.proofs.Common.{◌≡◌, ◌≤◌, take, count_by}
use Rattle.vv_flat.specs.Bits.{unshared_bits}
use Rattle.vv_bitmap.specs.Stamps.{stamps_of}
use Rattle.vv_bitmap.proofs.part.count_differing.Given as goal

abbrev pub invariant-loop-i : goal.invariant-loop-i
invariant-loop-i l = record {
  counted : l.count ≡ count_by (λ b. b) (take l.i (unshared_bits (stamps_of l.page) (stamps_of l.base)));
  few : l.count ≤ l.i;
}
