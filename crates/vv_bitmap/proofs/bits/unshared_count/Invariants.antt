use Rattle.std.proofs.Common.{◌≡◌, ◌*◌, take, count_by}
use Rattle.vv_flat.specs.Bits.{unshared_bits}
use Rattle.vv_bitmap.specs.Stamps.{stamps_in}
use Rattle.vv_bitmap.proofs.bits.unshared_count.Given as goal

abbrev pub invariant-loop-page : goal.invariant-loop-page
invariant-loop-page l = l.count ≡ count_by (λ b. b) (take (64 * l.page) (unshared_bits (stamps_in l.shelf.shelf l.volume.0) (stamps_in l.shelf.shelf l.base.0)))
