use Rattle.std.proofs.Common.{◌≡◌, ◌+◌, ◌*◌, ◌++◌, take, drop, ap, ◌∙◌, arith}
use Rattle.vv_bitmap.specs.Stamps.{bits_in}
use Rattle.vv_bitmap.proofs.BitLists.{part_joined}
use Rattle.vv_bitmap.proofs.bits.bits_against.Goals as goal

pub loop-done-preserved : goal.loop-done-preserved
loop-done-preserved c =
    let bits = bits_in c.args.shelf.now.shelf c.args.volume.0 c.args.base in
    let done = c.loop-done.done in
    let part = c.at-part.result in
    let from = c.at-part.ensures.place in
    let place : 64 * part.page + part.from ≡ c.args.first + done = omega arith in
    record {
      within = omega arith;
      put = part_joined c.put_part.new.out c.loop-done.out bits done part.count c.args.first c.loop-done.invariant.put
          (c.put_part.ensures ∙ ap (λ n. take done c.loop-done.out ++ take part.count (drop n bits)) place);
    }
