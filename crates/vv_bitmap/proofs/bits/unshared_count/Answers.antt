use Rattle.std.proofs.Common.{◌+◌, ◌*◌, take, count_by, ap, sym, ◌∙◌, arith}
use Rattle.vv_flat.specs.Bits.{unshared_bits}
use Rattle.vv_bitmap.specs.Stamps.{stamps_in}
use Rattle.vv_bitmap.proofs.BitLists.{counted_next, counted_few, counted_all, stamps_size}
use Rattle.vv_bitmap.proofs.bits.unshared_count.Goals as goal

pub overflow_add-count : goal.overflow_add-count
overflow_add-count c =
    let stamps = stamps_in c.args.shelf.now.shelf c.args.volume.0 in
    let base = stamps_in c.args.shelf.now.shelf c.args.base.0 in
    let next = counted_next stamps base c.loop-page.page in
    let few = counted_few stamps base (64 * (c.loop-page.page + 1)) in
    let size = stamps_size c.args.shelf.now.shelf c.args.volume.0 in
    omega arith

pub loop-page-preserved : goal.loop-page-preserved
loop-page-preserved c =
    let stamps = stamps_in c.args.shelf.now.shelf c.args.volume.0 in
    let base = stamps_in c.args.shelf.now.shelf c.args.base.0 in
    ap (λ n. n + c.count_bits-count.result) c.loop-page.invariant
    ∙ ap (λ n. count_by (λ b. b) (take (64 * c.loop-page.page) (unshared_bits stamps base)) + n) c.count_bits-count.ensures
    ∙ sym (counted_next stamps base c.loop-page.page)

pub returns : goal.returns
returns c =
    let size = stamps_size c.args.shelf.now.shelf c.args.volume.0 in
    c.loop-page.invariant ∙ counted_all (stamps_in c.args.shelf.now.shelf c.args.volume.0) (stamps_in c.args.shelf.now.shelf c.args.base.0) (64 * c.loop-page.page) (omega arith)
