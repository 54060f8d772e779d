use Rattle.std.proofs.Common.{◌+◌, None, take, count_by, refl, ◌∙◌, arith}
use Rattle.vv_entries.specs.declared.entry.Entry.{Entry}
use Rattle.vv_flat.specs.Bits.{unshared_bits}
use Rattle.vv_bitmap.specs.Stamps.{stamps_of}
use Rattle.vv_bitmap.proofs.BitLists.{set_adds, clear_adds, counted_chunk, counted_all, length-stamps}
use Rattle.vv_bitmap.proofs.part.count_differing.Goals as goal
use Rattle.vv_bitmap.proofs.part.count_differing.Goals.{then-is_unshared, else-is_unshared}

pub loop-i-preserved : goal.loop-i-preserved
loop-i-preserved c =
    let page = c.args.page.now in
    let base = stamps_of c.args.base.now in
    let i = c.loop-i.i in
    let none : Entry = record { place = None; stamp = 0 } in
    let b = c.is_unshared.result in
    let counted = counted_chunk page base i c.loop-i.count b none refl (omega arith) c.is_unshared.ensures c.loop-i.invariant.counted in
    let all = count_by (λ x. x) (take (i + 1) (unshared_bits (stamps_of page) base)) in
    let few = c.loop-i.invariant.few in
    elim c.if-is_unshared.branch [
      | then-is_unshared w ↦ record {
        counted = set_adds b c.loop-i.count c.if-is_unshared.count all w.if-is_unshared.true w.count-is counted;
        few = let more = w.count-is in omega arith;
      }
      | else-is_unshared w ↦ record {
        counted = clear_adds b c.loop-i.count c.if-is_unshared.count all w.if-is_unshared.false w.count-is counted;
        few = let same = w.count-is in omega arith;
      }
    ]

pub returns : goal.returns
returns c = c.loop-i.invariant.counted ∙ counted_all (stamps_of c.args.page.now) (stamps_of c.args.base.now) c.loop-i.i (let size = length-stamps c.args.page.now in omega arith)
