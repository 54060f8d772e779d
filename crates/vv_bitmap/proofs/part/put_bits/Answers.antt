use Rattle.std.proofs.Common.{◌+◌, ◌<◌, None, length, drop, refl, arith}
use Rattle.vv_entries.specs.declared.entry.Entry.{Entry}
use Rattle.vv_flat.specs.Bits.{unshared_bits}
use Rattle.vv_bitmap.specs.Stamps.{stamps_of}
use Rattle.vv_bitmap.proofs.BitLists.{bit_put, bit_read, length-page_bits}
use Rattle.vv_bitmap.proofs.part.put_bits.Goals as goal

pub loop-i-preserved : goal.loop-i-preserved
loop-i-preserved c =
    let page = c.args.page.now in
    let base = stamps_of c.args.base.now in
    let from = c.args.part.from in
    let i = c.loop-i.i in
    let none : Entry = record { place = None; stamp = 0 } in
    let size = length-page_bits page base from in
    let within : from + i < length page = omega arith in
    bit_put c.loop-i.out c.args.out.now (drop from (unshared_bits (stamps_of page) base)) c.args.at i c.is_unshared.result (omega arith) (omega arith)
    (bit_read page base from i c.is_unshared.result none refl within c.is_unshared.ensures) c.loop-i.invariant
