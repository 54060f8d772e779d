use Rattle.std.proofs.Common.{◌≡◌, ◌+◌, ◌≤◌, false, length, drop, ap, sym, ◌∙◌, arith}
use Rattle.std.proofs.lemmas.List.{length-replicate}
use Rattle.vv_flat.specs.Chunks.{shape_of_tables}
use Rattle.vv_flat.specs.Bits.{unshared_bits, bits_within}
use Rattle.vv_flat.specs.Changes.{stamps_of}
use Rattle.vv_bitmap.specs.Stamps.{stamps_in}
use Rattle.vv_plan.proofs.AskedBits.{filled, length-unshared, stands_in, size_seen, stamps_seen}
use Rattle.vv_plan.proofs.bitmaps.unshared_within.Goals as goal

pub unshared-requires-clause-standing : goal.unshared-requires-clause-standing
unshared-requires-clause-standing c = stands_in c.args.tables.now c.shelf.result.now c.args.id.0 c.shelf.ensures c.requires.standing

pub unshared-requires-clause-base_standing : goal.unshared-requires-clause-base_standing
unshared-requires-clause-base_standing c = stands_in c.args.tables.now c.shelf.result.now c.args.base.0 c.shelf.ensures c.requires.base_standing

pub unshared-requires-clause-within : goal.unshared-requires-clause-within
unshared-requires-clause-within c =
    let n : length c.deref_mut.result.now ≡ c.args.range.count = ap length (c.deref_mut.ensures.value ∙ c.in_ok-bits.ensures) ∙ length-replicate c.args.range.count false in
    omega (arith, n, c.requires.within, size_seen c.args.tables.now c.shelf.result.now c.args.id.0 c.shelf.ensures)

pub returns : goal.returns
returns c =
    let n : length c.deref_mut.result.now ≡ c.args.range.count = ap length (c.deref_mut.ensures.value ∙ c.in_ok-bits.ensures) ∙ length-replicate c.args.range.count false in
    let stamps = stamps_of (shape_of_tables c.args.tables.now.durable) c.args.id.0 in
    let base = stamps_of (shape_of_tables c.args.tables.now.durable) c.args.base.0 in
    let fits : c.args.range.first + c.args.range.count ≤ length (unshared_bits stamps base) = omega (arith, c.requires.within, length-unshared stamps base) in
    c.of.ensures
    ∙ filled c.args.range.first c.args.range.count c.in_ok-bits.bits.len (length c.deref_mut.result.now) c.unshared.new.out (drop (length c.unshared.new.out) c.in_ok-bits.bits.items)
    (unshared_bits stamps base) (sym c.deref_mut.ensures.len) n
    (c.unshared.ensures
    ∙ ap (λ s. bits_within c.args.range.first (length c.deref_mut.result.now) (unshared_bits s (stamps_in c.shelf.result.now.shelf c.args.base.0))) (stamps_seen c.args.tables.now c.shelf.result.now c.args.id.0 c.shelf.ensures)
    ∙ ap (λ s. bits_within c.args.range.first (length c.deref_mut.result.now) (unshared_bits stamps s)) (stamps_seen c.args.tables.now c.shelf.result.now c.args.base.0 c.shelf.ensures))
    fits
