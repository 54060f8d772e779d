use Rattle.std.proofs.Common.{◌≡◌, ◌+◌, ◌≤◌, false, length, drop, ap, sym, ◌∙◌, arith}
use Rattle.std.proofs.lemmas.List.{length-replicate}
use Rattle.vv_flat.specs.Chunks.{shape_of_tables}
use Rattle.vv_flat.specs.Bits.{allocated_bits, bits_within}
use Rattle.vv_flat.specs.Changes.{stamps_of}
use Rattle.vv_plan.proofs.AskedBits.{filled, length-allocated, stands_in, size_seen, stamps_seen}
use Rattle.vv_plan.proofs.bitmaps.allocated_within.Goals as goal

pub allocated-requires-clause-standing : goal.allocated-requires-clause-standing
allocated-requires-clause-standing c = stands_in c.args.tables.now c.shelf.result.now c.args.id.0 c.shelf.ensures c.requires.standing

pub allocated-requires-clause-within : goal.allocated-requires-clause-within
allocated-requires-clause-within c =
    let n : length c.deref_mut.result.now ≡ c.args.range.count = ap length (c.deref_mut.ensures.value ∙ c.in_ok-bits.ensures) ∙ length-replicate c.args.range.count false in
    omega (arith, n, c.requires.within, size_seen c.args.tables.now c.shelf.result.now c.args.id.0 c.shelf.ensures)

pub returns : goal.returns
returns c =
    let n : length c.deref_mut.result.now ≡ c.args.range.count = ap length (c.deref_mut.ensures.value ∙ c.in_ok-bits.ensures) ∙ length-replicate c.args.range.count false in
    let stamps = stamps_of (shape_of_tables c.args.tables.now.durable) c.args.id.0 in
    let fits : c.args.range.first + c.args.range.count ≤ length (allocated_bits stamps) = omega (arith, c.requires.within, length-allocated stamps) in
    c.of.ensures
    ∙ filled c.args.range.first c.args.range.count c.in_ok-bits.bits.len (length c.deref_mut.result.now) c.allocated.new.out (drop (length c.allocated.new.out) c.in_ok-bits.bits.items)
    (allocated_bits stamps) (sym c.deref_mut.ensures.len) n
    (c.allocated.ensures ∙ ap (λ s. bits_within c.args.range.first (length c.deref_mut.result.now) (allocated_bits s)) (stamps_seen c.args.tables.now c.shelf.result.now c.args.id.0 c.shelf.ensures))
    fits
