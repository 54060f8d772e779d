use Rattle.std.proofs.Common.{◌≡◌, ◌+◌, ◌-◌, ◌≤◌, length, min, sym, ap, ◌∙◌, arith}
use Rattle.std.specs.List.{list_any}
use Rattle.vv_flat.specs.Lists.{numbers_from}
use Rattle.vv_flat.specs.Chunks.{shape_of_tables}
use Rattle.vv_flat.specs.Changes.{stamps_of}
use Rattle.vv_judge.proofs.Ranges.{unmapping, walk_stops, walk_goes_on, walk_ends, unmaps_there, stays_there}
use Rattle.vv_judge.proofs.blocks.unmaps_some.Goals as goal

pub loop-index-init : goal.loop-index-init
loop-index-init c =
    let e : c.args.range.now.first_chunk + c.args.range.now.chunks - c.args.range.now.first_chunk ≡ c.args.range.now.chunks = omega arith in
    ap (λ n. list_any (unmapping (stamps_of (shape_of_tables c.args.tables.now.durable) c.args.id.0)) (numbers_from c.args.range.now.first_chunk n)) e

pub returns-then-stamp_at-ne0 : goal.returns-then-stamp_at-ne0
returns-then-stamp_at-ne0 c =
    sym (walk_stops (stamps_of (shape_of_tables c.args.tables.now.durable) c.args.id.0) c.loop-index.index (c.args.range.now.first_chunk + c.args.range.now.chunks) (omega (arith, c.end_of-end.ensures))
    (unmaps_there (stamps_of (shape_of_tables c.args.tables.now.durable) c.args.id.0) c.loop-index.index c.stamp_at.result c.stamp_at.ensures c.if-stamp_at-ne0.true)) ∙ c.loop-index.invariant

pub loop-index-preserved : goal.loop-index-preserved
loop-index-preserved c =
    sym (walk_goes_on (stamps_of (shape_of_tables c.args.tables.now.durable) c.args.id.0) c.loop-index.index (c.args.range.now.first_chunk + c.args.range.now.chunks) (omega (arith, c.end_of-end.ensures))
    (stays_there (stamps_of (shape_of_tables c.args.tables.now.durable) c.args.id.0) c.loop-index.index c.stamp_at.result c.stamp_at.ensures c.if-stamp_at-ne0.false)) ∙ c.loop-index.invariant

pub returns : goal.returns
returns c =
    let ended : min (c.args.range.now.first_chunk + c.args.range.now.chunks) (length (stamps_of (shape_of_tables c.args.tables.now.durable) c.args.id.0)) ≤ c.loop-index.index = omega (arith, c.end_of-end.ensures, c.size.ensures) in
    sym (walk_ends (stamps_of (shape_of_tables c.args.tables.now.durable) c.args.id.0) c.loop-index.index (c.args.range.now.first_chunk + c.args.range.now.chunks) ended) ∙ c.loop-index.invariant
