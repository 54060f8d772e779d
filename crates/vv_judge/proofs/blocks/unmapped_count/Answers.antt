use Rattle.std.proofs.Common.{◌≡◌, ◌+◌, ◌-◌, ◌≤◌, count_by, cond, ap, arith}
use Rattle.vv_flat.specs.Lists.{numbers_from}
use Rattle.vv_flat.specs.Chunks.{shape_of_tables}
use Rattle.vv_flat.specs.Changes.{stamps_of}
use Rattle.vv_judge.proofs.Ranges.{is_unmapped, count_step, count_end}
use Rattle.vv_judge.proofs.blocks.unmapped_count.Goals as goal

pub loop-index-init : goal.loop-index-init
loop-index-init c =
    let e : c.args.first + c.args.count - c.args.first ≡ c.args.count = omega arith in
    let same : count_by (is_unmapped (stamps_of (shape_of_tables c.args.tables.now.durable) c.args.id.0)) (numbers_from c.args.first (c.args.first + c.args.count - c.args.first)) ≡ count_by (is_unmapped (stamps_of (shape_of_tables c.args.tables.now.durable) c.args.id.0)) (numbers_from c.args.first c.args.count) =
    ap (λ n. count_by (is_unmapped (stamps_of (shape_of_tables c.args.tables.now.durable) c.args.id.0)) (numbers_from c.args.first n)) e in
    record { counted = omega (arith, same); few = omega arith }

pub loop-index-preserved : goal.loop-index-preserved
loop-index-preserved c =
    let step : count_by (is_unmapped (stamps_of (shape_of_tables c.args.tables.now.durable) c.args.id.0)) (numbers_from c.loop-index.index (c.args.first + c.args.count - c.loop-index.index))
    ≡ cond (is_unmapped (stamps_of (shape_of_tables c.args.tables.now.durable) c.args.id.0) c.loop-index.index) 1 0 + count_by (is_unmapped (stamps_of (shape_of_tables c.args.tables.now.durable) c.args.id.0)) (numbers_from (c.loop-index.index + 1) (c.args.first + c.args.count - (c.loop-index.index + 1))) =
    count_step (is_unmapped (stamps_of (shape_of_tables c.args.tables.now.durable) c.args.id.0)) c.loop-index.index (c.args.first + c.args.count) (omega arith) in
    let one : c.one_unmapped-unmapped.result ≤ 1 = grind (arith, c.one_unmapped-unmapped.ensures) in
    record {
      counted = omega (arith, step, c.one_unmapped-unmapped.ensures, c.loop-index.invariant.counted);
      few = omega (arith, one, c.loop-index.invariant.few);
    }

pub returns : goal.returns
returns c =
    let done : count_by (is_unmapped (stamps_of (shape_of_tables c.args.tables.now.durable) c.args.id.0)) (numbers_from c.loop-index.index (c.args.first + c.args.count - c.loop-index.index)) ≡ 0 =
    count_end (is_unmapped (stamps_of (shape_of_tables c.args.tables.now.durable) c.args.id.0)) c.loop-index.index (c.args.first + c.args.count) (omega arith) in
    omega (arith, done, c.loop-index.invariant.counted)
