use Rattle.std.proofs.Common.{ℕ, ◌≡◌, ◌+◌, ◌*◌, ◌≤◌, List, length, ap, ◌∙◌, arith}
use Rattle.vv_flat.specs.Chunks.{shape_of_tables}
use Rattle.vv_flat.specs.Space.{allocating_pieces}
use Rattle.vv_flat.specs.Tasks.{difference}
use Rattle.vv_flat.specs.Changes.{stamps_of}
use Rattle.vv_judge.specs.Differences.{pieces_from}
use Rattle.vv_judge.proofs.CopySizes.{from_start, none_left}
use Rattle.vv_judge.proofs.differences.differences.Goals as goal

pub loop-k-init : goal.loop-k-init
loop-k-init c =
    let s : List ℕ = (stamps_of (shape_of_tables c.args.tables.now.durable) c.args.source.0) in
    let b : List ℕ = (stamps_of (shape_of_tables c.args.tables.now.durable) c.args.base.0) in
    let t : List ℕ = (stamps_of (shape_of_tables c.args.tables.now.durable) c.args.target.0) in
    let first : 64 * 0 ≡ 0 = omega arith in
    let all : pieces_from s b (64 * 0) ≡ difference (λ x. x) s b = ap (pieces_from s b) first ∙ from_start s b in
    record {
      pieces = ap (λ l. 0 + length l) all ∙ omega arith;
      allocating = ap (λ l. 0 + allocating_pieces t l) all ∙ omega arith;
      fewer = omega arith;
      few = omega arith;
    }

pub with_page-counted-requires-clause-fewer : goal.with_page-counted-requires-clause-fewer
with_page-counted-requires-clause-fewer c = c.loop-k.invariant.fewer

pub with_page-counted-requires-clause-few : goal.with_page-counted-requires-clause-few
with_page-counted-requires-clause-few c = c.loop-k.invariant.few

pub loop-k-preserved : goal.loop-k-preserved
loop-k-preserved c = record {
  pieces = c.with_page-counted.ensures.pieces ∙ c.loop-k.invariant.pieces;
  allocating = c.with_page-counted.ensures.allocating ∙ c.loop-k.invariant.allocating;
  fewer = c.with_page-counted.ensures.fewer;
  few = c.with_page-counted.ensures.few;
}

pub returns-clause-pieces : goal.returns-clause-pieces
returns-clause-pieces c =
    let s : List ℕ = (stamps_of (shape_of_tables c.args.tables.now.durable) c.args.source.0) in
    let b : List ℕ = (stamps_of (shape_of_tables c.args.tables.now.durable) c.args.base.0) in
    let t : List ℕ = (stamps_of (shape_of_tables c.args.tables.now.durable) c.args.target.0) in
    let past : length s ≤ 64 * c.loop-k.k = omega arith in
    let done : length (pieces_from s b (64 * c.loop-k.k)) ≡ 0 = ap length (none_left s b (64 * c.loop-k.k) past) in
    omega (arith, done, c.loop-k.invariant.pieces)

pub returns-clause-allocating : goal.returns-clause-allocating
returns-clause-allocating c =
    let s : List ℕ = (stamps_of (shape_of_tables c.args.tables.now.durable) c.args.source.0) in
    let b : List ℕ = (stamps_of (shape_of_tables c.args.tables.now.durable) c.args.base.0) in
    let t : List ℕ = (stamps_of (shape_of_tables c.args.tables.now.durable) c.args.target.0) in
    let past : length s ≤ 64 * c.loop-k.k = omega arith in
    let done : allocating_pieces t (pieces_from s b (64 * c.loop-k.k)) ≡ 0 = ap (allocating_pieces t) (none_left s b (64 * c.loop-k.k) past) in
    omega (arith, done, c.loop-k.invariant.allocating)
