use Rattle.std.proofs.Common.{ℕ, ◌≡◌, ◌+◌, ◌*◌, ◌-◌, ◌<◌, ◌≤◌, List, length, min, sym, ap, ◌∙◌, arith}
use Rattle.std.specs.Prelude.{slice_index}
use Rattle.vv_flat.specs.Chunks.{shape_of_tables}
use Rattle.vv_flat.specs.Space.{allocating_pieces}
use Rattle.vv_flat.specs.Changes.{stamps_of}
use Rattle.vv_bitmap.specs.Stamps.{stamps_of as stamps_on}
use Rattle.vv_bitmap.proofs.BitLists.{length-stamps}
use Rattle.vv_judge.specs.Differences.{one_piece, one_allocating, pieces_from}
use Rattle.vv_judge.proofs.CopySizes.{length_more, allocating_more, one_at_most, fewer_allocate, on_page, page_length, page_end, equal_page}
use Rattle.vv_judge.proofs.differences.with_page.Goals as goal

pub returns-then-is_shared-clause-pieces : goal.returns-then-is_shared-clause-pieces
returns-then-is_shared-clause-pieces c =
    ap (λ l. c.args.counted.pieces + length l) (sym (equal_page (stamps_of (shape_of_tables c.args.tables.now.durable) c.args.source.0) (stamps_of (shape_of_tables c.args.tables.now.durable) c.args.base.0) c.args.k (c.is_shared.ensures c.if-is_shared.true)))

pub returns-then-is_shared-clause-allocating : goal.returns-then-is_shared-clause-allocating
returns-then-is_shared-clause-allocating c =
    ap (λ l. c.args.counted.allocating + allocating_pieces (stamps_of (shape_of_tables c.args.tables.now.durable) c.args.target.0) l) (sym (equal_page (stamps_of (shape_of_tables c.args.tables.now.durable) c.args.source.0) (stamps_of (shape_of_tables c.args.tables.now.durable) c.args.base.0) c.args.k (c.is_shared.ensures c.if-is_shared.true)))

pub loop-i-init : goal.loop-i-init
loop-i-init c =
    let s : List ℕ = (stamps_of (shape_of_tables c.args.tables.now.durable) c.args.source.0) in
    let b : List ℕ = (stamps_of (shape_of_tables c.args.tables.now.durable) c.args.base.0) in
    let t : List ℕ = (stamps_of (shape_of_tables c.args.tables.now.durable) c.args.target.0) in
    let first : 64 * c.args.k + 0 ≡ 64 * c.args.k = omega arith in
    record {
      pieces = ap (λ n. c.args.counted.pieces + length (pieces_from s b n)) first;
      allocating = ap (λ n. c.args.counted.allocating + allocating_pieces t (pieces_from s b n)) first;
      fewer = c.requires.fewer;
      few = omega (arith, c.requires.few);
    }

pub with_one_more-more-requires-clause-room : goal.with_one_more-more-requires-clause-room
with_one_more-more-requires-clause-room c =
    let s : List ℕ = (stamps_of (shape_of_tables c.args.tables.now.durable) c.args.source.0) in
    let b : List ℕ = (stamps_of (shape_of_tables c.args.tables.now.durable) c.args.base.0) in
    let t : List ℕ = (stamps_of (shape_of_tables c.args.tables.now.durable) c.args.target.0) in
    let size : length (stamps_on c.page_of-page.result.now) ≡ min 64 (length s - 64 * c.args.k) = page_length s (stamps_on c.page_of-page.result.now) c.args.k c.page_of-page.ensures in
    let same : length (stamps_on c.page_of-page.result.now) ≡ length c.page_of-page.result.now = length-stamps c.page_of-page.result.now in
    let few = c.loop-i.invariant.few in
    let inside = c.loop-i-test.true in
    omega (arith, size, same, few, inside, c.chunks_of-chunks.ensures.few, c.chunks_of-chunks.ensures.exact, c.requires.page)

pub with_one_more-more-requires-clause-fewer : goal.with_one_more-more-requires-clause-fewer
with_one_more-more-requires-clause-fewer c = c.loop-i.invariant.fewer

pub loop-i-preserved : goal.loop-i-preserved
loop-i-preserved c =
    let s : List ℕ = (stamps_of (shape_of_tables c.args.tables.now.durable) c.args.source.0) in
    let b : List ℕ = (stamps_of (shape_of_tables c.args.tables.now.durable) c.args.base.0) in
    let t : List ℕ = (stamps_of (shape_of_tables c.args.tables.now.durable) c.args.target.0) in
    let i : ℕ = c.loop-i.i in
    let k : ℕ = c.args.k in
    let size : length (stamps_on c.page_of-page.result.now) ≡ min 64 (length s - 64 * k) = page_length s (stamps_on c.page_of-page.result.now) k c.page_of-page.ensures in
    let same : length (stamps_on c.page_of-page.result.now) ≡ length c.page_of-page.result.now = length-stamps c.page_of-page.result.now in
    let short : i < 64 = omega (arith, size, same, c.loop-i-test.true) in
    let inside : 64 * k + i < length s = omega (arith, size, same, c.loop-i-test.true) in
    let stamp : c.stamp_on-stamp.result ≡ slice_index s (64 * k + i) = c.stamp_on-stamp.ensures ∙ on_page s (stamps_on c.page_of-page.result.now) k i c.page_of-page.ensures short in
    let base_stamp : c.stamp_on-base_stamp.result ≡ slice_index b (64 * k + i) = c.stamp_on-base_stamp.ensures ∙ on_page b (stamps_on c.page_of-base_page.result.now) k i c.page_of-base_page.ensures short in
    let target_stamp : c.stamp_on-target_stamp.result ≡ slice_index t (64 * k + i) = c.stamp_on-target_stamp.ensures ∙ on_page t (stamps_on c.page_of-target_page.result.now) k i c.page_of-target_page.ensures short in
    let piece : one_piece c.stamp_on-stamp.result c.stamp_on-base_stamp.result ≡ one_piece (slice_index s (64 * k + i)) (slice_index b (64 * k + i)) =
    ap (λ n. one_piece n c.stamp_on-base_stamp.result) stamp ∙ ap (one_piece (slice_index s (64 * k + i))) base_stamp in
    let allocating : one_allocating c.stamp_on-stamp.result c.stamp_on-base_stamp.result c.stamp_on-target_stamp.result ≡ one_allocating (slice_index s (64 * k + i)) (slice_index b (64 * k + i)) (slice_index t (64 * k + i)) =
    ap (λ n. one_allocating n c.stamp_on-base_stamp.result c.stamp_on-target_stamp.result) stamp
    ∙ ap (λ n. one_allocating (slice_index s (64 * k + i)) n c.stamp_on-target_stamp.result) base_stamp
    ∙ ap (one_allocating (slice_index s (64 * k + i)) (slice_index b (64 * k + i))) target_stamp in
    let next : 64 * k + i + 1 ≡ 64 * k + (i + 1) = omega arith in
    let more : length (pieces_from s b (64 * k + i)) ≡ one_piece (slice_index s (64 * k + i)) (slice_index b (64 * k + i)) + length (pieces_from s b (64 * k + (i + 1))) =
    length_more s b (64 * k + i) inside ∙ ap (λ n. one_piece (slice_index s (64 * k + i)) (slice_index b (64 * k + i)) + length (pieces_from s b n)) next in
    let more_allocate : allocating_pieces t (pieces_from s b (64 * k + i)) ≡ one_allocating (slice_index s (64 * k + i)) (slice_index b (64 * k + i)) (slice_index t (64 * k + i)) + allocating_pieces t (pieces_from s b (64 * k + (i + 1))) =
    allocating_more s b t (64 * k + i) inside ∙ ap (λ n. one_allocating (slice_index s (64 * k + i)) (slice_index b (64 * k + i)) (slice_index t (64 * k + i)) + allocating_pieces t (pieces_from s b n)) next in
    let one : one_piece c.stamp_on-stamp.result c.stamp_on-base_stamp.result ≤ 1 = one_at_most c.stamp_on-stamp.result c.stamp_on-base_stamp.result in
    let less : one_allocating c.stamp_on-stamp.result c.stamp_on-base_stamp.result c.stamp_on-target_stamp.result ≤ one_piece c.stamp_on-stamp.result c.stamp_on-base_stamp.result =
    fewer_allocate c.stamp_on-stamp.result c.stamp_on-base_stamp.result c.stamp_on-target_stamp.result in
    record {
      pieces = omega (arith, piece, more, c.with_one_more-more.ensures.pieces, c.loop-i.invariant.pieces);
      allocating = omega (arith, allocating, more_allocate, c.with_one_more-more.ensures.allocating, c.loop-i.invariant.allocating);
      fewer = omega (arith, less, c.with_one_more-more.ensures.pieces, c.with_one_more-more.ensures.allocating, c.loop-i.invariant.fewer);
      few = omega (arith, one, c.with_one_more-more.ensures.pieces, c.loop-i.invariant.few);
    }

pub returns-clause-pieces : goal.returns-clause-pieces
returns-clause-pieces c =
    let s : List ℕ = (stamps_of (shape_of_tables c.args.tables.now.durable) c.args.source.0) in
    let b : List ℕ = (stamps_of (shape_of_tables c.args.tables.now.durable) c.args.base.0) in
    let t : List ℕ = (stamps_of (shape_of_tables c.args.tables.now.durable) c.args.target.0) in
    let size : length (stamps_on c.page_of-page.result.now) ≡ min 64 (length s - 64 * c.args.k) = page_length s (stamps_on c.page_of-page.result.now) c.args.k c.page_of-page.ensures in
    let same : length (stamps_on c.page_of-page.result.now) ≡ length c.page_of-page.result.now = length-stamps c.page_of-page.result.now in
    let all : c.loop-i.i ≡ min 64 (length s - 64 * c.args.k) = omega (arith, size, same) in
    ap (λ l. c.loop-i.more.pieces + length l) (sym (page_end s b c.args.k c.loop-i.i all)) ∙ c.loop-i.invariant.pieces

pub returns-clause-allocating : goal.returns-clause-allocating
returns-clause-allocating c =
    let s : List ℕ = (stamps_of (shape_of_tables c.args.tables.now.durable) c.args.source.0) in
    let b : List ℕ = (stamps_of (shape_of_tables c.args.tables.now.durable) c.args.base.0) in
    let t : List ℕ = (stamps_of (shape_of_tables c.args.tables.now.durable) c.args.target.0) in
    let size : length (stamps_on c.page_of-page.result.now) ≡ min 64 (length s - 64 * c.args.k) = page_length s (stamps_on c.page_of-page.result.now) c.args.k c.page_of-page.ensures in
    let same : length (stamps_on c.page_of-page.result.now) ≡ length c.page_of-page.result.now = length-stamps c.page_of-page.result.now in
    let all : c.loop-i.i ≡ min 64 (length s - 64 * c.args.k) = omega (arith, size, same) in
    ap (λ l. c.loop-i.more.allocating + allocating_pieces t l) (sym (page_end s b c.args.k c.loop-i.i all)) ∙ c.loop-i.invariant.allocating

pub returns-clause-fewer : goal.returns-clause-fewer
returns-clause-fewer c = c.loop-i.invariant.fewer

pub returns-clause-few : goal.returns-clause-few
returns-clause-few c =
    let s : List ℕ = (stamps_of (shape_of_tables c.args.tables.now.durable) c.args.source.0) in
    let b : List ℕ = (stamps_of (shape_of_tables c.args.tables.now.durable) c.args.base.0) in
    let t : List ℕ = (stamps_of (shape_of_tables c.args.tables.now.durable) c.args.target.0) in
    let size : length (stamps_on c.page_of-page.result.now) ≡ min 64 (length s - 64 * c.args.k) = page_length s (stamps_on c.page_of-page.result.now) c.args.k c.page_of-page.ensures in
    let same : length (stamps_on c.page_of-page.result.now) ≡ length c.page_of-page.result.now = length-stamps c.page_of-page.result.now in
    omega (arith, size, same, c.loop-i.invariant.few)
