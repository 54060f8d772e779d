use Rattle.std.proofs.Common.{◌+◌, sym, ap, ◌∙◌, arith}
use Rattle.vv_vols.specs.Shelf.{pieces_in}
use Rattle.vv_tables.specs.Copies.{stamps_in, shaped_piece, shaped_pieces, is_allocating}
use Rattle.vv_tables.proofs.PieceCounts.{counted_more, counted_same, test_at}
use Rattle.vv_tables.proofs.piece_counts.allocating.Goals as goal
use Rattle.vv_tables.proofs.piece_counts.allocating.Goals.{then-allocates, else-allocates}

pub loop-at-preserved : goal.loop-at-preserved
loop-at-preserved c =
    let s = c.args.shelf.now.shelf in
    let stamps = stamps_in s c.args.target.0 in
    let pieces = pieces_in s c.args.held.now.number in
    let at = c.loop-at.at in
    let told = test_at shaped_piece (is_allocating stamps) pieces at c.allocates.result c.allocates.ensures in
    elim c.if-allocates.branch [
      | then-allocates w ↦ record {
        counted = w.count-is ∙ ap (λ n. n + 1) c.loop-at.invariant.counted
            ∙ sym (counted_more (is_allocating stamps) (shaped_pieces pieces) at told.0 told.1.0 (told.1.1 ∙ w.if-allocates.true));
        few = let was = c.loop-at.invariant.few in omega (arith, w.count-is, was);
      }
      | else-allocates w ↦ record {
        counted = w.count-is ∙ c.loop-at.invariant.counted
            ∙ sym (counted_same (is_allocating stamps) (shaped_pieces pieces) at told.0 told.1.0 (told.1.1 ∙ w.if-allocates.false));
        few = let was = c.loop-at.invariant.few in omega (arith, w.count-is, was);
      }
    ]
