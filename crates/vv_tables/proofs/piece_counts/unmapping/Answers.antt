use Rattle.std.proofs.Common.{◌+◌, sym, ap, ◌∙◌, arith}
use Rattle.vv_vols.specs.Shelf.{pieces_in}
use Rattle.vv_tables.specs.Copies.{stamps_in, shaped_piece, shaped_pieces, is_unmapping}
use Rattle.vv_tables.proofs.PieceCounts.{counted_more, counted_same, test_at}
use Rattle.vv_tables.proofs.piece_counts.unmapping.Goals as goal
use Rattle.vv_tables.proofs.piece_counts.unmapping.Goals.{then-unmaps, else-unmaps}

pub loop-at-preserved : goal.loop-at-preserved
loop-at-preserved c =
    let s = c.args.shelf.now.shelf in
    let stamps = stamps_in s c.args.target.0 in
    let pieces = pieces_in s c.args.held.now.number in
    let at = c.loop-at.at in
    let told = test_at shaped_piece (is_unmapping stamps) pieces at c.unmaps.result c.unmaps.ensures in
    elim c.if-unmaps.branch [
      | then-unmaps w ↦ record {
        counted = w.count-is ∙ ap (λ n. n + 1) c.loop-at.invariant.counted
            ∙ sym (counted_more (is_unmapping stamps) (shaped_pieces pieces) at told.0 told.1.0 (told.1.1 ∙ w.if-unmaps.true));
        few = let was = c.loop-at.invariant.few in omega (arith, w.count-is, was);
      }
      | else-unmaps w ↦ record {
        counted = w.count-is ∙ c.loop-at.invariant.counted
            ∙ sym (counted_same (is_unmapping stamps) (shaped_pieces pieces) at told.0 told.1.0 (told.1.1 ∙ w.if-unmaps.false));
        few = let was = c.loop-at.invariant.few in omega (arith, w.count-is, was);
      }
    ]
