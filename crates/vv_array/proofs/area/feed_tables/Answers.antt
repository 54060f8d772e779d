use Rattle.std.proofs.Common.{◌+◌, ℕ, sym, subst, arith}
use Rattle.std.proofs.lemmas.List.{length-take-le}
use Rattle.vv_array.specs.OpeningSteps.{IsFed}
use Rattle.vv_array.proofs.OnlyReading.{not_read, reads_joined}
use Rattle.vv_array.proofs.area.feed_tables.Goals as goal

pub loop-at-init : goal.loop-at-init
loop-at-init g c =
    let disk = g.D.Disk in
    record {
      within = omega arith;
      fed = c.requires.fed;
      reads = not_read disk.size disk.content disk.is_image disk.is_honest disk.moment disk.left_since disk.read_faults disk.write_faults c.args.disk.now (λ image left. g.met.D.Disk.only_now c.args.disk.now image left);
    }

pub feed_piece-requires-clause-fed : goal.feed_piece-requires-clause-fed
feed_piece-requires-clause-fed g c =
    subst (IsFed c.loop-at.reader c.args.head.now c.loop-at.at) (sym c.loop-at.invariant.reads.told) c.loop-at.invariant.fed

pub loop-at-preserved : goal.loop-at-preserved
loop-at-preserved g c =
    let disk = g.D.Disk in
    let before = c.loop-at.invariant in
    record {
      within = omega (arith, c.piece_len-count.ensures.within, c.loop-at-test.true);
      fed =
          subst (IsFed c.feed_piece.new.reader c.args.head.now (c.loop-at.at + c.piece_len-count.result)) before.reads.told
          (subst (λ (n : ℕ). IsFed c.feed_piece.new.reader c.args.head.now (c.loop-at.at + n) (disk.content c.loop-at.disk)) (length-take-le c.piece_len-count.result c.loop-at.buffer (omega (arith, c.piece_len-count.ensures.fits)))
          c.in_ok-feed_piece.ensures.fed);
      reads = reads_joined disk.size disk.content disk.is_image disk.is_honest disk.moment disk.left_since disk.read_faults disk.write_faults c.args.disk.now c.loop-at.disk c.feed_piece.new.disk before.reads c.feed_piece.ensures.disk;
    }
