use Rattle.std.proofs.Common.{◌∙◌}
use Rattle.vv_disk.proofs.Records.{replay_more, fits_at}
use Rattle.vv_disk.proofs.record.replay.Goals as goal

pub redo-requires-clause-fits : goal.redo-requires-clause-fits
redo-requires-clause-fits c =
    fits_at _ _ c.args.entries.now c.args.bytes.now c.loop-entry.entry-index _ c.loop-entry-test.true c.loop-entry.auto.disk c.requires.fits

pub loop-entry-preserved : goal.loop-entry-preserved
loop-entry-preserved c =
    c.redo.ensures ∙ replay_more _ _ c.args.entries.now c.args.bytes.now c.loop-entry.entry-index _ c.loop-entry-test.true c.loop-entry.invariant
