use Rattle.std.proofs.Common.{arith}
use Rattle.vv_tables.proofs.Limits.{seen_volumes_few}
use Rattle.vv_tables.proofs.tables.Tables.standing_volumes.Goals as goal

pub volume_rows-requires : goal.volume_rows-requires
volume_rows-requires c =
    let i = c.self.inside in
    omega (arith, seen_volumes_few i.lsn i.shelf.shelf i.containers i.bindings i.tasks i.clones.items i.copies.items c.self.invariant.kept.well)
