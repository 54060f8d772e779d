use Rattle.std.proofs.Common.{arith}
use Rattle.vv_tables.proofs.Limits.{seen_volumes_few}
use Rattle.vv_tables.proofs.tables.Tables.volume_count.Goals as goal

pub volume_rows-requires : goal.volume_rows-requires
volume_rows-requires c =
    let i = c.self.inside in
    omega (arith, seen_volumes_few i.lsn i.shelf.shelf i.containers i.bindings i.tasks i.clones.items i.copies.items c.self.invariant.kept.well)

pub overflow_cast-result : goal.overflow_cast-result
overflow_cast-result c =
    let i = c.self.inside in
    omega (arith, c.len.ensures, seen_volumes_few i.lsn i.shelf.shelf i.containers i.bindings i.tasks i.clones.items i.copies.items c.self.invariant.kept.well)

pub overflow_add-result : goal.overflow_add-result
overflow_add-result c =
    let i = c.self.inside in
    omega (arith, c.len.ensures, c.volume_rows.ensures, seen_volumes_few i.lsn i.shelf.shelf i.containers i.bindings i.tasks i.clones.items i.copies.items c.self.invariant.kept.well)
