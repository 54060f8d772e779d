use Rattle.std.proofs.Common.{◌≡◌, ◌+◌, length, ap, ◌∙◌, arith}
use Rattle.vv_flat.specs.Space.{running_count}
use Rattle.vv_tables.specs.Seen.{TablesView}
use Rattle.vv_tables.proofs.Limits.{seen_rows_run, seen_running_few}
use Rattle.vv_tables.proofs.tables.Tables.running_count.Goals as goal

pub overflow_cast-result : goal.overflow_cast-result
overflow_cast-result c =
    let i = c.self.inside in
    omega (arith, c.len.ensures, c.len-2.ensures, seen_running_few i.lsn i.shelf.shelf i.containers i.bindings i.tasks i.clones.items i.copies.items c.self.invariant.kept.well)

pub returns : goal.returns
returns c =
    let i = c.self.inside in
    let rows : length i.clones.items + length i.copies.items ≡ running_count c.args.self.now.durable =
    seen_rows_run i.lsn i.shelf.shelf i.containers i.bindings i.tasks i.clones.items i.copies.items c.self.invariant.kept.well
    ∙ ap (λ (t : TablesView). running_count t.durable) c.self.view_is in
    omega (arith, c.len.ensures, c.len-2.ensures, rows)
