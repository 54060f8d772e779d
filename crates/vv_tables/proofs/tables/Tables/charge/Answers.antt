use Rattle.std.proofs.Common.{sym, ap, subst, ◌∙◌}
use Rattle.std.specs.Prelude.{IsSome}
use Rattle.vv_flat.specs.State.{Durable, container_of}
use Rattle.vv_flat.specs.Chunks.{Entry, shape_of_tables}
use Rattle.vv_flat.specs.Space.{charge}
use Rattle.vv_tables.specs.Seen.{TablesView, seen_durable}
use Rattle.vv_tables.proofs.Containers.{row_stands, charge_is}
use Rattle.vv_tables.proofs.tables.Tables.charge.Goals as goal

pub charge-requires : goal.charge-requires
charge-requires c =
    row_stands c.self.inside.containers c.args.id.0
    (subst (λ (t : TablesView). IsSome (container_of t.durable c.args.id.0)) (sym c.self.view_is) c.requires)

pub returns : goal.returns
returns c =
    let i = c.self.inside in
    let d : Durable Entry = seen_durable i.lsn i.shelf.shelf i.containers i.bindings i.tasks i.clones.items i.copies.items in
    charge_is d i.containers c.args.id.0 c.charge.result c.self.invariant.kept.charges c.charge.ensures
    ∙ ap (λ (t : TablesView). charge (shape_of_tables t.durable) c.args.id.0) c.self.view_is
