use Rattle.std.proofs.Common.{subst}
use Rattle.std.proofs.Common.{refl}
use Rattle.vv_tables.specs.Seen.{TablesView, IsShelfOf}
use Rattle.vv_tables.proofs.ShelfCounts.{shelf_used_all, shelf_entries_are}
use Rattle.vv_tables.proofs.tables.Tables.shelf.Goals as goal

pub returns : goal.returns
returns c =
    let i = c.self.inside in
    subst (λ (t : TablesView). IsShelfOf t i.shelf) c.self.view_is
    (record {
      geometry = refl;
      volumes = refl;
      fresh = c.self.invariant.kept.fresh;
      reserved = c.self.invariant.kept.reserved;
      pages = refl;
      rooms = refl;
      entries = shelf_entries_are i.lsn i.shelf.shelf i.containers i.bindings i.tasks i.clones.items i.copies.items c.self.invariant.held;
      used = shelf_used_all i.lsn i.shelf.shelf i.containers i.bindings i.tasks i.clones.items i.copies.items c.self.invariant.held c.self.invariant.kept.well c.self.invariant.kept.fresh;
    })
