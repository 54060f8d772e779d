use Rattle.std.proofs.Common.{◌≡◌, ◌+◌, ◌≤◌, List, [], length, sym, ap, subst, ◌∙◌, arith, vec_capacity}
use Rattle.vv_flat.specs.State.{Volume}
use Rattle.vv_flat.specs.Chunks.{Entry, shape_of_tables}
use Rattle.vv_flat.specs.Space.{reserved}
use Rattle.vv_vols.specs.Shelf.{ShelfState}
use Rattle.vv_vols.specs.Rows.{ShelfView}
use Rattle.vv_tables.specs.Seen.{TablesView}
use Rattle.vv_tables.proofs.HeldKept.{same_held}
use Rattle.vv_tables.proofs.Limits.{seen_volumes_few}
use Rattle.vv_tables.proofs.InterruptedTables.{all_dropped, interrupted_whole}
use Rattle.vv_tables.proofs.tables.Tables.interrupt.Goals as goal

pub charge_volumes-requires : goal.charge_volumes-requires
charge_volumes-requires c =
    let i = c.self.inside in
    let few : length i.shelf.shelf.volumes + length i.clones.items ≤ 256 =
    seen_volumes_few i.lsn i.shelf.shelf i.containers i.bindings i.tasks i.clones.items i.copies.items c.self.invariant.kept.well in
    let next : c.unreserve.new.self.shelf ≡ record i.shelf.shelf { held = c.unreserve.new.self.shelf.held; reserved = 0 } =
    all_dropped i.shelf.shelf c.drop_clones.new.shelf.shelf c.drop_copies.new.shelf.shelf c.unreserve.new.self.shelf c.reserved-reserved.result
    c.drop_clones.ensures.shelf c.drop_copies.ensures.shelf (ap (λ (v : ShelfView). v.shelf) c.unreserve.ensures)
    (c.self.invariant.kept.reserved ∙ ap (λ (u : TablesView). reserved (shape_of_tables u.durable)) c.self.view_is ∙ sym c.reserved-reserved.ensures) in
    let same : c.unreserve.new.self.shelf.volumes ≡ i.shelf.shelf.volumes = ap (λ (x : ShelfState). x.volumes) next in
    subst (λ (vs : List (Volume Entry)). length vs ≤ 256) (sym same) (omega (arith, few))

pub invariant_of-self : goal.invariant_of-self
invariant_of-self c =
    let i = c.self.inside in
    let next : c.unreserve.new.self.shelf ≡ record i.shelf.shelf { held = c.unreserve.new.self.shelf.held; reserved = 0 } =
    all_dropped i.shelf.shelf c.drop_clones.new.shelf.shelf c.drop_copies.new.shelf.shelf c.unreserve.new.self.shelf c.reserved-reserved.result
    c.drop_clones.ensures.shelf c.drop_copies.ensures.shelf (ap (λ (v : ShelfView). v.shelf) c.unreserve.ensures)
    (c.self.invariant.kept.reserved ∙ ap (λ (u : TablesView). reserved (shape_of_tables u.durable)) c.self.view_is ∙ sym c.reserved-reserved.ensures) in
    interrupted_whole i.geometry i.lsn i.shelf i.containers i.bindings i.tasks i.clones.items i.copies.items (vec_capacity i.clones) (vec_capacity i.copies) c.self.invariant
    c.unreserve.new.self c.charge_volumes.new.containers next
    (same_held c.drop_copies.new.shelf.shelf c.unreserve.new.self.shelf [] [] (ap (λ (v : ShelfView). v.shelf.held) c.unreserve.ensures) c.drop_copies.ensures.held)
    c.charge_volumes.ensures.plain c.charge_volumes.ensures.charged
    c.interrupt.new.self c.drop_clones.new.rows.items c.drop_copies.new.rows.items (vec_capacity c.drop_clones.new.rows) (vec_capacity c.drop_copies.new.rows)
    c.interrupt.ensures c.drop_clones.ensures.none c.drop_copies.ensures.none c.drop_clones.ensures.capacity c.drop_copies.ensures.capacity
