use Rattle.std.proofs.Common.{◌≡◌, ◌+◌, ◌≤◌, ◌∙◌, length, ◌++◌, ◌∷◌, [], sym, ap, subst, arith}
use Rattle.std.specs.Prelude.{nat_lt}
use Rattle.std.specs.List.{list_all}
use Rattle.vv_flat.specs.State.{Volume, Durable, indexed, all_pieces}
use Rattle.vv_flat.specs.Chunks.{Entry}
use Rattle.vv_flat.specs.Space.{entries}
use Rattle.vv_flat.specs.Sharing.{shares_places}
use Rattle.vv_vols.specs.Shelf.{ShelfState, shelf_entries}
use Rattle.vv_vols.specs.Rows.{seen_entries, volume_with}
use Rattle.vv_tables.specs.Seen.{seen_durable}
use Rattle.vv_tables.proofs.ShelfCounts.{shelf_entries_are}
use Rattle.vv_tables.proofs.RestoredParts.{none_has, shares_with, volume_last}
use Rattle.vv_tables.proofs.restored.Restored.add_volume.Goals as goal

pub make_entries-requires-clause-unused : goal.make_entries-requires-clause-unused
make_entries-requires-clause-unused g c =
    none_has (λ (v : Volume Entry). v.number) c.args.id.0 c.self.inside.shelf.shelf.volumes
    (ap (λ (d : Durable Entry). list_all (λ (v : Volume Entry). nat_lt v.number c.args.id.0) d.volumes) c.self.view_is ∙ c.requires.above)

pub make_entries-requires-clause-few : goal.make_entries-requires-clause-few
make_entries-requires-clause-few g c =
    let i = c.self.inside in
    let few : entries (seen_durable i.lsn i.shelf.shelf i.containers i.bindings i.tasks i.clones.items i.copies.items) + length c.args.entries.now ≤ i.shelf.shelf.geometry.map_chunks =
    subst (λ (d : Durable Entry). entries d + length c.args.entries.now ≤ d.geometry.map_chunks) (sym c.self.view_is) c.requires.few in
    let same : shelf_entries i.shelf.shelf ≡ entries (seen_durable i.lsn i.shelf.shelf i.containers i.bindings i.tasks i.clones.items i.copies.items) =
    shelf_entries_are i.lsn i.shelf.shelf i.containers i.bindings i.tasks i.clones.items i.copies.items c.self.invariant.held in
    omega (arith, few, same)

pub make_entries-requires-clause-shares : goal.make_entries-requires-clause-shares
make_entries-requires-clause-shares g c =
    let i = c.self.inside in
    shares_with i.lsn i.shelf.shelf i.containers i.bindings i.tasks i.clones.items i.copies.items c.self.invariant.held (indexed (seen_entries c.args.entries.now))
    (ap (λ (d : Durable Entry). shares_places d.geometry.pool_chunks (all_pieces d ++ indexed (seen_entries c.args.entries.now))) c.self.view_is ∙ c.requires.shares)

pub returns-clause-ok : goal.returns-clause-ok
returns-clause-ok g c =
    let i = c.self.inside in
    let v : Volume Entry = volume_with c.args.id.0 c.args.head (seen_entries c.args.entries.now) in
    ap (λ (s : ShelfState). seen_durable i.lsn s i.containers i.bindings i.tasks i.clones.items i.copies.items) c.in_ok-make_entries.ensures.ok
    ∙ volume_last i.lsn i.shelf.shelf i.containers i.bindings i.tasks i.clones.items i.copies.items v
    (ap (λ (d : Durable Entry). list_all (λ (w : Volume Entry). nat_lt w.number c.args.id.0) d.volumes) c.self.view_is ∙ c.requires.above)
    ∙ ap (λ (d : Durable Entry). record d { volumes = d.volumes ++ v ∷ [] }) c.self.view_is
