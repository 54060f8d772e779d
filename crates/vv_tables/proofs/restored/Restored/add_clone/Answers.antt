use Rattle.std.proofs.Common.{◌≡◌, ◌+◌, ◌≤◌, ◌∙◌, length, List, ◌++◌, ◌∷◌, [], sym, ap, subst, vec_capacity, arith}
use Rattle.vv_flat.specs.State.{Durable, indexed, all_pieces}
use Rattle.vv_flat.specs.Chunks.{Entry}
use Rattle.vv_flat.specs.Space.{entries}
use Rattle.vv_flat.specs.Sharing.{shares_places}
use Rattle.vv_vols.specs.Shelf.{ShelfState, shelf_entries}
use Rattle.vv_vols.specs.Rows.{seen_entries}
use Rattle.vv_tables.specs.declared.rows.CloneRow.{CloneRow}
use Rattle.vv_tables.specs.Seen.{seen_durable}
use Rattle.vv_tables.specs.Restored.{with_clone, given_clone}
use Rattle.vv_tables.proofs.ShelfCounts.{shelf_entries_are}
use Rattle.vv_tables.proofs.RestoredParts.{shares_with}
use Rattle.vv_tables.proofs.RestoredClones.{clone_restored, clone_last}
use Rattle.vv_tables.proofs.restored.Restored.add_clone.Goals as goal

pub hold_clone-requires-clause-few : goal.hold_clone-requires-clause-few
hold_clone-requires-clause-few g c =
    let i = c.self.inside in
    let few : entries (seen_durable i.lsn i.shelf.shelf i.containers i.bindings i.tasks i.clones.items i.copies.items) + length c.args.image.now + length c.args.target.now ≤ i.shelf.shelf.geometry.map_chunks =
    subst (λ (d : Durable Entry). entries d + length c.args.image.now + length c.args.target.now ≤ d.geometry.map_chunks) (sym c.self.view_is) c.requires.few in
    let same : shelf_entries i.shelf.shelf ≡ entries (seen_durable i.lsn i.shelf.shelf i.containers i.bindings i.tasks i.clones.items i.copies.items) =
    shelf_entries_are i.lsn i.shelf.shelf i.containers i.bindings i.tasks i.clones.items i.copies.items c.self.invariant.held in
    omega (arith, few, same)

pub hold_clone-requires-clause-shares : goal.hold_clone-requires-clause-shares
hold_clone-requires-clause-shares g c =
    let i = c.self.inside in
    let new = indexed (seen_entries c.args.image.now) ++ indexed (seen_entries c.args.target.now) in
    shares_with i.lsn i.shelf.shelf i.containers i.bindings i.tasks i.clones.items i.copies.items c.self.invariant.held new
    (ap (λ (d : Durable Entry). shares_places d.geometry.pool_chunks (all_pieces d ++ new)) c.self.view_is ∙ c.requires.shares)

pub invariant_of-self-2 : goal.invariant_of-self-2
invariant_of-self-2 g c =
    let i = c.self.inside in
    let row : CloneRow = record { id = c.args.id; head = c.args.head; image = c.in_ok-image.field-0.image; target = c.in_ok-image.field-0.target } in
    clone_restored i.geometry i.shelf c.hold_clone.new.shelf i.clones.items c.push_clone.new.clones.items i.copies.items (vec_capacity i.clones) (vec_capacity c.push_clone.new.clones) (vec_capacity i.copies)
    i.taken c.hold_clone.new.taken row (seen_entries c.args.image.now) (seen_entries c.args.target.now) c.self.invariant
    c.in_ok-image.ensures.image c.in_ok-image.ensures.target c.in_ok-image.ensures.shelf c.push_clone.ensures.items c.push_clone.ensures.capacity c.hold_clone.ensures.taken

pub returns-clause-ok : goal.returns-clause-ok
returns-clause-ok g c =
    let i = c.self.inside in
    let image = seen_entries c.args.image.now in
    let target = seen_entries c.args.target.now in
    let row : CloneRow = record { id = c.args.id; head = c.args.head; image = c.in_ok-image.field-0.image; target = c.in_ok-image.field-0.target } in
    ap (λ (s : ShelfState). seen_durable i.lsn s i.containers i.bindings i.tasks c.push_clone.new.clones.items i.copies.items) c.in_ok-image.ensures.shelf
    ∙ ap (λ (rows : List CloneRow). seen_durable i.lsn (with_clone i.shelf.shelf image target) i.containers i.bindings i.tasks rows i.copies.items) c.push_clone.ensures.items
    ∙ clone_last i.shelf.shelf i.clones.items i.copies.items row image target c.self.invariant.held c.in_ok-image.ensures.image c.in_ok-image.ensures.target i.lsn i.containers i.bindings i.tasks
    ∙ ap (λ (d : Durable Entry). record d { clones = d.clones ++ given_clone c.args.id.0 c.args.head image target ∷ [] }) c.self.view_is
