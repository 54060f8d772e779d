use Rattle.std.proofs.Common.{◌≡◌, ◌+◌, ◌≤◌, ◌∙◌, length, List, ◌++◌, ◌∷◌, [], sym, ap, subst, vec_capacity, arith}
use Rattle.vv_flat.specs.State.{Durable, all_pieces}
use Rattle.vv_flat.specs.Chunks.{Entry}
use Rattle.vv_flat.specs.Space.{entries}
use Rattle.vv_flat.specs.Sharing.{shares_places}
use Rattle.vv_vols.specs.Shelf.{ShelfState, HeldName, shelf_entries}
use Rattle.vv_tables.specs.declared.rows.CopyRow.{CopyRow}
use Rattle.vv_tables.specs.Seen.{seen_durable}
use Rattle.vv_tables.specs.Giving.{seen_pieces, with_some}
use Rattle.vv_tables.specs.Restored.{given_copy}
use Rattle.vv_tables.proofs.ShelfCounts.{shelf_entries_are}
use Rattle.vv_tables.proofs.RestoredParts.{shares_with}
use Rattle.vv_tables.proofs.RestoredCopies.{copy_restored, copy_last}
use Rattle.vv_tables.proofs.restored.Restored.add_copy.Goals as goal

pub hold_pieces-requires-clause-few : goal.hold_pieces-requires-clause-few
hold_pieces-requires-clause-few g c =
    let i = c.self.inside in
    let few : entries (seen_durable i.lsn i.shelf.shelf i.containers i.bindings i.tasks i.clones.items i.copies.items) + length c.args.pieces.now ≤ i.shelf.shelf.geometry.map_chunks =
    subst (λ (d : Durable Entry). entries d + length c.args.pieces.now ≤ d.geometry.map_chunks) (sym c.self.view_is) c.requires.few in
    let same : shelf_entries i.shelf.shelf ≡ entries (seen_durable i.lsn i.shelf.shelf i.containers i.bindings i.tasks i.clones.items i.copies.items) =
    shelf_entries_are i.lsn i.shelf.shelf i.containers i.bindings i.tasks i.clones.items i.copies.items c.self.invariant.held in
    omega (arith, few, same)

pub hold_pieces-requires-clause-shares : goal.hold_pieces-requires-clause-shares
hold_pieces-requires-clause-shares g c =
    let i = c.self.inside in
    shares_with i.lsn i.shelf.shelf i.containers i.bindings i.tasks i.clones.items i.copies.items c.self.invariant.held (seen_pieces c.args.pieces.now)
    (ap (λ (d : Durable Entry). shares_places d.geometry.pool_chunks (all_pieces d ++ seen_pieces c.args.pieces.now)) c.self.view_is ∙ c.requires.shares)

pub invariant_of-self-2 : goal.invariant_of-self-2
invariant_of-self-2 g c =
    let i = c.self.inside in
    let row : CopyRow = record { id = c.args.id; pieces = c.in_ok-pieces.pieces } in
    copy_restored i.geometry i.shelf c.hold_pieces.new.shelf i.clones.items i.copies.items c.push_copy.new.copies.items (vec_capacity i.clones) (vec_capacity i.copies) (vec_capacity c.push_copy.new.copies)
    i.taken c.hold_pieces.new.taken row (seen_pieces c.args.pieces.now) c.self.invariant
    (ap (λ (h : HeldName). h.number) c.in_ok-pieces.ensures.held) c.in_ok-pieces.ensures.shelf c.push_copy.ensures.items c.push_copy.ensures.capacity c.hold_pieces.ensures.taken

pub returns-clause-ok : goal.returns-clause-ok
returns-clause-ok g c =
    let i = c.self.inside in
    let pieces = seen_pieces c.args.pieces.now in
    let row : CopyRow = record { id = c.args.id; pieces = c.in_ok-pieces.pieces } in
    ap (λ (s : ShelfState). seen_durable i.lsn s i.containers i.bindings i.tasks i.clones.items c.push_copy.new.copies.items) c.in_ok-pieces.ensures.shelf
    ∙ ap (λ (rows : List CopyRow). seen_durable i.lsn (with_some i.shelf.shelf pieces 0) i.containers i.bindings i.tasks i.clones.items rows) c.push_copy.ensures.items
    ∙ copy_last i.shelf.shelf i.clones.items i.copies.items row pieces c.self.invariant.held (ap (λ (h : HeldName). h.number) c.in_ok-pieces.ensures.held) i.lsn i.containers i.bindings i.tasks
    ∙ ap (λ (d : Durable Entry). record d { copies = d.copies ++ given_copy c.args.id.0 pieces ∷ [] }) c.self.view_is
