use Rattle.std.proofs.Common.{◌≡◌, List, length, ap, subst, ◌∙◌, vec_capacity, arith}
use Rattle.std.specs.List.{All}
use Rattle.vv_flat.specs.WellFormed.{is_well_formed}
use Rattle.vv_container.specs.Table.{ChargedContainer}
use Rattle.vv_tables.specs.declared.rows.CloneRow.{CloneRow}
use Rattle.vv_tables.specs.declared.rows.CopyRow.{CopyRow}
use Rattle.vv_tables.specs.Charges.{charge_in}
use Rattle.vv_tables.proofs.Limits.{seen_volumes_few, seen_running_few}
use Rattle.vv_tables.proofs.RestoredCounts.{room_left, finished_seen, finished}
use Rattle.vv_tables.proofs.restored.Restored.finish.Goals as goal

pub charge_all-requires-clause-volumes : goal.charge_all-requires-clause-volumes
charge_all-requires-clause-volumes c =
    let i = c.self.inside in
    let few = seen_volumes_few i.lsn i.shelf.shelf i.containers i.bindings i.tasks i.clones.items i.copies.items (ap is_well_formed c.self.view_is ∙ c.requires) in
    omega (arith, few)

pub charge_all-requires-clause-clones : goal.charge_all-requires-clause-clones
charge_all-requires-clause-clones c =
    let i = c.self.inside in
    let few = seen_running_few i.lsn i.shelf.shelf i.containers i.bindings i.tasks i.clones.items i.copies.items (ap is_well_formed c.self.view_is ∙ c.requires) in
    let same : length c.deref.result.now ≡ length i.clones.items = ap (λ (rows : List CloneRow). length rows) c.deref.ensures.value in
    omega (arith, few, same)

pub charge_all-requires-clause-copies : goal.charge_all-requires-clause-copies
charge_all-requires-clause-copies c =
    let i = c.self.inside in
    let few = seen_running_few i.lsn i.shelf.shelf i.containers i.bindings i.tasks i.clones.items i.copies.items (ap is_well_formed c.self.view_is ∙ c.requires) in
    let same : length c.deref-2.result.now ≡ length i.copies.items = ap (λ (rows : List CopyRow). length rows) c.deref-2.ensures.value in
    omega (arith, few, same)

pub reserve_left-requires : goal.reserve_left-requires
reserve_left-requires c =
    let i = c.self.inside in
    room_left i.lsn i.shelf.shelf i.containers i.bindings i.tasks i.clones.items i.copies.items (ap is_well_formed c.self.view_is ∙ c.requires)
    c.self.invariant.held c.self.invariant.fresh c.self.invariant.reserved

pub invariant_of-result : goal.invariant_of-result
invariant_of-result c =
    let i = c.self.inside in
    let charged : All (λ (r : ChargedContainer). r.charged ≡ charge_in i.shelf.shelf i.tasks i.clones.items i.copies.items r.container.number) c.charge_all.new.containers =
    subst (λ (rows : List CloneRow). All (λ (r : ChargedContainer). r.charged ≡ charge_in i.shelf.shelf i.tasks rows i.copies.items r.container.number) c.charge_all.new.containers) c.deref.ensures.value
    (subst (λ (rows : List CopyRow). All (λ (r : ChargedContainer). r.charged ≡ charge_in i.shelf.shelf i.tasks c.deref.result.now rows r.container.number) c.charge_all.new.containers) c.deref-2.ensures.value
    c.charge_all.ensures.charged) in
    finished i.geometry i.lsn i.shelf i.containers i.bindings i.tasks i.clones.items i.copies.items (vec_capacity i.clones) (vec_capacity i.copies) i.taken c.self.invariant
    (ap is_well_formed c.self.view_is ∙ c.requires) c.reserve_left.new.shelf c.charge_all.new.containers c.reserve_left.ensures c.charge_all.ensures.plain charged

pub returns : goal.returns
returns c =
    let i = c.self.inside in
    let charged : All (λ (r : ChargedContainer). r.charged ≡ charge_in i.shelf.shelf i.tasks i.clones.items i.copies.items r.container.number) c.charge_all.new.containers =
    subst (λ (rows : List CloneRow). All (λ (r : ChargedContainer). r.charged ≡ charge_in i.shelf.shelf i.tasks rows i.copies.items r.container.number) c.charge_all.new.containers) c.deref.ensures.value
    (subst (λ (rows : List CopyRow). All (λ (r : ChargedContainer). r.charged ≡ charge_in i.shelf.shelf i.tasks c.deref.result.now rows r.container.number) c.charge_all.new.containers) c.deref-2.ensures.value
    c.charge_all.ensures.charged) in
    finished_seen i.geometry i.lsn i.shelf i.containers i.bindings i.tasks i.clones.items i.copies.items (vec_capacity i.clones) (vec_capacity i.copies) i.taken c.self.invariant
    (ap is_well_formed c.self.view_is ∙ c.requires) c.reserve_left.new.shelf c.charge_all.new.containers c.reserve_left.ensures c.charge_all.ensures.plain charged
    ∙ c.self.view_is
