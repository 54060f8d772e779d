use Rattle.std.proofs.Common.{◌+◌, ◌≤◌, [], refl, arith, vec_capacity}
use Rattle.vv_flat.specs.Refusals.{last_lsn}
use Rattle.vv_flat.specs.Changes.{UnbindAll}
use Rattle.vv_tables.proofs.KeptShelf.{log_goes_on, replayed_tables, shelf_stays}
use Rattle.vv_tables.proofs.HostChanges.{unbind_all_host, all_unbound}
use Rattle.vv_tables.proofs.tables.Tables.unbind_all.Goals as goal

pub overflow_add-self : goal.overflow_add-self
overflow_add-self c =
    let i = c.self.inside in
    let h : i.lsn + 1 ≤ last_lsn =
    log_goes_on i.geometry i.lsn i.shelf i.containers i.bindings i.tasks i.clones.items i.copies.items (vec_capacity i.clones) (vec_capacity i.copies) c.self.invariant
    c.args.self.now c.self.view_is (UnbindAll c.args.host.0) [] c.requires.forms c.requires.fits in
    omega (arith, h)

pub unbind_all-requires : goal.unbind_all-requires
unbind_all-requires c = unbind_all_host c.args.host.0 c.requires.forms

pub invariant_of-self : goal.invariant_of-self
invariant_of-self c =
    let i = c.self.inside in
    shelf_stays i.geometry i.lsn i.shelf i.containers i.bindings i.tasks i.clones.items i.copies.items (vec_capacity i.clones) (vec_capacity i.copies) c.self.invariant
    c.args.self.now c.self.view_is (UnbindAll c.args.host.0) [] c.requires.forms c.requires.fits c.unbind_all.new.self
    (all_unbound i.lsn i.shelf.shelf i.containers i.bindings i.tasks i.clones.items i.copies.items c.args.host.0 c.unbind_all.new.self c.unbind_all.ensures.table)
    (λ k. refl) refl

pub returns-clause-durable : goal.returns-clause-durable
returns-clause-durable c =
    let i = c.self.inside in
    replayed_tables i.geometry i.lsn i.shelf i.containers i.bindings i.tasks i.clones.items i.copies.items (vec_capacity i.clones) (vec_capacity i.copies) c.self.invariant
    c.args.self.now c.self.view_is (UnbindAll c.args.host.0) [] c.requires.forms c.requires.fits c.unbind_all.new.self
    (all_unbound i.lsn i.shelf.shelf i.containers i.bindings i.tasks i.clones.items i.copies.items c.args.host.0 c.unbind_all.new.self c.unbind_all.ensures.table)
