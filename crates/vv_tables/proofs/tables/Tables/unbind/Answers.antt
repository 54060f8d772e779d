use Rattle.std.proofs.Common.{◌+◌, ◌≤◌, [], refl, arith, vec_capacity}
use Rattle.vv_flat.specs.Refusals.{last_lsn}
use Rattle.vv_flat.specs.Changes.{Unbind}
use Rattle.vv_tables.proofs.KeptShelf.{log_goes_on, replayed_tables, shelf_stays}
use Rattle.vv_tables.proofs.HostChanges.{unbind_host, unbound}
use Rattle.vv_tables.proofs.tables.Tables.unbind.Goals as goal

pub overflow_add-self : goal.overflow_add-self
overflow_add-self c =
    let i = c.self.inside in
    let h : i.lsn + 1 ≤ last_lsn =
    log_goes_on i.geometry i.lsn i.shelf i.containers i.bindings i.tasks i.clones.items i.copies.items (vec_capacity i.clones) (vec_capacity i.copies) c.self.invariant
    c.args.self.now c.self.view_is (Unbind c.args.host.0 c.args.endpoint.0 c.args.secondary.0) [] c.requires.forms c.requires.fits in
    omega (arith, h)

pub unbind-requires : goal.unbind-requires
unbind-requires c = unbind_host c.args.host.0 c.args.endpoint.0 c.args.secondary.0 c.requires.forms

pub invariant_of-self : goal.invariant_of-self
invariant_of-self c =
    let i = c.self.inside in
    shelf_stays i.geometry i.lsn i.shelf i.containers i.bindings i.tasks i.clones.items i.copies.items (vec_capacity i.clones) (vec_capacity i.copies) c.self.invariant
    c.args.self.now c.self.view_is (Unbind c.args.host.0 c.args.endpoint.0 c.args.secondary.0) [] c.requires.forms c.requires.fits c.unbind.new.self
    (unbound i.lsn i.shelf.shelf i.containers i.bindings i.tasks i.clones.items i.copies.items c.args.host.0 c.args.endpoint.0 c.args.secondary.0 c.unbind.new.self c.unbind.ensures.table)
    (λ k. refl) refl

pub returns-clause-durable : goal.returns-clause-durable
returns-clause-durable c =
    let i = c.self.inside in
    replayed_tables i.geometry i.lsn i.shelf i.containers i.bindings i.tasks i.clones.items i.copies.items (vec_capacity i.clones) (vec_capacity i.copies) c.self.invariant
    c.args.self.now c.self.view_is (Unbind c.args.host.0 c.args.endpoint.0 c.args.secondary.0) [] c.requires.forms c.requires.fits c.unbind.new.self
    (unbound i.lsn i.shelf.shelf i.containers i.bindings i.tasks i.clones.items i.copies.items c.args.host.0 c.args.endpoint.0 c.args.secondary.0 c.unbind.new.self c.unbind.ensures.table)
