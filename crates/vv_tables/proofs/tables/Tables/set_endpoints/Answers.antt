use Rattle.std.proofs.Common.{◌+◌, ◌≤◌, [], refl, arith, vec_capacity}
use Rattle.vv_flat.specs.Refusals.{last_lsn}
use Rattle.vv_flat.specs.Changes.{SetEndpoints}
use Rattle.vv_bind.specs.Table.{numbers}
use Rattle.vv_tables.specs.Seen.{seen_durable}
use Rattle.vv_tables.proofs.KeptShelf.{fits_seen, log_goes_on, replayed_tables, shelf_stays}
use Rattle.vv_tables.proofs.HostChanges.{set_host, set_few, set_different, set_not_zero, set_may, endpoints_set}
use Rattle.vv_tables.proofs.tables.Tables.set_endpoints.Goals as goal

pub set_endpoints-requires-clause-host : goal.set_endpoints-requires-clause-host
set_endpoints-requires-clause-host c = set_host c.args.host.0 c.args.endpoints.now c.requires.forms

pub set_endpoints-requires-clause-few : goal.set_endpoints-requires-clause-few
set_endpoints-requires-clause-few c = set_few c.args.host.0 c.args.endpoints.now c.requires.forms

pub set_endpoints-requires-clause-different : goal.set_endpoints-requires-clause-different
set_endpoints-requires-clause-different c = set_different c.args.host.0 c.args.endpoints.now c.requires.forms

pub set_endpoints-requires-clause-not_zero : goal.set_endpoints-requires-clause-not_zero
set_endpoints-requires-clause-not_zero c = set_not_zero c.args.host.0 c.args.endpoints.now c.requires.forms

pub set_endpoints-requires-clause-may : goal.set_endpoints-requires-clause-may
set_endpoints-requires-clause-may c =
    let i = c.self.inside in
    set_may (seen_durable i.lsn i.shelf.shelf i.containers i.bindings i.tasks i.clones.items i.copies.items) c.args.host.0 (numbers c.args.endpoints.now) []
    (fits_seen i.geometry i.lsn i.shelf i.containers i.bindings i.tasks i.clones.items i.copies.items (vec_capacity i.clones) (vec_capacity i.copies) c.self.invariant
    c.args.self.now c.self.view_is (SetEndpoints c.args.host.0 (numbers c.args.endpoints.now)) [] c.requires.forms c.requires.fits)

pub overflow_add-self : goal.overflow_add-self
overflow_add-self c =
    let i = c.self.inside in
    let h : i.lsn + 1 ≤ last_lsn =
    log_goes_on i.geometry i.lsn i.shelf i.containers i.bindings i.tasks i.clones.items i.copies.items (vec_capacity i.clones) (vec_capacity i.copies) c.self.invariant
    c.args.self.now c.self.view_is (SetEndpoints c.args.host.0 (numbers c.args.endpoints.now)) [] c.requires.forms c.requires.fits in
    omega (arith, h)

pub invariant_of-self : goal.invariant_of-self
invariant_of-self c =
    let i = c.self.inside in
    shelf_stays i.geometry i.lsn i.shelf i.containers i.bindings i.tasks i.clones.items i.copies.items (vec_capacity i.clones) (vec_capacity i.copies) c.self.invariant
    c.args.self.now c.self.view_is (SetEndpoints c.args.host.0 (numbers c.args.endpoints.now)) [] c.requires.forms c.requires.fits c.set_endpoints.new.self
    (endpoints_set i.lsn i.shelf.shelf i.containers i.bindings i.tasks i.clones.items i.copies.items c.args.host.0 (numbers c.args.endpoints.now) c.set_endpoints.new.self
    c.set_endpoints.ensures)
    (λ k. refl) refl

pub returns-clause-durable : goal.returns-clause-durable
returns-clause-durable c =
    let i = c.self.inside in
    replayed_tables i.geometry i.lsn i.shelf i.containers i.bindings i.tasks i.clones.items i.copies.items (vec_capacity i.clones) (vec_capacity i.copies) c.self.invariant
    c.args.self.now c.self.view_is (SetEndpoints c.args.host.0 (numbers c.args.endpoints.now)) [] c.requires.forms c.requires.fits c.set_endpoints.new.self
    (endpoints_set i.lsn i.shelf.shelf i.containers i.bindings i.tasks i.clones.items i.copies.items c.args.host.0 (numbers c.args.endpoints.now) c.set_endpoints.new.self
    c.set_endpoints.ensures)
