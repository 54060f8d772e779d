use Rattle.std.proofs.Common.{ℕ, ◌≡◌, true, [], ap, ◌∙◌, arith}
use Rattle.vv_flat.specs.Changes.{Revert}
use Rattle.vv_flat.specs.Replay.{fits, replayed}
use Rattle.vv_tables.specs.declared.tables.Tables.TheInside.{Inside}
use Rattle.vv_tables.specs.Seen.{TablesView}
use Rattle.vv_tables.proofs.Accepted.{log_within}
use Rattle.vv_tables.proofs.CopiedTables.{copy_steps}
use Rattle.vv_tables.proofs.Inner.{durable_of, seen_of}
use Rattle.vv_tables.proofs.RevertedVolumes.{volume_stands, snapshot_stands, few_entries, room_list, container_row, charge_is_small, charge_counted, still_stands, revert_durable, revert_keeps}
use Rattle.vv_tables.proofs.tables.Tables.revert.Goals as goal

-- what is asked of the tables, by their fields
fit : (i : Inside) (t : TablesView) (n snapshot : ℕ) → seen_of i ≡ t → fits t.durable (Revert n snapshot) [] ≡ true → fits (durable_of i) (Revert n snapshot) [] ≡ true
fit i t n snapshot same e = ap (λ (u : TablesView). fits u.durable (Revert n snapshot) []) same ∙ e

pub overflow_add-lsn : goal.overflow_add-lsn
overflow_add-lsn g c = let within = log_within (durable_of c.self.inside) c.self.invariant.kept.well in omega (arith, within)

pub charge_revert-requires-clause-standing : goal.charge_revert-requires-clause-standing
charge_revert-requires-clause-standing g c =
    volume_stands c.self.inside c.self.invariant c.args.volume.0 c.args.snapshot.0 (fit c.self.inside c.args.self.now c.args.volume.0 c.args.snapshot.0 c.self.view_is c.requires.fits)

pub charge_revert-requires-clause-source : goal.charge_revert-requires-clause-source
charge_revert-requires-clause-source g c =
    snapshot_stands c.self.inside c.self.invariant c.args.volume.0 c.args.snapshot.0 (fit c.self.inside c.args.self.now c.args.volume.0 c.args.snapshot.0 c.self.view_is c.requires.fits)

pub charge_revert-requires-clause-home : goal.charge_revert-requires-clause-home
charge_revert-requires-clause-home g c =
    container_row c.self.inside c.self.invariant c.args.volume.0 c.args.snapshot.0 (fit c.self.inside c.args.self.now c.args.volume.0 c.args.snapshot.0 c.self.view_is c.requires.fits)

pub charge_revert-requires-clause-small : goal.charge_revert-requires-clause-small
charge_revert-requires-clause-small g c =
    charge_is_small c.self.inside c.self.invariant c.args.volume.0 c.args.snapshot.0 (fit c.self.inside c.args.self.now c.args.volume.0 c.args.snapshot.0 c.self.view_is c.requires.fits)

pub charge_revert-requires-clause-counted : goal.charge_revert-requires-clause-counted
charge_revert-requires-clause-counted g c =
    charge_counted c.self.inside c.self.invariant c.args.volume.0 c.args.snapshot.0 (fit c.self.inside c.args.self.now c.args.volume.0 c.args.snapshot.0 c.self.view_is c.requires.fits)

pub revert-requires-clause-standing : goal.revert-requires-clause-standing
revert-requires-clause-standing g c =
    volume_stands c.self.inside c.self.invariant c.args.volume.0 c.args.snapshot.0 (fit c.self.inside c.args.self.now c.args.volume.0 c.args.snapshot.0 c.self.view_is c.requires.fits)

pub revert-requires-clause-source : goal.revert-requires-clause-source
revert-requires-clause-source g c =
    snapshot_stands c.self.inside c.self.invariant c.args.volume.0 c.args.snapshot.0 (fit c.self.inside c.args.self.now c.args.volume.0 c.args.snapshot.0 c.self.view_is c.requires.fits)

pub revert-requires-clause-few : goal.revert-requires-clause-few
revert-requires-clause-few g c =
    few_entries c.self.inside c.self.invariant c.args.volume.0 c.args.snapshot.0 (fit c.self.inside c.args.self.now c.args.volume.0 c.args.snapshot.0 c.self.view_is c.requires.fits)

pub revert-requires-clause-room : goal.revert-requires-clause-room
revert-requires-clause-room g c =
    room_list c.self.inside c.self.invariant c.args.volume.0 c.args.snapshot.0 (fit c.self.inside c.args.self.now c.args.volume.0 c.args.snapshot.0 c.self.view_is c.requires.fits)
    c.args.self.now c.args.room (ap (λ (u : TablesView). u.durable) c.self.view_is) c.requires.room

pub set_reverted-requires : goal.set_reverted-requires
set_reverted-requires g c =
    still_stands c.self.inside c.self.invariant c.args.volume.0 c.args.snapshot.0 (fit c.self.inside c.args.self.now c.args.volume.0 c.args.snapshot.0 c.self.view_is c.requires.fits)
    c.revert.new.shelf.shelf c.revert.ensures.shelf

pub invariant_of-self : goal.invariant_of-self
invariant_of-self g c =
    revert_keeps c.self.inside c.self.invariant c.args.volume.0 c.args.snapshot.0 (fit c.self.inside c.args.self.now c.args.volume.0 c.args.snapshot.0 c.self.view_is c.requires.fits)
    c.revert.new.shelf c.set_reverted.new.self c.charge_revert.new.containers c.revert.ensures.shelf c.set_reverted.ensures c.charge_revert.ensures

pub returns-clause-durable : goal.returns-clause-durable
returns-clause-durable g c =
    revert_durable c.self.inside c.self.invariant c.args.volume.0 c.args.snapshot.0 (fit c.self.inside c.args.self.now c.args.volume.0 c.args.snapshot.0 c.self.view_is c.requires.fits)
    c.revert.new.shelf c.set_reverted.new.self c.charge_revert.new.containers c.revert.ensures.shelf c.set_reverted.ensures c.charge_revert.ensures
    ∙ ap (λ (u : TablesView). replayed u.durable (Revert c.args.volume.0 c.args.snapshot.0) []) c.self.view_is

pub returns-clause-steps : goal.returns-clause-steps
returns-clause-steps g c =
    copy_steps c.self.inside c.args.self.now c.args.snapshot.0 c.args.steps.now c.revert.new.steps (ap (λ (u : TablesView). u.durable) c.self.view_is) c.revert.ensures.steps
