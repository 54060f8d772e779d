use Rattle.std.proofs.Common.{ℕ, ◌≡◌, true, [], sym, ap, subst, ◌∙◌, arith}
use Rattle.vv_units.specs.declared.volume.VolumeKind.TheVariants.{SnapshotOf}
use Rattle.vv_flat.specs.Changes.{Snapshot}
use Rattle.vv_flat.specs.Replay.{fits, replayed}
use Rattle.vv_vols.specs.Rows.{RoomView}
use Rattle.vv_tables.specs.declared.tables.Tables.TheInside.{Inside}
use Rattle.vv_tables.specs.CopyRooms.{IsCopyRoom, HasCopy}
use Rattle.vv_tables.specs.Seen.{TablesView}
use Rattle.vv_tables.proofs.Accepted.{log_within}
use Rattle.vv_tables.proofs.ChargedVolumes.{snapshot_charges, source_stands, container_row, charge_fits}
use Rattle.vv_tables.proofs.CopiedTables.{copy_durable, copy_keeps, copy_steps}
use Rattle.vv_tables.proofs.CopiedVolumes.{snapshot_copies, number_unused, few_entries, room_list, room_head}
use Rattle.vv_tables.proofs.Inner.{durable_of, seen_of}
use Rattle.vv_tables.proofs.tables.Tables.snapshot.Goals as goal

-- what is asked of the tables, by their fields
fit : (i : Inside) (t : TablesView) (n : ℕ) → seen_of i ≡ t → fits t.durable (Snapshot n) [] ≡ true → fits (durable_of i) (Snapshot n) [] ≡ true
fit i t n same e = ap (λ (u : TablesView). fits u.durable (Snapshot n) []) same ∙ e

enough : (i : Inside) (t : TablesView) (n : ℕ) (room : RoomView) → seen_of i ≡ t → IsCopyRoom t n room → HasCopy (durable_of i) n room
enough i t n room same e = subst (λ (u : TablesView). IsCopyRoom u n room) (sym same) e

pub overflow_add-id : goal.overflow_add-id
overflow_add-id g c = let within = log_within (durable_of c.self.inside) c.self.invariant.kept.well in omega (arith, within)

pub overflow_add-self : goal.overflow_add-self
overflow_add-self g c = let within = log_within (durable_of c.self.inside) c.self.invariant.kept.well in omega (arith, within)

pub charge_copy-requires-clause-standing : goal.charge_copy-requires-clause-standing
charge_copy-requires-clause-standing g c = source_stands c.self.inside c.self.invariant.kept c.args.volume.0 (Snapshot c.args.volume.0) (snapshot_charges c.args.volume.0) (fit c.self.inside c.args.self.now c.args.volume.0 c.self.view_is c.requires.fits)

pub charge_copy-requires-clause-home : goal.charge_copy-requires-clause-home
charge_copy-requires-clause-home g c = container_row c.self.inside c.self.invariant.kept c.args.volume.0 (Snapshot c.args.volume.0) (snapshot_charges c.args.volume.0) (fit c.self.inside c.args.self.now c.args.volume.0 c.self.view_is c.requires.fits)

pub charge_copy-requires-clause-fits : goal.charge_copy-requires-clause-fits
charge_copy-requires-clause-fits g c = charge_fits c.self.inside c.self.invariant.kept c.args.volume.0 (Snapshot c.args.volume.0) (snapshot_charges c.args.volume.0) (fit c.self.inside c.args.self.now c.args.volume.0 c.self.view_is c.requires.fits)

pub snapshot-requires-clause-standing : goal.snapshot-requires-clause-standing
snapshot-requires-clause-standing g c = source_stands c.self.inside c.self.invariant.kept c.args.volume.0 (Snapshot c.args.volume.0) (snapshot_charges c.args.volume.0) (fit c.self.inside c.args.self.now c.args.volume.0 c.self.view_is c.requires.fits)

pub snapshot-requires-clause-unused : goal.snapshot-requires-clause-unused
snapshot-requires-clause-unused g c = number_unused c.self.inside c.self.invariant.kept c.self.invariant.held c.args.volume.0 (SnapshotOf c.args.volume) (Snapshot c.args.volume.0) (snapshot_copies c.args.volume.0) (fit c.self.inside c.args.self.now c.args.volume.0 c.self.view_is c.requires.fits)

pub snapshot-requires-clause-few : goal.snapshot-requires-clause-few
snapshot-requires-clause-few g c = few_entries c.self.inside c.self.invariant.kept c.self.invariant.held c.args.volume.0 (SnapshotOf c.args.volume) (Snapshot c.args.volume.0) (snapshot_copies c.args.volume.0) (fit c.self.inside c.args.self.now c.args.volume.0 c.self.view_is c.requires.fits)

pub snapshot-requires-clause-room : goal.snapshot-requires-clause-room
snapshot-requires-clause-room g c =
    room_list c.self.inside c.self.invariant.kept c.self.invariant.held c.args.volume.0 (SnapshotOf c.args.volume) (Snapshot c.args.volume.0) (snapshot_copies c.args.volume.0) (fit c.self.inside c.args.self.now c.args.volume.0 c.self.view_is c.requires.fits)
    c.args.room (enough c.self.inside c.args.self.now c.args.volume.0 c.args.room c.self.view_is c.requires.room)

pub snapshot-requires-clause-head : goal.snapshot-requires-clause-head
snapshot-requires-clause-head g c =
    room_head c.self.inside c.self.invariant.kept c.self.invariant.held c.args.volume.0 (SnapshotOf c.args.volume) (Snapshot c.args.volume.0) (snapshot_copies c.args.volume.0) (fit c.self.inside c.args.self.now c.args.volume.0 c.self.view_is c.requires.fits)
    c.args.room (enough c.self.inside c.args.self.now c.args.volume.0 c.args.room c.self.view_is c.requires.room)

pub invariant_of-self : goal.invariant_of-self
invariant_of-self g c =
    copy_keeps c.self.inside c.self.invariant c.args.volume.0 (SnapshotOf c.args.volume) (Snapshot c.args.volume.0) (snapshot_copies c.args.volume.0) (fit c.self.inside c.args.self.now c.args.volume.0 c.self.view_is c.requires.fits)
    c.snapshot.new.shelf c.charge_copy.new.containers c.snapshot.ensures.shelf c.charge_copy.ensures

pub returns-clause-durable : goal.returns-clause-durable
returns-clause-durable g c =
    copy_durable c.self.inside c.self.invariant c.args.volume.0 (SnapshotOf c.args.volume) (Snapshot c.args.volume.0) (snapshot_copies c.args.volume.0) (fit c.self.inside c.args.self.now c.args.volume.0 c.self.view_is c.requires.fits)
    c.snapshot.new.shelf c.charge_copy.new.containers c.snapshot.ensures.shelf c.charge_copy.ensures
    ∙ ap (λ (u : TablesView). replayed u.durable (Snapshot c.args.volume.0) []) c.self.view_is

pub returns-clause-steps : goal.returns-clause-steps
returns-clause-steps g c =
    copy_steps c.self.inside c.args.self.now c.args.volume.0 c.args.steps.now c.snapshot.new.steps (ap (λ (u : TablesView). u.durable) c.self.view_is) c.snapshot.ensures.steps
