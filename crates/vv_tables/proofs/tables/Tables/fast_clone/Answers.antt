use Rattle.std.proofs.Common.{ℕ, ◌≡◌, true, [], sym, ap, subst, ◌∙◌, arith}
use Rattle.vv_units.specs.declared.volume.VolumeKind.TheVariants.{FastCloneOf}
use Rattle.vv_flat.specs.Changes.{FastClone}
use Rattle.vv_flat.specs.Replay.{fits, replayed}
use Rattle.vv_vols.specs.Rows.{RoomView}
use Rattle.vv_tables.specs.declared.tables.Tables.TheInside.{Inside}
use Rattle.vv_tables.specs.CopyRooms.{IsCopyRoom, HasCopy}
use Rattle.vv_tables.specs.Seen.{TablesView}
use Rattle.vv_tables.proofs.Accepted.{log_within}
use Rattle.vv_tables.proofs.ChargedVolumes.{fast_clone_charges, source_stands, container_row, charge_fits}
use Rattle.vv_tables.proofs.CopiedTables.{copy_durable, copy_keeps, copy_steps}
use Rattle.vv_tables.proofs.CopiedVolumes.{fast_clone_copies, number_unused, few_entries, room_list, room_head}
use Rattle.vv_tables.proofs.Inner.{durable_of, seen_of}
use Rattle.vv_tables.proofs.tables.Tables.fast_clone.Goals as goal

-- what is asked of the tables, by their fields
fit : (i : Inside) (t : TablesView) (n : ℕ) → seen_of i ≡ t → fits t.durable (FastClone n) [] ≡ true → fits (durable_of i) (FastClone n) [] ≡ true
fit i t n same e = ap (λ (u : TablesView). fits u.durable (FastClone n) []) same ∙ e

enough : (i : Inside) (t : TablesView) (n : ℕ) (room : RoomView) → seen_of i ≡ t → IsCopyRoom t n room → HasCopy (durable_of i) n room
enough i t n room same e = subst (λ (u : TablesView). IsCopyRoom u n room) (sym same) e

pub overflow_add-id : goal.overflow_add-id
overflow_add-id g c = let within = log_within (durable_of c.self.inside) c.self.invariant.kept.well in omega (arith, within)

pub overflow_add-self : goal.overflow_add-self
overflow_add-self g c = let within = log_within (durable_of c.self.inside) c.self.invariant.kept.well in omega (arith, within)

pub charge_copy-requires-clause-standing : goal.charge_copy-requires-clause-standing
charge_copy-requires-clause-standing g c = source_stands c.self.inside c.self.invariant.kept c.args.volume.0 (FastClone c.args.volume.0) (fast_clone_charges c.args.volume.0) (fit c.self.inside c.args.self.now c.args.volume.0 c.self.view_is c.requires.fits)

pub charge_copy-requires-clause-home : goal.charge_copy-requires-clause-home
charge_copy-requires-clause-home g c = container_row c.self.inside c.self.invariant.kept c.args.volume.0 (FastClone c.args.volume.0) (fast_clone_charges c.args.volume.0) (fit c.self.inside c.args.self.now c.args.volume.0 c.self.view_is c.requires.fits)

pub charge_copy-requires-clause-fits : goal.charge_copy-requires-clause-fits
charge_copy-requires-clause-fits g c = charge_fits c.self.inside c.self.invariant.kept c.args.volume.0 (FastClone c.args.volume.0) (fast_clone_charges c.args.volume.0) (fit c.self.inside c.args.self.now c.args.volume.0 c.self.view_is c.requires.fits)

pub fast_clone-requires-clause-standing : goal.fast_clone-requires-clause-standing
fast_clone-requires-clause-standing g c = source_stands c.self.inside c.self.invariant.kept c.args.volume.0 (FastClone c.args.volume.0) (fast_clone_charges c.args.volume.0) (fit c.self.inside c.args.self.now c.args.volume.0 c.self.view_is c.requires.fits)

pub fast_clone-requires-clause-unused : goal.fast_clone-requires-clause-unused
fast_clone-requires-clause-unused g c = number_unused c.self.inside c.self.invariant.kept c.self.invariant.held c.args.volume.0 (FastCloneOf c.args.volume) (FastClone c.args.volume.0) (fast_clone_copies c.args.volume.0) (fit c.self.inside c.args.self.now c.args.volume.0 c.self.view_is c.requires.fits)

pub fast_clone-requires-clause-few : goal.fast_clone-requires-clause-few
fast_clone-requires-clause-few g c = few_entries c.self.inside c.self.invariant.kept c.self.invariant.held c.args.volume.0 (FastCloneOf c.args.volume) (FastClone c.args.volume.0) (fast_clone_copies c.args.volume.0) (fit c.self.inside c.args.self.now c.args.volume.0 c.self.view_is c.requires.fits)

pub fast_clone-requires-clause-room : goal.fast_clone-requires-clause-room
fast_clone-requires-clause-room g c =
    room_list c.self.inside c.self.invariant.kept c.self.invariant.held c.args.volume.0 (FastCloneOf c.args.volume) (FastClone c.args.volume.0) (fast_clone_copies c.args.volume.0) (fit c.self.inside c.args.self.now c.args.volume.0 c.self.view_is c.requires.fits)
    c.args.room (enough c.self.inside c.args.self.now c.args.volume.0 c.args.room c.self.view_is c.requires.room)

pub fast_clone-requires-clause-head : goal.fast_clone-requires-clause-head
fast_clone-requires-clause-head g c =
    room_head c.self.inside c.self.invariant.kept c.self.invariant.held c.args.volume.0 (FastCloneOf c.args.volume) (FastClone c.args.volume.0) (fast_clone_copies c.args.volume.0) (fit c.self.inside c.args.self.now c.args.volume.0 c.self.view_is c.requires.fits)
    c.args.room (enough c.self.inside c.args.self.now c.args.volume.0 c.args.room c.self.view_is c.requires.room)

pub invariant_of-self : goal.invariant_of-self
invariant_of-self g c =
    copy_keeps c.self.inside c.self.invariant c.args.volume.0 (FastCloneOf c.args.volume) (FastClone c.args.volume.0) (fast_clone_copies c.args.volume.0) (fit c.self.inside c.args.self.now c.args.volume.0 c.self.view_is c.requires.fits)
    c.fast_clone.new.shelf c.charge_copy.new.containers c.fast_clone.ensures.shelf c.charge_copy.ensures

pub returns-clause-durable : goal.returns-clause-durable
returns-clause-durable g c =
    copy_durable c.self.inside c.self.invariant c.args.volume.0 (FastCloneOf c.args.volume) (FastClone c.args.volume.0) (fast_clone_copies c.args.volume.0) (fit c.self.inside c.args.self.now c.args.volume.0 c.self.view_is c.requires.fits)
    c.fast_clone.new.shelf c.charge_copy.new.containers c.fast_clone.ensures.shelf c.charge_copy.ensures
    ∙ ap (λ (u : TablesView). replayed u.durable (FastClone c.args.volume.0) []) c.self.view_is

pub returns-clause-steps : goal.returns-clause-steps
returns-clause-steps g c =
    copy_steps c.self.inside c.args.self.now c.args.volume.0 c.args.steps.now c.fast_clone.new.steps (ap (λ (u : TablesView). u.durable) c.self.view_is) c.fast_clone.ensures.steps
