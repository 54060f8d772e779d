use Rattle.std.proofs.Common.{ℕ, ◌≡◌, ◌+◌, true, [], refl, sym, ap, subst, ◌∙◌, arith, vec_capacity}
use Rattle.vv_map.specs.Pages.{pages_for}
use Rattle.vv_flat.specs.Changes.{StartClone}
use Rattle.vv_flat.specs.Replay.{fits, replayed}
use Rattle.vv_vols.specs.declared.head.Head.{Head}
use Rattle.vv_vols.specs.Rows.{RoomView}
use Rattle.vv_tables.specs.declared.tables.Tables.TheInside.{Inside}
use Rattle.vv_tables.specs.CopyRooms.{CloneRoomView, HasClone, IsCloneRoom, size_in_tables}
use Rattle.vv_tables.specs.Seen.{TablesView}
use Rattle.vv_tables.proofs.Accepted.{log_within}
use Rattle.vv_tables.proofs.ChargedVolumes.{start_clone_charges, source_stands, container_row, charge_fits}
use Rattle.vv_tables.proofs.Inner.{durable_of, seen_of}
use Rattle.vv_tables.proofs.StartedClones.{places_free, one_more_runs, number_above, row_fits, first_stands, first_few, first_room, first_size, second_room, second_few, clone_durable, clone_keeps}
use Rattle.vv_tables.proofs.tables.Tables.start_clone.Goals as goal

-- what is asked of the tables, by their fields
fit : (i : Inside) (t : TablesView) (n : ℕ) → seen_of i ≡ t → fits t.durable (StartClone n) [] ≡ true → fits (durable_of i) (StartClone n) [] ≡ true
fit i t n same e = ap (λ (u : TablesView). fits u.durable (StartClone n) []) same ∙ e

abbrev room_with : Head → RoomView → RoomView → CloneRoomView
room_with head image target = record { head = head; image = image; target = target }

room_of : (i : Inside) (t : TablesView) (n : ℕ) (r : CloneRoomView) (head : Head) (image target : RoomView) → seen_of i ≡ t → room_with head image target ≡ r → IsCloneRoom t n r
    → HasClone (durable_of i) n (room_with head image target)
room_of i t n r head image target same is e =
    subst (λ (q : CloneRoomView). HasClone (durable_of i) n q) (sym is) (subst (λ (u : TablesView). IsCloneRoom u n r) (sym same) e)

pub overflow_add-id : goal.overflow_add-id
overflow_add-id g c =
    let within = log_within (durable_of c.self.inside) c.self.invariant.kept.well in omega (arith, within)

pub overflow_add-self : goal.overflow_add-self
overflow_add-self g c =
    let within = log_within (durable_of c.self.inside) c.self.invariant.kept.well in omega (arith, within)

pub entries-chunks-requires : goal.entries-chunks-requires
entries-chunks-requires g c =
    source_stands c.self.inside c.self.invariant.kept c.args.volume.0 (StartClone c.args.volume.0) (start_clone_charges c.args.volume.0) (fit c.self.inside c.args.self.now c.args.volume.0 c.self.view_is c.requires.fits)

pub allocated_count-total-requires : goal.allocated_count-total-requires
allocated_count-total-requires g c =
    source_stands c.self.inside c.self.invariant.kept c.args.volume.0 (StartClone c.args.volume.0) (start_clone_charges c.args.volume.0) (fit c.self.inside c.args.self.now c.args.volume.0 c.self.view_is c.requires.fits)

pub charge_copy-requires-clause-standing : goal.charge_copy-requires-clause-standing
charge_copy-requires-clause-standing g c =
    source_stands c.self.inside c.self.invariant.kept c.args.volume.0 (StartClone c.args.volume.0) (start_clone_charges c.args.volume.0) (fit c.self.inside c.args.self.now c.args.volume.0 c.self.view_is c.requires.fits)

pub charge_copy-requires-clause-home : goal.charge_copy-requires-clause-home
charge_copy-requires-clause-home g c =
    container_row c.self.inside c.self.invariant.kept c.args.volume.0 (StartClone c.args.volume.0) (start_clone_charges c.args.volume.0) (fit c.self.inside c.args.self.now c.args.volume.0 c.self.view_is c.requires.fits)

pub charge_copy-requires-clause-fits : goal.charge_copy-requires-clause-fits
charge_copy-requires-clause-fits g c =
    charge_fits c.self.inside c.self.invariant.kept c.args.volume.0 (StartClone c.args.volume.0) (start_clone_charges c.args.volume.0) (fit c.self.inside c.args.self.now c.args.volume.0 c.self.view_is c.requires.fits)

pub reserve_places-requires : goal.reserve_places-requires
reserve_places-requires g c =
    let some = places_free c.self.inside c.self.invariant c.args.volume.0 (fit c.self.inside c.args.self.now c.args.volume.0 c.self.view_is c.requires.fits) in
    omega (arith, some, c.allocated_count-total.ensures)

pub hold_image-image-requires-clause-standing : goal.hold_image-image-requires-clause-standing
hold_image-image-requires-clause-standing g c =
    first_stands c.self.inside c.self.invariant c.args.volume.0 (fit c.self.inside c.args.self.now c.args.volume.0 c.self.view_is c.requires.fits)
    c.reserve_places.new.shelf c.allocated_count-total.result c.entries-chunks.result c.allocated_count-total.ensures c.entries-chunks.ensures c.reserve_places.ensures
    (source_stands c.self.inside c.self.invariant.kept c.args.volume.0 (StartClone c.args.volume.0) (start_clone_charges c.args.volume.0) (fit c.self.inside c.args.self.now c.args.volume.0 c.self.view_is c.requires.fits))

pub hold_image-image-requires-clause-few : goal.hold_image-image-requires-clause-few
hold_image-image-requires-clause-few g c =
    first_few c.self.inside c.self.invariant c.args.volume.0 (fit c.self.inside c.args.self.now c.args.volume.0 c.self.view_is c.requires.fits)
    c.reserve_places.new.shelf c.allocated_count-total.result c.entries-chunks.result c.allocated_count-total.ensures c.entries-chunks.ensures c.reserve_places.ensures

pub hold_image-image-requires-clause-room : goal.hold_image-image-requires-clause-room
hold_image-image-requires-clause-room g c =
    first_room c.self.inside c.self.invariant c.args.volume.0 (fit c.self.inside c.args.self.now c.args.volume.0 c.self.view_is c.requires.fits)
    c.reserve_places.new.shelf c.allocated_count-total.result c.entries-chunks.result c.allocated_count-total.ensures c.entries-chunks.ensures c.reserve_places.ensures
    c.room.inside.image (room_of c.self.inside c.args.self.now c.args.volume.0 c.args.room c.room.inside.head c.room.inside.image c.room.inside.target c.self.view_is c.room.view_is c.requires.room).image

pub hold_target-target-requires-clause-few : goal.hold_target-target-requires-clause-few
hold_target-target-requires-clause-few g c =
    second_few c.self.inside c.self.invariant c.args.volume.0 (fit c.self.inside c.args.self.now c.args.volume.0 c.self.view_is c.requires.fits)
    c.reserve_places.new.shelf c.allocated_count-total.result c.entries-chunks.result c.allocated_count-total.ensures c.entries-chunks.ensures c.reserve_places.ensures
    c.hold_image-image.new.self.shelf c.hold_image-image.ensures.shelf

pub hold_target-target-requires-clause-room : goal.hold_target-target-requires-clause-room
hold_target-target-requires-clause-room g c =
    second_room c.self.inside c.self.invariant c.args.volume.0 (fit c.self.inside c.args.self.now c.args.volume.0 c.self.view_is c.requires.fits)
    c.reserve_places.new.shelf c.allocated_count-total.result c.entries-chunks.result c.allocated_count-total.ensures c.entries-chunks.ensures c.reserve_places.ensures
    c.room.inside.target (room_of c.self.inside c.args.self.now c.args.volume.0 c.args.room c.room.inside.head c.room.inside.image c.room.inside.target c.self.view_is c.room.view_is c.requires.room).target

pub start-requires-clause-room : goal.start-requires-clause-room
start-requires-clause-room g c =
    one_more_runs c.self.inside c.self.invariant c.args.volume.0 (fit c.self.inside c.args.self.now c.args.volume.0 c.self.view_is c.requires.fits)

pub start-requires-clause-above : goal.start-requires-clause-above
start-requires-clause-above g c =
    number_above c.self.inside c.self.invariant c.args.volume.0 (fit c.self.inside c.args.self.now c.args.volume.0 c.self.view_is c.requires.fits)

pub push_clone-requires : goal.push_clone-requires
push_clone-requires g c =
    let fits = row_fits c.self.inside c.self.invariant c.args.volume.0 (fit c.self.inside c.args.self.now c.args.volume.0 c.self.view_is c.requires.fits) in
    omega (arith, fits)

pub invariant_of-self : goal.invariant_of-self
invariant_of-self g c =
    clone_keeps c.self.inside c.self.invariant c.args.volume.0 (fit c.self.inside c.args.self.now c.args.volume.0 c.self.view_is c.requires.fits)
    c.reserve_places.new.shelf c.allocated_count-total.result c.entries-chunks.result c.allocated_count-total.ensures c.entries-chunks.ensures c.reserve_places.ensures
    c.hold_image-image.new.self.shelf c.hold_image-image.ensures.shelf
    c.hold_target-target.new.self c.hold_target-target.ensures.shelf c.charge_copy.new.containers c.charge_copy.ensures c.start.new.self c.start.ensures
    c.push_clone.new.rows.items (record { id = record { 0 = c.self.inside.lsn + 1 }; head = c.room.inside.head; image = c.hold_image-image.result; target = c.hold_target-target.result }) c.push_clone.ensures.items refl (room_of c.self.inside c.args.self.now c.args.volume.0 c.args.room c.room.inside.head c.room.inside.image c.room.inside.target c.self.view_is c.room.view_is c.requires.room).head c.hold_image-image.ensures.held c.hold_target-target.ensures.held
    (vec_capacity c.push_clone.new.rows) c.push_clone.ensures.capacity

pub returns-clause-durable : goal.returns-clause-durable
returns-clause-durable g c =
    clone_durable c.self.inside c.self.invariant c.args.volume.0 (fit c.self.inside c.args.self.now c.args.volume.0 c.self.view_is c.requires.fits)
    c.reserve_places.new.shelf c.allocated_count-total.result c.entries-chunks.result c.allocated_count-total.ensures c.entries-chunks.ensures c.reserve_places.ensures
    c.hold_image-image.new.self.shelf c.hold_image-image.ensures.shelf
    c.hold_target-target.new.self c.hold_target-target.ensures.shelf c.charge_copy.new.containers c.charge_copy.ensures c.start.new.self c.start.ensures
    c.push_clone.new.rows.items (record { id = record { 0 = c.self.inside.lsn + 1 }; head = c.room.inside.head; image = c.hold_image-image.result; target = c.hold_target-target.result }) c.push_clone.ensures.items refl (room_of c.self.inside c.args.self.now c.args.volume.0 c.args.room c.room.inside.head c.room.inside.image c.room.inside.target c.self.view_is c.room.view_is c.requires.room).head c.hold_image-image.ensures.held c.hold_target-target.ensures.held
    (vec_capacity c.push_clone.new.rows) c.push_clone.ensures.capacity
    ∙ ap (λ (u : TablesView). replayed u.durable (StartClone c.args.volume.0) []) c.self.view_is

pub returns-clause-steps : goal.returns-clause-steps
returns-clause-steps g c =
    c.hold_image-image.ensures.steps
    ∙ ap (λ k. c.args.steps.now + pages_for k) (first_size c.self.inside c.self.invariant c.args.volume.0 (fit c.self.inside c.args.self.now c.args.volume.0 c.self.view_is c.requires.fits)
    c.reserve_places.new.shelf c.allocated_count-total.result c.entries-chunks.result c.allocated_count-total.ensures c.entries-chunks.ensures c.reserve_places.ensures
    ∙ ap (λ (u : TablesView). size_in_tables u.durable c.args.volume.0) c.self.view_is)
