use Rattle.std.proofs.Common.{List, ◌≡◌, ◌+◌, ◌-◌, ◌≤◌, [], true, false, length, sym, ap, subst, ◌∙◌, arith, vec_capacity}
use Rattle.std.specs.Prelude.{IsSome}
use Rattle.std.specs.List.{find}
use Rattle.vv_tables.specs.Rows.{is_copy_row}
use Rattle.vv_vols.specs.Rows.{IsChangeRoom}
use Rattle.vv_flat.specs.Lists.{if_found}
use Rattle.std.proofs.Common.{Option, false}
use Rattle.vv_flat.specs.State.{Task, Durable, container_of}
use Rattle.vv_flat.specs.Chunks.{Entry, shape_of_tables}
use Rattle.vv_flat.specs.Space.{charge}
use Rattle.vv_flat.specs.Tasks.{next_piece, is_last}
use Rattle.vv_flat.specs.Changes.{Turn, home_of, size_of}
use Rattle.vv_flat.specs.Replay.{fits, replayed}
use Rattle.vv_laws.specs.Counts.{entries_taken}
use Rattle.vv_container.specs.Table.{ChargedContainer, with_charge}
use Rattle.vv_vols.specs.Shelf.{HeldName, held_in, size_in, pieces_in, held_size}
use Rattle.vv_diff.specs.Pieces.{with_pieces_put, ArePiecesInside}
use Rattle.vv_tables.specs.Seen.{TablesView, seen_durable, seen_tables}
use Rattle.vv_tables.specs.Kept.{IsTables}
use Rattle.vv_tables.specs.Rooms.{IsChangeRoomOf}
use Rattle.vv_tables.specs.Turns.{RunsCopy, ends_next}
use Rattle.vv_tables.proofs.Accepted.{log_within}
use Rattle.vv_tables.proofs.Containers.{row_stands, charge_is}
use Rattle.vv_tables.proofs.ShapeVolumes.{size_is}
use Rattle.vv_tables.proofs.StandingVolumes.{home_stands}
use Rattle.vv_tables.proofs.TaskRows.{CopyTask, copy_task, the_found, next_told, last_told, noted_told}
use Rattle.vv_tables.proofs.CopyTurns.{tasks_after, copy_row, target_there, pieces_held, pieces_inside, gone, gone_is, entries_last, goes_on_seen, goes_on_kept, gone_within, ended_seen, ended_kept}
use Rattle.vv_tables.proofs.tables.Tables.turn_copy.Goals as goal

pub charge-charged-requires : goal.charge-charged-requires
charge-charged-requires g c =
    let i = c.self.inside in
    let d : Durable Entry = seen_durable i.lsn i.shelf.shelf i.containers i.bindings i.tasks i.clones.items i.copies.items in
    let n = c.args.task.0 in
    let target = c.args.target.0 in
    let fit : fits d (Turn n) [] ≡ true = subst (λ (t : TablesView). fits t.durable (Turn n) [] ≡ true) (sym c.self.view_is) c.requires.fits in
    let copying : CopyTask i.tasks n target = copy_task i.tasks n target (subst (λ (t : TablesView). RunsCopy t.durable n target) (sym c.self.view_is) c.requires.runs) in
    let same : c.home_of-home.result.0 ≡ home_of (shape_of_tables d) target = c.home_of-home.ensures ∙ ap (λ (t : TablesView). home_of (shape_of_tables t.durable) target) (sym c.self.view_is) in
    let some = the_found (find (is_copy_row n) i.copies.items) (copy_row i.geometry i.lsn i.shelf i.containers i.bindings i.tasks i.clones.items i.copies.items (vec_capacity i.clones) (vec_capacity i.copies) c.self.invariant n target copying fit) in
    row_stands i.containers c.home_of-home.result.0
    (subst (λ k. IsSome (container_of d k)) (sym same) (home_stands d target c.self.invariant.kept.well (target_there i.geometry i.lsn i.shelf i.containers i.bindings i.tasks i.clones.items i.copies.items (vec_capacity i.clones) (vec_capacity i.copies) c.self.invariant n target copying fit some.0 some.1)))

pub overflow_add-self : goal.overflow_add-self
overflow_add-self g c =
    let i = c.self.inside in
    let d : Durable Entry = seen_durable i.lsn i.shelf.shelf i.containers i.bindings i.tasks i.clones.items i.copies.items in
    let n = c.args.task.0 in
    let target = c.args.target.0 in
    let fit : fits d (Turn n) [] ≡ true = subst (λ (t : TablesView). fits t.durable (Turn n) [] ≡ true) (sym c.self.view_is) c.requires.fits in
    let copying : CopyTask i.tasks n target = copy_task i.tasks n target (subst (λ (t : TablesView). RunsCopy t.durable n target) (sym c.self.view_is) c.requires.runs) in
    omega (arith, log_within d c.self.invariant.kept.well)

pub take_copy-pieces-requires : goal.take_copy-pieces-requires
take_copy-pieces-requires g c =
    let i = c.self.inside in
    let d : Durable Entry = seen_durable i.lsn i.shelf.shelf i.containers i.bindings i.tasks i.clones.items i.copies.items in
    let n = c.args.task.0 in
    let target = c.args.target.0 in
    let fit : fits d (Turn n) [] ≡ true = subst (λ (t : TablesView). fits t.durable (Turn n) [] ≡ true) (sym c.self.view_is) c.requires.fits in
    let copying : CopyTask i.tasks n target = copy_task i.tasks n target (subst (λ (t : TablesView). RunsCopy t.durable n target) (sym c.self.view_is) c.requires.runs) in
    copy_row i.geometry i.lsn i.shelf i.containers i.bindings i.tasks i.clones.items i.copies.items (vec_capacity i.clones) (vec_capacity i.copies) c.self.invariant n target copying fit

pub unmapping-gone-requires-clause-standing : goal.unmapping-gone-requires-clause-standing
unmapping-gone-requires-clause-standing g c =
    let i = c.self.inside in
    let d : Durable Entry = seen_durable i.lsn i.shelf.shelf i.containers i.bindings i.tasks i.clones.items i.copies.items in
    let n = c.args.task.0 in
    let target = c.args.target.0 in
    let fit : fits d (Turn n) [] ≡ true = subst (λ (t : TablesView). fits t.durable (Turn n) [] ≡ true) (sym c.self.view_is) c.requires.fits in
    let copying : CopyTask i.tasks n target = copy_task i.tasks n target (subst (λ (t : TablesView). RunsCopy t.durable n target) (sym c.self.view_is) c.requires.runs) in
    let row = c.take_copy-pieces.result in
    let at = c.take_copy-pieces.ensures.row in
    target_there i.geometry i.lsn i.shelf i.containers i.bindings i.tasks i.clones.items i.copies.items (vec_capacity i.clones) (vec_capacity i.copies) c.self.invariant n target copying fit row at

pub unmapping-gone-requires-clause-holding : goal.unmapping-gone-requires-clause-holding
unmapping-gone-requires-clause-holding g c =
    let i = c.self.inside in
    let d : Durable Entry = seen_durable i.lsn i.shelf.shelf i.containers i.bindings i.tasks i.clones.items i.copies.items in
    let n = c.args.task.0 in
    let target = c.args.target.0 in
    let fit : fits d (Turn n) [] ≡ true = subst (λ (t : TablesView). fits t.durable (Turn n) [] ≡ true) (sym c.self.view_is) c.requires.fits in
    let copying : CopyTask i.tasks n target = copy_task i.tasks n target (subst (λ (t : TablesView). RunsCopy t.durable n target) (sym c.self.view_is) c.requires.runs) in
    let row = c.take_copy-pieces.result in
    let at = c.take_copy-pieces.ensures.row in
    pieces_held i.geometry i.lsn i.shelf i.containers i.bindings i.tasks i.clones.items i.copies.items (vec_capacity i.clones) (vec_capacity i.copies) c.self.invariant n target copying fit row at

pub overflow_sub-charged : goal.overflow_sub-charged
overflow_sub-charged g c =
    let i = c.self.inside in
    let d : Durable Entry = seen_durable i.lsn i.shelf.shelf i.containers i.bindings i.tasks i.clones.items i.copies.items in
    let n = c.args.task.0 in
    let target = c.args.target.0 in
    let fit : fits d (Turn n) [] ≡ true = subst (λ (t : TablesView). fits t.durable (Turn n) [] ≡ true) (sym c.self.view_is) c.requires.fits in
    let copying : CopyTask i.tasks n target = copy_task i.tasks n target (subst (λ (t : TablesView). RunsCopy t.durable n target) (sym c.self.view_is) c.requires.runs) in
    let same : c.home_of-home.result.0 ≡ home_of (shape_of_tables d) target = c.home_of-home.ensures ∙ ap (λ (t : TablesView). home_of (shape_of_tables t.durable) target) (sym c.self.view_is) in
    let row = c.take_copy-pieces.result in
    let at = c.take_copy-pieces.ensures.row in
    let charged : c.charge-charged.result ≡ charge (shape_of_tables d) (home_of (shape_of_tables d) target) =
    charge_is d i.containers c.home_of-home.result.0 c.charge-charged.result c.self.invariant.kept.charges c.charge-charged.ensures ∙ ap (charge (shape_of_tables d)) same in
    let done : c.next_piece-done.result ≡ next_piece copying.task = next_told i.tasks n copying.task copying.found c.next_piece-done.result c.next_piece-done.ensures in
    let last : is_last copying.task (next_piece copying.task) ≡ true =
    last_told i.tasks n copying.task copying.found c.next_piece-done.result c.note.result done c.note.ensures.last ∙ c.if-note.true in
    let gone_told : c.unmapping-gone.result ≡ gone i.geometry i.lsn i.shelf i.containers i.bindings i.tasks i.clones.items i.copies.items (vec_capacity i.clones) (vec_capacity i.copies) c.self.invariant n target copying fit row at = c.unmapping-gone.ensures ∙ gone_is i.geometry i.lsn i.shelf i.containers i.bindings i.tasks i.clones.items i.copies.items (vec_capacity i.clones) (vec_capacity i.copies) c.self.invariant n target copying fit row at in
    let within : gone i.geometry i.lsn i.shelf i.containers i.bindings i.tasks i.clones.items i.copies.items (vec_capacity i.clones) (vec_capacity i.copies) c.self.invariant n target copying fit row at ≤ charge (shape_of_tables d) (home_of (shape_of_tables d) target) = gone_within i.geometry i.lsn i.shelf i.containers i.bindings i.tasks i.clones.items i.copies.items (vec_capacity i.clones) (vec_capacity i.copies) c.self.invariant n target copying fit row at last in
    omega (arith, charged, gone_told, within)

pub apply-requires-clause-standing : goal.apply-requires-clause-standing
apply-requires-clause-standing g c =
    let i = c.self.inside in
    let d : Durable Entry = seen_durable i.lsn i.shelf.shelf i.containers i.bindings i.tasks i.clones.items i.copies.items in
    let n = c.args.task.0 in
    let target = c.args.target.0 in
    let fit : fits d (Turn n) [] ≡ true = subst (λ (t : TablesView). fits t.durable (Turn n) [] ≡ true) (sym c.self.view_is) c.requires.fits in
    let copying : CopyTask i.tasks n target = copy_task i.tasks n target (subst (λ (t : TablesView). RunsCopy t.durable n target) (sym c.self.view_is) c.requires.runs) in
    let row = c.take_copy-pieces.result in
    let at = c.take_copy-pieces.ensures.row in
    target_there i.geometry i.lsn i.shelf i.containers i.bindings i.tasks i.clones.items i.copies.items (vec_capacity i.clones) (vec_capacity i.copies) c.self.invariant n target copying fit row at

pub apply-requires-clause-holding : goal.apply-requires-clause-holding
apply-requires-clause-holding g c =
    let i = c.self.inside in
    let d : Durable Entry = seen_durable i.lsn i.shelf.shelf i.containers i.bindings i.tasks i.clones.items i.copies.items in
    let n = c.args.task.0 in
    let target = c.args.target.0 in
    let fit : fits d (Turn n) [] ≡ true = subst (λ (t : TablesView). fits t.durable (Turn n) [] ≡ true) (sym c.self.view_is) c.requires.fits in
    let copying : CopyTask i.tasks n target = copy_task i.tasks n target (subst (λ (t : TablesView). RunsCopy t.durable n target) (sym c.self.view_is) c.requires.runs) in
    let row = c.take_copy-pieces.result in
    let at = c.take_copy-pieces.ensures.row in
    let name : c.of_held.result.number ≡ row.pieces.number = ap (λ (h : HeldName). h.number) c.of_held.ensures in
    subst (λ k. IsSome (held_in i.shelf.shelf k)) (sym name) (pieces_held i.geometry i.lsn i.shelf i.containers i.bindings i.tasks i.clones.items i.copies.items (vec_capacity i.clones) (vec_capacity i.copies) c.self.invariant n target copying fit row at)

pub apply-requires-clause-inside : goal.apply-requires-clause-inside
apply-requires-clause-inside g c =
    let i = c.self.inside in
    let d : Durable Entry = seen_durable i.lsn i.shelf.shelf i.containers i.bindings i.tasks i.clones.items i.copies.items in
    let n = c.args.task.0 in
    let target = c.args.target.0 in
    let fit : fits d (Turn n) [] ≡ true = subst (λ (t : TablesView). fits t.durable (Turn n) [] ≡ true) (sym c.self.view_is) c.requires.fits in
    let copying : CopyTask i.tasks n target = copy_task i.tasks n target (subst (λ (t : TablesView). RunsCopy t.durable n target) (sym c.self.view_is) c.requires.runs) in
    let row = c.take_copy-pieces.result in
    let at = c.take_copy-pieces.ensures.row in
    let name : c.of_held.result.number ≡ row.pieces.number = ap (λ (h : HeldName). h.number) c.of_held.ensures in
    subst (λ k. ArePiecesInside i.shelf.shelf target k) (sym name) (pieces_inside i.geometry i.lsn i.shelf i.containers i.bindings i.tasks i.clones.items i.copies.items (vec_capacity i.clones) (vec_capacity i.copies) c.self.invariant n target copying fit row at)

pub apply-requires-clause-room : goal.apply-requires-clause-room
apply-requires-clause-room g c =
    let i = c.self.inside in
    let d : Durable Entry = seen_durable i.lsn i.shelf.shelf i.containers i.bindings i.tasks i.clones.items i.copies.items in
    let n = c.args.task.0 in
    let target = c.args.target.0 in
    let fit : fits d (Turn n) [] ≡ true = subst (λ (t : TablesView). fits t.durable (Turn n) [] ≡ true) (sym c.self.view_is) c.requires.fits in
    let copying : CopyTask i.tasks n target = copy_task i.tasks n target (subst (λ (t : TablesView). RunsCopy t.durable n target) (sym c.self.view_is) c.requires.runs) in
    let size : size_in i.shelf.shelf target ≡ size_of (shape_of_tables d) target = size_is d target in
    let done : c.next_piece-done.result ≡ next_piece copying.task = next_told i.tasks n copying.task copying.found c.next_piece-done.result c.next_piece-done.ensures in
    let last : is_last copying.task (next_piece copying.task) ≡ true =
    last_told i.tasks n copying.task copying.found c.next_piece-done.result c.note.result done c.note.ensures.last ∙ c.if-note.true in
    let ends : ends_next i.tasks n ≡ true = ap (λ (o : Option Task). if_found o (λ t. is_last t (next_piece t)) false) copying.found ∙ last in
    let room : ends_next i.tasks n ≡ true → IsChangeRoomOf (seen_tables i.lsn i.shelf i.containers i.bindings i.tasks i.clones.items i.copies.items) target 0 (size_of (shape_of_tables d) target) c.args.room =
    subst (λ (t : TablesView). ends_next t.durable.tasks n ≡ true → IsChangeRoomOf t target 0 (size_of (shape_of_tables t.durable) target) c.args.room) (sym c.self.view_is) c.requires.room in
    subst (λ k. IsChangeRoom i.shelf target 0 k c.args.room) (sym size) (room ends)

pub invariant_of-self : goal.invariant_of-self
invariant_of-self g c =
    let i = c.self.inside in
    let d : Durable Entry = seen_durable i.lsn i.shelf.shelf i.containers i.bindings i.tasks i.clones.items i.copies.items in
    let n = c.args.task.0 in
    let target = c.args.target.0 in
    let fit : fits d (Turn n) [] ≡ true = subst (λ (t : TablesView). fits t.durable (Turn n) [] ≡ true) (sym c.self.view_is) c.requires.fits in
    let copying : CopyTask i.tasks n target = copy_task i.tasks n target (subst (λ (t : TablesView). RunsCopy t.durable n target) (sym c.self.view_is) c.requires.runs) in
    let same : c.home_of-home.result.0 ≡ home_of (shape_of_tables d) target = c.home_of-home.ensures ∙ ap (λ (t : TablesView). home_of (shape_of_tables t.durable) target) (sym c.self.view_is) in
    let row = c.take_copy-pieces.result in
    let at = c.take_copy-pieces.ensures.row in
    let name : c.of_held.result.number ≡ row.pieces.number = ap (λ (h : HeldName). h.number) c.of_held.ensures in
    let charged : c.charge-charged.result ≡ charge (shape_of_tables d) (home_of (shape_of_tables d) target) =
    charge_is d i.containers c.home_of-home.result.0 c.charge-charged.result c.self.invariant.kept.charges c.charge-charged.ensures ∙ ap (charge (shape_of_tables d)) same in
    let done : c.next_piece-done.result ≡ next_piece copying.task = next_told i.tasks n copying.task copying.found c.next_piece-done.result c.next_piece-done.ensures in
    let last : is_last copying.task (next_piece copying.task) ≡ true =
    last_told i.tasks n copying.task copying.found c.next_piece-done.result c.note.result done c.note.ensures.last ∙ c.if-note.true in
    let gone_told : c.unmapping-gone.result ≡ gone i.geometry i.lsn i.shelf i.containers i.bindings i.tasks i.clones.items i.copies.items (vec_capacity i.clones) (vec_capacity i.copies) c.self.invariant n target copying fit row at = c.unmapping-gone.ensures ∙ gone_is i.geometry i.lsn i.shelf i.containers i.bindings i.tasks i.clones.items i.copies.items (vec_capacity i.clones) (vec_capacity i.copies) c.self.invariant n target copying fit row at in
    let within : gone i.geometry i.lsn i.shelf i.containers i.bindings i.tasks i.clones.items i.copies.items (vec_capacity i.clones) (vec_capacity i.copies) c.self.invariant n target copying fit row at ≤ charge (shape_of_tables d) (home_of (shape_of_tables d) target) = gone_within i.geometry i.lsn i.shelf i.containers i.bindings i.tasks i.clones.items i.copies.items (vec_capacity i.clones) (vec_capacity i.copies) c.self.invariant n target copying fit row at last in
    let tasks : c.note.new.self ≡ tasks_after i.geometry i.lsn i.shelf i.containers i.bindings i.tasks i.clones.items i.copies.items (vec_capacity i.clones) (vec_capacity i.copies) c.self.invariant n target copying fit = c.note.ensures.table ∙ noted_told i.tasks n copying.task copying.found c.next_piece-done.result done in
    let shelf : c.apply.new.shelf.shelf ≡ with_pieces_put i.shelf.shelf target row.pieces.number = c.apply.ensures.shelf ∙ ap (with_pieces_put i.shelf.shelf target) name in
    let charges : c.set_charge.new.self ≡ with_charge i.containers (home_of (shape_of_tables d) target) (c.charge-charged.result - c.unmapping-gone.result) =
    c.set_charge.ensures ∙ ap (λ k. with_charge i.containers k (c.charge-charged.result - c.unmapping-gone.result)) same in
    subst (λ (rows : List ChargedContainer). IsTables i.geometry (i.lsn + 1) c.apply.new.shelf rows i.bindings c.note.new.self i.clones.items c.take_copy-pieces.new.rows.items (vec_capacity i.clones) (vec_capacity c.take_copy-pieces.new.rows)) (sym charges)
    (ended_kept i.geometry i.lsn i.shelf i.containers i.bindings i.tasks i.clones.items i.copies.items (vec_capacity i.clones) (vec_capacity i.copies) c.self.invariant n target copying fit row at last c.apply.new.shelf (c.charge-charged.result - c.unmapping-gone.result) c.note.new.self c.take_copy-pieces.new.rows.items
    shelf tasks c.take_copy-pieces.ensures.items (vec_capacity c.take_copy-pieces.new.rows) (omega (arith, charged, gone_told, within)) c.take_copy-pieces.ensures.capacity)

pub invariant_of-self-else-note : goal.invariant_of-self-else-note
invariant_of-self-else-note g c =
    let i = c.self.inside in
    let d : Durable Entry = seen_durable i.lsn i.shelf.shelf i.containers i.bindings i.tasks i.clones.items i.copies.items in
    let n = c.args.task.0 in
    let target = c.args.target.0 in
    let fit : fits d (Turn n) [] ≡ true = subst (λ (t : TablesView). fits t.durable (Turn n) [] ≡ true) (sym c.self.view_is) c.requires.fits in
    let copying : CopyTask i.tasks n target = copy_task i.tasks n target (subst (λ (t : TablesView). RunsCopy t.durable n target) (sym c.self.view_is) c.requires.runs) in
    let some = the_found (find (is_copy_row n) i.copies.items) (copy_row i.geometry i.lsn i.shelf i.containers i.bindings i.tasks i.clones.items i.copies.items (vec_capacity i.clones) (vec_capacity i.copies) c.self.invariant n target copying fit) in
    let done : c.next_piece-done.result ≡ next_piece copying.task = next_told i.tasks n copying.task copying.found c.next_piece-done.result c.next_piece-done.ensures in
    let last : is_last copying.task (next_piece copying.task) ≡ false =
    last_told i.tasks n copying.task copying.found c.next_piece-done.result c.note.result done c.note.ensures.last ∙ c.if-note.false in
    let tasks : c.note.new.self ≡ tasks_after i.geometry i.lsn i.shelf i.containers i.bindings i.tasks i.clones.items i.copies.items (vec_capacity i.clones) (vec_capacity i.copies) c.self.invariant n target copying fit = c.note.ensures.table ∙ noted_told i.tasks n copying.task copying.found c.next_piece-done.result done in
    goes_on_kept i.geometry i.lsn i.shelf i.containers i.bindings i.tasks i.clones.items i.copies.items (vec_capacity i.clones) (vec_capacity i.copies) c.self.invariant n target copying fit some.0 some.1 c.note.new.self tasks last

pub returns-then-note-clause-durable : goal.returns-then-note-clause-durable
returns-then-note-clause-durable g c =
    let i = c.self.inside in
    let d : Durable Entry = seen_durable i.lsn i.shelf.shelf i.containers i.bindings i.tasks i.clones.items i.copies.items in
    let n = c.args.task.0 in
    let target = c.args.target.0 in
    let fit : fits d (Turn n) [] ≡ true = subst (λ (t : TablesView). fits t.durable (Turn n) [] ≡ true) (sym c.self.view_is) c.requires.fits in
    let copying : CopyTask i.tasks n target = copy_task i.tasks n target (subst (λ (t : TablesView). RunsCopy t.durable n target) (sym c.self.view_is) c.requires.runs) in
    let same : c.home_of-home.result.0 ≡ home_of (shape_of_tables d) target = c.home_of-home.ensures ∙ ap (λ (t : TablesView). home_of (shape_of_tables t.durable) target) (sym c.self.view_is) in
    let row = c.take_copy-pieces.result in
    let at = c.take_copy-pieces.ensures.row in
    let name : c.of_held.result.number ≡ row.pieces.number = ap (λ (h : HeldName). h.number) c.of_held.ensures in
    let done : c.next_piece-done.result ≡ next_piece copying.task = next_told i.tasks n copying.task copying.found c.next_piece-done.result c.next_piece-done.ensures in
    let last : is_last copying.task (next_piece copying.task) ≡ true =
    last_told i.tasks n copying.task copying.found c.next_piece-done.result c.note.result done c.note.ensures.last ∙ c.if-note.true in
    let tasks : c.note.new.self ≡ tasks_after i.geometry i.lsn i.shelf i.containers i.bindings i.tasks i.clones.items i.copies.items (vec_capacity i.clones) (vec_capacity i.copies) c.self.invariant n target copying fit = c.note.ensures.table ∙ noted_told i.tasks n copying.task copying.found c.next_piece-done.result done in
    let shelf : c.apply.new.shelf.shelf ≡ with_pieces_put i.shelf.shelf target row.pieces.number = c.apply.ensures.shelf ∙ ap (with_pieces_put i.shelf.shelf target) name in
    let charges : c.set_charge.new.self ≡ with_charge i.containers (home_of (shape_of_tables d) target) (c.charge-charged.result - c.unmapping-gone.result) =
    c.set_charge.ensures ∙ ap (λ k. with_charge i.containers k (c.charge-charged.result - c.unmapping-gone.result)) same in
    ap (λ (rows : List ChargedContainer). seen_durable (i.lsn + 1) c.apply.new.shelf.shelf rows i.bindings c.note.new.self i.clones.items c.take_copy-pieces.new.rows.items) charges
    ∙ ended_seen i.geometry i.lsn i.shelf i.containers i.bindings i.tasks i.clones.items i.copies.items (vec_capacity i.clones) (vec_capacity i.copies) c.self.invariant n target copying fit row at last c.apply.new.shelf (c.charge-charged.result - c.unmapping-gone.result) c.note.new.self c.take_copy-pieces.new.rows.items
    shelf tasks c.take_copy-pieces.ensures.items
    ∙ ap (λ (t : TablesView). replayed t.durable (Turn n) []) c.self.view_is

pub returns-then-note-clause-steps : goal.returns-then-note-clause-steps
returns-then-note-clause-steps g c =
    let i = c.self.inside in
    let d : Durable Entry = seen_durable i.lsn i.shelf.shelf i.containers i.bindings i.tasks i.clones.items i.copies.items in
    let n = c.args.task.0 in
    let target = c.args.target.0 in
    let fit : fits d (Turn n) [] ≡ true = subst (λ (t : TablesView). fits t.durable (Turn n) [] ≡ true) (sym c.self.view_is) c.requires.fits in
    let copying : CopyTask i.tasks n target = copy_task i.tasks n target (subst (λ (t : TablesView). RunsCopy t.durable n target) (sym c.self.view_is) c.requires.runs) in
    let row = c.take_copy-pieces.result in
    let at = c.take_copy-pieces.ensures.row in
    let name : c.of_held.result.number ≡ row.pieces.number = ap (λ (h : HeldName). h.number) c.of_held.ensures in
    let done : c.next_piece-done.result ≡ next_piece copying.task = next_told i.tasks n copying.task copying.found c.next_piece-done.result c.next_piece-done.ensures in
    let last : is_last copying.task (next_piece copying.task) ≡ true =
    last_told i.tasks n copying.task copying.found c.next_piece-done.result c.note.result done c.note.ensures.last ∙ c.if-note.true in
    let long : held_size i.shelf.shelf c.of_held.result.number ≡ length (pieces_in i.shelf.shelf row.pieces.number) = ap (held_size i.shelf.shelf) name in
    let taken : entries_taken (shape_of_tables c.args.self.now.durable) (Turn n) ≡ length (pieces_in i.shelf.shelf row.pieces.number) =
    ap (λ (t : TablesView). entries_taken (shape_of_tables t.durable) (Turn n)) (sym c.self.view_is) ∙ entries_last i.geometry i.lsn i.shelf i.containers i.bindings i.tasks i.clones.items i.copies.items (vec_capacity i.clones) (vec_capacity i.copies) c.self.invariant n target copying fit row at last in
    omega (arith, c.apply.ensures.steps, long, taken)

pub returns-else-note-clause-durable : goal.returns-else-note-clause-durable
returns-else-note-clause-durable g c =
    let i = c.self.inside in
    let d : Durable Entry = seen_durable i.lsn i.shelf.shelf i.containers i.bindings i.tasks i.clones.items i.copies.items in
    let n = c.args.task.0 in
    let target = c.args.target.0 in
    let fit : fits d (Turn n) [] ≡ true = subst (λ (t : TablesView). fits t.durable (Turn n) [] ≡ true) (sym c.self.view_is) c.requires.fits in
    let copying : CopyTask i.tasks n target = copy_task i.tasks n target (subst (λ (t : TablesView). RunsCopy t.durable n target) (sym c.self.view_is) c.requires.runs) in
    let some = the_found (find (is_copy_row n) i.copies.items) (copy_row i.geometry i.lsn i.shelf i.containers i.bindings i.tasks i.clones.items i.copies.items (vec_capacity i.clones) (vec_capacity i.copies) c.self.invariant n target copying fit) in
    let done : c.next_piece-done.result ≡ next_piece copying.task = next_told i.tasks n copying.task copying.found c.next_piece-done.result c.next_piece-done.ensures in
    let last : is_last copying.task (next_piece copying.task) ≡ false =
    last_told i.tasks n copying.task copying.found c.next_piece-done.result c.note.result done c.note.ensures.last ∙ c.if-note.false in
    let tasks : c.note.new.self ≡ tasks_after i.geometry i.lsn i.shelf i.containers i.bindings i.tasks i.clones.items i.copies.items (vec_capacity i.clones) (vec_capacity i.copies) c.self.invariant n target copying fit = c.note.ensures.table ∙ noted_told i.tasks n copying.task copying.found c.next_piece-done.result done in
    ap (λ (ts : List Task). seen_durable (i.lsn + 1) i.shelf.shelf i.containers i.bindings ts i.clones.items i.copies.items) tasks
    ∙ goes_on_seen i.geometry i.lsn i.shelf i.containers i.bindings i.tasks i.clones.items i.copies.items (vec_capacity i.clones) (vec_capacity i.copies) c.self.invariant n target copying fit some.0 some.1 last
    ∙ ap (λ (t : TablesView). replayed t.durable (Turn n) []) c.self.view_is
