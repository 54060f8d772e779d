use Rattle.std.proofs.Common.{List, ◌≡◌, ◌+◌, true, false, length, Some, None, sym, ap, subst, ◌∙◌, arith, vec_capacity}
use Rattle.std.specs.Prelude.{IsSome, IfSome}
use Rattle.std.specs.List.{find}
use Rattle.std.proofs.lemmas.List.{length-map}
use Rattle.vv_flat.specs.Lists.{first_removed}
use Rattle.vv_flat.specs.State.{Durable}
use Rattle.vv_flat.specs.Chunks.{Entry}
use Rattle.vv_flat.specs.Tasks.{is_last, with_task, advanced}
use Rattle.vv_flat.specs.Changes.{Turn, changed_indexes}
use Rattle.vv_flat.specs.Replay.{fits, replayed}
use Rattle.vv_vols.specs.Shelf.{ShelfState, volume_in, held_in}
use Rattle.vv_vols.specs.Calls.{without_held}
use Rattle.vv_vols.specs.Conditions.{HasEveryIndex}
use Rattle.vv_tables.specs.declared.rows.CloneRow.{CloneRow}
use Rattle.vv_tables.specs.Rows.{is_clone_row}
use Rattle.vv_tables.specs.Filling.{copy_indexes, copy_places, MayFill, with_filled}
use Rattle.vv_tables.specs.Seen.{TablesView, seen_durable}
use Rattle.vv_tables.specs.Kept.{IsTables}
use Rattle.vv_tables.specs.Turns.{RunsClone, with_clone_made}
use Rattle.vv_tables.proofs.Accepted.{log_within}
use Rattle.vv_tables.proofs.TaskRows.{CloneTask, clone_task, the_found, last_at, noted_at, runs_at, left_at}
use Rattle.vv_tables.proofs.CloneTurnParts.{clone_row, may_fill}
use Rattle.vv_tables.proofs.CloneTurns.{few, enough_left, filled, tasks_after, goes_on_seen, goes_on_kept, image_there, target_there, target_whole, volume_new, ended_seen, ended_kept}
use Rattle.vv_tables.proofs.tables.Tables.turn_clone.Goals as goal

pub fill_clone-requires-clause-standing : goal.fill_clone-requires-clause-standing
fill_clone-requires-clause-standing c =
    let i = c.self.inside in
    let d : Durable Entry = seen_durable i.lsn i.shelf.shelf i.containers i.bindings i.tasks i.clones.items i.copies.items in
    let n = c.args.task.0 in
    let source = c.args.source.0 in
    let is = copy_indexes c.args.copies.now in
    let places = copy_places c.args.copies.now in
    let fit : fits d (Turn n) places ≡ true = subst (λ (t : TablesView). fits t.durable (Turn n) places ≡ true) (sym c.self.view_is) c.requires.fits in
    let at_is : is ≡ changed_indexes (λ (e : Entry). e.stamp) d (Turn n) = c.requires.indexes ∙ ap (λ (t : TablesView). changed_indexes (λ (e : Entry). e.stamp) t.durable (Turn n)) (sym c.self.view_is) in
    let cloning : CloneTask i.tasks n source = clone_task i.tasks n source (subst (λ (t : TablesView). RunsClone t.durable n source) (sym c.self.view_is) c.requires.runs) in
    clone_row i.geometry i.lsn i.shelf i.containers i.bindings i.tasks i.clones.items i.copies.items (vec_capacity i.clones) (vec_capacity i.copies) c.self.invariant n source cloning is places fit at_is

pub fill_clone-requires-clause-may : goal.fill_clone-requires-clause-may
fill_clone-requires-clause-may c =
    let i = c.self.inside in
    let d : Durable Entry = seen_durable i.lsn i.shelf.shelf i.containers i.bindings i.tasks i.clones.items i.copies.items in
    let n = c.args.task.0 in
    let source = c.args.source.0 in
    let is = copy_indexes c.args.copies.now in
    let places = copy_places c.args.copies.now in
    let fit : fits d (Turn n) places ≡ true = subst (λ (t : TablesView). fits t.durable (Turn n) places ≡ true) (sym c.self.view_is) c.requires.fits in
    let at_is : is ≡ changed_indexes (λ (e : Entry). e.stamp) d (Turn n) = c.requires.indexes ∙ ap (λ (t : TablesView). changed_indexes (λ (e : Entry). e.stamp) t.durable (Turn n)) (sym c.self.view_is) in
    let cloning : CloneTask i.tasks n source = clone_task i.tasks n source (subst (λ (t : TablesView). RunsClone t.durable n source) (sym c.self.view_is) c.requires.runs) in
    let some = the_found (find (is_clone_row n) i.clones.items) (clone_row i.geometry i.lsn i.shelf i.containers i.bindings i.tasks i.clones.items i.copies.items (vec_capacity i.clones) (vec_capacity i.copies) c.self.invariant n source cloning is places fit at_is) in
    subst (λ o. IfSome o (λ (r : CloneRow). MayFill i.shelf.shelf r.target.number n is places)) (sym some.1) (may_fill i.geometry i.lsn i.shelf i.containers i.bindings i.tasks i.clones.items i.copies.items (vec_capacity i.clones) (vec_capacity i.copies) c.self.invariant n source cloning is places fit at_is some.0 some.1)

pub overflow_add-self : goal.overflow_add-self
overflow_add-self c =
    let i = c.self.inside in
    let d : Durable Entry = seen_durable i.lsn i.shelf.shelf i.containers i.bindings i.tasks i.clones.items i.copies.items in
    let n = c.args.task.0 in
    let source = c.args.source.0 in
    let is = copy_indexes c.args.copies.now in
    let places = copy_places c.args.copies.now in
    let fit : fits d (Turn n) places ≡ true = subst (λ (t : TablesView). fits t.durable (Turn n) places ≡ true) (sym c.self.view_is) c.requires.fits in
    let at_is : is ≡ changed_indexes (λ (e : Entry). e.stamp) d (Turn n) = c.requires.indexes ∙ ap (λ (t : TablesView). changed_indexes (λ (e : Entry). e.stamp) t.durable (Turn n)) (sym c.self.view_is) in
    let cloning : CloneTask i.tasks n source = clone_task i.tasks n source (subst (λ (t : TablesView). RunsClone t.durable n source) (sym c.self.view_is) c.requires.runs) in
    omega (arith, log_within d c.self.invariant.kept.well)

pub overflow_cast-copies : goal.overflow_cast-copies
overflow_cast-copies c =
    let i = c.self.inside in
    let d : Durable Entry = seen_durable i.lsn i.shelf.shelf i.containers i.bindings i.tasks i.clones.items i.copies.items in
    let n = c.args.task.0 in
    let source = c.args.source.0 in
    let is = copy_indexes c.args.copies.now in
    let places = copy_places c.args.copies.now in
    let fit : fits d (Turn n) places ≡ true = subst (λ (t : TablesView). fits t.durable (Turn n) places ≡ true) (sym c.self.view_is) c.requires.fits in
    let at_is : is ≡ changed_indexes (λ (e : Entry). e.stamp) d (Turn n) = c.requires.indexes ∙ ap (λ (t : TablesView). changed_indexes (λ (e : Entry). e.stamp) t.durable (Turn n)) (sym c.self.view_is) in
    let cloning : CloneTask i.tasks n source = clone_task i.tasks n source (subst (λ (t : TablesView). RunsClone t.durable n source) (sym c.self.view_is) c.requires.runs) in
    let some = the_found (find (is_clone_row n) i.clones.items) (clone_row i.geometry i.lsn i.shelf i.containers i.bindings i.tasks i.clones.items i.copies.items (vec_capacity i.clones) (vec_capacity i.copies) c.self.invariant n source cloning is places fit at_is) in
    let long : length is ≡ length c.args.copies.now = length-map c.args.copies.now _ in
    omega (arith, few i.geometry i.lsn i.shelf i.containers i.bindings i.tasks i.clones.items i.copies.items (vec_capacity i.clones) (vec_capacity i.copies) c.self.invariant n source cloning is places fit at_is some.0 some.1, long)

pub note-requires-clause-left : goal.note-requires-clause-left
note-requires-clause-left c =
    let i = c.self.inside in
    let d : Durable Entry = seen_durable i.lsn i.shelf.shelf i.containers i.bindings i.tasks i.clones.items i.copies.items in
    let n = c.args.task.0 in
    let source = c.args.source.0 in
    let is = copy_indexes c.args.copies.now in
    let places = copy_places c.args.copies.now in
    let fit : fits d (Turn n) places ≡ true = subst (λ (t : TablesView). fits t.durable (Turn n) places ≡ true) (sym c.self.view_is) c.requires.fits in
    let at_is : is ≡ changed_indexes (λ (e : Entry). e.stamp) d (Turn n) = c.requires.indexes ∙ ap (λ (t : TablesView). changed_indexes (λ (e : Entry). e.stamp) t.durable (Turn n)) (sym c.self.view_is) in
    let cloning : CloneTask i.tasks n source = clone_task i.tasks n source (subst (λ (t : TablesView). RunsClone t.durable n source) (sym c.self.view_is) c.requires.runs) in
    let some = the_found (find (is_clone_row n) i.clones.items) (clone_row i.geometry i.lsn i.shelf i.containers i.bindings i.tasks i.clones.items i.copies.items (vec_capacity i.clones) (vec_capacity i.copies) c.self.invariant n source cloning is places fit at_is) in
    let long : length is ≡ length c.args.copies.now = length-map c.args.copies.now _ in
    omega (arith, enough_left i.geometry i.lsn i.shelf i.containers i.bindings i.tasks i.clones.items i.copies.items (vec_capacity i.clones) (vec_capacity i.copies) c.self.invariant n source cloning is places fit at_is some.0 some.1, long, left_at i.tasks n cloning.task cloning.found 0)

pub note-requires-clause-runs : goal.note-requires-clause-runs
note-requires-clause-runs c =
    let i = c.self.inside in
    let d : Durable Entry = seen_durable i.lsn i.shelf.shelf i.containers i.bindings i.tasks i.clones.items i.copies.items in
    let n = c.args.task.0 in
    let source = c.args.source.0 in
    let is = copy_indexes c.args.copies.now in
    let places = copy_places c.args.copies.now in
    let fit : fits d (Turn n) places ≡ true = subst (λ (t : TablesView). fits t.durable (Turn n) places ≡ true) (sym c.self.view_is) c.requires.fits in
    let at_is : is ≡ changed_indexes (λ (e : Entry). e.stamp) d (Turn n) = c.requires.indexes ∙ ap (λ (t : TablesView). changed_indexes (λ (e : Entry). e.stamp) t.durable (Turn n)) (sym c.self.view_is) in
    let cloning : CloneTask i.tasks n source = clone_task i.tasks n source (subst (λ (t : TablesView). RunsClone t.durable n source) (sym c.self.view_is) c.requires.runs) in
    runs_at i.tasks n cloning.task cloning.found 0 cloning.running

pub take_clone-row-requires : goal.take_clone-row-requires
take_clone-row-requires c =
    let i = c.self.inside in
    let d : Durable Entry = seen_durable i.lsn i.shelf.shelf i.containers i.bindings i.tasks i.clones.items i.copies.items in
    let n = c.args.task.0 in
    let source = c.args.source.0 in
    let is = copy_indexes c.args.copies.now in
    let places = copy_places c.args.copies.now in
    let fit : fits d (Turn n) places ≡ true = subst (λ (t : TablesView). fits t.durable (Turn n) places ≡ true) (sym c.self.view_is) c.requires.fits in
    let at_is : is ≡ changed_indexes (λ (e : Entry). e.stamp) d (Turn n) = c.requires.indexes ∙ ap (λ (t : TablesView). changed_indexes (λ (e : Entry). e.stamp) t.durable (Turn n)) (sym c.self.view_is) in
    let cloning : CloneTask i.tasks n source = clone_task i.tasks n source (subst (λ (t : TablesView). RunsClone t.durable n source) (sym c.self.view_is) c.requires.runs) in
    let rows : c.fill_clone.new.rows.items ≡ i.clones.items = c.fill_clone.ensures.rows in
    subst (λ rs. IsSome (find (is_clone_row n) rs)) (sym rows) (clone_row i.geometry i.lsn i.shelf i.containers i.bindings i.tasks i.clones.items i.copies.items (vec_capacity i.clones) (vec_capacity i.copies) c.self.invariant n source cloning is places fit at_is)

pub end_clone-requires-clause-image : goal.end_clone-requires-clause-image
end_clone-requires-clause-image c =
    let i = c.self.inside in
    let d : Durable Entry = seen_durable i.lsn i.shelf.shelf i.containers i.bindings i.tasks i.clones.items i.copies.items in
    let n = c.args.task.0 in
    let source = c.args.source.0 in
    let is = copy_indexes c.args.copies.now in
    let places = copy_places c.args.copies.now in
    let fit : fits d (Turn n) places ≡ true = subst (λ (t : TablesView). fits t.durable (Turn n) places ≡ true) (sym c.self.view_is) c.requires.fits in
    let at_is : is ≡ changed_indexes (λ (e : Entry). e.stamp) d (Turn n) = c.requires.indexes ∙ ap (λ (t : TablesView). changed_indexes (λ (e : Entry). e.stamp) t.durable (Turn n)) (sym c.self.view_is) in
    let cloning : CloneTask i.tasks n source = clone_task i.tasks n source (subst (λ (t : TablesView). RunsClone t.durable n source) (sym c.self.view_is) c.requires.runs) in
    let row = c.take_clone-row.result in
    let at : find (is_clone_row n) i.clones.items ≡ Some row = ap (find (is_clone_row n)) (sym c.fill_clone.ensures.rows) ∙ c.take_clone-row.ensures.row in
    let shelf : c.fill_clone.new.shelf.shelf ≡ filled i.geometry i.lsn i.shelf i.containers i.bindings i.tasks i.clones.items i.copies.items (vec_capacity i.clones) (vec_capacity i.copies) c.self.invariant n source cloning is places fit at_is row at =
    subst (λ o. IfSome o (λ (r : CloneRow). c.fill_clone.new.shelf.shelf ≡ with_filled i.shelf.shelf r.target.number n is places)) at c.fill_clone.ensures.shelf in
    subst (λ (s : ShelfState). IsSome (held_in s row.image.number)) (sym shelf) (image_there i.geometry i.lsn i.shelf i.containers i.bindings i.tasks i.clones.items i.copies.items (vec_capacity i.clones) (vec_capacity i.copies) c.self.invariant n source cloning is places fit at_is row at)

pub end_clone-requires-clause-target : goal.end_clone-requires-clause-target
end_clone-requires-clause-target c =
    let i = c.self.inside in
    let d : Durable Entry = seen_durable i.lsn i.shelf.shelf i.containers i.bindings i.tasks i.clones.items i.copies.items in
    let n = c.args.task.0 in
    let source = c.args.source.0 in
    let is = copy_indexes c.args.copies.now in
    let places = copy_places c.args.copies.now in
    let fit : fits d (Turn n) places ≡ true = subst (λ (t : TablesView). fits t.durable (Turn n) places ≡ true) (sym c.self.view_is) c.requires.fits in
    let at_is : is ≡ changed_indexes (λ (e : Entry). e.stamp) d (Turn n) = c.requires.indexes ∙ ap (λ (t : TablesView). changed_indexes (λ (e : Entry). e.stamp) t.durable (Turn n)) (sym c.self.view_is) in
    let cloning : CloneTask i.tasks n source = clone_task i.tasks n source (subst (λ (t : TablesView). RunsClone t.durable n source) (sym c.self.view_is) c.requires.runs) in
    let row = c.take_clone-row.result in
    let at : find (is_clone_row n) i.clones.items ≡ Some row = ap (find (is_clone_row n)) (sym c.fill_clone.ensures.rows) ∙ c.take_clone-row.ensures.row in
    let shelf : c.fill_clone.new.shelf.shelf ≡ filled i.geometry i.lsn i.shelf i.containers i.bindings i.tasks i.clones.items i.copies.items (vec_capacity i.clones) (vec_capacity i.copies) c.self.invariant n source cloning is places fit at_is row at =
    subst (λ o. IfSome o (λ (r : CloneRow). c.fill_clone.new.shelf.shelf ≡ with_filled i.shelf.shelf r.target.number n is places)) at c.fill_clone.ensures.shelf in
    subst (λ (s : ShelfState). IsSome (held_in (without_held s row.image.number) row.target.number)) (sym shelf) (target_there i.geometry i.lsn i.shelf i.containers i.bindings i.tasks i.clones.items i.copies.items (vec_capacity i.clones) (vec_capacity i.copies) c.self.invariant n source cloning is places fit at_is row at)

pub end_clone-requires-clause-whole : goal.end_clone-requires-clause-whole
end_clone-requires-clause-whole c =
    let i = c.self.inside in
    let d : Durable Entry = seen_durable i.lsn i.shelf.shelf i.containers i.bindings i.tasks i.clones.items i.copies.items in
    let n = c.args.task.0 in
    let source = c.args.source.0 in
    let is = copy_indexes c.args.copies.now in
    let places = copy_places c.args.copies.now in
    let fit : fits d (Turn n) places ≡ true = subst (λ (t : TablesView). fits t.durable (Turn n) places ≡ true) (sym c.self.view_is) c.requires.fits in
    let at_is : is ≡ changed_indexes (λ (e : Entry). e.stamp) d (Turn n) = c.requires.indexes ∙ ap (λ (t : TablesView). changed_indexes (λ (e : Entry). e.stamp) t.durable (Turn n)) (sym c.self.view_is) in
    let cloning : CloneTask i.tasks n source = clone_task i.tasks n source (subst (λ (t : TablesView). RunsClone t.durable n source) (sym c.self.view_is) c.requires.runs) in
    let row = c.take_clone-row.result in
    let at : find (is_clone_row n) i.clones.items ≡ Some row = ap (find (is_clone_row n)) (sym c.fill_clone.ensures.rows) ∙ c.take_clone-row.ensures.row in
    let shelf : c.fill_clone.new.shelf.shelf ≡ filled i.geometry i.lsn i.shelf i.containers i.bindings i.tasks i.clones.items i.copies.items (vec_capacity i.clones) (vec_capacity i.copies) c.self.invariant n source cloning is places fit at_is row at =
    subst (λ o. IfSome o (λ (r : CloneRow). c.fill_clone.new.shelf.shelf ≡ with_filled i.shelf.shelf r.target.number n is places)) at c.fill_clone.ensures.shelf in
    subst (λ (s : ShelfState). HasEveryIndex (without_held s row.image.number) row.target.number) (sym shelf) (target_whole i.geometry i.lsn i.shelf i.containers i.bindings i.tasks i.clones.items i.copies.items (vec_capacity i.clones) (vec_capacity i.copies) c.self.invariant n source cloning is places fit at_is row at)

pub end_clone-requires-clause-unused : goal.end_clone-requires-clause-unused
end_clone-requires-clause-unused c =
    let i = c.self.inside in
    let d : Durable Entry = seen_durable i.lsn i.shelf.shelf i.containers i.bindings i.tasks i.clones.items i.copies.items in
    let n = c.args.task.0 in
    let source = c.args.source.0 in
    let is = copy_indexes c.args.copies.now in
    let places = copy_places c.args.copies.now in
    let fit : fits d (Turn n) places ≡ true = subst (λ (t : TablesView). fits t.durable (Turn n) places ≡ true) (sym c.self.view_is) c.requires.fits in
    let at_is : is ≡ changed_indexes (λ (e : Entry). e.stamp) d (Turn n) = c.requires.indexes ∙ ap (λ (t : TablesView). changed_indexes (λ (e : Entry). e.stamp) t.durable (Turn n)) (sym c.self.view_is) in
    let cloning : CloneTask i.tasks n source = clone_task i.tasks n source (subst (λ (t : TablesView). RunsClone t.durable n source) (sym c.self.view_is) c.requires.runs) in
    let row = c.take_clone-row.result in
    let at : find (is_clone_row n) i.clones.items ≡ Some row = ap (find (is_clone_row n)) (sym c.fill_clone.ensures.rows) ∙ c.take_clone-row.ensures.row in
    let shelf : c.fill_clone.new.shelf.shelf ≡ filled i.geometry i.lsn i.shelf i.containers i.bindings i.tasks i.clones.items i.copies.items (vec_capacity i.clones) (vec_capacity i.copies) c.self.invariant n source cloning is places fit at_is row at =
    subst (λ o. IfSome o (λ (r : CloneRow). c.fill_clone.new.shelf.shelf ≡ with_filled i.shelf.shelf r.target.number n is places)) at c.fill_clone.ensures.shelf in
    subst (λ (s : ShelfState). volume_in s row.id.0 ≡ None) (sym shelf) (volume_new i.geometry i.lsn i.shelf i.containers i.bindings i.tasks i.clones.items i.copies.items (vec_capacity i.clones) (vec_capacity i.copies) c.self.invariant n source cloning is places fit at_is row at)

pub invariant_of-self : goal.invariant_of-self
invariant_of-self c =
    let i = c.self.inside in
    let d : Durable Entry = seen_durable i.lsn i.shelf.shelf i.containers i.bindings i.tasks i.clones.items i.copies.items in
    let n = c.args.task.0 in
    let source = c.args.source.0 in
    let is = copy_indexes c.args.copies.now in
    let places = copy_places c.args.copies.now in
    let fit : fits d (Turn n) places ≡ true = subst (λ (t : TablesView). fits t.durable (Turn n) places ≡ true) (sym c.self.view_is) c.requires.fits in
    let at_is : is ≡ changed_indexes (λ (e : Entry). e.stamp) d (Turn n) = c.requires.indexes ∙ ap (λ (t : TablesView). changed_indexes (λ (e : Entry). e.stamp) t.durable (Turn n)) (sym c.self.view_is) in
    let cloning : CloneTask i.tasks n source = clone_task i.tasks n source (subst (λ (t : TablesView). RunsClone t.durable n source) (sym c.self.view_is) c.requires.runs) in
    let row = c.take_clone-row.result in
    let at : find (is_clone_row n) i.clones.items ≡ Some row = ap (find (is_clone_row n)) (sym c.fill_clone.ensures.rows) ∙ c.take_clone-row.ensures.row in
    let shelf : c.fill_clone.new.shelf.shelf ≡ filled i.geometry i.lsn i.shelf i.containers i.bindings i.tasks i.clones.items i.copies.items (vec_capacity i.clones) (vec_capacity i.copies) c.self.invariant n source cloning is places fit at_is row at =
    subst (λ o. IfSome o (λ (r : CloneRow). c.fill_clone.new.shelf.shelf ≡ with_filled i.shelf.shelf r.target.number n is places)) at c.fill_clone.ensures.shelf in
    let long : length is ≡ length c.args.copies.now = length-map c.args.copies.now _ in
    let last : is_last cloning.task (length is) ≡ true =
    ap (is_last cloning.task) long ∙ last_at i.tasks n cloning.task cloning.found (length c.args.copies.now) c.note.result c.note.ensures.last ∙ c.if-note.true in
    let tasks : c.note.new.self ≡ tasks_after i.geometry i.lsn i.shelf i.containers i.bindings i.tasks i.clones.items i.copies.items (vec_capacity i.clones) (vec_capacity i.copies) c.self.invariant n source cloning is places fit at_is row at =
    c.note.ensures.table ∙ noted_at i.tasks n cloning.task cloning.found (length c.args.copies.now) ∙ ap (λ k. with_task i.tasks (advanced cloning.task k)) (sym long) in
    let rows : c.fill_clone.new.rows.items ≡ i.clones.items = c.fill_clone.ensures.rows in
    let after : c.end_clone.new.shelf.shelf ≡ with_clone_made (filled i.geometry i.lsn i.shelf i.containers i.bindings i.tasks i.clones.items i.copies.items (vec_capacity i.clones) (vec_capacity i.copies) c.self.invariant n source cloning is places fit at_is row at) row c.args.source = c.end_clone.ensures.shelf ∙ ap (λ (s : ShelfState). with_clone_made s row c.args.source) shelf in
    let gone = c.take_clone-row.ensures.items ∙ ap (first_removed (is_clone_row n)) rows in
    ended_kept i.geometry i.lsn i.shelf i.containers i.bindings i.tasks i.clones.items i.copies.items (vec_capacity i.clones) (vec_capacity i.copies) c.self.invariant n source cloning is places fit at_is row at c.end_clone.new.shelf c.note.new.self c.take_clone-row.new.rows.items after tasks gone last
    (vec_capacity c.take_clone-row.new.rows) (c.take_clone-row.ensures.capacity ∙ c.fill_clone.ensures.capacity)

pub invariant_of-self-else-note : goal.invariant_of-self-else-note
invariant_of-self-else-note c =
    let i = c.self.inside in
    let d : Durable Entry = seen_durable i.lsn i.shelf.shelf i.containers i.bindings i.tasks i.clones.items i.copies.items in
    let n = c.args.task.0 in
    let source = c.args.source.0 in
    let is = copy_indexes c.args.copies.now in
    let places = copy_places c.args.copies.now in
    let fit : fits d (Turn n) places ≡ true = subst (λ (t : TablesView). fits t.durable (Turn n) places ≡ true) (sym c.self.view_is) c.requires.fits in
    let at_is : is ≡ changed_indexes (λ (e : Entry). e.stamp) d (Turn n) = c.requires.indexes ∙ ap (λ (t : TablesView). changed_indexes (λ (e : Entry). e.stamp) t.durable (Turn n)) (sym c.self.view_is) in
    let cloning : CloneTask i.tasks n source = clone_task i.tasks n source (subst (λ (t : TablesView). RunsClone t.durable n source) (sym c.self.view_is) c.requires.runs) in
    let some = the_found (find (is_clone_row n) i.clones.items) (clone_row i.geometry i.lsn i.shelf i.containers i.bindings i.tasks i.clones.items i.copies.items (vec_capacity i.clones) (vec_capacity i.copies) c.self.invariant n source cloning is places fit at_is) in
    let shelf : c.fill_clone.new.shelf.shelf ≡ filled i.geometry i.lsn i.shelf i.containers i.bindings i.tasks i.clones.items i.copies.items (vec_capacity i.clones) (vec_capacity i.copies) c.self.invariant n source cloning is places fit at_is some.0 some.1 =
    subst (λ o. IfSome o (λ (r : CloneRow). c.fill_clone.new.shelf.shelf ≡ with_filled i.shelf.shelf r.target.number n is places)) some.1 c.fill_clone.ensures.shelf in
    let long : length is ≡ length c.args.copies.now = length-map c.args.copies.now _ in
    let last : is_last cloning.task (length is) ≡ false =
    ap (is_last cloning.task) long ∙ last_at i.tasks n cloning.task cloning.found (length c.args.copies.now) c.note.result c.note.ensures.last ∙ c.if-note.false in
    let tasks : c.note.new.self ≡ tasks_after i.geometry i.lsn i.shelf i.containers i.bindings i.tasks i.clones.items i.copies.items (vec_capacity i.clones) (vec_capacity i.copies) c.self.invariant n source cloning is places fit at_is some.0 some.1 =
    c.note.ensures.table ∙ noted_at i.tasks n cloning.task cloning.found (length c.args.copies.now) ∙ ap (λ k. with_task i.tasks (advanced cloning.task k)) (sym long) in
    let rows : c.fill_clone.new.rows.items ≡ i.clones.items = c.fill_clone.ensures.rows in
    subst (λ (rs : List CloneRow). IsTables i.geometry (i.lsn + 1) c.fill_clone.new.shelf i.containers i.bindings c.note.new.self rs i.copies.items (vec_capacity c.fill_clone.new.rows) (vec_capacity i.copies)) (sym rows)
    (subst (λ k. IsTables i.geometry (i.lsn + 1) c.fill_clone.new.shelf i.containers i.bindings c.note.new.self i.clones.items i.copies.items k (vec_capacity i.copies)) (sym c.fill_clone.ensures.capacity)
    (goes_on_kept i.geometry i.lsn i.shelf i.containers i.bindings i.tasks i.clones.items i.copies.items (vec_capacity i.clones) (vec_capacity i.copies) c.self.invariant n source cloning is places fit at_is some.0 some.1 c.fill_clone.new.shelf c.note.new.self shelf tasks last))

pub returns-then-note-clause-durable : goal.returns-then-note-clause-durable
returns-then-note-clause-durable c =
    let i = c.self.inside in
    let d : Durable Entry = seen_durable i.lsn i.shelf.shelf i.containers i.bindings i.tasks i.clones.items i.copies.items in
    let n = c.args.task.0 in
    let source = c.args.source.0 in
    let is = copy_indexes c.args.copies.now in
    let places = copy_places c.args.copies.now in
    let fit : fits d (Turn n) places ≡ true = subst (λ (t : TablesView). fits t.durable (Turn n) places ≡ true) (sym c.self.view_is) c.requires.fits in
    let at_is : is ≡ changed_indexes (λ (e : Entry). e.stamp) d (Turn n) = c.requires.indexes ∙ ap (λ (t : TablesView). changed_indexes (λ (e : Entry). e.stamp) t.durable (Turn n)) (sym c.self.view_is) in
    let cloning : CloneTask i.tasks n source = clone_task i.tasks n source (subst (λ (t : TablesView). RunsClone t.durable n source) (sym c.self.view_is) c.requires.runs) in
    let row = c.take_clone-row.result in
    let at : find (is_clone_row n) i.clones.items ≡ Some row = ap (find (is_clone_row n)) (sym c.fill_clone.ensures.rows) ∙ c.take_clone-row.ensures.row in
    let shelf : c.fill_clone.new.shelf.shelf ≡ filled i.geometry i.lsn i.shelf i.containers i.bindings i.tasks i.clones.items i.copies.items (vec_capacity i.clones) (vec_capacity i.copies) c.self.invariant n source cloning is places fit at_is row at =
    subst (λ o. IfSome o (λ (r : CloneRow). c.fill_clone.new.shelf.shelf ≡ with_filled i.shelf.shelf r.target.number n is places)) at c.fill_clone.ensures.shelf in
    let long : length is ≡ length c.args.copies.now = length-map c.args.copies.now _ in
    let last : is_last cloning.task (length is) ≡ true =
    ap (is_last cloning.task) long ∙ last_at i.tasks n cloning.task cloning.found (length c.args.copies.now) c.note.result c.note.ensures.last ∙ c.if-note.true in
    let tasks : c.note.new.self ≡ tasks_after i.geometry i.lsn i.shelf i.containers i.bindings i.tasks i.clones.items i.copies.items (vec_capacity i.clones) (vec_capacity i.copies) c.self.invariant n source cloning is places fit at_is row at =
    c.note.ensures.table ∙ noted_at i.tasks n cloning.task cloning.found (length c.args.copies.now) ∙ ap (λ k. with_task i.tasks (advanced cloning.task k)) (sym long) in
    let rows : c.fill_clone.new.rows.items ≡ i.clones.items = c.fill_clone.ensures.rows in
    let after : c.end_clone.new.shelf.shelf ≡ with_clone_made (filled i.geometry i.lsn i.shelf i.containers i.bindings i.tasks i.clones.items i.copies.items (vec_capacity i.clones) (vec_capacity i.copies) c.self.invariant n source cloning is places fit at_is row at) row c.args.source = c.end_clone.ensures.shelf ∙ ap (λ (s : ShelfState). with_clone_made s row c.args.source) shelf in
    let gone = c.take_clone-row.ensures.items ∙ ap (first_removed (is_clone_row n)) rows in
    ended_seen i.geometry i.lsn i.shelf i.containers i.bindings i.tasks i.clones.items i.copies.items (vec_capacity i.clones) (vec_capacity i.copies) c.self.invariant n source cloning is places fit at_is row at c.end_clone.new.shelf c.note.new.self c.take_clone-row.new.rows.items after tasks gone last
    ∙ ap (λ (t : TablesView). replayed t.durable (Turn n) places) c.self.view_is

pub returns-else-note-clause-durable : goal.returns-else-note-clause-durable
returns-else-note-clause-durable c =
    let i = c.self.inside in
    let d : Durable Entry = seen_durable i.lsn i.shelf.shelf i.containers i.bindings i.tasks i.clones.items i.copies.items in
    let n = c.args.task.0 in
    let source = c.args.source.0 in
    let is = copy_indexes c.args.copies.now in
    let places = copy_places c.args.copies.now in
    let fit : fits d (Turn n) places ≡ true = subst (λ (t : TablesView). fits t.durable (Turn n) places ≡ true) (sym c.self.view_is) c.requires.fits in
    let at_is : is ≡ changed_indexes (λ (e : Entry). e.stamp) d (Turn n) = c.requires.indexes ∙ ap (λ (t : TablesView). changed_indexes (λ (e : Entry). e.stamp) t.durable (Turn n)) (sym c.self.view_is) in
    let cloning : CloneTask i.tasks n source = clone_task i.tasks n source (subst (λ (t : TablesView). RunsClone t.durable n source) (sym c.self.view_is) c.requires.runs) in
    let some = the_found (find (is_clone_row n) i.clones.items) (clone_row i.geometry i.lsn i.shelf i.containers i.bindings i.tasks i.clones.items i.copies.items (vec_capacity i.clones) (vec_capacity i.copies) c.self.invariant n source cloning is places fit at_is) in
    let shelf : c.fill_clone.new.shelf.shelf ≡ filled i.geometry i.lsn i.shelf i.containers i.bindings i.tasks i.clones.items i.copies.items (vec_capacity i.clones) (vec_capacity i.copies) c.self.invariant n source cloning is places fit at_is some.0 some.1 =
    subst (λ o. IfSome o (λ (r : CloneRow). c.fill_clone.new.shelf.shelf ≡ with_filled i.shelf.shelf r.target.number n is places)) some.1 c.fill_clone.ensures.shelf in
    let long : length is ≡ length c.args.copies.now = length-map c.args.copies.now _ in
    let last : is_last cloning.task (length is) ≡ false =
    ap (is_last cloning.task) long ∙ last_at i.tasks n cloning.task cloning.found (length c.args.copies.now) c.note.result c.note.ensures.last ∙ c.if-note.false in
    let tasks : c.note.new.self ≡ tasks_after i.geometry i.lsn i.shelf i.containers i.bindings i.tasks i.clones.items i.copies.items (vec_capacity i.clones) (vec_capacity i.copies) c.self.invariant n source cloning is places fit at_is some.0 some.1 =
    c.note.ensures.table ∙ noted_at i.tasks n cloning.task cloning.found (length c.args.copies.now) ∙ ap (λ k. with_task i.tasks (advanced cloning.task k)) (sym long) in
    let rows : c.fill_clone.new.rows.items ≡ i.clones.items = c.fill_clone.ensures.rows in
    ap (λ (s : ShelfState). seen_durable (i.lsn + 1) s i.containers i.bindings c.note.new.self c.fill_clone.new.rows.items i.copies.items) shelf
    ∙ ap (λ ts. seen_durable (i.lsn + 1) (filled i.geometry i.lsn i.shelf i.containers i.bindings i.tasks i.clones.items i.copies.items (vec_capacity i.clones) (vec_capacity i.copies) c.self.invariant n source cloning is places fit at_is some.0 some.1) i.containers i.bindings ts c.fill_clone.new.rows.items i.copies.items) tasks
    ∙ ap (λ rs. seen_durable (i.lsn + 1) (filled i.geometry i.lsn i.shelf i.containers i.bindings i.tasks i.clones.items i.copies.items (vec_capacity i.clones) (vec_capacity i.copies) c.self.invariant n source cloning is places fit at_is some.0 some.1) i.containers i.bindings (tasks_after i.geometry i.lsn i.shelf i.containers i.bindings i.tasks i.clones.items i.copies.items (vec_capacity i.clones) (vec_capacity i.copies) c.self.invariant n source cloning is places fit at_is some.0 some.1) rs i.copies.items) rows
    ∙ goes_on_seen i.geometry i.lsn i.shelf i.containers i.bindings i.tasks i.clones.items i.copies.items (vec_capacity i.clones) (vec_capacity i.copies) c.self.invariant n source cloning is places fit at_is some.0 some.1 last
    ∙ ap (λ (t : TablesView). replayed t.durable (Turn n) places) c.self.view_is
