use Rattle.std.proofs.Common.{List, ◌≡◌, ◌+◌, ◌-◌, ◌<◌, [], true, length, count_by, refl, sym, ap, subst, ◌∙◌, arith, vec_capacity}
use Rattle.std.specs.Prelude.{IsSome}
use Rattle.vv_flat.specs.State.{Durable, Copy, container_of}
use Rattle.vv_flat.specs.Chunks.{Entry, shape_of_tables}
use Rattle.vv_units.specs.declared.volume.TaskState.TheVariants.{Running}
use Rattle.vv_flat.specs.Space.{is_running, charge}
use Rattle.vv_flat.specs.Tasks.{started}
use Rattle.vv_flat.specs.Changes.{StartCopy, home_of}
use Rattle.vv_flat.specs.Replay.{fits, replayed}
use Rattle.vv_vols.specs.Shelf.{HeldName, ShelfState, volume_in, held_in, next_held}
use Rattle.vv_container.specs.Table.{ChargedContainer, with_charge}
use Rattle.vv_tables.specs.Seen.{TablesView, seen_durable}
use Rattle.vv_tables.specs.Kept.{IsTables}
use Rattle.vv_tables.specs.Copies.{differing}
use Rattle.vv_tables.proofs.Accepted.{log_within}
use Rattle.vv_tables.proofs.NextNumber.{tasks_below}
use Rattle.vv_tables.proofs.Containers.{row_stands, charge_is}
use Rattle.vv_tables.proofs.Limits.{seen_rows_run}
use Rattle.vv_tables.proofs.ShelfCounts.{shelf_entries_are}
use Rattle.vv_tables.proofs.StartedCopies.{source_stands, base_stands, target_stands, few_run, pieces_long, pieces_fit, new_pieces, new_task}
use Rattle.vv_tables.proofs.CopyStarts.{home_row, held_more, begun_found, more_is, added, charge_fits, copy_started_seen, copy_started_kept}
use Rattle.vv_tables.proofs.tables.Tables.start_copy.Goals as goal

pub difference-requires-clause-source : goal.difference-requires-clause-source
difference-requires-clause-source g c =
    let i = c.self.inside in
    let d : Durable Entry = seen_durable i.lsn i.shelf.shelf i.containers i.bindings i.tasks i.clones.items i.copies.items in
    let source = c.args.source.0 in
    let base = c.args.base.0 in
    let target = c.args.target.0 in
    let fit : fits d (StartCopy source base target) [] ≡ true = subst (λ (t : TablesView). fits t.durable (StartCopy source base target) [] ≡ true) (sym c.self.view_is) c.requires.fits in
    source_stands d source base target c.self.invariant.kept.well fit

pub difference-requires-clause-base : goal.difference-requires-clause-base
difference-requires-clause-base g c =
    let i = c.self.inside in
    let d : Durable Entry = seen_durable i.lsn i.shelf.shelf i.containers i.bindings i.tasks i.clones.items i.copies.items in
    let source = c.args.source.0 in
    let base = c.args.base.0 in
    let target = c.args.target.0 in
    let fit : fits d (StartCopy source base target) [] ≡ true = subst (λ (t : TablesView). fits t.durable (StartCopy source base target) [] ≡ true) (sym c.self.view_is) c.requires.fits in
    base_stands d source base target c.self.invariant.kept.well fit

pub difference-requires-clause-enough : goal.difference-requires-clause-enough
difference-requires-clause-enough g c =
    let i = c.self.inside in
    let d : Durable Entry = seen_durable i.lsn i.shelf.shelf i.containers i.bindings i.tasks i.clones.items i.copies.items in
    let source = c.args.source.0 in
    let base = c.args.base.0 in
    let target = c.args.target.0 in
    let fit : fits d (StartCopy source base target) [] ≡ true = subst (λ (t : TablesView). fits t.durable (StartCopy source base target) [] ≡ true) (sym c.self.view_is) c.requires.fits in
    let differ : differing c.args.self.now.durable source base ≡ differing d source base = ap (λ (t : TablesView). differing t.durable source base) (sym c.self.view_is) in
    omega (arith, c.requires.enough, differ, pieces_long d source base target c.self.invariant.kept.well fit)

pub difference-requires-clause-few : goal.difference-requires-clause-few
difference-requires-clause-few g c =
    let i = c.self.inside in
    let d : Durable Entry = seen_durable i.lsn i.shelf.shelf i.containers i.bindings i.tasks i.clones.items i.copies.items in
    let source = c.args.source.0 in
    let base = c.args.base.0 in
    let target = c.args.target.0 in
    let fit : fits d (StartCopy source base target) [] ≡ true = subst (λ (t : TablesView). fits t.durable (StartCopy source base target) [] ≡ true) (sym c.self.view_is) c.requires.fits in
    omega (
      arith,
      pieces_fit d source base target c.self.invariant.kept.well fit,
      shelf_entries_are i.lsn i.shelf.shelf i.containers i.bindings i.tasks i.clones.items i.copies.items c.self.invariant.held,
    )

pub allocating-more-requires-clause-standing : goal.allocating-more-requires-clause-standing
allocating-more-requires-clause-standing g c =
    let i = c.self.inside in
    let d : Durable Entry = seen_durable i.lsn i.shelf.shelf i.containers i.bindings i.tasks i.clones.items i.copies.items in
    let source = c.args.source.0 in
    let base = c.args.base.0 in
    let target = c.args.target.0 in
    let fit : fits d (StartCopy source base target) [] ≡ true = subst (λ (t : TablesView). fits t.durable (StartCopy source base target) [] ≡ true) (sym c.self.view_is) c.requires.fits in
    subst (λ (s : ShelfState). IsSome (volume_in s target)) (sym c.difference.ensures.shelf) (target_stands d source base target c.self.invariant.kept.well fit)

pub allocating-more-requires-clause-holding : goal.allocating-more-requires-clause-holding
allocating-more-requires-clause-holding g c =
    let i = c.self.inside in
    let d : Durable Entry = seen_durable i.lsn i.shelf.shelf i.containers i.bindings i.tasks i.clones.items i.copies.items in
    let source = c.args.source.0 in
    let base = c.args.base.0 in
    let target = c.args.target.0 in
    let fit : fits d (StartCopy source base target) [] ≡ true = subst (λ (t : TablesView). fits t.durable (StartCopy source base target) [] ≡ true) (sym c.self.view_is) c.requires.fits in
    let left = c.args.room.indexes - length (new_pieces d source base target c.self.invariant.kept.well fit) in
    let number : c.into_held-pieces.result.number ≡ next_held i.shelf.shelf = ap (λ (h : HeldName). h.number) (c.into_held-pieces.ensures ∙ c.difference.ensures.pieces) in
    subst (λ (s : ShelfState). IsSome (held_in s c.into_held-pieces.result.number)) (sym c.difference.ensures.shelf)
    (subst (λ n. IsSome (held_in (held_more i.geometry i.lsn i.shelf i.containers i.bindings i.tasks i.clones.items i.copies.items (vec_capacity i.clones) (vec_capacity i.copies) c.self.invariant source base target fit left) n)) (sym number)
    (subst (λ o. IsSome o) (sym (begun_found i.geometry i.lsn i.shelf i.containers i.bindings i.tasks i.clones.items i.copies.items (vec_capacity i.clones) (vec_capacity i.copies) c.self.invariant source base target fit left)) refl))

pub charge-charged-requires : goal.charge-charged-requires
charge-charged-requires g c =
    let i = c.self.inside in
    let d : Durable Entry = seen_durable i.lsn i.shelf.shelf i.containers i.bindings i.tasks i.clones.items i.copies.items in
    let source = c.args.source.0 in
    let base = c.args.base.0 in
    let target = c.args.target.0 in
    let fit : fits d (StartCopy source base target) [] ≡ true = subst (λ (t : TablesView). fits t.durable (StartCopy source base target) [] ≡ true) (sym c.self.view_is) c.requires.fits in
    let same : c.home_of-home.result.0 ≡ home_of (shape_of_tables d) target = c.home_of-home.ensures ∙ ap (λ (t : TablesView). home_of (shape_of_tables t.durable) target) (sym c.self.view_is) in
    row_stands i.containers c.home_of-home.result.0 (subst (λ n. IsSome (container_of d n)) (sym same) (home_row i.geometry i.lsn i.shelf i.containers i.bindings i.tasks i.clones.items i.copies.items (vec_capacity i.clones) (vec_capacity i.copies) c.self.invariant source base target fit))

pub overflow_add-charged : goal.overflow_add-charged
overflow_add-charged g c =
    let i = c.self.inside in
    let d : Durable Entry = seen_durable i.lsn i.shelf.shelf i.containers i.bindings i.tasks i.clones.items i.copies.items in
    let source = c.args.source.0 in
    let base = c.args.base.0 in
    let target = c.args.target.0 in
    let fit : fits d (StartCopy source base target) [] ≡ true = subst (λ (t : TablesView). fits t.durable (StartCopy source base target) [] ≡ true) (sym c.self.view_is) c.requires.fits in
    let same : c.home_of-home.result.0 ≡ home_of (shape_of_tables d) target = c.home_of-home.ensures ∙ ap (λ (t : TablesView). home_of (shape_of_tables t.durable) target) (sym c.self.view_is) in
    let left = c.args.room.indexes - length (new_pieces d source base target c.self.invariant.kept.well fit) in
    let number : c.into_held-pieces.result.number ≡ next_held i.shelf.shelf = ap (λ (h : HeldName). h.number) (c.into_held-pieces.ensures ∙ c.difference.ensures.pieces) in
    let more : c.allocating-more.result ≡ added i.geometry i.lsn i.shelf i.containers i.bindings i.tasks i.clones.items i.copies.items (vec_capacity i.clones) (vec_capacity i.copies) c.self.invariant source base target fit = c.allocating-more.ensures ∙ more_is i.geometry i.lsn i.shelf i.containers i.bindings i.tasks i.clones.items i.copies.items (vec_capacity i.clones) (vec_capacity i.copies) c.self.invariant source base target fit left c.difference.new.shelf.shelf c.into_held-pieces.result.number c.difference.ensures.shelf number in
    let charged : c.charge-charged.result ≡ charge (shape_of_tables d) (home_of (shape_of_tables d) target) =
    charge_is d i.containers c.home_of-home.result.0 c.charge-charged.result c.self.invariant.kept.charges c.charge-charged.ensures ∙ ap (charge (shape_of_tables d)) same in
    omega (arith, more, charged, charge_fits i.geometry i.lsn i.shelf i.containers i.bindings i.tasks i.clones.items i.copies.items (vec_capacity i.clones) (vec_capacity i.copies) c.self.invariant source base target fit)

pub overflow_add-self : goal.overflow_add-self
overflow_add-self g c =
    let i = c.self.inside in
    let d : Durable Entry = seen_durable i.lsn i.shelf.shelf i.containers i.bindings i.tasks i.clones.items i.copies.items in
    let source = c.args.source.0 in
    let base = c.args.base.0 in
    let target = c.args.target.0 in
    let fit : fits d (StartCopy source base target) [] ≡ true = subst (λ (t : TablesView). fits t.durable (StartCopy source base target) [] ≡ true) (sym c.self.view_is) c.requires.fits in
    omega (arith, log_within d c.self.invariant.kept.well)

pub start-requires-clause-room : goal.start-requires-clause-room
start-requires-clause-room g c =
    let i = c.self.inside in
    let d : Durable Entry = seen_durable i.lsn i.shelf.shelf i.containers i.bindings i.tasks i.clones.items i.copies.items in
    let source = c.args.source.0 in
    let base = c.args.base.0 in
    let target = c.args.target.0 in
    let fit : fits d (StartCopy source base target) [] ≡ true = subst (λ (t : TablesView). fits t.durable (StartCopy source base target) [] ≡ true) (sym c.self.view_is) c.requires.fits in
    few_run d source base target c.self.invariant.kept.well fit

pub start-requires-clause-above : goal.start-requires-clause-above
start-requires-clause-above g c =
    let i = c.self.inside in
    let d : Durable Entry = seen_durable i.lsn i.shelf.shelf i.containers i.bindings i.tasks i.clones.items i.copies.items in
    let source = c.args.source.0 in
    let base = c.args.base.0 in
    let target = c.args.target.0 in
    let fit : fits d (StartCopy source base target) [] ≡ true = subst (λ (t : TablesView). fits t.durable (StartCopy source base target) [] ≡ true) (sym c.self.view_is) c.requires.fits in
    tasks_below d c.self.invariant.kept.well

pub push_copy-requires : goal.push_copy-requires
push_copy-requires g c =
    let i = c.self.inside in
    let d : Durable Entry = seen_durable i.lsn i.shelf.shelf i.containers i.bindings i.tasks i.clones.items i.copies.items in
    let source = c.args.source.0 in
    let base = c.args.base.0 in
    let target = c.args.target.0 in
    let fit : fits d (StartCopy source base target) [] ≡ true = subst (λ (t : TablesView). fits t.durable (StartCopy source base target) [] ≡ true) (sym c.self.view_is) c.requires.fits in
    let few : count_by is_running i.tasks < 16 = few_run d source base target c.self.invariant.kept.well fit in
    let rows : length i.clones.items + length i.copies.items ≡ count_by is_running i.tasks = seen_rows_run i.lsn i.shelf.shelf i.containers i.bindings i.tasks i.clones.items i.copies.items c.self.invariant.kept.well in
    let memory = c.self.invariant.copy_rows in
    omega (arith, few, rows, memory)

pub invariant_of-self : goal.invariant_of-self
invariant_of-self g c =
    let i = c.self.inside in
    let d : Durable Entry = seen_durable i.lsn i.shelf.shelf i.containers i.bindings i.tasks i.clones.items i.copies.items in
    let source = c.args.source.0 in
    let base = c.args.base.0 in
    let target = c.args.target.0 in
    let fit : fits d (StartCopy source base target) [] ≡ true = subst (λ (t : TablesView). fits t.durable (StartCopy source base target) [] ≡ true) (sym c.self.view_is) c.requires.fits in
    let same : c.home_of-home.result.0 ≡ home_of (shape_of_tables d) target = c.home_of-home.ensures ∙ ap (λ (t : TablesView). home_of (shape_of_tables t.durable) target) (sym c.self.view_is) in
    let left = c.args.room.indexes - length (new_pieces d source base target c.self.invariant.kept.well fit) in
    let number : c.into_held-pieces.result.number ≡ next_held i.shelf.shelf = ap (λ (h : HeldName). h.number) (c.into_held-pieces.ensures ∙ c.difference.ensures.pieces) in
    let more : c.allocating-more.result ≡ added i.geometry i.lsn i.shelf i.containers i.bindings i.tasks i.clones.items i.copies.items (vec_capacity i.clones) (vec_capacity i.copies) c.self.invariant source base target fit = c.allocating-more.ensures ∙ more_is i.geometry i.lsn i.shelf i.containers i.bindings i.tasks i.clones.items i.copies.items (vec_capacity i.clones) (vec_capacity i.copies) c.self.invariant source base target fit left c.difference.new.shelf.shelf c.into_held-pieces.result.number c.difference.ensures.shelf number in
    let charged : c.charge-charged.result ≡ charge (shape_of_tables d) (home_of (shape_of_tables d) target) =
    charge_is d i.containers c.home_of-home.result.0 c.charge-charged.result c.self.invariant.kept.charges c.charge-charged.ensures ∙ ap (charge (shape_of_tables d)) same in
    let total : c.len-total.result ≡ length (new_pieces d source base target c.self.invariant.kept.well fit) =
    c.len-total.ensures ∙ ap (λ (h : HeldName). h.len) (c.into_held-pieces.ensures ∙ c.difference.ensures.pieces) in
    let tasks : c.start.new.self ≡ started i.tasks (new_task d source base target c.self.invariant.kept.well fit) =
    c.start.ensures ∙ ap (λ n. started i.tasks (record { number = i.lsn + 1; job = Copy source base target; state = Running; done = 0; total = n })) total in
    let charges : c.set_charge.new.self ≡ with_charge i.containers (home_of (shape_of_tables d) target) (c.charge-charged.result + c.allocating-more.result) =
    c.set_charge.ensures ∙ ap (λ n. with_charge i.containers n (c.charge-charged.result + c.allocating-more.result)) same in
    subst (λ (rows : List ChargedContainer). IsTables i.geometry (i.lsn + 1) c.difference.new.shelf rows i.bindings c.start.new.self i.clones.items c.push_copy.new.rows.items (vec_capacity i.clones) (vec_capacity c.push_copy.new.rows)) (sym charges)
    (copy_started_kept i.geometry i.lsn i.shelf i.containers i.bindings i.tasks i.clones.items i.copies.items (vec_capacity i.clones) (vec_capacity i.copies) c.self.invariant source base target fit left c.difference.new.shelf (c.charge-charged.result + c.allocating-more.result) c.start.new.self
    (record { id = record { 0 = i.lsn + 1 }; pieces = c.into_held-pieces.result }) c.push_copy.new.rows.items (vec_capacity c.push_copy.new.rows)
    c.difference.ensures.shelf number refl tasks c.push_copy.ensures.items (omega (arith, more, charged)) c.push_copy.ensures.capacity)

pub returns-clause-durable : goal.returns-clause-durable
returns-clause-durable g c =
    let i = c.self.inside in
    let d : Durable Entry = seen_durable i.lsn i.shelf.shelf i.containers i.bindings i.tasks i.clones.items i.copies.items in
    let source = c.args.source.0 in
    let base = c.args.base.0 in
    let target = c.args.target.0 in
    let fit : fits d (StartCopy source base target) [] ≡ true = subst (λ (t : TablesView). fits t.durable (StartCopy source base target) [] ≡ true) (sym c.self.view_is) c.requires.fits in
    let same : c.home_of-home.result.0 ≡ home_of (shape_of_tables d) target = c.home_of-home.ensures ∙ ap (λ (t : TablesView). home_of (shape_of_tables t.durable) target) (sym c.self.view_is) in
    let left = c.args.room.indexes - length (new_pieces d source base target c.self.invariant.kept.well fit) in
    let number : c.into_held-pieces.result.number ≡ next_held i.shelf.shelf = ap (λ (h : HeldName). h.number) (c.into_held-pieces.ensures ∙ c.difference.ensures.pieces) in
    let total : c.len-total.result ≡ length (new_pieces d source base target c.self.invariant.kept.well fit) =
    c.len-total.ensures ∙ ap (λ (h : HeldName). h.len) (c.into_held-pieces.ensures ∙ c.difference.ensures.pieces) in
    let tasks : c.start.new.self ≡ started i.tasks (new_task d source base target c.self.invariant.kept.well fit) =
    c.start.ensures ∙ ap (λ n. started i.tasks (record { number = i.lsn + 1; job = Copy source base target; state = Running; done = 0; total = n })) total in
    let charges : c.set_charge.new.self ≡ with_charge i.containers (home_of (shape_of_tables d) target) (c.charge-charged.result + c.allocating-more.result) =
    c.set_charge.ensures ∙ ap (λ n. with_charge i.containers n (c.charge-charged.result + c.allocating-more.result)) same in
    ap (λ (rows : List ChargedContainer). seen_durable (i.lsn + 1) c.difference.new.shelf.shelf rows i.bindings c.start.new.self i.clones.items c.push_copy.new.rows.items) charges
    ∙ copy_started_seen i.geometry i.lsn i.shelf i.containers i.bindings i.tasks i.clones.items i.copies.items (vec_capacity i.clones) (vec_capacity i.copies) c.self.invariant source base target fit left c.difference.new.shelf (c.charge-charged.result + c.allocating-more.result) c.start.new.self
    (record { id = record { 0 = i.lsn + 1 }; pieces = c.into_held-pieces.result }) c.push_copy.new.rows.items (vec_capacity c.push_copy.new.rows)
    c.difference.ensures.shelf number refl tasks c.push_copy.ensures.items
    ∙ ap (λ (t : TablesView). replayed t.durable (StartCopy source base target) []) c.self.view_is

pub returns-clause-steps : goal.returns-clause-steps
returns-clause-steps g c =
    let i = c.self.inside in
    let d : Durable Entry = seen_durable i.lsn i.shelf.shelf i.containers i.bindings i.tasks i.clones.items i.copies.items in
    let source = c.args.source.0 in
    let base = c.args.base.0 in
    let target = c.args.target.0 in
    let fit : fits d (StartCopy source base target) [] ≡ true = subst (λ (t : TablesView). fits t.durable (StartCopy source base target) [] ≡ true) (sym c.self.view_is) c.requires.fits in
    let differ : differing c.args.self.now.durable source base ≡ differing d source base = ap (λ (t : TablesView). differing t.durable source base) (sym c.self.view_is) in
    omega (arith, c.difference.ensures.steps, differ, pieces_long d source base target c.self.invariant.kept.well fit)
