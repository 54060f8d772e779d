use Rattle.std.proofs.Common.{◌≡◌, ◌+◌, ◌-◌, ◌≤◌, true, [], sym, ap, subst, ◌∙◌, arith, vec_capacity}
use Rattle.vv_flat.specs.Space.{is_clone, job_target}
use Rattle.vv_flat.specs.Refusals.{last_lsn}
use Rattle.vv_flat.specs.Changes.{Cancel}
use Rattle.vv_flat.specs.Replay.{fits, replayed}
use Rattle.vv_task.specs.Table.{record_of, job_of}
use Rattle.vv_vols.specs.Shelf.{ShelfState}
use Rattle.vv_vols.specs.Calls.{with_reserve}
use Rattle.vv_vols.specs.Rows.{ShelfView}
use Rattle.vv_tables.specs.Seen.{TablesView}
use Rattle.vv_tables.proofs.CancelledTasks.{task_stands, may_end, log_room, charge_enough, charge_lowered, reserve_enough, clone_stands, clone_home_stands, clone_taken, image_stands, target_stands, clone_whole, clone_told, held_there, copy_stands, target_there, copy_home_stands, copy_taken, copy_whole, copy_told}
use Rattle.vv_tables.proofs.tables.Tables.cancel.Goals as goal

pub standing_task-ended-requires : goal.standing_task-ended-requires
standing_task-ended-requires c =
    let i = c.self.inside in
    task_stands i.geometry i.lsn i.shelf i.containers i.bindings i.tasks i.clones.items i.copies.items (vec_capacity i.clones) (vec_capacity i.copies) c.self.invariant c.args.task.0
    (subst (λ (u : TablesView). fits u.durable (Cancel c.args.task.0) [] ≡ true) (sym c.self.view_is) c.requires.fits)

pub overflow_add-self : goal.overflow_add-self
overflow_add-self c =
    let i = c.self.inside in
    let h : i.lsn + 1 ≤ last_lsn =
    log_room i.geometry i.lsn i.shelf i.containers i.bindings i.tasks i.clones.items i.copies.items (vec_capacity i.clones) (vec_capacity i.copies) c.self.invariant c.args.task.0
    (subst (λ (u : TablesView). fits u.durable (Cancel c.args.task.0) [] ≡ true) (sym c.self.view_is) c.requires.fits)
    in
    omega (arith, h)

pub cancel_task-requires : goal.cancel_task-requires
cancel_task-requires c =
    let i = c.self.inside in
    may_end i.geometry i.lsn i.shelf i.containers i.bindings i.tasks i.clones.items i.copies.items (vec_capacity i.clones) (vec_capacity i.copies) c.self.invariant c.args.task.0
    (subst (λ (u : TablesView). fits u.durable (Cancel c.args.task.0) [] ≡ true) (sym c.self.view_is) c.requires.fits)

pub take_clone-row-requires : goal.take_clone-row-requires
take_clone-row-requires c =
    let i = c.self.inside in
    clone_stands i.geometry i.lsn i.shelf i.containers i.bindings i.tasks i.clones.items i.copies.items (vec_capacity i.clones) (vec_capacity i.copies) c.self.invariant c.args.task.0
    (subst (λ (u : TablesView). fits u.durable (Cancel c.args.task.0) [] ≡ true) (sym c.self.view_is) c.requires.fits)
    (record_of c.standing_task-ended.result) c.standing_task-ended.ensures.exact (ap (λ j. is_clone (job_of j)) c.in-Clone.is)

pub lower_charge-requires-clause-standing : goal.lower_charge-requires-clause-standing
lower_charge-requires-clause-standing c =
    let i = c.self.inside in
    clone_home_stands i.geometry i.lsn i.shelf i.containers i.bindings i.tasks i.clones.items i.copies.items (vec_capacity i.clones) (vec_capacity i.copies) c.self.invariant c.args.task.0
    (subst (λ (u : TablesView). fits u.durable (Cancel c.args.task.0) [] ≡ true) (sym c.self.view_is) c.requires.fits)
    (record_of c.standing_task-ended.result) c.standing_task-ended.ensures.exact (ap (λ j. is_clone (job_of j)) c.in-Clone.is) c.take_clone-row.result c.take_clone-row.ensures.row

pub lower_charge-requires-clause-enough : goal.lower_charge-requires-clause-enough
lower_charge-requires-clause-enough c =
    let i = c.self.inside in
    charge_enough i.geometry i.lsn i.shelf i.containers i.bindings i.tasks i.clones.items i.copies.items (vec_capacity i.clones) (vec_capacity i.copies) c.self.invariant c.args.task.0
    (subst (λ (u : TablesView). fits u.durable (Cancel c.args.task.0) [] ≡ true) (sym c.self.view_is) c.requires.fits)
    c.take_clone-row.result.head.container.0 c.standing_task-ended.result.total
    (clone_taken i.geometry i.lsn i.shelf i.containers i.bindings i.tasks i.clones.items i.copies.items (vec_capacity i.clones) (vec_capacity i.copies) c.self.invariant c.args.task.0
    (subst (λ (u : TablesView). fits u.durable (Cancel c.args.task.0) [] ≡ true) (sym c.self.view_is) c.requires.fits)
    (record_of c.standing_task-ended.result) c.standing_task-ended.ensures.exact (ap (λ j. is_clone (job_of j)) c.in-Clone.is) c.take_clone-row.result c.take_clone-row.ensures.row)

pub drop_clone-requires-clause-image : goal.drop_clone-requires-clause-image
drop_clone-requires-clause-image c =
    let i = c.self.inside in
    image_stands i.geometry i.lsn i.shelf i.containers i.bindings i.tasks i.clones.items i.copies.items (vec_capacity i.clones) (vec_capacity i.copies) c.self.invariant c.args.task.0
    (subst (λ (u : TablesView). fits u.durable (Cancel c.args.task.0) [] ≡ true) (sym c.self.view_is) c.requires.fits)
    (record_of c.standing_task-ended.result) c.standing_task-ended.ensures.exact (ap (λ j. is_clone (job_of j)) c.in-Clone.is) c.take_clone-row.result c.take_clone-row.ensures.row

pub drop_clone-requires-clause-target : goal.drop_clone-requires-clause-target
drop_clone-requires-clause-target c =
    let i = c.self.inside in
    target_stands i.geometry i.lsn i.shelf i.containers i.bindings i.tasks i.clones.items i.copies.items (vec_capacity i.clones) (vec_capacity i.copies) c.self.invariant c.args.task.0
    (subst (λ (u : TablesView). fits u.durable (Cancel c.args.task.0) [] ≡ true) (sym c.self.view_is) c.requires.fits)
    (record_of c.standing_task-ended.result) c.standing_task-ended.ensures.exact (ap (λ j. is_clone (job_of j)) c.in-Clone.is) c.take_clone-row.result c.take_clone-row.ensures.row

pub unreserve-requires : goal.unreserve-requires
unreserve-requires c =
    let i = c.self.inside in
    let least : c.standing_task-ended.result.total - c.standing_task-ended.result.done ≤ i.shelf.shelf.reserved =
    reserve_enough i.geometry i.lsn i.shelf i.containers i.bindings i.tasks i.clones.items i.copies.items (vec_capacity i.clones) (vec_capacity i.copies) c.self.invariant c.args.task.0
    (subst (λ (u : TablesView). fits u.durable (Cancel c.args.task.0) [] ≡ true) (sym c.self.view_is) c.requires.fits)
    (record_of c.standing_task-ended.result) c.standing_task-ended.ensures.exact (ap (λ j. is_clone (job_of j)) c.in-Clone.is) in
    subst (λ (x : ShelfState). c.standing_task-ended.result.total - c.standing_task-ended.result.done ≤ x.reserved) (sym c.drop_clone.ensures.shelf) least

pub invariant_of-self : goal.invariant_of-self
invariant_of-self c =
    let i = c.self.inside in
    clone_whole i.geometry i.lsn i.shelf i.containers i.bindings i.tasks i.clones.items i.copies.items (vec_capacity i.clones) (vec_capacity i.copies) c.self.invariant c.args.task.0
    (subst (λ (u : TablesView). fits u.durable (Cancel c.args.task.0) [] ≡ true) (sym c.self.view_is) c.requires.fits)
    (record_of c.standing_task-ended.result) c.standing_task-ended.ensures.exact (ap (λ j. is_clone (job_of j)) c.in-Clone.is) c.take_clone-row.result c.take_clone-row.ensures.row
    c.unreserve.new.self c.lower_charge.new.containers c.cancel_task.new.tasks c.take_clone-row.new.rows.items (vec_capacity c.take_clone-row.new.rows)
    (ap (λ (v : ShelfView). v.shelf) c.unreserve.ensures
    ∙ ap (λ (x : ShelfState). with_reserve x (x.reserved - (c.standing_task-ended.result.total - c.standing_task-ended.result.done))) c.drop_clone.ensures.shelf)
    (charge_lowered i.geometry i.lsn i.shelf i.containers i.bindings i.tasks i.clones.items i.copies.items (vec_capacity i.clones) (vec_capacity i.copies) c.self.invariant c.args.task.0
    (subst (λ (u : TablesView). fits u.durable (Cancel c.args.task.0) [] ≡ true) (sym c.self.view_is) c.requires.fits)
    c.take_clone-row.result.head.container.0 c.standing_task-ended.result.total
    (clone_taken i.geometry i.lsn i.shelf i.containers i.bindings i.tasks i.clones.items i.copies.items (vec_capacity i.clones) (vec_capacity i.copies) c.self.invariant c.args.task.0
    (subst (λ (u : TablesView). fits u.durable (Cancel c.args.task.0) [] ≡ true) (sym c.self.view_is) c.requires.fits)
    (record_of c.standing_task-ended.result) c.standing_task-ended.ensures.exact (ap (λ j. is_clone (job_of j)) c.in-Clone.is) c.take_clone-row.result c.take_clone-row.ensures.row)
    c.lower_charge.new.containers
    (clone_home_stands i.geometry i.lsn i.shelf i.containers i.bindings i.tasks i.clones.items i.copies.items (vec_capacity i.clones) (vec_capacity i.copies) c.self.invariant c.args.task.0
    (subst (λ (u : TablesView). fits u.durable (Cancel c.args.task.0) [] ≡ true) (sym c.self.view_is) c.requires.fits)
    (record_of c.standing_task-ended.result) c.standing_task-ended.ensures.exact (ap (λ j. is_clone (job_of j)) c.in-Clone.is) c.take_clone-row.result c.take_clone-row.ensures.row)
    c.lower_charge.ensures)
    c.cancel_task.ensures c.take_clone-row.ensures.items c.take_clone-row.ensures.capacity

pub returns-in-Clone-clause-durable : goal.returns-in-Clone-clause-durable
returns-in-Clone-clause-durable c =
    let i = c.self.inside in
    clone_told i.geometry i.lsn i.shelf i.containers i.bindings i.tasks i.clones.items i.copies.items (vec_capacity i.clones) (vec_capacity i.copies) c.self.invariant c.args.task.0
    (subst (λ (u : TablesView). fits u.durable (Cancel c.args.task.0) [] ≡ true) (sym c.self.view_is) c.requires.fits)
    (record_of c.standing_task-ended.result) c.standing_task-ended.ensures.exact (ap (λ j. is_clone (job_of j)) c.in-Clone.is) c.take_clone-row.result c.take_clone-row.ensures.row
    c.unreserve.new.self c.lower_charge.new.containers c.cancel_task.new.tasks c.take_clone-row.new.rows.items (vec_capacity c.take_clone-row.new.rows)
    (ap (λ (v : ShelfView). v.shelf) c.unreserve.ensures
    ∙ ap (λ (x : ShelfState). with_reserve x (x.reserved - (c.standing_task-ended.result.total - c.standing_task-ended.result.done))) c.drop_clone.ensures.shelf)
    (charge_lowered i.geometry i.lsn i.shelf i.containers i.bindings i.tasks i.clones.items i.copies.items (vec_capacity i.clones) (vec_capacity i.copies) c.self.invariant c.args.task.0
    (subst (λ (u : TablesView). fits u.durable (Cancel c.args.task.0) [] ≡ true) (sym c.self.view_is) c.requires.fits)
    c.take_clone-row.result.head.container.0 c.standing_task-ended.result.total
    (clone_taken i.geometry i.lsn i.shelf i.containers i.bindings i.tasks i.clones.items i.copies.items (vec_capacity i.clones) (vec_capacity i.copies) c.self.invariant c.args.task.0
    (subst (λ (u : TablesView). fits u.durable (Cancel c.args.task.0) [] ≡ true) (sym c.self.view_is) c.requires.fits)
    (record_of c.standing_task-ended.result) c.standing_task-ended.ensures.exact (ap (λ j. is_clone (job_of j)) c.in-Clone.is) c.take_clone-row.result c.take_clone-row.ensures.row)
    c.lower_charge.new.containers
    (clone_home_stands i.geometry i.lsn i.shelf i.containers i.bindings i.tasks i.clones.items i.copies.items (vec_capacity i.clones) (vec_capacity i.copies) c.self.invariant c.args.task.0
    (subst (λ (u : TablesView). fits u.durable (Cancel c.args.task.0) [] ≡ true) (sym c.self.view_is) c.requires.fits)
    (record_of c.standing_task-ended.result) c.standing_task-ended.ensures.exact (ap (λ j. is_clone (job_of j)) c.in-Clone.is) c.take_clone-row.result c.take_clone-row.ensures.row)
    c.lower_charge.ensures)
    c.cancel_task.ensures c.take_clone-row.ensures.items c.take_clone-row.ensures.capacity
    ∙ ap (λ (u : TablesView). replayed u.durable (Cancel c.args.task.0) []) c.self.view_is

pub take_copy-row-requires : goal.take_copy-row-requires
take_copy-row-requires c =
    let i = c.self.inside in
    copy_stands i.geometry i.lsn i.shelf i.containers i.bindings i.tasks i.clones.items i.copies.items (vec_capacity i.clones) (vec_capacity i.copies) c.self.invariant c.args.task.0
    (subst (λ (u : TablesView). fits u.durable (Cancel c.args.task.0) [] ≡ true) (sym c.self.view_is) c.requires.fits)
    (record_of c.standing_task-ended.result) c.standing_task-ended.ensures.exact c.in-Copy.target.0 (ap (λ j. job_target (job_of j)) c.in-Copy.is)

pub allocating-allocating-requires-clause-holding : goal.allocating-allocating-requires-clause-holding
allocating-allocating-requires-clause-holding c =
    let i = c.self.inside in
    held_there i.shelf.shelf i.clones.items i.copies.items c.args.task.0 c.self.invariant.held c.take_copy-row.result c.take_copy-row.ensures.row

pub allocating-allocating-requires-clause-standing : goal.allocating-allocating-requires-clause-standing
allocating-allocating-requires-clause-standing c =
    let i = c.self.inside in
    target_there i.geometry i.lsn i.shelf i.containers i.bindings i.tasks i.clones.items i.copies.items (vec_capacity i.clones) (vec_capacity i.copies) c.self.invariant c.args.task.0
    (subst (λ (u : TablesView). fits u.durable (Cancel c.args.task.0) [] ≡ true) (sym c.self.view_is) c.requires.fits)
    (record_of c.standing_task-ended.result) c.standing_task-ended.ensures.exact c.in-Copy.target.0 (ap (λ j. job_target (job_of j)) c.in-Copy.is) c.take_copy-row.result c.take_copy-row.ensures.row

pub home_in-home-requires : goal.home_in-home-requires
home_in-home-requires c =
    let i = c.self.inside in
    target_there i.geometry i.lsn i.shelf i.containers i.bindings i.tasks i.clones.items i.copies.items (vec_capacity i.clones) (vec_capacity i.copies) c.self.invariant c.args.task.0
    (subst (λ (u : TablesView). fits u.durable (Cancel c.args.task.0) [] ≡ true) (sym c.self.view_is) c.requires.fits)
    (record_of c.standing_task-ended.result) c.standing_task-ended.ensures.exact c.in-Copy.target.0 (ap (λ j. job_target (job_of j)) c.in-Copy.is) c.take_copy-row.result c.take_copy-row.ensures.row

pub lower_charge-requires-in-Copy-clause-standing : goal.lower_charge-requires-in-Copy-clause-standing
lower_charge-requires-in-Copy-clause-standing c =
    let i = c.self.inside in
    copy_home_stands i.geometry i.lsn i.shelf i.containers i.bindings i.tasks i.clones.items i.copies.items (vec_capacity i.clones) (vec_capacity i.copies) c.self.invariant c.args.task.0
    (subst (λ (u : TablesView). fits u.durable (Cancel c.args.task.0) [] ≡ true) (sym c.self.view_is) c.requires.fits)
    (record_of c.standing_task-ended.result) c.standing_task-ended.ensures.exact c.in-Copy.target.0 (ap (λ j. job_target (job_of j)) c.in-Copy.is) c.take_copy-row.result c.take_copy-row.ensures.row c.home_in-home.result.0 c.allocating-allocating.result c.home_in-home.ensures c.allocating-allocating.ensures

pub lower_charge-requires-in-Copy-clause-enough : goal.lower_charge-requires-in-Copy-clause-enough
lower_charge-requires-in-Copy-clause-enough c =
    let i = c.self.inside in
    charge_enough i.geometry i.lsn i.shelf i.containers i.bindings i.tasks i.clones.items i.copies.items (vec_capacity i.clones) (vec_capacity i.copies) c.self.invariant c.args.task.0
    (subst (λ (u : TablesView). fits u.durable (Cancel c.args.task.0) [] ≡ true) (sym c.self.view_is) c.requires.fits)
    c.home_in-home.result.0 c.allocating-allocating.result
    (copy_taken i.geometry i.lsn i.shelf i.containers i.bindings i.tasks i.clones.items i.copies.items (vec_capacity i.clones) (vec_capacity i.copies) c.self.invariant c.args.task.0
    (subst (λ (u : TablesView). fits u.durable (Cancel c.args.task.0) [] ≡ true) (sym c.self.view_is) c.requires.fits)
    (record_of c.standing_task-ended.result) c.standing_task-ended.ensures.exact c.in-Copy.target.0 (ap (λ j. job_target (job_of j)) c.in-Copy.is) c.take_copy-row.result c.take_copy-row.ensures.row c.home_in-home.result.0 c.allocating-allocating.result c.home_in-home.ensures c.allocating-allocating.ensures)

pub drop_copy-requires : goal.drop_copy-requires
drop_copy-requires c =
    let i = c.self.inside in
    held_there i.shelf.shelf i.clones.items i.copies.items c.args.task.0 c.self.invariant.held c.take_copy-row.result c.take_copy-row.ensures.row

pub invariant_of-self-in-Copy : goal.invariant_of-self-in-Copy
invariant_of-self-in-Copy c =
    let i = c.self.inside in
    copy_whole i.geometry i.lsn i.shelf i.containers i.bindings i.tasks i.clones.items i.copies.items (vec_capacity i.clones) (vec_capacity i.copies) c.self.invariant c.args.task.0
    (subst (λ (u : TablesView). fits u.durable (Cancel c.args.task.0) [] ≡ true) (sym c.self.view_is) c.requires.fits)
    (record_of c.standing_task-ended.result) c.standing_task-ended.ensures.exact c.in-Copy.target.0 (ap (λ j. job_target (job_of j)) c.in-Copy.is) c.take_copy-row.result c.take_copy-row.ensures.row c.home_in-home.result.0 c.allocating-allocating.result c.home_in-home.ensures c.allocating-allocating.ensures
    c.drop_copy.new.shelf c.lower_charge-in-Copy.new.containers c.cancel_task.new.tasks c.take_copy-row.new.rows.items (vec_capacity c.take_copy-row.new.rows)
    c.drop_copy.ensures.shelf
    (charge_lowered i.geometry i.lsn i.shelf i.containers i.bindings i.tasks i.clones.items i.copies.items (vec_capacity i.clones) (vec_capacity i.copies) c.self.invariant c.args.task.0
    (subst (λ (u : TablesView). fits u.durable (Cancel c.args.task.0) [] ≡ true) (sym c.self.view_is) c.requires.fits)
    c.home_in-home.result.0 c.allocating-allocating.result
    (copy_taken i.geometry i.lsn i.shelf i.containers i.bindings i.tasks i.clones.items i.copies.items (vec_capacity i.clones) (vec_capacity i.copies) c.self.invariant c.args.task.0
    (subst (λ (u : TablesView). fits u.durable (Cancel c.args.task.0) [] ≡ true) (sym c.self.view_is) c.requires.fits)
    (record_of c.standing_task-ended.result) c.standing_task-ended.ensures.exact c.in-Copy.target.0 (ap (λ j. job_target (job_of j)) c.in-Copy.is) c.take_copy-row.result c.take_copy-row.ensures.row c.home_in-home.result.0 c.allocating-allocating.result c.home_in-home.ensures c.allocating-allocating.ensures)
    c.lower_charge-in-Copy.new.containers
    (copy_home_stands i.geometry i.lsn i.shelf i.containers i.bindings i.tasks i.clones.items i.copies.items (vec_capacity i.clones) (vec_capacity i.copies) c.self.invariant c.args.task.0
    (subst (λ (u : TablesView). fits u.durable (Cancel c.args.task.0) [] ≡ true) (sym c.self.view_is) c.requires.fits)
    (record_of c.standing_task-ended.result) c.standing_task-ended.ensures.exact c.in-Copy.target.0 (ap (λ j. job_target (job_of j)) c.in-Copy.is) c.take_copy-row.result c.take_copy-row.ensures.row c.home_in-home.result.0 c.allocating-allocating.result c.home_in-home.ensures c.allocating-allocating.ensures)
    c.lower_charge-in-Copy.ensures)
    c.cancel_task.ensures c.take_copy-row.ensures.items c.take_copy-row.ensures.capacity

pub returns-in-Copy-clause-durable : goal.returns-in-Copy-clause-durable
returns-in-Copy-clause-durable c =
    let i = c.self.inside in
    copy_told i.geometry i.lsn i.shelf i.containers i.bindings i.tasks i.clones.items i.copies.items (vec_capacity i.clones) (vec_capacity i.copies) c.self.invariant c.args.task.0
    (subst (λ (u : TablesView). fits u.durable (Cancel c.args.task.0) [] ≡ true) (sym c.self.view_is) c.requires.fits)
    (record_of c.standing_task-ended.result) c.standing_task-ended.ensures.exact c.in-Copy.target.0 (ap (λ j. job_target (job_of j)) c.in-Copy.is) c.take_copy-row.result c.take_copy-row.ensures.row c.home_in-home.result.0 c.allocating-allocating.result c.home_in-home.ensures c.allocating-allocating.ensures
    c.drop_copy.new.shelf c.lower_charge-in-Copy.new.containers c.cancel_task.new.tasks c.take_copy-row.new.rows.items (vec_capacity c.take_copy-row.new.rows)
    c.drop_copy.ensures.shelf
    (charge_lowered i.geometry i.lsn i.shelf i.containers i.bindings i.tasks i.clones.items i.copies.items (vec_capacity i.clones) (vec_capacity i.copies) c.self.invariant c.args.task.0
    (subst (λ (u : TablesView). fits u.durable (Cancel c.args.task.0) [] ≡ true) (sym c.self.view_is) c.requires.fits)
    c.home_in-home.result.0 c.allocating-allocating.result
    (copy_taken i.geometry i.lsn i.shelf i.containers i.bindings i.tasks i.clones.items i.copies.items (vec_capacity i.clones) (vec_capacity i.copies) c.self.invariant c.args.task.0
    (subst (λ (u : TablesView). fits u.durable (Cancel c.args.task.0) [] ≡ true) (sym c.self.view_is) c.requires.fits)
    (record_of c.standing_task-ended.result) c.standing_task-ended.ensures.exact c.in-Copy.target.0 (ap (λ j. job_target (job_of j)) c.in-Copy.is) c.take_copy-row.result c.take_copy-row.ensures.row c.home_in-home.result.0 c.allocating-allocating.result c.home_in-home.ensures c.allocating-allocating.ensures)
    c.lower_charge-in-Copy.new.containers
    (copy_home_stands i.geometry i.lsn i.shelf i.containers i.bindings i.tasks i.clones.items i.copies.items (vec_capacity i.clones) (vec_capacity i.copies) c.self.invariant c.args.task.0
    (subst (λ (u : TablesView). fits u.durable (Cancel c.args.task.0) [] ≡ true) (sym c.self.view_is) c.requires.fits)
    (record_of c.standing_task-ended.result) c.standing_task-ended.ensures.exact c.in-Copy.target.0 (ap (λ j. job_target (job_of j)) c.in-Copy.is) c.take_copy-row.result c.take_copy-row.ensures.row c.home_in-home.result.0 c.allocating-allocating.result c.home_in-home.ensures c.allocating-allocating.ensures)
    c.lower_charge-in-Copy.ensures)
    c.cancel_task.ensures c.take_copy-row.ensures.items c.take_copy-row.ensures.capacity
    ∙ ap (λ (u : TablesView). replayed u.durable (Cancel c.args.task.0) []) c.self.view_is
