use Rattle.std.proofs.Common.{◌≡◌, true, Some, refl, sym, ap, subst, ◌∙◌, arith}
use Rattle.std.specs.Prelude.{IsSome, option_and_then}
use Rattle.vv_flat.specs.State.{Durable, task_of}
use Rattle.vv_flat.specs.Chunks.{Entry, shape_of_tables}
use Rattle.vv_flat.specs.Changes.{size_of, is_task_running}
use Rattle.vv_task.specs.Table.{job_of}
use Rattle.vv_vols.specs.Rows.{IsChangeRoom}
use Rattle.vv_tables.specs.Seen.{TablesView, seen_durable, seen_tables}
use Rattle.vv_tables.specs.Rooms.{IsChangeRoomOf}
use Rattle.vv_pool.specs.FreshPlaces.{FreshPlaces}
use Rattle.vv_tables.specs.TurnRooms.{IsCloneTurnRoom, IsCopyTurnRoom, IsTurnRoom}
use Rattle.vv_tables.specs.Turns.{RunsCopy, running_source, ends_next}
use Rattle.vv_tables.proofs.ShapeVolumes.{size_is}
use Rattle.vv_tables.proofs.TurnRoomLaws.{target_named, runs_copy, runs_clone}
use Rattle.vv_tables.proofs.tables.Tables.reserve_turn.Goals as goal

pub changed_chunks-chunks-requires-clause-standing : goal.changed_chunks-chunks-requires-clause-standing
changed_chunks-chunks-requires-clause-standing c =
    let i = c.self.inside in
    let n = c.args.task.0 in
    let d : Durable Entry = seen_durable i.lsn i.shelf.shelf i.containers i.bindings i.tasks i.clones.items i.copies.items in
    let running : is_task_running (shape_of_tables d) n ≡ true = subst (λ (t : TablesView). is_task_running (shape_of_tables t.durable) n ≡ true) (sym c.self.view_is) c.requires in
    let runs : RunsCopy d n c.in-Copy.target.0 = runs_copy i.tasks n c.in-Copy.source.0 c.in-Copy.base.0 c.in-Copy.target.0 (c.running_job.ensures ∙ ap (λ j. Some (job_of j)) c.in-Copy.is) running in
    target_named d c.self.invariant.kept.well n c.in-Copy.target.0 runs

pub reserve_change-requires-clause-standing : goal.reserve_change-requires-clause-standing
reserve_change-requires-clause-standing c =
    let i = c.self.inside in
    let n = c.args.task.0 in
    let d : Durable Entry = seen_durable i.lsn i.shelf.shelf i.containers i.bindings i.tasks i.clones.items i.copies.items in
    let running : is_task_running (shape_of_tables d) n ≡ true = subst (λ (t : TablesView). is_task_running (shape_of_tables t.durable) n ≡ true) (sym c.self.view_is) c.requires in
    let runs : RunsCopy d n c.in-Copy.target.0 = runs_copy i.tasks n c.in-Copy.source.0 c.in-Copy.base.0 c.in-Copy.target.0 (c.running_job.ensures ∙ ap (λ j. Some (job_of j)) c.in-Copy.is) running in
    target_named d c.self.invariant.kept.well n c.in-Copy.target.0 runs

pub returns-in_ok-room-in-Copy-clause-room : goal.returns-in_ok-room-in-Copy-clause-room
returns-in_ok-room-in-Copy-clause-room c =
    let i = c.self.inside in
    let n = c.args.task.0 in
    let target = c.in-Copy.target.0 in
    let d : Durable Entry = seen_durable i.lsn i.shelf.shelf i.containers i.bindings i.tasks i.clones.items i.copies.items in
    let running : is_task_running (shape_of_tables d) n ≡ true = subst (λ (t : TablesView). is_task_running (shape_of_tables t.durable) n ≡ true) (sym c.self.view_is) c.requires in
    let runs : RunsCopy d n target = runs_copy i.tasks n c.in-Copy.source.0 c.in-Copy.base.0 target (c.running_job.ensures ∙ ap (λ j. Some (job_of j)) c.in-Copy.is) running in
    let here : ends_next i.tasks n ≡ true → IsChangeRoomOf (seen_tables i.lsn i.shelf i.containers i.bindings i.tasks i.clones.items i.copies.items) target 0 (size_of (shape_of_tables d) target) c.in_ok-room-in-Copy.room =
    λ e. subst (λ k. IsChangeRoom i.shelf target 0 k c.in_ok-room-in-Copy.room) (c.changed_chunks-chunks.ensures.last e ∙ size_is d target) c.in_ok-room-in-Copy.ensures.room in
    let told : IsCopyTurnRoom c.args.self.now n c.in_ok-room-in-Copy.room = record {
      target = target;
      runs = subst (λ (t : TablesView). RunsCopy t.durable n target) c.self.view_is runs;
      change = subst (λ (t : TablesView). ends_next t.durable.tasks n ≡ true → IsChangeRoomOf t target 0 (size_of (shape_of_tables t.durable) target) c.in_ok-room-in-Copy.room) c.self.view_is here;
    } in
    subst (λ r. IsTurnRoom c.args.self.now n r) (sym c.of_copy.ensures) told

pub returns-in_ok-taken-in-Clone-clause-room : goal.returns-in_ok-taken-in-Clone-clause-room
returns-in_ok-taken-in-Clone-clause-room c =
    let i = c.self.inside in
    let n = c.args.task.0 in
    let d : Durable Entry = seen_durable i.lsn i.shelf.shelf i.containers i.bindings i.tasks i.clones.items i.copies.items in
    let running : is_task_running (shape_of_tables d) n ≡ true = subst (λ (t : TablesView). is_task_running (shape_of_tables t.durable) n ≡ true) (sym c.self.view_is) c.requires in
    let runs : option_and_then running_source (task_of d n) ≡ Some c.in-Clone.volume.0 =
    runs_clone i.tasks n c.in-Clone.volume.0 (c.running_job.ensures ∙ ap (λ j. Some (job_of j)) c.in-Clone.is) running in
    let some : IsSome (option_and_then running_source (task_of d n)) = subst (λ o. IsSome o) (sym runs) refl in
    let memory : c.in_ok-taken-in-Clone.taken.capacity ≡ 1 = ap (λ (f : FreshPlaces). f.capacity) c.in_ok-taken-in-Clone.ensures in
    let told : IsCloneTurnRoom c.args.self.now n c.in_ok-taken-in-Clone.taken = record {
      runs = subst (λ (t : TablesView). IsSome (option_and_then running_source (task_of t.durable n))) c.self.view_is some;
      memory = omega (arith, memory);
    } in
    subst (λ r. IsTurnRoom c.args.self.now n r) (sym c.of_clone.ensures) told
