use Rattle.std.proofs.Common.{◌≡◌, [], true, Some, sym, ap, subst, ◌∙◌}
use Rattle.std.specs.Prelude.{option_and_then}
use Rattle.vv_flat.specs.State.{task_of}
use Rattle.vv_flat.specs.Chunks.{shape_of_tables}
use Rattle.vv_flat.specs.Space.{running_target}
use Rattle.vv_flat.specs.Changes.{Turn, size_of}
use Rattle.vv_flat.specs.Replay.{fits, replayed}
use Rattle.vv_tables.specs.Seen.{TablesView}
use Rattle.vv_tables.specs.Filling.{copy_places}
use Rattle.vv_tables.specs.Rooms.{IsChangeRoomOf}
use Rattle.vv_tables.specs.Turns.{ends_next}
use Rattle.vv_tables.specs.TurnRooms.{IsCopyTurnRoom, IsTurnRoom}
use Rattle.vv_tables.proofs.TurnRoomLaws.{no_indexes, none_copied, one_target}
use Rattle.vv_tables.proofs.tables.Tables.turn.Goals as goal

pub turn_copy-requires-clause-fits : goal.turn_copy-requires-clause-fits
turn_copy-requires-clause-fits g c =
    let t : TablesView = c.args.self.now in
    let n = c.args.task.0 in
    let room : IsCopyTurnRoom t n c.in-Copy.room = subst (λ r. IsTurnRoom t n r) (sym c.into_kind.ensures.kind ∙ c.in-Copy.is) c.requires.room in
    let none : copy_places c.args.copies.now ≡ [] = none_copied c.args.copies.now (c.requires.indexes ∙ no_indexes t.durable n room.target room.runs) in
    subst (λ ps. fits t.durable (Turn n) ps ≡ true) none c.requires.fits

pub turn_copy-requires-clause-room : goal.turn_copy-requires-clause-room
turn_copy-requires-clause-room g c =
    let t : TablesView = c.args.self.now in
    let n = c.args.task.0 in
    let room : IsCopyTurnRoom t n c.in-Copy.room = subst (λ r. IsTurnRoom t n r) (sym c.into_kind.ensures.kind ∙ c.in-Copy.is) c.requires.room in
    let told : option_and_then running_target (task_of t.durable n) ≡ Some c.target_of-target.result.0 =
    ap (λ (u : TablesView). option_and_then running_target (task_of u.durable n)) (sym c.self-in-Copy.view_is) ∙ c.target_of-target.ensures in
    subst (λ m. ends_next t.durable.tasks n ≡ true → IsChangeRoomOf t m 0 (size_of (shape_of_tables t.durable) m) c.in-Copy.room)
    (one_target (option_and_then running_target (task_of t.durable n)) room.target c.target_of-target.result.0 room.runs told) room.change

pub returns-in-Copy-clause-durable : goal.returns-in-Copy-clause-durable
returns-in-Copy-clause-durable g c =
    let t : TablesView = c.args.self.now in
    let n = c.args.task.0 in
    let room : IsCopyTurnRoom t n c.in-Copy.room = subst (λ r. IsTurnRoom t n r) (sym c.into_kind.ensures.kind ∙ c.in-Copy.is) c.requires.room in
    let none : copy_places c.args.copies.now ≡ [] = none_copied c.args.copies.now (c.requires.indexes ∙ no_indexes t.durable n room.target room.runs) in
    c.turn_copy.ensures.durable ∙ ap (λ ps. replayed t.durable (Turn n) ps) (sym none)
