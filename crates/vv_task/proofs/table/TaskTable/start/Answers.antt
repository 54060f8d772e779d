use Rattle.std.proofs.Common.{◌≡◌, ◌<◌, List, length, true, sym, ap, subst, arith}
use Rattle.std.specs.Prelude.{count_by}
use Rattle.vv_flat.specs.State.{Task}
use Rattle.vv_flat.specs.Space.{is_running}
use Rattle.vv_task.specs.Table.{record_of, is_above_all}
use Rattle.vv_task.proofs.RowLemmas.{room_left, kept-started, start_is}
use Rattle.vv_task.proofs.table.TaskTable.start.Goals as goal

pub push-requires : goal.push-requires
push-requires c =
    let run = subst (λ (xs : List Task). count_by is_running xs < 16) (sym c.self.view_is) c.requires.room in
    let left = room_left _ _ c.self.invariant run in
    let size = ap length c.make_room.ensures.items in
    let capacity = c.make_room.ensures.capacity in
    let fits = c.self.invariant.fits in
    let ok = c.make_room.new.rows.ok in
    omega arith

pub invariant_of-self : goal.invariant_of-self
invariant_of-self c =
    let rows = c.self.inside.rows.items in
    let run = subst (λ (xs : List Task). count_by is_running xs < 16) (sym c.self.view_is) c.requires.room in
    let above = subst (λ (xs : List Task). is_above_all c.args.task.id.0 xs ≡ true) (sym c.self.view_is) c.requires.above in
    let larger = c.push.ensures.capacity in
    let capacity = c.make_room.ensures.capacity in
    kept-started _ _ _ _ _ c.of.result c.self.invariant
    (subst (λ (t : Task). is_above_all t.number rows ≡ true) (sym c.of.ensures) above) run
    c.make_room.ensures.items c.push.ensures.items (omega arith)

pub returns : goal.returns
returns c =
    start_is c.self.inside.rows.items _ _ c.args.self.now c.of.result (record_of c.args.task) c.self.view_is c.make_room.ensures.items c.push.ensures.items
    c.of.ensures c.requires.above
