use Rattle.std.proofs.Common.{◌∙◌, ◌-◌, ◌≤◌, None, Some, false, sym, ap, subst, option_map}
use Rattle.std.specs.Prelude.{Option}
use Rattle.std.proofs.lemmas.Bool.{true≢false}
use Rattle.vv_flat.specs.Lists.{if_found}
use Rattle.vv_flat.specs.State.{Task}
use Rattle.vv_flat.specs.Space.{is_running}
use Rattle.vv_flat.specs.Tasks.{is_last}
use Rattle.vv_flat.proofs.Positions.{found_is, not_found}
use Rattle.vv_task.specs.Table.{is_numbered}
use Rattle.vv_task.proofs.RowLemmas.{place_in, note_is}
use Rattle.vv_task.proofs.rows.note.Goals as goal

pub note-requires : goal.note-requires
note-requires c =
    let test = is_numbered c.args.id.0 in
    let rows = c.args.rows.now.items in
    let place = place_in test rows c.deref.result.now (Some c.in-Some.at) c.deref.ensures.value c.in-Some.ensures in
    subst (λ (o : Option Task). c.args.n ≤ if_found o (λ (t : Task). t.total - t.done) 0)
    (found_is test rows c.in-Some.at c.index_mut.result.now place c.index_mut.ensures.value) c.requires.left

pub unreachable-requires : goal.unreachable-requires
unreachable-requires c =
    let test = is_numbered c.args.id.0 in
    let rows = c.args.rows.now.items in
    let none = not_found test rows (place_in test rows c.deref.result.now None c.deref.ensures.value c.in-None.ensures) in
    true≢false (sym c.requires.runs ∙ ap (λ (o : Option Task). if_found o is_running false) none)

pub returns-clause-last : goal.returns-clause-last
returns-clause-last c =
    let test = is_numbered c.args.id.0 in
    let rows = c.args.rows.now.items in
    let place = place_in test rows c.deref.result.now (Some c.in-Some.at) c.deref.ensures.value c.in-Some.ensures in
    ap (λ (o : Option Task). option_map (λ (t : Task). is_last t c.args.n) o)
    (found_is test rows c.in-Some.at c.index_mut.result.now place c.index_mut.ensures.value)
    ∙ ap (λ b. Some b) (sym c.note.ensures.last)

pub returns-clause-items : goal.returns-clause-items
returns-clause-items c =
    let test = is_numbered c.args.id.0 in
    let rows = c.args.rows.now.items in
    note_is rows c.args.id.0 c.in-Some.at c.args.n c.index_mut.result.now c.note.new.self
    (place_in test rows c.deref.result.now (Some c.in-Some.at) c.deref.ensures.value c.in-Some.ensures) c.index_mut.ensures.value c.note.ensures.task
