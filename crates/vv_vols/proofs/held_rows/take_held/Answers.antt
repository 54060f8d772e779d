use Rattle.std.proofs.Common.{ap, ◌∙◌, sym, get_or}
use Rattle.std.specs.List.{position}
use Rattle.vv_flat.proofs.Positions.{position_some, removed_step}
use Rattle.vv_vols.specs.Rows.{is_held_row}
use Rattle.vv_vols.proofs.held_rows.take_held.Goals as goal

pub returns-clause-items : goal.returns-clause-items
returns-clause-items c =
    let at = ap (position (is_held_row c.args.held.number)) (sym c.deref.ensures.value) ∙ c.held_place-at.ensures in
    c.remove.ensures.items ∙ removed_step (is_held_row c.args.held.number) c.args.rows.now.items c.held_place-at.result at

pub returns-clause-value : goal.returns-clause-value
returns-clause-value c =
    let at = ap (position (is_held_row c.args.held.number)) (sym c.deref.ensures.value) ∙ c.held_place-at.ensures in
    let place = position_some (is_held_row c.args.held.number) c.args.rows.now.items c.held_place-at.result at in
    c.remove.ensures.value ∙ ap (λ k. get_or c.args.rows.now.items k c.remove.result) (sym place.0)
