use Rattle.std.proofs.Common.{ap, arith, length, ◌∙◌, unwrap_or}
use Rattle.vv_flat.proofs.Positions.{position_or, place-le-length}
use Rattle.vv_vols.specs.Rows.{is_held_above}
use Rattle.vv_vols.proofs.held_rows.held_in_order.Goals as goal

pub returns-clause-at : goal.returns-clause-at
returns-clause-at c =
    c.unwrap_or.ensures ∙ ap (λ r. unwrap_or r (length c.args.rows.now)) c.held_above.ensures
    ∙ position_or (is_held_above c.args.number) c.args.rows.now

pub returns-clause-within : goal.returns-clause-within
returns-clause-within c =
    let e = c.unwrap_or.ensures ∙ ap (λ r. unwrap_or r (length c.args.rows.now)) c.held_above.ensures ∙ position_or (is_held_above c.args.number) c.args.rows.now in
    let h = place-le-length (is_held_above c.args.number) c.args.rows.now in
    omega arith
