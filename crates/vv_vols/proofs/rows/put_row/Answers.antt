use Rattle.std.proofs.Common.{ap, sym, ◌∙◌}
use Rattle.std.specs.List.{insert, position_or_len}
use Rattle.vv_flat.proofs.Positions.{put_at_first}
use Rattle.vv_vols.specs.Rows.{is_row_above}
use Rattle.vv_vols.proofs.rows.put_row.Goals as goal

pub returns-clause-items : goal.returns-clause-items
returns-clause-items c =
    c.in-Ok.ensures.items
    ∙ ap (λ k. insert c.args.rows.now.items k c.args.row) (c.place_in_order-at.ensures.at ∙ ap (position_or_len (is_row_above c.args.row.id.0)) c.deref.ensures.value)
    ∙ sym (put_at_first (is_row_above c.args.row.id.0) c.args.row c.args.rows.now.items)
