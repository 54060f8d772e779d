use Rattle.std.proofs.Common.{ap, sym, ◌∙◌}
use Rattle.std.specs.List.{insert, position_or_len}
use Rattle.vv_flat.proofs.Positions.{put_at_first}
use Rattle.vv_vols.specs.Rows.{is_held_above}
use Rattle.vv_vols.proofs.held_rows.put_held_row.Goals as goal

pub returns-clause-items : goal.returns-clause-items
returns-clause-items c =
    c.in-Ok.ensures.items
    ∙ ap (λ k. insert c.args.rows.now.items k c.args.row) (c.held_in_order-at.ensures.at ∙ ap (position_or_len (is_held_above c.args.row.number)) c.deref.ensures.value)
    ∙ sym (put_at_first (is_held_above c.args.row.number) c.args.row c.args.rows.now.items)
