use Rattle.std.proofs.Common.{◌∙◌, sym, ap, is_some}
use Rattle.std.specs.List.{position}
use Rattle.std.proofs.lemmas.Bool.{true≢false}
use Rattle.vv_flat.proofs.Positions.{not_found}
use Rattle.vv_vols.specs.Rows.{is_held_row}
use Rattle.vv_vols.proofs.held_rows.held_place.Goals as goal

pub unreachable-requires : goal.unreachable-requires
unreachable-requires c =
    let none = not_found (is_held_row c.args.held.now.number) c.args.rows.now (ap (λ n. position (is_held_row n) c.args.rows.now) (sym c.number.ensures) ∙ sym c.in-None.ensures) in
    true≢false (sym c.requires ∙ ap (λ r. is_some r) none)
