use Rattle.std.proofs.Common.{◌∙◌, sym, ap, is_some}
use Rattle.std.proofs.lemmas.Bool.{true≢false}
use Rattle.vv_flat.proofs.Positions.{not_found}
use Rattle.vv_vols.specs.Rows.{is_row}
use Rattle.vv_vols.proofs.rows.place_of.Goals as goal

pub unreachable-requires : goal.unreachable-requires
unreachable-requires c =
    let none = not_found (is_row c.args.id.0) c.args.rows.now (sym c.in-None.ensures) in
    true≢false (sym c.requires ∙ ap (λ r. is_some r) none)
