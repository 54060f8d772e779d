use Rattle.std.proofs.Common.{◌∙◌, sym, ap, is_some}
use Rattle.std.proofs.lemmas.Bool.{true≢false}
use Rattle.vv_flat.proofs.Positions.{not_found}
use Rattle.vv_tables.specs.Rows.{is_clone_row}
use Rattle.vv_tables.proofs.turned.standing_clone.Goals as goal

pub unreachable-requires : goal.unreachable-requires
unreachable-requires c =
    let none = not_found (is_clone_row c.args.id.0) c.args.rows.now (sym c.in-None.ensures) in
    true≢false (sym c.requires ∙ ap (λ r. is_some r) none)
