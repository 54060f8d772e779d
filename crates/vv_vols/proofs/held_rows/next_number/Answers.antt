use Rattle.std.proofs.Common.{◌≡◌, ◌+◌, cond, List, ◌∷◌, suc, drop, ap, sym, ◌∙◌}
use Rattle.std.proofs.lemmas.Bool.{ne_eqb}
use Rattle.std.proofs.Math.Seq.{drop-cons}
use Rattle.vv_vols.specs.declared.row.HeldRow.{HeldRow}
use Rattle.vv_vols.specs.Shelf.{first_gap}
use Rattle.vv_vols.specs.Rows.{held_numbers}
use Rattle.vv_vols.proofs.held_rows.next_number.Goals as goal

pub returns-then-row-number : goal.returns-then-row-number
returns-then-row-number c =
    let rows = c.args.rows.now in
    let i = c.loop-row.row-index in
    let n = c.loop-row.number in
    let row = c.row-item.result in
    let rest = drop (suc i) rows in
    let here : drop i rows ≡ row ∷ rest = drop-cons rows i row c.loop-row-test.true ∙ ap (λ (r : HeldRow). r ∷ rest) (sym c.row-item.is) in
    let gap : first_gap n (held_numbers (drop i rows)) ≡ n = ap (λ (rs : List HeldRow). first_gap n (held_numbers rs)) here
    ∙ ap (λ b. cond b (first_gap (n + 1) (held_numbers rest)) n) (ne_eqb row.number n c.if-row-number.true) in
    sym (c.loop-row.invariant.gap ∙ gap)
