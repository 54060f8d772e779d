use Rattle.std.proofs.Common.{◌∙◌, sym, ap, None, Some, is_some}
use Rattle.std.proofs.lemmas.Bool.{true≢false}
use Rattle.vv_flat.proofs.Positions.{not_found, changed_step}
use Rattle.vv_container.specs.Table.{ChargedContainer, is_numbered}
use Rattle.vv_container.proofs.RowLemmas.{place_in}
use Rattle.vv_container.proofs.rows.set_charge.Goals as goal

pub unreachable-requires : goal.unreachable-requires
unreachable-requires c =
    let test = is_numbered c.args.id.0 in
    let rows = c.args.rows.now.items in
    let none = not_found test rows (place_in test rows c.deref.result.now None c.deref.ensures.value c.in-None.ensures) in
    true≢false (sym c.requires ∙ ap (λ r. is_some r) none)

pub returns-clause-items : goal.returns-clause-items
returns-clause-items c =
    let test = is_numbered c.args.id.0 in
    let rows = c.args.rows.now.items in
    changed_step test (λ (r : ChargedContainer). record r { charged = c.args.charge }) rows c.in-Some.at c.index_mut.result.now c.set_charge.new.self
    (place_in test rows c.deref.result.now (Some c.in-Some.at) c.deref.ensures.value c.in-Some.ensures) c.index_mut.ensures.value c.set_charge.ensures
