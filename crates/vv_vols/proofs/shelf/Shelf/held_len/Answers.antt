use Rattle.std.proofs.Common.{List, find, sym, subst, ap, ◌∙◌}
use Rattle.std.specs.Prelude.{IsSome}
use Rattle.std.specs.List.{position}
use Rattle.vv_flat.proofs.Positions.{found_is}
use Rattle.vv_vols.specs.declared.row.HeldRow.{HeldRow}
use Rattle.vv_vols.specs.Shelf.{held_in, held_size}
use Rattle.vv_vols.specs.Rows.{ShelfView, is_held_row}
use Rattle.vv_vols.proofs.HeldRead.{held_row_found, held_len_is}
use Rattle.vv_vols.proofs.shelf.Shelf.held_len.Goals as goal

pub held_place-at-requires : goal.held_place-at-requires
held_place-at-requires c =
    let n = c.args.held.now.number in
    subst (λ (rows : List HeldRow). IsSome (find (is_held_row n) rows)) (sym c.deref.ensures.value)
    (held_row_found c.self.inside.entries.store n c.self.inside.held.items (subst (λ (v : ShelfView). IsSome (held_in v.shelf n)) (sym c.self.view_is) c.requires))

pub returns : goal.returns
returns c =
    let n = c.args.held.now.number in
    let inside = c.self.inside in
    let at = ap (position (is_held_row n)) (sym c.deref.ensures.value) ∙ c.held_place-at.ensures in
    let found = found_is (is_held_row n) inside.held.items c.held_place-at.result c.index-row.result.now at c.index-row.ensures in
    c.len.ensures
    ∙ sym (held_len_is inside.geometry inside.entries inside.volumes.items inside.held.items inside.total inside.promised inside.volumes.cap inside.held.cap n c.index-row.result.now found c.self.invariant)
    ∙ ap (λ (v : ShelfView). held_size v.shelf n) c.self.view_is
