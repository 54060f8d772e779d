use Rattle.std.proofs.Common.{◌<◌, List, find, option_map, sym, subst, ap, ◌∙◌}
use Rattle.std.specs.Prelude.{IsSome}
use Rattle.std.specs.List.{position}
use Rattle.vv_flat.proofs.Positions.{found_is}
use Rattle.vv_flat.specs.State.{Piece}
use Rattle.vv_flat.specs.Chunks.{Entry}
use Rattle.vv_vols.specs.declared.row.HeldRow.{HeldRow}
use Rattle.vv_vols.specs.Shelf.{held_in, held_size, piece_at}
use Rattle.vv_vols.specs.Rows.{ShelfView, is_held_row}
use Rattle.vv_vols.proofs.HeldRead.{held_row_found, held_len_is, held_of, held_piece}
use Rattle.vv_vols.proofs.shelf.Shelf.held_entry.Goals as goal

pub held_place-place-requires : goal.held_place-place-requires
held_place-place-requires c =
    let n = c.args.held.now.number in
    subst (λ (rows : List HeldRow). IsSome (find (is_held_row n) rows)) (sym c.deref.ensures.value)
    (held_row_found c.self.inside.entries.store n c.self.inside.held.items (subst (λ (v : ShelfView). IsSome (held_in v.shelf n)) (sym c.self.view_is) c.requires.standing))

pub get-requires-clause-of : goal.get-requires-clause-of
get-requires-clause-of c =
    let n = c.args.held.now.number in
    let inside = c.self.inside in
    let at = ap (position (is_held_row n)) (sym c.deref.ensures.value) ∙ c.held_place-place.ensures in
    let found = found_is (is_held_row n) inside.held.items c.held_place-place.result c.index-row.result.now at c.index-row.ensures in
    held_of inside.geometry inside.entries inside.volumes.items inside.held.items inside.total inside.promised inside.volumes.cap inside.held.cap n c.index-row.result.now found c.self.invariant

pub get-requires-clause-within : goal.get-requires-clause-within
get-requires-clause-within c =
    let n = c.args.held.now.number in
    let inside = c.self.inside in
    let at = ap (position (is_held_row n)) (sym c.deref.ensures.value) ∙ c.held_place-place.ensures in
    let found = found_is (is_held_row n) inside.held.items c.held_place-place.result c.index-row.result.now at c.index-row.ensures in
    subst (λ k. c.args.at < k) (ap (λ (v : ShelfView). held_size v.shelf n) (sym c.self.view_is)
    ∙ held_len_is inside.geometry inside.entries inside.volumes.items inside.held.items inside.total inside.promised inside.volumes.cap inside.held.cap n c.index-row.result.now found c.self.invariant) c.requires.within

pub returns : goal.returns
returns c =
    let n = c.args.held.now.number in
    let inside = c.self.inside in
    let at = ap (position (is_held_row n)) (sym c.deref.ensures.value) ∙ c.held_place-place.ensures in
    let found = found_is (is_held_row n) inside.held.items c.held_place-place.result c.index-row.result.now at c.index-row.ensures in
    ap (λ (v : ShelfView). option_map (λ (a : Piece Entry). a.chunk) (piece_at v.shelf n c.args.at)) (sym c.self.view_is)
    ∙ ap (option_map (λ (a : Piece Entry). a.chunk))
    (held_piece inside.geometry inside.entries inside.volumes.items inside.held.items inside.total inside.promised inside.volumes.cap inside.held.cap n c.index-row.result.now found c.self.invariant c.args.at c.get.result c.get.ensures)
