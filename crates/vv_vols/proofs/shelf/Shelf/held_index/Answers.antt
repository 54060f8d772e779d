use Rattle.std.proofs.Common.{◌≡◌, ◌<◌, List, find, Some, length, option_map, sym, subst, ap, ◌∙◌, arith}
use Rattle.std.specs.Prelude.{IsSome, slice_index}
use Rattle.std.specs.List.{position}
use Rattle.std.proofs.lemmas.List.{get_or_read}
use Rattle.vv_flat.specs.State.{Piece}
use Rattle.vv_flat.specs.Chunks.{Entry}
use Rattle.vv_flat.proofs.Positions.{found_is}
use Rattle.vv_vols.specs.declared.row.HeldRow.{HeldRow}
use Rattle.vv_vols.specs.declared.row.HeldIndexes.{HeldIndexes}
use Rattle.vv_vols.specs.Shelf.{held_in, held_size, piece_at}
use Rattle.vv_vols.specs.Rows.{ShelfView, is_held_row, held_indexes}
use Rattle.vv_vols.proofs.HeldRead.{held_row_found, held_len_is, held_indexed, held_index_is, number_at}
use Rattle.vv_vols.proofs.shelf.Shelf.held_index.Goals as goal

pub held_place-place-requires : goal.held_place-place-requires
held_place-place-requires c =
    let n = c.args.held.now.number in
    subst (λ (rows : List HeldRow). IsSome (find (is_held_row n) rows)) (sym c.deref.ensures.value)
    (held_row_found c.self.inside.entries.store n c.self.inside.held.items (subst (λ (v : ShelfView). IsSome (held_in v.shelf n)) (sym c.self.view_is) c.requires.standing))

pub index-requires : goal.index-requires
index-requires c =
    let n = c.args.held.now.number in
    let inside = c.self.inside in
    let row = c.index-row.result.now in
    let at = ap (position (is_held_row n)) (sym c.deref.ensures.value) ∙ c.held_place-place.ensures in
    let found = found_is (is_held_row n) inside.held.items c.held_place-place.result row at c.index-row.ensures in
    let within : c.args.at < row.map.len = subst (λ k. c.args.at < k) (ap (λ (v : ShelfView). held_size v.shelf n) (sym c.self.view_is)
    ∙ held_len_is inside.geometry inside.entries inside.volumes.items inside.held.items inside.total inside.promised inside.volumes.cap inside.held.cap n row found c.self.invariant) c.requires.within in
    let size : length (held_indexes row.indexes row.map.len) ≡ row.map.len = held_indexed inside.geometry inside.entries inside.volumes.items inside.held.items inside.total inside.promised inside.volumes.cap inside.held.cap n row found c.self.invariant in
    let is : length c.in-Listed.listed.indexes.items ≡ row.map.len = ap (λ (hs : HeldIndexes). length (held_indexes hs row.map.len)) (sym c.in-Listed.is) ∙ size in
    omega (arith, c.in-Listed.listed.indexes.ok.0)

pub returns-in-FromZero : goal.returns-in-FromZero
returns-in-FromZero c =
    let n = c.args.held.now.number in
    let inside = c.self.inside in
    let row = c.index-row.result.now in
    let at = ap (position (is_held_row n)) (sym c.deref.ensures.value) ∙ c.held_place-place.ensures in
    let found = found_is (is_held_row n) inside.held.items c.held_place-place.result row at c.index-row.ensures in
    let within : c.args.at < row.map.len = subst (λ k. c.args.at < k) (ap (λ (v : ShelfView). held_size v.shelf n) (sym c.self.view_is)
    ∙ held_len_is inside.geometry inside.entries inside.volumes.items inside.held.items inside.total inside.promised inside.volumes.cap inside.held.cap n row found c.self.invariant) c.requires.within in
    ap (λ (v : ShelfView). option_map (λ (a : Piece Entry). a.index) (piece_at v.shelf n c.args.at)) (sym c.self.view_is)
    ∙ held_index_is inside.geometry inside.entries inside.volumes.items inside.held.items inside.total inside.promised inside.volumes.cap inside.held.cap n row found c.self.invariant c.args.at within
    ∙ ap (λ (hs : HeldIndexes). Some (slice_index (held_indexes hs row.map.len) c.args.at)) c.in-FromZero.is
    ∙ ap Some (number_at 0 row.map.len c.args.at within ∙ omega arith)

pub returns-in-Listed : goal.returns-in-Listed
returns-in-Listed c =
    let n = c.args.held.now.number in
    let inside = c.self.inside in
    let row = c.index-row.result.now in
    let at = ap (position (is_held_row n)) (sym c.deref.ensures.value) ∙ c.held_place-place.ensures in
    let found = found_is (is_held_row n) inside.held.items c.held_place-place.result row at c.index-row.ensures in
    let within : c.args.at < row.map.len = subst (λ k. c.args.at < k) (ap (λ (v : ShelfView). held_size v.shelf n) (sym c.self.view_is)
    ∙ held_len_is inside.geometry inside.entries inside.volumes.items inside.held.items inside.total inside.promised inside.volumes.cap inside.held.cap n row found c.self.invariant) c.requires.within in
    let size : length (held_indexes row.indexes row.map.len) ≡ row.map.len = held_indexed inside.geometry inside.entries inside.volumes.items inside.held.items inside.total inside.promised inside.volumes.cap inside.held.cap n row found c.self.invariant in
    let is : length c.in-Listed.listed.indexes.items ≡ row.map.len = ap (λ (hs : HeldIndexes). length (held_indexes hs row.map.len)) (sym c.in-Listed.is) ∙ size in
    ap (λ (v : ShelfView). option_map (λ (a : Piece Entry). a.index) (piece_at v.shelf n c.args.at)) (sym c.self.view_is)
    ∙ held_index_is inside.geometry inside.entries inside.volumes.items inside.held.items inside.total inside.promised inside.volumes.cap inside.held.cap n row found c.self.invariant c.args.at within
    ∙ ap (λ (hs : HeldIndexes). Some (slice_index (held_indexes hs row.map.len) c.args.at)) c.in-Listed.is
    ∙ ap Some (sym (get_or_read c.in-Listed.listed.indexes.items c.args.at c.index.result.now (omega arith) c.index.ensures 0))
