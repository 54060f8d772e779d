use Rattle.std.proofs.Common.{◌≡◌, ◌*◌, ◌<◌, List, map, sym, subst, ap, ◌∙◌, arith}
use Rattle.std.specs.Prelude.{IsSome, slice_get}
use Rattle.std.specs.List.{find, position}
use Rattle.vv_vols.specs.declared.row.VolumeRow.{VolumeRow}
use Rattle.vv_vols.specs.Shelf.{volume_in, size_in}
use Rattle.vv_vols.specs.Pages.{page_in}
use Rattle.vv_vols.specs.Rows.{ShelfView, is_row, seen_entry}
use Rattle.vv_vols.proofs.SeenShelf.{row_found}
use Rattle.vv_vols.proofs.WrittenRow.{here_of, here_size}
use Rattle.vv_vols.proofs.ReadPage.{page_seen, same_row}
use Rattle.vv_vols.proofs.shelf.Shelf.same_page.Goals as goal

pub place_of-requires : goal.place_of-requires
place_of-requires c =
    subst (λ (rows : List VolumeRow). IsSome (find (is_row c.args.id.0) rows)) (sym c.deref.ensures.value)
    (row_found c.self.inside.entries.store c.args.id.0 c.self.inside.volumes.items
    (subst (λ (s : ShelfView). IsSome (volume_in s.shelf c.args.id.0)) (sym c.self.view_is) c.requires.standing))

pub place_of-requires-2 : goal.place_of-requires-2
place_of-requires-2 c =
    subst (λ (rows : List VolumeRow). IsSome (find (is_row c.args.other.0) rows)) (sym c.deref-2.ensures.value)
    (row_found c.self.inside.entries.store c.args.other.0 c.self.inside.volumes.items
    (subst (λ (s : ShelfView). IsSome (volume_in s.shelf c.args.other.0)) (sym c.self.view_is) c.requires.other_standing))

pub same_page-requires-clause-of : goal.same_page-requires-clause-of
same_page-requires-clause-of c =
    let inside = c.self.inside in
    let at = ap (position (is_row c.args.id.0)) (sym c.deref.ensures.value) ∙ c.place_of.ensures in
    here_of inside.geometry inside.entries inside.volumes.items inside.held.items inside.total inside.promised inside.volumes.cap inside.held.cap c.place_of.result c.args.id.0 c.index-row.result.now at c.index-row.ensures c.self.invariant

pub same_page-requires-clause-of_other : goal.same_page-requires-clause-of_other
same_page-requires-clause-of_other c =
    let inside = c.self.inside in
    let at = ap (position (is_row c.args.other.0)) (sym c.deref-2.ensures.value) ∙ c.place_of-2.ensures in
    here_of inside.geometry inside.entries inside.volumes.items inside.held.items inside.total inside.promised inside.volumes.cap inside.held.cap c.place_of-2.result c.args.other.0 c.index-other_row.result.now at c.index-other_row.ensures c.self.invariant

pub returns-clause-same : goal.returns-clause-same
returns-clause-same c = λ same within.
    let inside = c.self.inside in
    let row = c.index-row.result.now in
    let other = c.index-other_row.result.now in
    let at = ap (position (is_row c.args.id.0)) (sym c.deref.ensures.value) ∙ c.place_of.ensures in
    let other_at = ap (position (is_row c.args.other.0)) (sym c.deref-2.ensures.value) ∙ c.place_of-2.ensures in
    let one : row ≡ other = same_row inside.volumes.items c.args.id.0 c.args.other.0 c.place_of.result c.place_of-2.result row other same at other_at c.index-row.ensures c.index-other_row.ensures in
    let of = here_of inside.geometry inside.entries inside.volumes.items inside.held.items inside.total inside.promised inside.volumes.cap inside.held.cap c.place_of.result c.args.id.0 row at c.index-row.ensures c.self.invariant in
    let size : 64 * c.args.k < row.map.len = subst (λ n. 64 * c.args.k < n) (ap (λ (v : ShelfView). size_in v.shelf c.args.id.0) (sym c.self.view_is) ∙ here_size inside.geometry inside.entries inside.volumes.items inside.held.items inside.total inside.promised inside.volumes.cap inside.held.cap c.place_of.result c.args.id.0 row at c.index-row.ensures c.self.invariant) within in
    let pages = of.size in
    c.same_page.ensures.page.1 (omega arith, ap (λ (r : VolumeRow). slice_get r.map.numbers c.args.k) (sym one))

pub returns-clause-equal : goal.returns-clause-equal
returns-clause-equal c = λ yes.
    let inside = c.self.inside in
    let at = ap (position (is_row c.args.id.0)) (sym c.deref.ensures.value) ∙ c.place_of.ensures in
    let other_at = ap (position (is_row c.args.other.0)) (sym c.deref-2.ensures.value) ∙ c.place_of-2.ensures in
    ap (λ (v : ShelfView). page_in v.shelf c.args.id.0 c.args.k) (sym c.self.view_is)
    ∙ page_seen inside.geometry inside.entries inside.volumes.items inside.held.items inside.total inside.promised inside.volumes.cap inside.held.cap c.place_of.result c.args.id.0 c.index-row.result.now at c.index-row.ensures c.self.invariant c.args.k
    ∙ ap (map seen_entry) (c.same_page.ensures.entries yes)
    ∙ sym (page_seen inside.geometry inside.entries inside.volumes.items inside.held.items inside.total inside.promised inside.volumes.cap inside.held.cap c.place_of-2.result c.args.other.0 c.index-other_row.result.now other_at c.index-other_row.ensures c.self.invariant c.args.k)
    ∙ ap (λ (v : ShelfView). page_in v.shelf c.args.other.0 c.args.k) c.self.view_is
