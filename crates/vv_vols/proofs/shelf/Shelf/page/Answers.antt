use Rattle.std.proofs.Common.{◌*◌, ◌<◌, List, map, sym, subst, ap, ◌∙◌}
use Rattle.std.specs.Prelude.{IsSome}
use Rattle.std.specs.List.{find, position}
use Rattle.vv_vols.specs.declared.row.VolumeRow.{VolumeRow}
use Rattle.vv_vols.specs.Shelf.{volume_in, size_in}
use Rattle.vv_vols.specs.Pages.{page_in}
use Rattle.vv_vols.specs.Rows.{ShelfView, is_row, seen_entry}
use Rattle.vv_vols.proofs.SeenShelf.{row_found}
use Rattle.vv_vols.proofs.WrittenRow.{here_of, here_size}
use Rattle.vv_vols.proofs.ReadPage.{page_seen}
use Rattle.vv_vols.proofs.shelf.Shelf.page.Goals as goal

pub place_of-at-requires : goal.place_of-at-requires
place_of-at-requires c =
    subst (λ (rows : List VolumeRow). IsSome (find (is_row c.args.id.0) rows)) (sym c.deref.ensures.value)
    (row_found c.self.inside.entries.store c.args.id.0 c.self.inside.volumes.items
    (subst (λ (s : ShelfView). IsSome (volume_in s.shelf c.args.id.0)) (sym c.self.view_is) c.requires.standing))

pub page-requires-clause-of : goal.page-requires-clause-of
page-requires-clause-of c =
    let inside = c.self.inside in
    let at = ap (position (is_row c.args.id.0)) (sym c.deref.ensures.value) ∙ c.place_of-at.ensures in
    here_of inside.geometry inside.entries inside.volumes.items inside.held.items inside.total inside.promised inside.volumes.cap inside.held.cap c.place_of-at.result c.args.id.0 c.index-row.result.now at c.index-row.ensures c.self.invariant

pub page-requires-clause-within : goal.page-requires-clause-within
page-requires-clause-within c =
    let inside = c.self.inside in
    let at = ap (position (is_row c.args.id.0)) (sym c.deref.ensures.value) ∙ c.place_of-at.ensures in
    subst (λ k. 64 * c.args.k < k) (ap (λ (v : ShelfView). size_in v.shelf c.args.id.0) (sym c.self.view_is) ∙ here_size inside.geometry inside.entries inside.volumes.items inside.held.items inside.total inside.promised inside.volumes.cap inside.held.cap c.place_of-at.result c.args.id.0 c.index-row.result.now at c.index-row.ensures c.self.invariant) c.requires.within

pub returns : goal.returns
returns c =
    let inside = c.self.inside in
    let at = ap (position (is_row c.args.id.0)) (sym c.deref.ensures.value) ∙ c.place_of-at.ensures in
    ap (map seen_entry) c.page.ensures
    ∙ sym (page_seen inside.geometry inside.entries inside.volumes.items inside.held.items inside.total inside.promised inside.volumes.cap inside.held.cap c.place_of-at.result c.args.id.0 c.index-row.result.now at c.index-row.ensures c.self.invariant c.args.k)
    ∙ ap (λ (v : ShelfView). page_in v.shelf c.args.id.0 c.args.k) c.self.view_is
