use Rattle.std.proofs.Common.{List, sym, subst, ap, ◌∙◌}
use Rattle.std.specs.Prelude.{IsSome}
use Rattle.std.specs.List.{find, position}
use Rattle.vv_map.specs.Pages.{list_of}
use Rattle.vv_vols.specs.declared.row.VolumeRow.{VolumeRow}
use Rattle.vv_vols.specs.Shelf.{volume_in, chunks_in, allocated_of}
use Rattle.vv_vols.specs.Rows.{ShelfView, is_row}
use Rattle.vv_vols.proofs.SeenShelf.{row_found}
use Rattle.vv_vols.proofs.RowCalls.{row_allocated}
use Rattle.vv_vols.proofs.ReadRow.{here_chunks, allocated_seen}
use Rattle.vv_vols.proofs.shelf.Shelf.allocated_count.Goals as goal

pub place_of-at-requires : goal.place_of-at-requires
place_of-at-requires c =
    subst (λ (rows : List VolumeRow). IsSome (find (is_row c.args.id.0) rows)) (sym c.deref.ensures.value)
    (row_found c.self.inside.entries.store c.args.id.0 c.self.inside.volumes.items
    (subst (λ (s : ShelfView). IsSome (volume_in s.shelf c.args.id.0)) (sym c.self.view_is) c.requires))

pub returns : goal.returns
returns c =
    let inside = c.self.inside in
    let at = ap (position (is_row c.args.id.0)) (sym c.deref.ensures.value) ∙ c.place_of-at.ensures in
    row_allocated inside.geometry inside.entries inside.volumes.items inside.held.items inside.total c.place_of-at.result c.args.id.0 c.index-row.result.now c.index-row.result.now at c.index-row.ensures c.self.invariant.lists
    ∙ sym (allocated_seen (list_of inside.entries.store c.index-row.result.now.map)) ∙ ap allocated_of (sym (here_chunks inside.geometry inside.entries inside.volumes.items inside.held.items inside.total inside.promised inside.volumes.cap inside.held.cap c.place_of-at.result c.args.id.0 c.index-row.result.now at c.index-row.ensures c.self.invariant)) ∙ ap (λ (v : ShelfView). allocated_of (chunks_in v.shelf c.args.id.0)) c.self.view_is
