use Rattle.std.proofs.Common.{[], Some, option_map, sym, ap, ◌∙◌}
use Rattle.std.specs.List.{position}
use Rattle.std.proofs.lemmas.Bool.{eqb-true}
use Rattle.vv_flat.specs.State.{Volume}
use Rattle.vv_flat.specs.Chunks.{Entry}
use Rattle.vv_flat.proofs.Positions.{not_found, found_is, found_passes}
use Rattle.vv_vols.specs.Shelf.{volume_in}
use Rattle.vv_vols.specs.Rows.{ShelfView, is_row, seen_volume, volume_with}
use Rattle.vv_vols.proofs.ReadRow.{volume_seen}
use Rattle.vv_vols.proofs.shelf.Shelf.volume.Goals as goal

abbrev headless : Volume Entry → Volume Entry
headless v = record v { chunks = [] }

pub returns-in-Some : goal.returns-in-Some
returns-in-Some c =
    let inside = c.self.inside in
    let n = c.args.id.0 in
    let row = c.index.result.now in
    let at = ap (position (is_row n)) (sym c.deref.ensures.value) ∙ sym c.in-Some.ensures in
    let found = found_is (is_row n) inside.volumes.items c.in-Some.at row at c.index.ensures in
    let number = eqb-true row.id.0 n (found_passes (is_row n) inside.volumes.items c.in-Some.at row at c.index.ensures) in
    ap (λ k. Some (volume_with k row.head [])) (sym number)
    ∙ sym (ap (option_map headless) (volume_seen inside.entries.store n inside.volumes.items ∙ ap (option_map (seen_volume inside.entries.store)) found))
    ∙ ap (λ (v : ShelfView). option_map headless (volume_in v.shelf n)) c.self.view_is

pub returns-in-None : goal.returns-in-None
returns-in-None c =
    let inside = c.self.inside in
    let n = c.args.id.0 in
    let none = not_found (is_row n) inside.volumes.items (ap (position (is_row n)) (sym c.deref.ensures.value) ∙ sym c.in-None.ensures) in
    sym (ap (option_map headless) (volume_seen inside.entries.store n inside.volumes.items ∙ ap (option_map (seen_volume inside.entries.store)) none))
    ∙ ap (λ (v : ShelfView). option_map headless (volume_in v.shelf n)) c.self.view_is
