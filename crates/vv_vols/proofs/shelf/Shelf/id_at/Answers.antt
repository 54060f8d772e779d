use Rattle.std.proofs.Common.{List, map, option_map, sym, ap, ◌∙◌}
use Rattle.std.specs.Prelude.{slice_get}
use Rattle.vv_flat.specs.State.{Volume}
use Rattle.vv_flat.specs.Chunks.{Entry}
use Rattle.vv_vols.specs.declared.row.VolumeRow.{VolumeRow}
use Rattle.vv_vols.specs.Rows.{ShelfView, rises}
use Rattle.vv_vols.proofs.ReadRow.{numbers_seen, number_seen}
use Rattle.vv_vols.proofs.shelf.Shelf.id_at.Goals as goal

pub returns-clause-number : goal.returns-clause-number
returns-clause-number c =
    let inside = c.self.inside in
    c.id_of.ensures ∙ ap (λ (rows : List VolumeRow). option_map (λ (row : VolumeRow). row.id.0) (slice_get rows c.args.i)) c.deref.ensures.value
    ∙ number_seen inside.entries.store inside.volumes.items c.args.i
    ∙ ap (λ (v : ShelfView). option_map (λ (v : Volume Entry). v.number) (slice_get v.shelf.volumes c.args.i)) c.self.view_is

pub returns-clause-rising : goal.returns-clause-rising
returns-clause-rising c =
    let inside = c.self.inside in
    ap (λ (v : ShelfView). rises (map (λ (v : Volume Entry). v.number) v.shelf.volumes)) (sym c.self.view_is)
    ∙ ap rises (numbers_seen inside.entries.store inside.volumes.items) ∙ c.self.invariant.rising
