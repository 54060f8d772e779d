use Rattle.std.proofs.Common.{ℕ, List, refl, sym, subst, ap, ◌∙◌}
use Rattle.std.specs.Prelude.{IsSome}
use Rattle.std.specs.List.{find, position}
use Rattle.vv_flat.specs.State.{Volume}
use Rattle.vv_flat.specs.Chunks.{Entry}
use Rattle.vv_vols.specs.declared.row.VolumeRow.{VolumeRow}
use Rattle.vv_vols.specs.Shelf.{volume_in}
use Rattle.vv_vols.specs.Calls.{with_changed}
use Rattle.vv_vols.specs.Rows.{ShelfView, is_row}
use Rattle.vv_vols.proofs.SeenShelf.{row_found}
use Rattle.vv_vols.proofs.HeadCalls.{head_view, head_shelf}
use Rattle.vv_vols.proofs.shelf.Shelf.set_reverted.Goals as goal

pub place_of-at-requires : goal.place_of-at-requires
place_of-at-requires c =
    subst (λ (rows : List VolumeRow). IsSome (find (is_row c.args.id.0) rows)) (sym c.deref.ensures.value)
    (row_found c.self.inside.entries.store c.args.id.0 c.self.inside.volumes.items
    (subst (λ (s : ShelfView). IsSome (volume_in s.shelf c.args.id.0)) (sym c.self.view_is) c.requires))

abbrev changed_row : VolumeRow → ℕ → VolumeRow
changed_row r x = record { id = r.id; head = record { container = r.head.container; vtype = r.head.vtype; kind = r.head.kind; reverted = x; needs = r.head.needs; metadata = r.head.metadata }; map = r.map; allocated = r.allocated }

pub invariant_of-self : goal.invariant_of-self
invariant_of-self c =
    let inside = c.self.inside in
    let row = c.index_mut.result.now in
    let at = ap (position (is_row c.args.id.0)) (sym c.deref.ensures.value) ∙ c.place_of-at.ensures in
    head_shelf inside.geometry inside.entries inside.volumes.items inside.held.items inside.total inside.promised inside.volumes.cap inside.held.cap c.place_of-at.result c.args.id.0 row (changed_row row c.args.lsn) at c.index_mut.ensures.value c.self.invariant
    refl refl refl (λ (v : Volume Entry). record v { reverted = c.args.lsn }) refl (λ v. refl)

pub returns : goal.returns
returns c =
    let inside = c.self.inside in
    let row = c.index_mut.result.now in
    let at = ap (position (is_row c.args.id.0)) (sym c.deref.ensures.value) ∙ c.place_of-at.ensures in
    let seen = head_view inside.geometry inside.entries inside.volumes.items inside.held.items inside.total inside.promised inside.volumes.cap inside.held.cap c.place_of-at.result c.args.id.0 row (changed_row row c.args.lsn) at c.index_mut.ensures.value c.self.invariant
    refl refl refl (λ (v : Volume Entry). record v { reverted = c.args.lsn }) refl (λ v. refl) in
    seen
    ∙ ap (λ (v : ShelfView). record v { shelf = with_changed v.shelf c.args.id.0 (λ (v : Volume Entry). record v { reverted = c.args.lsn }) }) c.self.view_is
