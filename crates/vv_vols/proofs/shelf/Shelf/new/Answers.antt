use Rattle.std.proofs.Common.{ℕ, List, [], sym, subst, ap, ◌∙◌}
use Rattle.vv_entries.specs.Entries.{EntriesState, empty_entries}
use Rattle.vv_vols.specs.declared.row.VolumeRow.{VolumeRow}
use Rattle.vv_vols.specs.declared.row.HeldRow.{HeldRow}
use Rattle.vv_vols.specs.Rows.{ShelfView, seen_view, IsShelf}
use Rattle.vv_vols.proofs.EmptyShelf.{empty_kept, no_fresh}
use Rattle.vv_vols.proofs.shelf.Shelf.new.Goals as goal

pub invariant_of-result : goal.invariant_of-result
invariant_of-result c =
    let g = c.args.geometry in
    subst (λ (hs : List HeldRow). IsShelf g c.in_ok-entries.entries c.new-2.result.items hs 0 0 c.new-2.result.cap c.new-3.result.cap) (sym c.new-3.ensures.items)
    (subst (λ (vs : List VolumeRow). IsShelf g c.in_ok-entries.entries vs [] 0 0 c.new-2.result.cap c.new-3.result.cap) (sym c.new-2.ensures.items)
    (subst (λ (e : EntriesState). IsShelf g e [] [] 0 0 c.new-2.result.cap c.new-3.result.cap) (sym c.in_ok-entries.ensures)
    (empty_kept g c.new-2.result.cap c.new-3.result.cap)))

pub returns : goal.returns
returns c =
    let g = c.args.geometry in
    ap (λ (e : EntriesState). seen_view g e c.new-2.result.items c.new-3.result.items 0) c.in_ok-entries.ensures
    ∙ ap (λ (vs : List VolumeRow). seen_view g (empty_entries g.pool_chunks g.map_chunks) vs c.new-3.result.items 0) c.new-2.ensures.items
    ∙ ap (λ (hs : List HeldRow). seen_view g (empty_entries g.pool_chunks g.map_chunks) [] hs 0) c.new-3.ensures.items
    ∙ ap (λ (ps : List ℕ). let v : ShelfView = record { shelf = record { geometry = g; volumes = []; held = []; fresh = ps; reserved = 0 }; pages = []; rooms = 0 } in v) (no_fresh 0 g.pool_chunks)
