use Rattle.std.proofs.Common.{ℕ, ◌≡◌, ◌+◌, ◌-◌, ◌<◌, ◌≤◌, [], ◌∷◌, List, length, Some, get_or, drop, sym, ap, subst, ◌∙◌}
use Rattle.std.proofs.lemmas.List.{drop_more, drop_all}
use Rattle.vv_record.specs.declared.record.ChunkCopy.{ChunkCopy}
use Rattle.vv_flat.specs.Chunks.{unmapped_entry}
use Rattle.vv_vols.specs.Shelf.{HeldName, ShelfState, entry_at, index_at, shelf_used}
use Rattle.vv_vols.specs.Calls.{with_piece, with_reserve, placed_at}
use Rattle.vv_vols.specs.Conditions.{is_new_stamp}
use Rattle.vv_tables.specs.Filling.{MayFill, with_filled, copy_indexes, copy_places}
use Rattle.vv_tables.proofs.HeldPuts.{filled_one}
use Rattle.vv_tables.proofs.HeldFilling.{filled_none, filled_first, filled_unmapped, filled_stamp, may_next}
use Rattle.vv_tables.proofs.filling.fill_places.Goals as goal

abbrev none_yet : ChunkCopy
none_yet = record { index = 0; place = record { 0 = 0 } }

-- the copy ahead of the others
split : (copies : List ChunkCopy) (i : ℕ) → i < length copies → drop i copies ≡ get_or copies i none_yet ∷ drop (i + 1) copies
split copies i lt = drop_more copies i none_yet lt

ahead : (s : ShelfState) (n stamp : ℕ) (copies : List ChunkCopy) (i : ℕ) → i < length copies → MayFill s n stamp (copy_indexes (drop i copies)) (copy_places (drop i copies))
    → MayFill s n stamp ((get_or copies i none_yet).index ∷ copy_indexes (drop (i + 1) copies)) ((get_or copies i none_yet).place.0 ∷ copy_places (drop (i + 1) copies))
ahead s n stamp copies i lt may = subst (λ cs. MayFill s n stamp (copy_indexes cs) (copy_places cs)) (split copies i lt) may

pub fill_place-requires-clause-unmapped : goal.fill_place-requires-clause-unmapped
fill_place-requires-clause-unmapped c =
    let at = c.loop-copy in
    let copies = c.args.copies.now in
    let i = at.copy-index in
    let n = c.args.target.now.number in
    let stamp = c.args.stamp in
    let s : ShelfState = at.shelf.shelf in
    let name : at.target.number ≡ n = ap (λ (h : HeldName). h.number) at.invariant.target in
    let item = get_or copies i none_yet in
    let is = copy_indexes (drop (i + 1) copies) in
    let ps = copy_places (drop (i + 1) copies) in
    let lt : i < length copies = c.loop-copy-test.true in
    let may = ahead s n stamp copies i lt at.invariant.may in
    subst (λ m. entry_at s m item.index ≡ Some unmapped_entry) (sym name) (filled_unmapped s n stamp item.index item.place.0 is ps may)

pub fill_place-requires-clause-stamp : goal.fill_place-requires-clause-stamp
fill_place-requires-clause-stamp c =
    let at = c.loop-copy in
    let copies = c.args.copies.now in
    let i = at.copy-index in
    let n = c.args.target.now.number in
    let stamp = c.args.stamp in
    let s : ShelfState = at.shelf.shelf in
    let name : at.target.number ≡ n = ap (λ (h : HeldName). h.number) at.invariant.target in
    let item = get_or copies i none_yet in
    let is = copy_indexes (drop (i + 1) copies) in
    let ps = copy_places (drop (i + 1) copies) in
    let lt : i < length copies = c.loop-copy-test.true in
    let may = ahead s n stamp copies i lt at.invariant.may in
    ap (λ m. is_new_stamp s (index_at s m item.index) stamp) name ∙ filled_stamp s n stamp item.index item.place.0 is ps may

pub loop-copy-preserved : goal.loop-copy-preserved
loop-copy-preserved c =
    let at = c.loop-copy in
    let copies = c.args.copies.now in
    let i = at.copy-index in
    let n = c.args.target.now.number in
    let stamp = c.args.stamp in
    let s : ShelfState = at.shelf.shelf in
    let name : at.target.number ≡ n = ap (λ (h : HeldName). h.number) at.invariant.target in
    let item = get_or copies i none_yet in
    let is = copy_indexes (drop (i + 1) copies) in
    let ps = copy_places (drop (i + 1) copies) in
    let lt : i < length copies = c.loop-copy-test.true in
    let may = ahead s n stamp copies i lt at.invariant.may in
    let put : c.fill_place.new.shelf.shelf ≡ filled_one s n item.index stamp item.place.0 =
    c.fill_place.ensures.shelf ∙ ap (λ m. with_reserve (with_piece s m item.index (placed_at item.place.0 stamp)) (s.reserved - 1)) name in
    record {
      target = c.fill_place.ensures.target ∙ at.invariant.target;
      may = subst (λ (t : ShelfState). MayFill t n stamp is ps) (sym put)
          (may_next s n stamp item.index item.place.0 is ps may (subst (λ (t : ShelfState). shelf_used t + t.reserved ≤ t.geometry.pool_chunks) put c.fill_place.ensures.within));
      leads = ap (λ (t : ShelfState). with_filled t n stamp is ps) put
          ∙ filled_first s n stamp item.index item.place.0 is ps
          ∙ ap (λ cs. with_filled s n stamp (copy_indexes cs) (copy_places cs)) (sym (split copies i lt))
          ∙ at.invariant.leads;
      rooms = c.fill_place.ensures.rooms ∙ at.invariant.rooms;
      taken = c.fill_place.ensures.taken ∙ at.invariant.taken;
    }

pub returns-clause-shelf : goal.returns-clause-shelf
returns-clause-shelf c =
    let at = c.loop-copy in
    let copies = c.args.copies.now in
    let i = at.copy-index in
    let n = c.args.target.now.number in
    let stamp = c.args.stamp in
    let s : ShelfState = at.shelf.shelf in
    let name : at.target.number ≡ n = ap (λ (h : HeldName). h.number) at.invariant.target in
    let none : drop i copies ≡ [] = drop_all i copies c.loop-copy-test.false in
    sym (filled_none s n stamp)
    ∙ ap (λ cs. with_filled s n stamp (copy_indexes cs) (copy_places cs)) (sym none)
    ∙ at.invariant.leads
