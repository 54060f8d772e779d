use Rattle.std.proofs.Common.{ℕ, ◌≡◌, [], ◌∷◌, ◌++◌, List, map, sym, subst, ap, ◌∙◌}
use Rattle.std.proofs.lemmas.List.{append-nil}
use Rattle.vv_vols.specs.Shelf.{ShelfState}
use Rattle.vv_vols.specs.Calls.{without_held}
use Rattle.vv_tables.specs.declared.rows.CopyRow.{CopyRow}
use Rattle.vv_tables.specs.Kept.{lists_of, HoldsEach}
use Rattle.vv_tables.proofs.Drops.{stands, dropped, last_copy}
use Rattle.vv_tables.proofs.rows.end_copies.Goals as goal

abbrev pieces : List CopyRow → List ℕ
pieces copies = map (λ (c : CopyRow). c.pieces.number) copies

popped : (s : ShelfState) (all rest : List CopyRow) (row : CopyRow) → all ≡ rest ++ row ∷ [] → HoldsEach s (lists_of [] all)
    → HoldsEach s (pieces rest ++ row.pieces.number ∷ [])
popped s all rest row is holds = subst (λ ns. HoldsEach s ns) (ap (λ rows. lists_of [] rows) is ∙ last_copy rest row) holds

pub drop_image-requires : goal.drop_image-requires
drop_image-requires c =
    let row = c.in-Some.row in
    let rest = c.pop.new.self.items in
    stands c.loop-row.shelf.shelf row.pieces.number (pieces rest) []
    (popped c.loop-row.shelf.shelf c.loop-row.copies.items rest row c.in-Some.ensures.items c.loop-row.invariant)

pub loop-row-preserved : goal.loop-row-preserved
loop-row-preserved c =
    let row = c.in-Some.row in
    let rest = c.pop.new.self.items in
    let left = dropped c.loop-row.shelf.shelf row.pieces.number (pieces rest) []
    (popped c.loop-row.shelf.shelf c.loop-row.copies.items rest row c.in-Some.ensures.items c.loop-row.invariant) in
    subst (λ s. HoldsEach s (pieces rest)) (sym c.drop_image.ensures.shelf)
    (subst (λ ns. HoldsEach (without_held c.loop-row.shelf.shelf row.pieces.number) ns) (append-nil (pieces rest)) left)
