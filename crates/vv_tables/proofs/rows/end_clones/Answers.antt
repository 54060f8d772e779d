use Rattle.std.proofs.Common.{ℕ, ◌≡◌, [], ◌∷◌, ◌++◌, List, map, length, refl, sym, subst, ap, ◌∙◌, arith}
use Rattle.std.specs.List.{flat_map}
use Rattle.vv_vols.specs.Shelf.{ShelfState}
use Rattle.vv_tables.specs.declared.rows.CopyRow.{CopyRow}
use Rattle.vv_tables.specs.declared.rows.CloneRow.{CloneRow}
use Rattle.vv_tables.specs.Kept.{clone_lists, lists_of, HoldsEach}
use Rattle.vv_tables.proofs.Drops.{stands, dropped, last_clone}
use Rattle.vv_tables.proofs.rows.end_clones.Goals as goal

abbrev pieces : List CopyRow → List ℕ
pieces copies = map (λ (c : CopyRow). c.pieces.number) copies

-- what stands once the last row is out
popped : (s : ShelfState) (all rest : List CloneRow) (row : CloneRow) (copies : List CopyRow) → all ≡ rest ++ row ∷ [] → HoldsEach s (lists_of all copies)
    → HoldsEach s (flat_map clone_lists rest ++ row.image.number ∷ row.target.number ∷ pieces copies)
popped s all rest row copies is holds =
    subst (λ ns. HoldsEach s ns) (ap (λ rows. lists_of rows copies) is ∙ last_clone rest row copies) holds

pub drop_image-requires : goal.drop_image-requires
drop_image-requires c =
    let row = c.in-Some.row in
    let rest = c.pop.new.self.items in
    stands c.loop-row.shelf.shelf row.image.number (flat_map clone_lists rest) (row.target.number ∷ pieces c.args.copies.now)
    (popped c.loop-row.shelf.shelf c.loop-row.clones.items rest row c.args.copies.now c.in-Some.ensures.items c.loop-row.invariant)

pub drop_image-requires-in-Some : goal.drop_image-requires-in-Some
drop_image-requires-in-Some c =
    let row = c.in-Some.row in
    let rest = c.pop.new.self.items in
    let first = dropped c.loop-row.shelf.shelf row.image.number (flat_map clone_lists rest) (row.target.number ∷ pieces c.args.copies.now)
    (popped c.loop-row.shelf.shelf c.loop-row.clones.items rest row c.args.copies.now c.in-Some.ensures.items c.loop-row.invariant) in
    stands c.drop_image.new.self.shelf row.target.number (flat_map clone_lists rest) (pieces c.args.copies.now)
    (subst (λ s. HoldsEach s (flat_map clone_lists rest ++ row.target.number ∷ pieces c.args.copies.now)) (sym c.drop_image.ensures.shelf) first)

pub loop-row-preserved : goal.loop-row-preserved
loop-row-preserved c =
    let row = c.in-Some.row in
    let rest = c.pop.new.self.items in
    let first = dropped c.loop-row.shelf.shelf row.image.number (flat_map clone_lists rest) (row.target.number ∷ pieces c.args.copies.now)
    (popped c.loop-row.shelf.shelf c.loop-row.clones.items rest row c.args.copies.now c.in-Some.ensures.items c.loop-row.invariant) in
    let second = dropped c.drop_image.new.self.shelf row.target.number (flat_map clone_lists rest) (pieces c.args.copies.now)
    (subst (λ s. HoldsEach s (flat_map clone_lists rest ++ row.target.number ∷ pieces c.args.copies.now)) (sym c.drop_image.ensures.shelf) first) in
    subst (λ s. HoldsEach s (flat_map clone_lists rest ++ pieces c.args.copies.now)) (sym c.drop_image-in-Some.ensures.shelf) second

nothing : (rows : List CloneRow) → length rows ≡ 0 → rows ≡ []
nothing [] e = refl
nothing (row ∷ rows) e = absurd (omega arith)

pub returns : goal.returns
returns c =
    let none : length c.loop-row.clones.items ≡ 0 = omega (arith, c.in_default.ensures.cases.0) in
    subst (λ (rows : List CloneRow). HoldsEach c.loop-row.shelf.shelf (lists_of rows c.args.copies.now)) (nothing c.loop-row.clones.items none) c.loop-row.invariant
