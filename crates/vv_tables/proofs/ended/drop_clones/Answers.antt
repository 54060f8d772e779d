use Rattle.std.proofs.Common.{◌≡◌, List, length, refl, subst, ◌∙◌, arith}
use Rattle.vv_flat.specs.Lists.{first_removed}
use Rattle.vv_vols.specs.Shelf.{is_held}
use Rattle.vv_tables.specs.declared.rows.CloneRow.{CloneRow}
use Rattle.vv_tables.specs.Kept.{AreHeld}
use Rattle.vv_tables.proofs.Emptied.{emptied_none, emptied_next, no_rows, last_image, last_target, clone_gone}
use Rattle.vv_tables.proofs.ended.drop_clones.Goals as goal

pub loop-row-init : goal.loop-row-init
loop-row-init c = record { held = c.requires; emptied = emptied_none c.args.shelf.now; capacity = refl }

pub drop_clone-requires-clause-image : goal.drop_clone-requires-clause-image
drop_clone-requires-clause-image c =
    last_image c.loop-row.shelf.shelf c.loop-row.rows.items c.pop.new.self.items c.in-Some.row c.args.copies.now c.in-Some.ensures.items c.loop-row.invariant.held

pub drop_clone-requires-clause-target : goal.drop_clone-requires-clause-target
drop_clone-requires-clause-target c =
    last_target c.loop-row.shelf.shelf c.loop-row.rows.items c.pop.new.self.items c.in-Some.row c.args.copies.now c.in-Some.ensures.items c.loop-row.invariant.held

pub loop-row-preserved : goal.loop-row-preserved
loop-row-preserved c = record {
  held = clone_gone c.loop-row.shelf.shelf c.loop-row.rows.items c.pop.new.self.items c.in-Some.row c.args.copies.now c.in-Some.ensures.items c.loop-row.invariant.held
      c.drop_clone.new.shelf.shelf c.drop_clone.ensures.shelf;
  emptied = emptied_next c.args.shelf.now c.loop-row.shelf c.drop_clone.new.shelf
      (first_removed (is_held c.in-Some.row.target.number) (first_removed (is_held c.in-Some.row.image.number) c.loop-row.shelf.shelf.held))
      c.loop-row.invariant.emptied c.drop_clone.ensures.shelf c.drop_clone.ensures.rooms c.drop_clone.ensures.kept;
  capacity = c.in-Some.ensures.capacity ∙ c.loop-row.invariant.capacity;
}

pub returns-clause-held : goal.returns-clause-held
returns-clause-held c =
    let none : length c.loop-row.rows.items ≡ 0 = omega (arith, c.in_default.ensures.cases.0) in
    subst (λ (rows : List CloneRow). AreHeld c.loop-row.shelf.shelf rows c.args.copies.now) (no_rows c.loop-row.rows.items none) c.loop-row.invariant.held

pub returns-clause-capacity : goal.returns-clause-capacity
returns-clause-capacity c = c.in_default.ensures.capacity ∙ c.loop-row.invariant.capacity

pub returns-clause-shelf : goal.returns-clause-shelf
returns-clause-shelf c = c.loop-row.invariant.emptied.shelf

pub returns-clause-rooms : goal.returns-clause-rooms
returns-clause-rooms c = c.loop-row.invariant.emptied.rooms

pub returns-clause-kept : goal.returns-clause-kept
returns-clause-kept c = c.loop-row.invariant.emptied.kept
