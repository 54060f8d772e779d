use Rattle.std.proofs.Common.{[], List, sym, subst}
use Rattle.vv_tables.specs.declared.rows.CopyRow.{CopyRow}
use Rattle.vv_tables.specs.Kept.{lists_of, HoldsEach}
use Rattle.vv_tables.proofs.Drops.{all_held}
use Rattle.vv_tables.proofs.tables.Tables.close.Goals as goal

pub end_clones-requires : goal.end_clones-requires
end_clones-requires c =
    let i = c.self.inside in
    subst (λ (copies : List CopyRow). HoldsEach i.shelf.shelf (lists_of i.clones.items copies)) (sym c.deref.ensures.value)
    (all_held i.shelf.shelf i.clones.items i.copies.items c.self.invariant.held)

pub end_copies-requires : goal.end_copies-requires
end_copies-requires c =
    subst (λ (copies : List CopyRow). HoldsEach c.end_clones.new.shelf.shelf (lists_of [] copies)) c.deref.ensures.value c.end_clones.ensures
