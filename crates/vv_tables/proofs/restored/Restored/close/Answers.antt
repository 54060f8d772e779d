use Rattle.std.proofs.Common.{[], List, subst}
use Rattle.vv_tables.specs.declared.rows.CopyRow.{CopyRow}
use Rattle.vv_tables.specs.Kept.{lists_of, HoldsEach}
use Rattle.vv_tables.proofs.restored.Restored.close.Goals as goal

pub end_copies-requires : goal.end_copies-requires
end_copies-requires c =
    subst (λ (copies : List CopyRow). HoldsEach c.end_clones.new.shelf.shelf (lists_of [] copies)) c.deref.ensures.value c.end_clones.ensures
