use Rattle.std.proofs.Common.{◌∙◌, ap, length}
use Rattle.std.specs.Prelude.{nat_le}
use Rattle.vv_area.specs.Area.{tables_of}
use Rattle.vv_area.proofs.RuleParts.{limits_told}
use Rattle.vv_area.proofs.rules.limits.limits_hold.Goals as goal

pub returns : goal.returns
returns c =
    c.all_hold.ensures
    ∙ limits_told (tables_of c.args.tables.now) _ _ _ _ _ _ _ _ _ _ _ _ c.are_volumes_within.ensures
    (ap (λ xs. nat_le (length xs) 32) c.items.ensures) (ap (λ xs. nat_le (length xs) 1024) c.items-2.ensures)
    (ap (λ n. nat_le n 16) c.running_count.ensures) (ap (λ xs. nat_le (length xs) 256) c.items-3.ensures)
    c.in_ok-pairs.ensures c.in_ok-entries.ensures c.are_offers_within.ensures c.are_volume_lists_within.ensures
    c.are_clone_lists_within.ensures c.are_contexts_within.ensures c.are_bindings_within.ensures
