use Rattle.std.proofs.Common.{◌∙◌, ap, rules}
use Rattle.std.proofs.lemmas.List.Sorted.{IsNonDecreasingBy-from_sort_by_key}
use Rattle.vv_rules.specs.declared.rows.Row.{Row}
use Rattle.vv_rules.specs.Least.{sooner}
use Rattle.vv_rules.specs.Rows.{is_mixed_place, is_mixed_key, least_wrong}
use Rattle.vv_rules.proofs.MixedRows.{mixed_told}
use Rattle.vv_rules.proofs.rows.least_mixed.Goals as goal

pub returns : goal.returns
returns c =
    c.sooner.ensures
    ∙ ap (λ o. sooner o c.least_mixed_key-by_key.result) (c.least_mixed_place-by_place.ensures ∙ ap (least_wrong is_mixed_place) c.as_slice-2.ensures.value)
    ∙ ap (λ o. sooner (least_wrong is_mixed_place c.sort_by_key.new.self.items) o) (c.least_mixed_key-by_key.ensures ∙ ap (least_wrong is_mixed_key) c.as_slice.ensures.value)
    ∙ mixed_told c.args.rows.items c.sort.new.self.items c.sort_by_key.new.self.items c.in_ok-sort.ensures.permutation c.in_ok-sort.ensures.sorted c.in_ok-sort_by_key.ensures.permutation
    (IsNonDecreasingBy-from_sort_by_key (λ (r : Row). r.place) c.sort_by_key.new.self.items c.in_ok-sort_by_key.ensures.sorted (λ a r q k. search rules))
