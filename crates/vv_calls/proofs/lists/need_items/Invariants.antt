use Rattle.std.proofs.Common.{◌≡◌, [], drop}
use Rattle.serde_json.specs.View.{items_view}
use Rattle.vv_calls.specs.Lists.{each_behind, need_behind}
use Rattle.vv_calls.specs.Formed.{AreNeeds}
use Rattle.vv_calls.proofs.lists.need_items.Given as goal

abbrev pub invariant-loop-value : goal.invariant-loop-value
invariant-loop-value l = record {
  rest : each_behind need_behind l.needs.items (items_view (drop l.value-index l.values)) ≡ each_behind need_behind [] (items_view l.values);
  formed : AreNeeds l.needs.items;
}
