use Rattle.std.proofs.Common.{◌≡◌, [], drop}
use Rattle.serde_json.specs.View.{items_view}
use Rattle.vv_calls.specs.Lists.{each_behind, endpoint_behind}
use Rattle.vv_calls.specs.Formed.{AreEndpoints}
use Rattle.vv_calls.proofs.lists.endpoint_items.Given as goal

abbrev pub invariant-loop-value : goal.invariant-loop-value
invariant-loop-value l = record {
  rest : each_behind endpoint_behind l.endpoints.items (items_view (drop l.value-index l.values)) ≡ each_behind endpoint_behind [] (items_view l.values);
  formed : AreEndpoints l.endpoints.items;
}
