use Rattle.std.proofs.Common.{◌≡◌, [], drop}
use Rattle.serde_json.specs.View.{items_view}
use Rattle.vv_calls.specs.Lists.{each_behind, offer_behind}
use Rattle.vv_calls.specs.Formed.{AreOffers}
use Rattle.vv_calls.proofs.lists.offer_items.Given as goal

abbrev pub invariant-loop-value : goal.invariant-loop-value
invariant-loop-value l = record {
  rest : each_behind offer_behind l.offers.items (items_view (drop l.value-index l.values)) ≡ each_behind offer_behind [] (items_view l.values);
  formed : AreOffers l.offers.items;
}
