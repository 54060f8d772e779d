use Rattle.std.proofs.Common.{◌≡◌, ◌≤◌, [], drop, vec_len}
use Rattle.serde_json.specs.View.{items_view}
use Rattle.vv_calls.specs.Payload.{joined_onto, payload_limit}
use Rattle.vv_calls.proofs.payload.joined.Given as goal

abbrev pub invariant-loop-pair : goal.invariant-loop-pair
invariant-loop-pair l = record {
  limited : vec_len l.payload ≤ payload_limit;
  rest : joined_onto l.payload.items (items_view (drop l.pair-index l.pairs)) ≡ joined_onto [] (items_view l.pairs);
}
