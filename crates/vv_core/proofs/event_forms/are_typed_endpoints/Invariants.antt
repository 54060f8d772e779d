use Rattle.std.proofs.Common.{◌≡◌, true, take}
use Rattle.std.specs.List.{list_all}
use Rattle.vv_core.specs.TypedEvents.{is_typed_endpoint}
use Rattle.vv_core.proofs.event_forms.are_typed_endpoints.Given as goal

abbrev pub invariant-loop-endpoint : goal.invariant-loop-endpoint
invariant-loop-endpoint l = list_all is_typed_endpoint (take l.endpoint-index l.endpoints) ≡ true
