use Rattle.std.proofs.Common.{sym, ap, ◌∙◌, take_all}
use Rattle.std.specs.List.{list_all}
use Rattle.vv_core.specs.TypedEvents.{is_typed_endpoint}
use Rattle.vv_core.proofs.event_forms.are_typed_endpoints.Goals as goal

pub returns : goal.returns
returns c = ap (list_all is_typed_endpoint) (sym (take_all c.loop-endpoint.endpoint-index c.args.endpoints.now c.loop-endpoint-test.false)) ∙ c.loop-endpoint.invariant
