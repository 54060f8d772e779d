use Rattle.std.proofs.Common.{◌∙◌, ◌==◌, sym}
use Rattle.vv_units.specs.declared.numbers.EndpointId.{EndpointId}
use Rattle.vv_area.proofs.NamesParts.{any_mapped}
use Rattle.vv_area.proofs.rules.bindings.is_listed.Goals as goal

pub returns : goal.returns
returns c = c.has_number.ensures ∙ sym (any_mapped (λ (e : EndpointId). e.0) (λ n. n == c.args.endpoint) c.args.endpoints.now)
