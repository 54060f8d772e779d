use Rattle.std.proofs.Common.{◌∙◌}
use Rattle.vv_bind.proofs.RowLemmas.{any_number}
use Rattle.vv_judge.proofs.hosts.has_endpoint.Goals as goal

pub returns : goal.returns
returns c = c.has_number.ensures ∙ any_number c.args.endpoint.0 c.args.endpoints.now
