use Rattle.std.proofs.Common.{◌∙◌, ap}
use Rattle.std.specs.Prelude.{slice_index}
use Rattle.vv_bind.proofs.TableLemmas.{first_of}
use Rattle.vv_bind.proofs.rows.first_endpoint.Goals as goal

pub returns : goal.returns
returns c = first_of c.endpoints_in.result.now ∙ ap (λ es. slice_index es 0) c.endpoints_in.ensures
