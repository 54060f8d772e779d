use Rattle.std.proofs.Common.{rules, ◌==◌, not}
use Rattle.std.proofs.lemmas.Fn.{filter_same}
use Rattle.vv_flat.specs.State.{Address}
use Rattle.vv_lun.proofs.attentions.take_out_of.Goals as goal

pub returns-clause-items : goal.returns-clause-items
returns-clause-items c =
    filter_same _ (λ (b : Address). not (b.host == c.args.host.0)) _ (λ x b f k. search rules) _ _ c.retain.ensures.filtered
