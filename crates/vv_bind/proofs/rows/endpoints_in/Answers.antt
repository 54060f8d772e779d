use Rattle.std.proofs.Common.{◌∙◌, sym}
use Rattle.vv_bind.proofs.RowLemmas.{endpoints_some, endpoints_none}
use Rattle.vv_bind.proofs.rows.endpoints_in.Goals as goal

pub returns-in-Some : goal.returns-in-Some
returns-in-Some c =
    c.endpoints.ensures
    ∙ endpoints_some c.args.contexts.now c.args.host.0 c.in-Some.at c.index-contexts-at.result (sym c.in-Some.ensures) c.index-contexts-at.is

pub returns-in-None : goal.returns-in-None
returns-in-None c = endpoints_none c.args.contexts.now c.args.host.0 (sym c.in-None.ensures)
