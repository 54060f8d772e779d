use Rattle.vv_rules.proofs.Apart.{apart_mixed}
use Rattle.vv_rules.proofs.sharing.least_apart.Goals as goal

pub returns : goal.returns
returns c = rw (← (apart_mixed c.in_ok-rows_of.field-0.items c.args.standings.now c.in_ok-rows_of.ensures)) c.least_mixed.ensures
