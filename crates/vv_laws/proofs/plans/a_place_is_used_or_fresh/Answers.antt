use Rattle.vv_laws.proofs.Planning.{fresh_count}
use Rattle.vv_laws.proofs.plans.a_place_is_used_or_fresh.Goals as goal

pub returns : goal.returns
returns c tables shared = fresh_count tables shared
