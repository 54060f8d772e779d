use Rattle.vv_rules.proofs.Apart.{used_pairs}
use Rattle.vv_rules.proofs.sharing.used_count.Goals as goal

pub returns : goal.returns
returns c = rw (← (used_pairs c.in_ok-allocated_pairs.field-0.items c.args.standings.now c.in_ok-allocated_pairs.ensures)) c.distinct_count.ensures
