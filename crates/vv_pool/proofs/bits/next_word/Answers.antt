use Rattle.vv_pool.proofs.BitLemmas.{next_by_summary}
use Rattle.vv_pool.proofs.bits.next_word.Goals as goal

pub returns-clause-some : goal.returns-clause-some
returns-clause-some c = next_by_summary c.args.top.now c.args.groups.now c.requires.summary c.args.from c.in_ok-group.group c.first_in_word-at.result c.in_default.ensures.none c.in_ok-group.ensures.some c.first_in_word-at.ensures
