use Rattle.vv_pool.proofs.BitLemmas.{next_by_summary}
use Rattle.vv_pool.proofs.bits.next_by_summaries.Goals as goal

pub returns-clause-some : goal.returns-clause-some
returns-clause-some c = next_by_summary c.args.groups.now c.args.words.now c.requires.of_words c.args.from c.in_ok-word.word c.first_in_word-at.result c.in_default.ensures.none c.in_ok-word.ensures.some c.first_in_word-at.ensures
