use Rattle.vv_laws.proofs.KeptNumbers.{entries_after}
use Rattle.vv_laws.proofs.counts.entries_go_by_the_change.Goals as goal

pub returns : goal.returns
returns c misfit d change accepted = entries_after misfit d change accepted
