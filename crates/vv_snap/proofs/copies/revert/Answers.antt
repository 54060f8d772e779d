use Rattle.std.proofs.Common.{◌∙◌}
use Rattle.vv_snap.proofs.Reverted.{reverted_is}
use Rattle.vv_snap.proofs.copies.revert.Goals as goal

pub returns-clause-shelf : goal.returns-clause-shelf
returns-clause-shelf g c = c.revert_list.ensures.shelf ∙ reverted_is c.args.shelf.now.shelf c.args.volume.0 c.args.snapshot.0 c.requires.source
