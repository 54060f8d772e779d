use Rattle.std.proofs.Common.{◌∙◌, ap}
use Rattle.vv_rules.specs.Pairs.{are_single}
use Rattle.vv_area.proofs.RunParts.{pairs_single}
use Rattle.vv_area.proofs.rules.bindings.are_bindings_single.Goals as goal

pub returns : goal.returns
returns c = rw (← (ap are_single c.in_ok-pairs.ensures ∙ pairs_single c.args.tables.now.bindings)) c.pairs_differ.ensures
