use Rattle.std.proofs.Common.{sym, ◌∙◌}
use Rattle.vv_judge.proofs.Ranges.{any_range_past}
use Rattle.vv_judge.proofs.blocks.ranges_are_past.Goals as goal

pub returns : goal.returns
returns c = c.is_any_past.ensures ∙ sym (any_range_past c.args.size c.args.ranges.now)
