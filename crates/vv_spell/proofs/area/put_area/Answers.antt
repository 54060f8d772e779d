use Rattle.std.proofs.Common.{rules}
use Rattle.vv_area.specs.Spelling.{area_spelling}
use Rattle.vv_spell.proofs.WindowLemmas.{put_two, put_end}
use Rattle.vv_spell.proofs.area.put_area.Goals as goal

pub returns : goal.returns
unfolding area_spelling
returns c = search (rules, put_two, put_end)
