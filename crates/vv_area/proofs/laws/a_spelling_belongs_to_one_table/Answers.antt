use Rattle.vv_area.proofs.AreaLaws.{one_table}
use Rattle.vv_area.proofs.laws.a_spelling_belongs_to_one_table.Goals as goal

pub returns : goal.returns
returns c spelling a b h k g e = one_table spelling a b h k g e
