use Rattle.vv_area.proofs.AreaLaws.{spelled_is_read}
use Rattle.vv_area.proofs.laws.spelled_tables_are_read.Goals as goal

pub returns : goal.returns
returns c spelling d h = spelled_is_read spelling d h
