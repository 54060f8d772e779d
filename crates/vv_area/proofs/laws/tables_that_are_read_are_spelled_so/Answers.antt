use Rattle.vv_area.proofs.AreaLaws.{read_is_spelled}
use Rattle.vv_area.proofs.laws.tables_that_are_read_are_spelled_so.Goals as goal

pub returns : goal.returns
returns c geometry spelling bytes d h e = read_is_spelled geometry spelling bytes d h e
