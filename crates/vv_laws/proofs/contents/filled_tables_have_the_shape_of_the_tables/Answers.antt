use Rattle.vv_laws.proofs.OtherContents.{filled_shape}
use Rattle.vv_laws.proofs.contents.filled_tables_have_the_shape_of_the_tables.Goals as goal

pub returns : goal.returns
returns c bytes_at tables = filled_shape bytes_at tables
