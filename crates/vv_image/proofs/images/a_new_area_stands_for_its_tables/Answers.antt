use Rattle.vv_image.proofs.Records.{new_log}
use Rattle.vv_image.proofs.images.a_new_area_stands_for_its_tables.Goals as goal

pub returns : goal.returns
returns c log tables well geometry spelling area records = new_log log tables well geometry spelling area records
