use Rattle.vv_fields.proofs.FieldLemmas.{field_at-some}
use Rattle.vv_fields.proofs.laws.a_number_that_is_read_stands_there.Goals as goal

pub returns : goal.returns
returns c n at number bytes h e = field_at-some n bytes at number h e
