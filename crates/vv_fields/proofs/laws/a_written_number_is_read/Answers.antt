use Rattle.std.proofs.Common.{length, refl}
use Rattle.vv_fields.proofs.FieldLemmas.{field_at-written}
use Rattle.vv_fields.proofs.laws.a_written_number_is_read.Goals as goal

pub returns : goal.returns
returns c n number before after h = field_at-written n number before after (length before) refl h
