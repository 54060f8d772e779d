use Rattle.std.proofs.Common.{length, refl}
use Rattle.vv_fields.proofs.FieldLemmas.{taken_at-written}
use Rattle.vv_fields.proofs.laws.written_bytes_are_taken.Goals as goal

pub returns : goal.returns
returns c before part after = taken_at-written (length part) before part after (length before) refl refl
