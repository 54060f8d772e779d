use Rattle.vv_fields.proofs.FieldLemmas.{taken_at-some}
use Rattle.vv_fields.proofs.laws.taken_bytes_stand_there.Goals as goal

pub returns : goal.returns
returns c n at bytes part e = let part_is = taken_at-some n bytes at part e in (part_is.size, part_is.whole)
