use Rattle.vv_fields.proofs.FieldLemmas.{taken_at-none, taken_at-few, field_at-none, field_at-few}
use Rattle.vv_fields.proofs.laws.nothing_is_read_where_too_few_are_left.Goals as goal

pub returns-clause-taken : goal.returns-clause-taken
returns-clause-taken c n at bytes = (taken_at-none n bytes at, taken_at-few n bytes at)

pub returns-clause-read : goal.returns-clause-read
returns-clause-read c n at bytes = (field_at-none n bytes at, field_at-few n bytes at)
