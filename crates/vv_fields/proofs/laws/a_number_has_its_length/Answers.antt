use Rattle.vv_fields.proofs.ByteLemmas.{length-be_bytes, AreBytes-be_bytes}
use Rattle.vv_fields.proofs.laws.a_number_has_its_length.Goals as goal

pub returns-clause-length : goal.returns-clause-length
returns-clause-length c n number = length-be_bytes n number

pub returns-clause-bytes : goal.returns-clause-bytes
returns-clause-bytes c n number = AreBytes-be_bytes n number
