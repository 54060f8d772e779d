use Rattle.vv_laws.proofs.OtherContents.{record_with_content}
use Rattle.vv_laws.proofs.contents.a_record_does_its_call_in_another_content.Goals as goal

pub returns : goal.returns
returns c before after tables change places bytes agree holds = record_with_content before after tables change places bytes agree holds
